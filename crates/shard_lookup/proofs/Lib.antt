pub mod Entries
pub mod Lookups
