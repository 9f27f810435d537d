pub mod Entries
pub mod Looked
pub mod Whole
pub mod Cases
