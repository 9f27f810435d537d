pub mod Looks
pub mod Finds
