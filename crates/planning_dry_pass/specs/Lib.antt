pub mod Size
pub mod Dry
