pub mod Wrapped
pub mod Lengths
pub mod Counts
