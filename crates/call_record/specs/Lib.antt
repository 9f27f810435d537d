pub mod Record
pub mod Offset
pub mod Formats
pub mod Check
pub mod First
pub mod Cases
pub mod Paths
pub mod CommandPaths
