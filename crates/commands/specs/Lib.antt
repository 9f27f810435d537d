pub mod Names
pub mod MultiKey
pub mod Rows
pub mod Cases
