pub mod Store
pub mod Replaces
pub mod Cases
