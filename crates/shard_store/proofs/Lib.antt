pub mod Judging
pub mod Walk
pub mod Cases
pub mod Updates
