pub mod Pipeline
pub mod Cases
pub mod Planned
pub mod Fit
pub mod Passed
pub mod Records
pub mod Call
pub mod Means
