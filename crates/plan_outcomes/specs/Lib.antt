pub mod Outcomes
pub mod Law
