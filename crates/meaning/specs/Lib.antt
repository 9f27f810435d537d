pub mod Rows
pub mod Written
pub mod Nodes
pub mod Outcomes
pub mod Meaning
