pub mod Check
pub mod Paths
pub mod Nodes
pub mod Order
pub mod Law
pub mod Start
