pub mod Result
pub mod Places
pub mod Joined
pub mod Sizes
pub mod Nodes
