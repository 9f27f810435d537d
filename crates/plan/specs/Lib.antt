pub mod Head
pub mod Node
pub mod There
pub mod Paths
pub mod Decode
