pub mod Passes
pub mod Reached
pub mod Laws
