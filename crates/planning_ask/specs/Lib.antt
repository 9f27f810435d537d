pub mod Asked
pub mod Steps
pub mod Reaching
pub mod Simple
pub mod Keys
pub mod Naming
