pub mod Law
pub mod Served
