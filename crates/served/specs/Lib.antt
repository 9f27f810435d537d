pub mod Served
pub mod Cases
pub mod Laws
