pub mod Holds
pub mod Position
pub mod Cases
pub mod FromImage
