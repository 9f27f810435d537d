pub mod Send
pub mod Walk
pub mod Laws
pub mod Cases
pub mod Blank
