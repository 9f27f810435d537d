pub mod Limits
pub mod Causes
pub mod Wrap
pub mod Config
pub mod Laws
pub mod Cases
