pub mod Meaning
pub mod Places
pub mod Law
pub mod CursorLaw
pub mod Paths
