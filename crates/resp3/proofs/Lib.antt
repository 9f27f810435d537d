pub mod Complete
pub mod Law
pub mod Blobs
