pub mod PlaceLaws
pub mod Returns
pub mod Ways
