pub mod Fields
pub mod Walk
pub mod Items
pub mod Edits
