pub mod Parts
pub mod Backs
pub mod Clears
pub mod Admits
