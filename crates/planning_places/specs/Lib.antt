pub mod Pieces
pub mod Steps
pub mod Measure
pub mod Source
