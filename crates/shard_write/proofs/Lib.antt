pub mod Writing
pub mod Changes
