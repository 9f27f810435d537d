pub mod Filter
pub mod Laws
pub mod Absent
