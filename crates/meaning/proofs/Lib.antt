pub mod Elements
pub mod NullBytes
pub mod NodeLaws
pub mod WrittenLaws
pub mod OutcomeLaws
pub mod Readings
pub mod Theorems
pub mod Only
