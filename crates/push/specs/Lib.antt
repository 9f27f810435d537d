pub mod KeyKind
pub mod Push
pub mod Kept
pub mod Cases
pub mod Laws
pub mod Calls
