pub mod Call
pub mod Cases
pub mod Parts
pub mod Settle
pub mod Laws
pub mod Heads
pub mod Told
pub mod ToldLaws
