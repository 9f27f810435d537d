pub mod Sip
pub mod Shard
pub mod Laws
pub mod Cases
