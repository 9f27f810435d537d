pub mod Laws
pub mod Marks
pub mod Chains
pub mod Blocks
pub mod Walks
pub mod Items
pub mod Shards
