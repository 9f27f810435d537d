pub mod NodesLaws
pub mod WalkLaws
