pub mod Ask
pub mod Outcome
pub mod Sent
pub mod Plan
pub mod Planning
pub mod Rules
pub mod Kinds
