-- Laws of the definitions in specs/, and what the proofs of functions use.
pub mod Cases
pub mod CasesPlan
pub mod CasesRules
pub mod CasesSent
pub mod Gives
pub mod Kept
pub mod Order
pub mod Passes
pub mod Run
pub mod Small
pub mod KindsEqual
