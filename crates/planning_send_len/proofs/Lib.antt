-- Laws of the definitions in specs/, and what the proofs of functions use.
pub mod Wrapped
