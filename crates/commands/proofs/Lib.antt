-- What the proofs of several functions use.
mod Agrees
mod Left
mod Arms
