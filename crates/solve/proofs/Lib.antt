-- The theorems on the search by itself, for a reader.
pub mod Theorems
-- What the proofs of the functions use besides: what a fit is made of.
mod Fitting
