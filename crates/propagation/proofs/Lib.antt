-- What the crate above uses: clause numbers in a slice, the table of truths, what is assigned, pending branches, the number of unmet clauses.
pub mod Triples
pub mod Table
pub mod Marked
pub mod Pending
pub mod Unmet
-- What the proofs of the functions use besides: signed literals, a clause of three, links, forcing in any order.
mod Literals
mod Judged
mod Latest
mod Moves
pub mod States
