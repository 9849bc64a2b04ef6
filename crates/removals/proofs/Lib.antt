-- Laws that the proofs of this crate share.
-- the hole closes or stays open
pub mod Ends
-- the vertex goes
pub mod Opens
-- the hole is filled
pub mod Removes
-- all marked vertices are tried
pub mod Tries
