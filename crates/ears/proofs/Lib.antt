-- Laws that the proofs of this crate share.
-- the mark of an index word
pub mod Bits
-- the points that index words name, and what keeps them named
pub mod Rings
-- the search for an ear
pub mod Tries
-- sides that stop a diagonal, and those apart from its box
pub mod Stops
-- a part of the buffer, and what each function writes into it
pub mod Parts
-- one cut after the other
pub mod Cuts
