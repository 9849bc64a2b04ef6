-- Laws that the proofs of this crate share.
-- the corners of a stored polygon, counted
pub mod Counting
-- their places as words, and the area of these
pub mod Places
-- the areas, added up
pub mod Sums
