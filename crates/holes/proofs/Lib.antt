-- Laws that the proofs of this crate share.
-- lists that are written piece by piece, and counts
pub mod Pushes
-- the test as a whole, step by step
pub mod Verdicts
-- the polygons that hold a vertex go, and the vertex
pub mod Clears
-- the hole's points and triangles, one after the other
pub mod Fills
-- a hole filled
pub mod Patches
-- counts of words
pub mod Tallies
