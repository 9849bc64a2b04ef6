-- Laws that the proofs of this crate share.
-- points and sides in the buffer
pub mod Blocks
-- one side of a walk
pub mod Steps
-- passes over the sides, and what is left of the buffer
pub mod Passes
-- whether a polygon holds the vertex, and the sides that it gives
pub mod Given
-- the order in which polygons give their sides
pub mod Order
