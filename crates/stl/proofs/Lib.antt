-- Laws that the proofs of this crate share.
-- a part of a slice is written
pub mod Parts
-- the facets of polygons, written and counted
pub mod Fanning
pub mod Counted
-- a file is read, way out by way out
pub mod Reading
-- a mesh becomes a file, way out by way out
pub mod Writing
