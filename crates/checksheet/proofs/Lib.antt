-- Laws that the proofs of this crate share.
-- the mesh line
pub mod MeshLines
-- what is left of the lines
pub mod Resting
-- numbers stored, and none behind them
pub mod Padded
-- the lines of the vertices
pub mod PlaceLines
-- the lines of a polygon, and of all
pub mod RowLines
pub mod PolygonLines
-- all lines behind the mesh line
pub mod ListLines
-- all that is behind the heading
pub mod MeshesRead
-- what is printed
pub mod Verdicts
