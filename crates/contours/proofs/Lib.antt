-- Laws that the proofs of this crate share.
-- the places of a contour, laid out and cut
pub mod Cuts
-- its triangles become polygons
pub mod Shapes
-- the buffer while a contour is added
pub mod Stages
-- one contour is added
pub mod Adds
-- all contours are added
pub mod Gathers
