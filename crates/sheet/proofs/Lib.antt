-- Laws that the proofs of this crate share.
-- the heading lines
pub mod Headings
-- a contour line and a vertex line are read, and one line behind the other
pub mod BodyLines
pub mod Bodies
-- the header, field by field
pub mod Headers
-- the texts of each line, and the loops that print them
pub mod LineTexts
pub mod RowLoops
-- a stored mesh, line after line
pub mod Meshes
-- the text for a reply of the build
pub mod Replying
