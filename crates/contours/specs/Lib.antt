-- what the functions ask for, and what they leave: definitions that contracts cite
-- of the places of a contour, laid out and cut
pub mod Cutting
-- of its triangles, which become polygons
pub mod Shaping
-- the buffer with a mesh in it
pub mod Ground
-- of one contour
pub mod Adding
-- of all of them
pub mod Gathering
