-- the layouts: definitions that contracts cite
pub mod Layout
-- polygons by value, and what the functions ask for
pub mod Values
-- a part of a slice that is written whole
pub mod Stored
-- what is stored is what is loaded: laws of the records
pub mod Vertices
pub mod Polygons
pub mod Corners
pub mod Blanks
pub mod Fixed
