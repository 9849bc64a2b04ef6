-- the words of a polygon, and of its links
pub mod Words
-- the loops over vertices and polygons
pub mod Copies
