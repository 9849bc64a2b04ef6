-- the walk along a vertex's records
pub mod Walks
-- one record in the tables
pub mod Puts
-- all sides of a polygon, and of all polygons
pub mod Rounds
-- the links, and their words
pub mod Stores
-- the portals
pub mod Marks
