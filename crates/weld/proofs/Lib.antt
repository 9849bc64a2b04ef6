-- the walk along a bucket
pub mod Walks
-- one vertex in the tables
pub mod Puts
-- all of a contour
pub mod Contours
