-- Laws that the proofs of this crate share.
-- the search for the side that two polygons share
pub mod Sides
-- the value of a pair, from the values of its polygons
pub mod Values
-- the search for the best pair of a row, and for the best of the rows
pub mod Greatest
-- the kept rows in the buffer, and a row after a join
pub mod Keeps
pub mod Renews
-- the join of two values
pub mod Joins
-- the join of a pair in the buffer, and one join after the other
pub mod Merges
-- one join after the other, with the rows kept
pub mod Rounds
