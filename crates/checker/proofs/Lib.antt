-- Laws that the proofs of this crate share.
-- the loops that test places, and those that look for the first at fault
pub mod Looking
-- 40, test by test
pub mod Blocks
-- 41: the words of a polygon
pub mod Rows
-- 42 and 43: the words of a polygon, lent
pub mod Lent
-- 42: a side that names another back; the link of a side, and the links of a polygon, case by case
pub mod Names
pub mod LinkCases
-- 43: what an open side bears
pub mod Bearing
-- the refusals in their order
pub mod Verdicts
