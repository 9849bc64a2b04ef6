-- A slice as a list, loops over it, and chains in it: the laws that every layer's proofs share.
pub mod Cases
-- parts of a slice: what is read and what is written
pub mod Slice
-- loops: over the places of a range, again and again, and writing place after place
pub mod Loops
pub mod Tab
-- a sum by places is the sum of the list
pub mod Sums
-- lists of records in memory, numbers chained by their keys, and tables one behind the other
pub mod Packed
pub mod Chain
pub mod Shelves
-- words with zeros behind them
pub mod Zeros
