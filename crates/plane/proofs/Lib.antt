-- Laws that the proofs of this crate share.
-- coordinates in their words, and D of them in 32 bits
pub mod Sizes
-- the doubled area of a list, turn by turn
pub mod Areas
-- the number that thousandths are divided by
pub mod Thousand
