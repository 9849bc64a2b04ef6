-- the sums over the lengths
pub mod Adding
-- the loop of a search for the first place
pub mod Seeking
-- one check after the other
pub mod Order
-- the numbers in hand, and the job
pub mod InHand
