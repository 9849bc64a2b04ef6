-- the three sums over the contours' lengths
pub mod Sums
-- the searches, the least lengths and the verdict: the rules' own, of the numbers that the code has in hand
pub mod Answers
