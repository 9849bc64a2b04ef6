-- What the checker is asked, and what its steps ask for and answer. The verdict itself is said in the rules' `Handed` and `Checker`.
-- what is asked, of the numbers that are handed in
pub mod Asked
-- the steps' tests on words, and what they ask for
pub mod Steps
