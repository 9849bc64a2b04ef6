-- A mesh as it lies in lent buffers.
-- what it is, and what the functions ask for: definitions that contracts cite
pub mod Stored
-- its corners counted, and its area: laws for those who call
pub mod Counts
pub mod Areas
