-- What the steps of a printed mesh ask for and leave. What is printed is said in the rules' `CheckSheet`.
-- how far a mesh has been read
pub mod Reading
-- what it claims
pub mod Claims
-- what is printed for it
pub mod Answer
