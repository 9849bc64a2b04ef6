-- What the steps of a sheet ask for and leave. What is printed is said in the rules' `Sheet`.
-- the lines of a stored mesh as they are printed, and the whole
pub mod Rows
pub mod Printable
-- the refusals of a sheet
pub mod Refusals
-- a line that has to have numbers, and how far a sheet has been read
pub mod Needs
pub mod Reading
-- the buffers are long enough, and so is the output
pub mod Enough
pub mod Room
-- what the build's answer says of what is printed
pub mod Answers
pub mod Answering
-- what is printed for a sheet, as far as it has been read
pub mod Texts
-- the lists that were read, lent as parts
pub mod Parts
