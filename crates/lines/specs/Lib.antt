-- Text in lines and cells, as it is read and printed. What a text is, is said in the rules' `Lines`.
-- where a byte stands, and what parts, lines and cells that makes
pub mod Scan
-- what the readers of lines answer, and what a line that is taken says
pub mod Read
pub mod Taken
-- what printing asks for and leaves; one text behind another, and how long a number is
pub mod Print
pub mod Printing
pub mod Pieces
-- what the exits of `?` return
pub mod Exits
