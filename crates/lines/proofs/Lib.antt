-- the loops of a search for a byte, and of a comparison
pub mod Scanning
-- the loop over the digits of a cell
pub mod Decimals
-- the cells of a line: they are counted, and read as numbers
pub mod Counting
pub mod Numbering
-- the line at a place
pub mod LineAt
-- the loop that writes digits, the last one first
pub mod Places
-- the sign taken off a number
pub mod Signs
-- a cell as a whole number
pub mod Wholes
-- the loop over values that are printed
pub mod CellLoop
