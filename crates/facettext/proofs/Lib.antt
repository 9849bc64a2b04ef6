-- Laws that the proofs of this crate share.
-- powers, and ten-thousandths rounded to the nearest
pub mod Powers
-- a pattern by its bits, digit after digit
pub mod Bits
-- the text of a coordinate, by its case
pub mod Coordinates
-- how long the texts are
pub mod Lengths
-- the lines of facets, and the text of a good file
pub mod Facets
-- what is printed for a file, by what reading it comes to
pub mod Readings
