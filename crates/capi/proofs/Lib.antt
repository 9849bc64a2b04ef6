-- Laws that the proofs of this crate share.
-- numbers written one after the other
pub mod Written
-- a mender's reply as numbers
pub mod Mended
-- an answer of three numbers
pub mod Numbered
