-- Laws that the proofs of this crate share.
-- the answer of writing a mesh, and the text for it
pub mod Written
-- the file of a mesh that was built
pub mod Carved
