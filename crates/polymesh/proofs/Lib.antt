-- Laws that the proofs of this crate share.
-- from the contours to the removals
pub mod Grounds
-- the links
pub mod Links
-- what the contours and the removals come to
pub mod Gathers
-- the whole build
pub mod Builds
-- with the checks
pub mod Meshes
