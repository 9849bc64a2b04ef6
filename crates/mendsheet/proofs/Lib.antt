-- Laws that the proofs of this crate share.
-- a heading, points and contours, printed one behind the other
pub mod SheetTexts
-- contour lines above a vertex, and the lines of lost points
pub mod Above
-- how long the texts are
pub mod Short
-- how many points are kept and lost, and that a sheet is always mended
pub mod Counts
pub mod Mends
-- a sheet that was read, as the mender is handed it
pub mod Taken
