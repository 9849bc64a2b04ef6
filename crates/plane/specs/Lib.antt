-- What the contracts of this crate cite beside the rules.
-- points as words of a slice
pub mod Points
-- how large D is: a law for those who add areas up
pub mod Sizes
-- the box of a segment, and what is apart from it
pub mod Boxes
