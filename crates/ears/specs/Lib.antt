-- What the contracts of this crate cite beside the rules.
pub mod Ring
pub mod Part
pub mod Turn
