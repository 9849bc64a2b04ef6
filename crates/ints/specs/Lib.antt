-- Exact arithmetic on the integers, so that `omega` settles it.
-- equations: an integer is a difference of two naturals
pub mod Ring
-- orders, tests and sizes
pub mod Order
-- the bits of a signed local, and the number that they are
pub mod Machine
-- `&&`, `||` and `!` of code
pub mod Bools
