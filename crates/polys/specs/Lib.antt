-- what the functions of the merge ask for, and what the merge leaves: definitions that contracts cite
pub mod Ready
-- the same, for the places of a `Field`
pub mod Fields
-- the kept rows of the merge
pub mod Rows
