-- what the functions ask for and leave: definitions that contracts cite
pub mod Ready
-- a mesh that stands in the work buffer meets that, and what is left is the rules': laws for those who call
pub mod Stored
