-- a mesh in the work buffer: definitions that contracts cite
pub mod Site
-- what the functions ask for, and what they leave: definitions that contracts cite
pub mod Removing
-- what stands in the parts of a mesh's place, and a mesh that is written there: laws for those who call
pub mod Stages
pub mod Standing
