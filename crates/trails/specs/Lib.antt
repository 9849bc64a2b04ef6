-- what the collecting of the sides asks for and leaves: definitions that contracts cite
pub mod Sides
-- what the walk asks for and leaves: definitions that contracts cite
pub mod Trails
