-- the words of the edges' tables and of links, and what the functions ask for and leave: definitions that contracts cite
pub mod Tables
pub mod Ready
-- how many records there are, what stands in the tables and in the words of links: laws for those who call
pub mod Counts
pub mod Standing
pub mod Linked
