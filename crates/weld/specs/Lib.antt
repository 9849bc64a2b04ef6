-- the weld's words, and what its functions ask for and leave: definitions that contracts cite
pub mod Tables
-- what stands in the tables, and that one exit alone fits the weld's promise: laws for those who call it
pub mod Standing
