-- what the functions ask for, and what they leave: definitions that contracts cite
-- of the test
pub mod Verdict
-- of the clearing: the polygons and the vertex go
pub mod Clear
-- of the filling of the hole
pub mod Fill
-- places as words, and the answer of the cutting: laws for all who cut
pub mod Places
-- polygons have room in their records
pub mod Small
