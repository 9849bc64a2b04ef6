-- Binary STL: what its steps ask for. The file and the replies are said in the rules' `Stl` and `StlCall`.
pub mod Steps
