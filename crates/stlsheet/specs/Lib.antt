-- A job sheet as a binary STL: what its steps ask for and write. The file is said in the rules' `Stl` and `StlText`.
pub mod Carving
