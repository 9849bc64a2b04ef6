-- What printing a mended sheet asks for and leaves. What is printed is said in the rules' `MendSheet`.
-- what is printed, by the lists that are at hand
pub mod Print
-- a sheet that was read, and what is printed for it
pub mod Mended
