-- The rules of document 01, one file a rule. Above each definition stands the sentence that it renders, in quotation marks.
--
-- Words from elsewhere. Of the kit: `get_or l i d` is element i of the list l, and d where there is none; `set l i x` is l with x at i; `take n l` are its
-- first n elements and `drop n l` the others; `reverse l` is l from its end to its start; `replicate n x` is n times x; `map f l` is f of each; `◌++◌` is
-- one list behind another; `cond t a b` is a if t, and else b, and so is `elim t [ true ↦ a | false ↦ b ]`; `ltb`, `leb` and `eqb` test <, ≤ and =; `lt_z`
-- and `le_z` do so for integers; `i ≢ j` says that i and j differ; `a - b` of naturals is 0 where b is the greater; `pos n` is n as an integer, `neg_ℤ` is the
-- same with the other sign, and `+ℤ`, `-ℤ`, `*ℤ` are of integers. `Option A` is a value of A, `Some x`, or nothing, `None`; `Result A E` is the answer
-- `Ok x` of A, or the refusal `Err e` of E; `⊤` has one value, `tt`, so that `Ok tt` of a `Result ⊤ E` says no more than that nothing is refused.
-- Of crate `mem`: `over z op f i n` is f i, f (i + 1), .. up to f (n - 1), joined by op, with z behind them; `each step i n s` is the state s after step i,
-- step (i + 1), .. up to step (n - 1); `times turn n s` is s after n turns; `tab f n` is the list f 0, .., f (n - 1); `view w o n` are the n words of w from
-- o on; `splice w o xs` is w with xs written from o on; `packed f l` are the words f of each of l, one after the other.
-- Words about lists and places, and the plane
pub mod Lists
pub mod Plane
-- R1 to R7, and what a mesh is
pub mod Diagonal
pub mod Ears
pub mod Weld
pub mod Mesh
pub mod Merge
pub mod Removal
pub mod Links
pub mod Portals
-- the job, the replies, the checks, the build, and the buffers at its end
pub mod Job
pub mod Replies
pub mod Checks
pub mod Build
pub mod Exits
-- request 12: contours are mended, as the build may be asked to have them
pub mod Mend
pub mod MendCall
-- the header's unit, and the distance
pub mod Units
pub mod Distance
-- the job sheet: text in lines and cells, and what is printed for what is read
pub mod Lines
pub mod Sheet
pub mod MendSheet
-- request 7: a mesh that is handed in, with refusals 40 to 42; the checker; and a printed mesh that is checked
pub mod Handed
pub mod Checker
pub mod CheckSheet
-- request 11: binary STL; the calls that write and read it; and what is printed of it at the terminal
pub mod Stl
pub mod StlCall
pub mod StlText
-- what is proved of the rules: demand 3, that loops go to their end, that what is written fits, and that each text is its sentence
pub mod Areas
pub mod Fuel
pub mod Widths
pub mod Sentences
-- further requests: boxes that don't meet; lists of corners turned, reversed and cut
pub mod Boxes
pub mod Outlines
-- K1 to K12, and one name that opens all definitions so that examples compute
pub mod Computing
pub mod Examples
pub mod Mendings
pub mod Checkings
pub mod StlFiles
