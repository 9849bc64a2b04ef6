-- What is proved of the rules. Each file opens with what it shows; the statements are those of crate `rules`.
--
-- lists, searches, sides and rings, and what is measured
pub mod Lists
pub mod Searches
pub mod Lowest
pub mod Sides
pub mod Turned
pub mod Ring
-- R2 to R5, one file a rule: areas, corners and ranges
pub mod Unmarked
pub mod CutTurns
pub mod Ears
pub mod Weld
pub mod Shared
pub mod Joins
pub mod Merge
pub mod Around
pub mod Walks
pub mod Removal
pub mod Left
-- the checks, the contours, the whole build; R6 and R7
pub mod Checks
pub mod Contours
pub mod Build
pub mod Reached
pub mod Replies
pub mod Buffers
pub mod Links
-- R4's search, made quicker: the longest of many, stamps that tell polygons apart, and rows that are kept from join to join
pub mod Longest
pub mod Stamps
pub mod Rows
-- R1's tests, made quicker: rings of few sides, numbers aside of others
pub mod Diagonals
pub mod Aside
-- request 12, the mender: what a loss leaves on the plane; what mending keeps, and that it ends; flags, parts, and the job that is called with
pub mod MendLoss
pub mod Mend
pub mod MendFlags
pub mod MendParts
pub mod MendJob
-- the mender, made quicker: a walk with a stack and then the two ends; and the same by the points' numbers, as the code has it
pub mod MendQuick
pub mod MendClean
pub mod MendSame
pub mod MendNumbers
pub mod MendPass
pub mod MendWalk
pub mod MendEnds
pub mod MendEnded
pub mod MendDry
pub mod MendWithin
pub mod MendWalked
-- request 7: tests; a mesh that is handed in, and its words; links are mutual
pub mod Tests
pub mod Handed
pub mod HandedWords
pub mod EdgeSides
pub mod EdgeJoins
pub mod EdgeLinks
pub mod Mutual
-- the statements of `rules`: Areas, Fuel, Widths, Exits, Checker, Sentences, Distance, Boxes, Outlines
pub mod Laws
pub mod Passes
pub mod Fuel
pub mod Widths
pub mod UpToNone
pub mod Exits
pub mod Checker
pub mod Written
pub mod Own
pub mod Sentences
pub mod Distance
pub mod Boxes
pub mod Outlines
-- request 11: binary STL: its floats and its bytes, the file and its round trip, what whoever reads and writes its words meets, the calls,
-- the lengths of a sheet's cells, and the file of a mesh that is built
pub mod StlFloats
pub mod StlBytes
pub mod Stl
pub mod StlWords
pub mod StlCall
pub mod StlCells
pub mod Carved
