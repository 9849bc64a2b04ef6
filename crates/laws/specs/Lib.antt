-- The words that the theorems of proofs/ speak in, beside the rules' own. Definitions only.
--
-- lists, searches and sides, and what is measured
pub mod Lists
pub mod Searches
pub mod Lowest
pub mod Sides
pub mod Measures
-- R2 to R5, one file a rule: areas, corners and ranges
pub mod Ears
pub mod Weld
pub mod Shared
pub mod Merge
pub mod Around
pub mod Walks
pub mod Removal
pub mod Left
-- the checks, the contours, the whole build; R6 and R7
pub mod Checks
pub mod Contours
pub mod Build
pub mod Reached
pub mod Replies
pub mod Links
-- R4's search, made quicker: the longest of many, stamps that tell polygons apart, and rows that are kept from join to join
pub mod Longest
pub mod Stamps
pub mod Rows
-- R1's tests, made quicker: numbers aside of others
pub mod Aside
-- request 12, the mender: what a loss leaves on the plane; what a step does
pub mod MendLoss
pub mod Mend
-- the mender, made quicker: a walk with a stack and then the two ends; and the same by the points' numbers, as the code has it
pub mod MendQuick
pub mod MendClean
pub mod MendNumbers
pub mod MendPass
pub mod MendWalk
pub mod MendEnds
pub mod MendEnded
pub mod MendDry
pub mod MendWithin
pub mod MendWalked
-- request 7: tests; the records of sides, and the links that they store
pub mod Tests
pub mod EdgeSides
pub mod EdgeJoins
pub mod EdgeLinks
-- what fits the buffers' words; a mesh that is written; floats
pub mod Widths
pub mod Written
pub mod Distance
-- request 11: binary STL: its bytes
pub mod StlBytes
