-- the numbers of lent lists fit their words
pub mod Words
-- where everything stands in the work buffer: definitions that contracts cite
pub mod Layout
-- what the contours and the removals leave
pub mod Gather
-- the mesh with its links
pub mod Linking
-- the build, once the checks are passed
pub mod Build
-- demand 3, of the numbers in the lent buffers
pub mod Ground
