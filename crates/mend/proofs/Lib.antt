-- one point is lost; the points are passed
pub mod Walking
pub mod Meeting
pub mod Passing
pub mod Going
-- the ends, turn by turn
pub mod EndsMeeting
pub mod OffEnds
pub mod EndTurns
pub mod Taking
-- a contour is walked, and closes up
pub mod Walks
pub mod Closing
pub mod Contour
-- all contours: counted, and mended
pub mod Counting
pub mod MendingAll
-- the calls
pub mod Longest
pub mod Calling
