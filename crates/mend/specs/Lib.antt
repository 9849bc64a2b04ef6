-- What the mender's functions ask for and leave: one loss, the points that are passed, the ends, a contour that is walked, the points that close up, all
-- contours, and the calls.
pub mod Losing
pub mod Walking
pub mod Ending
pub mod Walks
pub mod Closing
pub mod Contours
pub mod Call
