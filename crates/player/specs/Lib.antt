-- The output as a function of the log; the same on the words that the code keeps; that both are one, whatever the pieces; the answers are a
-- history's.
pub mod Replayed
pub mod PlayBytes
pub mod FeedBytes
pub mod PlayObeys
pub mod LineRoom
pub mod Pieces
pub mod History
pub mod Example
