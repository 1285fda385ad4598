-- Tree bins: the words level, and that its steps keep what is held.
pub mod TreeBytes
pub mod Seats
pub mod SearchBytes
pub mod Found
pub mod Binning
pub mod WayDown
pub mod TreeHeld
pub mod TreeInsertSteps
pub mod TreeUnlinkWords
pub mod TreeUnlinkSteps
pub mod BinningSteps
pub mod SearchSteps
pub mod TreeReach
pub mod BinningReach
