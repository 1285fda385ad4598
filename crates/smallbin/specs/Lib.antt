-- Small bins: the words level, and that its steps keep what is held.
pub mod SmallBytes
pub mod SmallSteps
pub mod SmallReach
