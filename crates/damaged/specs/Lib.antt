-- What the bench counts.
pub mod Counts
