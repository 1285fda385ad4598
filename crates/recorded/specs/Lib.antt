-- What the replay reads from a line, what it counts, and what it computes of a heap.
pub mod Lines
pub mod Sums
pub mod Tallies
