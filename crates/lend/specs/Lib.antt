-- The words of a live block, lent as a part of the arena.
pub mod LendBytes
