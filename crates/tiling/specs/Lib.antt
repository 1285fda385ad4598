-- Chunks in address order, and the steps of retiling.
pub mod Tiling
pub mod Steps
pub mod Free
pub mod Reading
pub mod Swaps
pub mod Regrow
pub mod Spares
