-- The check of the tiling: the words level.
pub mod TilesBytes
