-- The check: the words level.
pub mod SoundBytes
