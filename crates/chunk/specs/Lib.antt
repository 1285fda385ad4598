-- Heads and feet, and the record's image: the words level and what it means in a held heap.
pub mod Bytes
pub mod Image
pub mod Plain
pub mod PlainInuse
pub mod Held
pub mod PlainLinks
pub mod Links
pub mod Running
pub mod ChunkReach
