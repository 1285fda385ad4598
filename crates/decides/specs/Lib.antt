-- The check is exact, and finds exactly the live blocks.
pub mod MarksLaws
pub mod Took
pub mod ListLaws
pub mod RingLaws
pub mod TreeLaws
pub mod BinsLaws
pub mod TilingLaws
pub mod SpareLaws
pub mod SoundLaws
pub mod LiveLaws
