-- What the crate's definitions and functions fulfil.
pub mod FreeLaws
pub mod MemalignLaws
pub mod ReallocLaws
pub mod Cutting
