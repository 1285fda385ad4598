-- Sets of granules.
pub mod Marks
