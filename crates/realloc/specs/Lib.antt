-- realloc: the words level, and that it follows the rule.
pub mod ReallocBytes
pub mod Trying
pub mod ReallocObeys
pub mod ResizeReach
pub mod ReallocReach
