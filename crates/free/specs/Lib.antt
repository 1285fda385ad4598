-- free and dispose_chunk: the words level, and that they follow the rule.
pub mod FreeBytes
pub mod FreeObeys
