-- memalign: the words level, and that it follows the rule.
pub mod MemalignBytes
pub mod MemalignReach
