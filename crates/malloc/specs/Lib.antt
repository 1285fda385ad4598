-- malloc: the words level, and that it follows the rule.
pub mod MallocBytes
pub mod Granting
pub mod MallocWays
pub mod MallocObeys
pub mod MallocReach
