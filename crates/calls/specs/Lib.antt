-- The calls over the core: what each answers and leaves, for all inputs; that they do what the rules say; document 01's ★ cases of the words; what
-- whole histories of them do.
pub mod CallBytes
pub mod Counts
pub mod Record
pub mod RecordLaws
pub mod ByValue
pub mod CallObeys
pub mod CallReach
pub mod Stars
pub mod Refusals
pub mod Rebuilds
pub mod Histories
pub mod Owners
pub mod Kept
pub mod InUse
pub mod Shapes
