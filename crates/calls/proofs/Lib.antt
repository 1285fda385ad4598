-- What the crate's definitions and functions fulfil.
pub mod CallObeys
pub mod CallReach
pub mod Histories
pub mod InUse
pub mod Kept
pub mod Lending
pub mod Owners
pub mod Rebuilds
pub mod Rows
pub mod Shapes
pub mod Stars
pub mod Stores
