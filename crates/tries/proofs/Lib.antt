-- What the crate's definitions and functions fulfil.
pub mod Search
pub mod SearchMem
