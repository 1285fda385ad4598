-- The promises on one page, and below it what shows them.
pub mod Promises
pub mod Requests
pub mod RebuildInstance
