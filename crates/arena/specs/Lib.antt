-- The record by value, what the results say, and the rows one at a time; what each call hands back stands in `calls`, `ByValue`.
pub mod Record
pub mod Answers
pub mod Refusals
pub mod Closures
