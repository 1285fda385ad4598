-- What the C functions leave in the words that they are lent.
pub mod Words
