-- Rows 3 and 4, as laws of numbers.
pub mod RowsCode
