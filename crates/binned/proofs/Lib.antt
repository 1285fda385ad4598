-- What the code leaves at each return, as laws: one file for each module of the code, and one for the rings.
pub mod SmallCode
pub mod RingsCode
pub mod TreesCode
