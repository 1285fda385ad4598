-- Size and index arithmetic: what the contracts cite and the laws of it. Definitions stand in `Bit`, `BinMap`, `Sizes` and `TreeBin`, in plain
-- arithmetic on numbers; `BinMapLaws`, `SizesLaws` and `TreeBinLaws` have their laws, `MapOfBins` and `TreePath` what the bins and trees above
-- build on, `Digits` and `Words` the digits of a number and the operators of a machine word, and `Table` the test that holds a table of
-- examples to its function. Assumes nothing.
pub mod Bit
pub mod BinMap
pub mod MapOfBins
pub mod Digits
pub mod Table
pub mod TreeBinLaws
pub mod Sizes
pub mod TreePath
pub mod BinMapLaws
pub mod Words
pub mod TreeBin
pub mod SizesLaws
