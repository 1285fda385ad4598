-- The laws of the walk over the chunks.
pub mod SumsCode
