-- The check of the spare chunk, the small bins and the trees: the words level.
pub mod BinsBytes
