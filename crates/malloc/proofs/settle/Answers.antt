use Rattle.malloc.proofs.Laws.{to_dv_is, to_bin_is}
use Rattle.malloc.proofs.settle.Goals as goal

pub returns-in-Dv : goal.returns-in-Dv
returns-in-Dv c = rw (c.in-Dv.is, to_dv_is _ _ _ _) c.replace_dv.ensures

pub returns-in-Bin : goal.returns-in-Bin
returns-in-Bin c = rw (c.in-Bin.is, to_bin_is _ _ _ _) c.insert_chunk.ensures
