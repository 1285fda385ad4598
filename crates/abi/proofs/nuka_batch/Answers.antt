use Rattle.abi.proofs.AbiCode.{taken_72, taken_2, batch_ran}
use Rattle.abi.proofs.nuka_batch.Goals as goal

pub image_in-r-requires : goal.image_in-r-requires
image_in-r-requires c = taken_72 _ _ (c.turned_down.ensures.taken c.in_default.is)

pub tell_count-requires : goal.tell_count-requires
tell_count-requires c = taken_2 _ _ (c.turned_down.ensures.taken c.in_default.is)

pub returns : goal.returns
returns c =
    batch_ran _ _ _ (c.turned_down.ensures.taken c.in_default.is) c.image_in-r.ensures _ _ _ _ _ _
    c.batch_on_image-whole.ensures c.copy_out.ensures c.tell_count.ensures.number c.tell_count.ensures.out
