use Rattle.abi.proofs.AbiCode.{taken_72, taken_2, usable_said}
use Rattle.abi.proofs.nuka_usable.Goals as goal

pub image_in-r-requires : goal.image_in-r-requires
image_in-r-requires c = taken_72 _ _ (c.turned_down.ensures.taken c.in_default.is)

pub tell-requires : goal.tell-requires
tell-requires c = taken_2 _ _ (c.turned_down.ensures.taken c.in_default.is)

pub returns : goal.returns
returns c =
    usable_said _ _ _ _ (c.turned_down.ensures.taken c.in_default.is) c.image_in-r.ensures _ c.usable.ensures
    c.tell.ensures.number c.tell.ensures.out
