use Rattle.abi.proofs.AbiCode.{taken_72, taken_2, call_said}
use Rattle.abi.proofs.on_record.Goals as goal

pub image_in-r-requires : goal.image_in-r-requires
image_in-r-requires g c = taken_72 _ _ (c.turned_down.ensures.taken c.in_default.is)

pub hand_out-requires-clause-out_len : goal.hand_out-requires-clause-out_len
hand_out-requires-clause-out_len g c = taken_2 _ _ (c.turned_down.ensures.taken c.in_default.is)

pub returns : goal.returns
returns g c = λ k m.
    call_said _ _ _ (c.turned_down.ensures.taken c.in_default.is) c.image_in-r.ensures k _ _ _ (m _ _ _ _ _ c.call-a.ensures)
    c.hand_out.ensures.number c.hand_out.ensures.rec c.hand_out.ensures.out
