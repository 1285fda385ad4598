use Rattle.arena.proofs.CallsCode.{value_ends}
use Rattle.arena.proofs.by_value.Goals as goal

pub returns : goal.returns
returns g c = λ says k h m.
    value_ends says h _ _ k c.image_of-r.ensures (m _ _ _ _ _ c.call-a.ensures) c.hand_back.ensures.answer c.hand_back.ensures.control
