use Rattle.binned.proofs.RingsCode.{ring_other, ring_bad}
use Rattle.binned.proofs.trees.ring_ok.Goals.{then-not-take-via-then-not-take, then-not-take-via-else-not-take+then-not-member_ok}
use Rattle.binned.proofs.trees.ring_ok.Goals as goal

pub returns-then-not-take : goal.returns-then-not-take
returns-then-not-take c =
    elim c.then-not-take.branch [
      | then-not-take-via-then-not-take w ↦
          ring_other _ _ _ _ _ _ _ _ _ c.loop.invariant c.loop-test.true c.if-c-t.false c.take.ensures w.if-not-take.true
      | then-not-take-via-else-not-take+then-not-member_ok w ↦
          ring_bad _ _ _ _ _ _ _ _ _ c.loop.invariant c.loop-test.true c.if-c-t.false c.take.ensures w.if-not-take.false w.member_ok.ensures w.if-not-member_ok.true
    ]
