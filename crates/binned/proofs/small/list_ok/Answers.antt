use Rattle.binned.proofs.SmallCode.{list_other, list_bad}
use Rattle.binned.proofs.small.list_ok.Goals.{then-not-take-via-then-not-take, then-not-take-via-else-not-take+then-not-linked_ok}
use Rattle.binned.proofs.small.list_ok.Goals as goal

pub returns-then-not-take : goal.returns-then-not-take
returns-then-not-take c =
    elim c.then-not-take.branch [
      | then-not-take-via-then-not-take w ↦
          list_other _ _ _ _ _ _ _ _ c.loop.invariant c.loop-test.true c.if-c.false c.take.ensures w.if-not-take.true
      | then-not-take-via-else-not-take+then-not-linked_ok w ↦
          list_bad _ _ _ _ _ _ _ _ c.loop.invariant c.loop-test.true c.if-c.false c.take.ensures w.if-not-take.false w.linked_ok.ensures w.if-not-linked_ok.true
    ]
