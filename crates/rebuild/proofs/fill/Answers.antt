use mathlib.Core.Path.{◌∙◌}
use Rattle.words.specs.Edition.{wide}
use Rattle.rebuild.proofs.RebuildCode.{fill_turn}
use Rattle.rebuild.proofs.fill.Goals as goal

pub loop-preserved : goal.loop-preserved
loop-preserved c =
    let v = c.loop.invariant in
    let e = c.enter.ensures in
    (fill_turn wide _ _ _ _ _ _ _ v.0 c.loop-test.true c.if-p-top.false c.size-n.ensures e.0 e.1 c.sum-p.ensures, (e.2.0 ∙ v.1.0, e.2.1 ∙ v.1.1))
