use Rattle.treebin.proofs.UnlinkLaws.{deep_turn, deep_found}
use Rattle.treebin.proofs.unlink.deepest.Goals as goal

pub loop-preserved : goal.loop-preserved
loop-preserved c = deep_turn _ _ _ _ _ _ c.loop.invariant c.loop-test.true c.link-child.ensures c.last_side-below.ensures c.get.ensures c.if-get.false

pub returns-then-get : goal.returns-then-get
returns-then-get c = deep_found _ _ _ _ _ _ c.loop.invariant c.loop-test.true c.link-child.ensures c.last_side-below.ensures c.get.ensures c.if-get.true
