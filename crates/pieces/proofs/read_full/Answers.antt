use Rattle.std.proofs.Common.{rules}
use Rattle.pieces.proofs.Filling.{filled}
use Rattle.pieces.proofs.read_full.Goals as goal

pub loop-done-preserved : goal.loop-done-preserved
loop-done-preserved g c = (
  search rules,
  filled _ _ _ _ c.loop-done.invariant.0 c.in_ok-n.ensures.bound.0 _ _ _ c.loop-done.invariant.1 c.in_ok-n.ensures.bytes.0,
)
