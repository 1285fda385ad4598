use Rattle.std.proofs.Common.{◌≡◌}
use Rattle.damaged.proofs.bench.Bench.damages.Given as goal

abbrev pub invariant-loop-damage : goal.invariant-loop-damage
invariant-loop-damage g l = l.self.heap ≡ l.fn.self.heap
