use mathlib.Core.Path.{◌≡◌}
use Prim.Native.Nat.{◌≤◌}
use lib.ListN.{length}
use Rattle.arena.proofs.RecordCode.{Linked}
use Rattle.arena.proofs.control.links_at.Given as goal

abbrev pub invariant-loop-i : goal.invariant-loop-i
invariant-loop-i l = (l.i ≤ 32) × (length l.links ≡ 32) × Linked l.links l.r l.from l.i
