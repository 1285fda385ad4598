use mathlib.Core.Path.{◌≡◌}
use Prim.Native.Nat.{◌≤◌}
use lib.ListN.{length}
use Rattle.arena.specs.Record.{offsets, copied_up}
use Rattle.arena.proofs.control.copy_links.Given as goal

abbrev pub invariant-loop-i : goal.invariant-loop-i
invariant-loop-i l = (l.i ≤ 32) × (length l.r ≡ 72) × (l.r ≡ copied_up l.initial.r l.from (offsets l.links) l.i)
