use Rattle.binned.proofs.SmallCode.{Smalls}
use Rattle.binned.proofs.small.small_bins_ok.Given as goal

abbrev pub invariant-loop-i : goal.invariant-loop-i
invariant-loop-i l = Smalls l.r l.w l.fn.m l.i l.m
