use Rattle.binned.proofs.SmallCode.{smalls_bad}
use Rattle.binned.proofs.small.small_bins_ok.Goals as goal

pub returns-then-not-small_bin_ok : goal.returns-then-not-small_bin_ok
returns-then-not-small_bin_ok c = smalls_bad _ _ _ _ _ c.loop-i.invariant c.loop-i-test.true c.small_bin_ok.ensures c.if-not-small_bin_ok.true
