use native.Mathlib.Omega.{arith}
use mathlib.Core.Path.{sym, ◌∙◌}
use Prim.Native.Nat.{◌+◌, ◌^◌, ◌<◌}
use borrow.Author.Rules.{rules}
use Rattle.words.specs.Edition.{wide}
use Rattle.rebuild.proofs.RebuildCode.{seek_here, seek_fits}
use Rattle.rebuild.proofs.seek_top.Goals as goal

pub returns-then-top_here : goal.returns-then-top_here
returns-then-top_here c =
    seek_here wide _ _ _ _ _ c.loop.invariant c.loop-test.true c.top_here.ensures c.if-top_here.true (omega arith)

pub overflow_add-p : goal.overflow_add-p
overflow_add-p c =
    let below : c.loop.p + c.in_ok-t.t.size < 2 ^ 64 =
    seek_fits wide _ _ _ _ _ c.loop.invariant c.loop-test.true c.top_here.ensures c.if-top_here.false _ (sym c.chunk_at.ensures ∙ c.in_ok-t.was)
    c.ranges.end.fits in
    search rules
