use Rattle.std.proofs.Common.{rules, arith, subst}
use Prim.Native.Nat.{◌+◌, ◌-◌}
use mathlib.Core.Path.{◌≡◌}
use Rattle.recorded.proofs.SumsCode.{Walks, walk_turn}
use Rattle.recorded.proofs.look.walk.Goals as goal

pub loop-preserved : goal.loop-preserved
loop-preserved g c =
    λ h m.
    subst (λ k. Walks h c.args.r.now c.args.w.now c.plus_offset-c.result.0 c.each-n.result k)
    (let z : 4096 - c.loop.counter - 1 ≡ 4096 - (c.loop.counter + 1) = omega arith in z)
    (walk_turn h c.args.r.now c.args.w.now (c.loop.invariant h m) {m = c.size.result} (search rules) (search rules)
    (m c.loop.n c.loop.c c.each-n.result c.each-n.ensures) c.size.ensures c.plus_offset-c.ensures)
