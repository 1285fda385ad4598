use Rattle.std.proofs.Common.{◌-◌, ℕ}
use Rattle.recorded.specs.Sums.{Makes}
use Rattle.recorded.proofs.SumsCode.{Walks}
use Rattle.recorded.proofs.look.walk.Given as goal

abbrev pub invariant-loop : goal.invariant-loop
invariant-loop g l = (h : ℕ → ℕ → ℕ) → Makes (goal.F-post g l.each) h → Walks h l.r l.w l.c.0 l.n (4096 - l.counter)
