-- Row 4 counted in words, rounded up. Assumes nothing.
use mathlib.Core.Bool.{Bool}
use mathlib.Core.Path.{◌≡◌, refl}
use Prim.Native.Nat.{ℕ, ◌*◌}
use native.Mathlib.Omega.{arith}
use lib.Dec.{ltb}
use borrow.Author.Tests.{ltb-true, ltb-false, lt-ltb, le-ltb}
use Rattle.std.specs.Int.{div_ceil}
use Rattle.words.specs.Logic.{by}

pub in_words : (w n : ℕ) → ltb w (div_ceil n 8) ≡ ltb (8 * w) n
in_words w n =
    by (λ (z : Bool). ltb (8 * w) n ≡ z → ltb w (div_ceil n 8) ≡ z) (ltb (8 * w) n)
    (λ _ q. lt-ltb w (div_ceil n 8) (omega (arith, ltb-true (8 * w) n q)))
    (λ _ q. le-ltb w (div_ceil n 8) (omega (arith, ltb-false (8 * w) n q))) refl
