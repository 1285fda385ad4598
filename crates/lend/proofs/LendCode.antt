-- The part that is lent, as a range of the arena, and the arena when it is back. Assumes nothing.
use mathlib.Core.List.{List, ◌++◌}
use mathlib.Core.Path.{◌≡◌, sym, ap, ◌∙◌}
use Prim.Native.Nat.{ℕ, ◌+◌, ◌-◌, ◌*◌, ◌^◌, ◌≤◌, ◌<◌}
use native.Mathlib.Omega.{arith}
use lib.ListN.{length, set, take, drop}
use lib.Seq.{set_out}
use Rattle.words.specs.Edition.{wide}
use Rattle.lend.specs.LendBytes.{lent_from, lent_words, lent, back}
use Rattle.lend.proofs.LendLaws.{lent_in, lent_small}

module _ (r w : List ℕ) (off : ℕ) where
  -- ---- its place in the arena

  pub span_byte : {a : ℕ} → a ≡ lent_from wide r w off → a * 8 < 2 ^ 64
  span_byte p = omega (arith, p, lent_small wide r w off)

  module _ {a b : ℕ} (p : a ≡ lent_from wide r w off) (q : b ≡ lent_from wide r w off + lent_words wide r w off) where
    pub span_in : b ≤ length w
    span_in = omega (arith, q, lent_in wide r w off)

    pub span_order : a ≤ b
    span_order = omega (arith, p, q)

    pub span_words : take (b - a) (drop a w) ≡ lent wide r w off
    span_words = ap (λ n. take n (drop a w)) (let z : b - a ≡ lent_words wide r w off = omega (arith, p, q) in z) ∙ ap (λ n. take (lent_words wide r w off) (drop n w)) p

    -- ---- the part is back

    pub span_back : {ys : List ℕ} (i v : ℕ) → ys ≡ set (take (b - a) (drop a w)) i v
        → take a w ++ (ys ++ drop (b - a) (drop a w)) ≡ back wide r w off (set (lent wide r w off) i v)
    span_back i v t =
        let z : b - a ≡ lent_words wide r w off = omega (arith, p, q) in
        rw (sym p, sym z) (ap (λ x. take a w ++ (x ++ drop (b - a) (drop a w))) t)

pub set_past : (s : List ℕ) (i v : ℕ) → length s ≤ i → s ≡ set s i v
set_past s i v l = sym (set_out s i v l)

pub ruleset laws = (span_byte, span_in, span_order, span_words, span_back)
