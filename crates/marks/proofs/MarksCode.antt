-- Sets of granules: the place of a granule; the empty set. Assumes nothing.
use mathlib.Core.Bool.{Bool, true, false, ◌&&◌}
use mathlib.Core.List.{List}
use mathlib.Core.Path.{◌≡◌, refl, sym, ◌∙◌}
use Prim.Native.Nat.{ℕ, zero, suc, ◌+◌, ◌*◌, ◌/◌, ◌%◌, ◌<◌}
use native.Mathlib.Omega.{arith}
use lib.Dec.{eqb, ltb}
use lib.ListN.{length, drop}
use Rattle.std.specs.List.{list_all}
use Rattle.std.proofs.Math.ListN.{drop_of_length-le}
use Rattle.std.proofs.Math.Seq.{drop-cons}
use Rattle.std.proofs.Common.{add-one}
use borrow.Author.Tests.{ltb-true}
use Rattle.words.specs.Logic.{false-true}
use Rattle.words.specs.Edition.{wide}
use Rattle.marks.specs.Marks.{mark_words, holdable, empty_from, is_empty}

module _ (off : ℕ) where
  held_lt : holdable wide off ≡ true → off / 16 < 64 * mark_words
  unfolding holdable
  held_lt = go (eqb (off % 16) 0) (ltb (off / 16) (64 * mark_words)) (ltb-true (off / 16) (64 * mark_words))
    where
      go : (a b : Bool) → (b ≡ true → off / 16 < 64 * mark_words) → a && b ≡ true → off / 16 < 64 * mark_words
      go true b f q = f q
      go false b f q = false-true q

module _ (off : ℕ) {x : Bool} (e : x ≡ holdable wide off) where
  pub in_set_lem : x ≡ true → off / 16 / 64 < mark_words
  in_set_lem q = omega (arith, held_lt off (sym e ∙ q))

-- ---- nothing is in the set where every number is 0

-- the numbers from the i-th on, to the end
zeros_from : (m : List ℕ) (k i : ℕ) → i + k ≡ length m → empty_from m k i ≡ list_all (λ x. eqb x 0) (drop i m)
unfolding empty_from
zeros_from m zero i q = rw (drop_of_length-le m {i = i} (omega arith)) refl
zeros_from m (suc k) i q = rw (drop-cons m i 0 (omega arith), zeros_from m k (i + 1) (omega arith), add-one i) refl

pub all_zero : (m : List ℕ) → length m ≡ mark_words → list_all (λ x. eqb x 0) m ≡ is_empty m
unfolding is_empty
all_zero m q = sym (zeros_from m mark_words 0 (sym q))
