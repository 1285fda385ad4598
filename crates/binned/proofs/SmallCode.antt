-- The lists of the small bins, and the loop over 32 bins: one law for each way out of a loop, and one for a turn. Assumes nothing.
use mathlib.Core.Bool.{Bool, true, false}
use mathlib.Core.List.{List}
use mathlib.Core.Path.{◌≡◌, refl, sym, ap, ◌∙◌}
use Prim.Native.Nat.{ℕ, zero, suc, ◌+◌, ◌-◌, ◌^◌, ◌≤◌, ◌<◌}
use native.Mathlib.Omega.{arith}
use borrow.Author.Tests.{eq-eqb, ne_eqb}
use Rattle.words.specs.Edition.{wide, no_link}
use Rattle.chunk.specs.Bytes.{word}
use Rattle.marks.specs.Marks.{Checked, checked, answer, take_mark, turns}
use Rattle.binned.specs.BinsBytes.{linked_ok, list_ok, small_bin_ok, all_bins, small_bins_ok}

-- ---- a list

-- after i turns the list from here is the list from the newest
pub record Lists (w : List ℕ) (n : ℕ) (m₀ : List ℕ) (newest c newer : ℕ) (m : List ℕ) (i : ℕ) : Type 0 where
  pub same : list_ok wide w n (turns - i) c newer m ≡ list_ok wide w n turns newest (no_link wide) m₀

module _ (w : List ℕ) (n : ℕ) where
  list_zero : (left c newer : ℕ) (m : List ℕ) → left ≤ 0 → list_ok wide w n left c newer m ≡ checked false m
  unfolding list_ok
  list_zero zero c newer m l = refl
  list_zero (suc k) c newer m l = absurd (omega arith)

  list_none : (left c newer : ℕ) (m : List ℕ) → 0 < left → c ≡ 2 ^ 64 - 1 → list_ok wide w n left c newer m ≡ checked true m
  unfolding list_ok
  list_none zero c newer m l q = absurd (omega arith)
  list_none (suc k) c newer m l q = rw (eq-eqb c (2 ^ 64 - 1) q) refl

  module _ (c newer : ℕ) (m m₁ : List ℕ) (f : c ≡ 2 ^ 64 - 1 → ⊥) where
    list_unmarked : (left : ℕ) → 0 < left → take_mark wide m c ≡ checked false m₁ → list_ok wide w n left c newer m ≡ checked false m₁
    unfolding list_ok
    list_unmarked zero l e = absurd (omega arith)
    list_unmarked (suc k) l e = rw (ne_eqb c (2 ^ 64 - 1) f, e) refl

    list_unlinked : (left : ℕ) → 0 < left → take_mark wide m c ≡ checked true m₁ → linked_ok wide w c n newer ≡ false → list_ok wide w n left c newer m ≡ checked false m₁
    unfolding list_ok
    list_unlinked zero l e q = absurd (omega arith)
    list_unlinked (suc k) l e q = rw (ne_eqb c (2 ^ 64 - 1) f, e, q) refl

    list_next : (k j : ℕ) → k ≡ suc j → take_mark wide m c ≡ checked true m₁ → linked_ok wide w c n newer ≡ true
        → list_ok wide w n k c newer m ≡ list_ok wide w n j (word wide w c 2) c m₁
    unfolding list_ok
    list_next k j l e q = ap (λ x. list_ok wide w n x c newer m) l ∙ rw (ne_eqb c (2 ^ 64 - 1) f, e, q) refl

pub list_start : (w : List ℕ) (n : ℕ) (m : List ℕ) (newest : ℕ) → Lists w n m newest newest (2 ^ 64 - 1) m 0
list_start w n m newest = record { same = refl }

module _ (w : List ℕ) (n : ℕ) (m₀ : List ℕ) (newest c newer : ℕ) (m : List ℕ) (i : ℕ) (v : Lists w n m₀ newest c newer m i) where
  pub list_out : turns ≤ i → checked false m ≡ list_ok wide w n turns newest (no_link wide) m₀
  list_out l = sym (list_zero w n (turns - i) c newer m (omega arith)) ∙ v.same

  module _ (l : i < turns) where
    pub list_end : c ≡ 2 ^ 64 - 1 → checked true m ≡ list_ok wide w n turns newest (no_link wide) m₀
    list_end q = sym (list_none w n (turns - i) c newer m (omega arith) q) ∙ v.same

    module _ (f : c ≡ 2 ^ 64 - 1 → ⊥) {x : Bool} {m₁ : List ℕ} (e : checked x m₁ ≡ take_mark wide m c) where
      pub list_other : x ≡ false → checked false m₁ ≡ list_ok wide w n turns newest (no_link wide) m₀
      list_other q = sym (list_unmarked w n c newer m m₁ f (turns - i) (omega arith) (answer e q)) ∙ v.same

      module _ (q : x ≡ true) {y : Bool} (e₁ : y ≡ linked_ok wide w c n newer) where
        pub list_bad : y ≡ false → checked false m₁ ≡ list_ok wide w n turns newest (no_link wide) m₀
        list_bad z = sym (list_unlinked w n c newer m m₁ f (turns - i) (omega arith) (answer e q) (sym e₁ ∙ z)) ∙ v.same

        pub list_turn : {c₁ : ℕ} → y ≡ true → c₁ ≡ word wide w c 2 → Lists w n m₀ newest c₁ c m₁ (i + 1)
        list_turn z u =
            record {
              same = ap (λ k. list_ok wide w n (turns - (i + 1)) k c m₁) u
                  ∙ sym (list_next w n c newer m m₁ f (turns - i) (turns - (i + 1)) (omega arith) (answer e q) (sym e₁ ∙ z)) ∙ v.same;
            }

-- ---- the small bins

-- the state of a loop over 32 bins: the bins from here are the bins
pub record Binned (f : ℕ → List ℕ → Checked) (m₀ : List ℕ) (i : ℕ) (m : List ℕ) : Type 0 where
  pub same : all_bins f (32 - i) i m ≡ all_bins f 32 0 m₀

module _ (f : ℕ → List ℕ → Checked) where
  all_zero : (k i : ℕ) (m : List ℕ) → k ≤ 0 → all_bins f k i m ≡ checked true m
  unfolding all_bins
  all_zero zero i m l = refl
  all_zero (suc k) i m l = absurd (omega arith)

  all_bad : (k i : ℕ) (m m₁ : List ℕ) → 0 < k → f i m ≡ checked false m₁ → all_bins f k i m ≡ checked false m₁
  unfolding all_bins
  all_bad zero i m m₁ l q = absurd (omega arith)
  all_bad (suc k) i m m₁ l q = rw q refl

  all_next : (k i : ℕ) (m m₁ : List ℕ) → 0 < k → f i m ≡ checked true m₁ → all_bins f k i m ≡ all_bins f (k - 1) (i + 1) m₁
  unfolding all_bins
  all_next zero i m m₁ l q = absurd (omega arith)
  all_next (suc k) i m m₁ l q = rw q (ap (λ x. all_bins f x (i + 1) m₁) (let z : k ≡ suc k - 1 = omega arith in z))

  pub bins_start : (m : List ℕ) → Binned f m 0 m
  bins_start m = record { same = refl }

  module _ (m₀ : List ℕ) (i : ℕ) (m : List ℕ) (v : Binned f m₀ i m) where
    pub bins_end : 32 ≤ i → checked true m ≡ all_bins f 32 0 m₀
    bins_end l = sym (all_zero (32 - i) i m (omega arith)) ∙ v.same

    module _ (l : i < 32) {x : Bool} {m₁ : List ℕ} (e : checked x m₁ ≡ f i m) where
      pub bins_bad : x ≡ false → checked false m₁ ≡ all_bins f 32 0 m₀
      bins_bad q = sym (all_bad (32 - i) i m m₁ (omega arith) (answer e q)) ∙ v.same

      pub bins_turn : x ≡ true → Binned f m₀ (i + 1) m₁
      bins_turn q =
          record {
            same = ap (λ k. all_bins f k (i + 1) m₁) (let z : 32 - (i + 1) ≡ 32 - i - 1 = omega arith in z) ∙ sym (all_next (32 - i) i m m₁ (omega arith) (answer e q)) ∙ v.same;
          }

-- at the small bins
abbrev pub Smalls : List ℕ → List ℕ → List ℕ → ℕ → List ℕ → Type 0
Smalls r w m₀ i m = Binned (small_bin_ok wide r w) m₀ i m

pub smalls_start : (r w m : List ℕ) → Smalls r w m 0 m
smalls_start r w m = bins_start (small_bin_ok wide r w) m

module _ (r w m₀ : List ℕ) (i : ℕ) (m : List ℕ) (v : Smalls r w m₀ i m) where
  pub smalls_end : 32 ≤ i → checked true m ≡ small_bins_ok wide r w m₀
  unfolding small_bins_ok
  smalls_end l = bins_end (small_bin_ok wide r w) m₀ i m v l

  module _ (l : i < 32) {x : Bool} {m₁ : List ℕ} (e : checked x m₁ ≡ small_bin_ok wide r w i m) where
    pub smalls_bad : x ≡ false → checked false m₁ ≡ small_bins_ok wide r w m₀
    unfolding small_bins_ok
    smalls_bad q = bins_bad (small_bin_ok wide r w) m₀ i m v l e q

    pub smalls_turn : x ≡ true → Smalls r w m₀ (i + 1) m₁
    smalls_turn q = bins_turn (small_bin_ok wide r w) m₀ i m v l e q

pub ruleset laws = (list_start, list_out, list_end, list_other, list_bad, list_turn, smalls_start, smalls_end, smalls_bad, smalls_turn)
