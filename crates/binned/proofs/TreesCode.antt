-- Trees: one law for each way out of a tree, what the tests and the callees have told put together as the definition says it; and that the
-- sizes of the members above are the same again when a tree has been found right. Assumes nothing.
use mathlib.Core.Bool.{Bool, true, false, ◌&&◌}
use mathlib.Core.List.{List}
use mathlib.Core.Logic.{⊎_elim}
use mathlib.Core.Path.{◌≡◌, refl, sym, ap, ◌∙◌}
use Prim.Native.Nat.{ℕ, zero, suc, ◌+◌, ◌-◌, ◌*◌, ◌/◌, ◌%◌, ◌^◌, ◌≤◌, ◌<◌}
use native.Mathlib.Omega.{arith}
use lib.Dec.{eqb, ltb, leb}
use lib.ListN.{length, get_or, set}
use lib.Pow.{pow_mono}
use lib.Seq.{get_or-set_same, set-get_or, set_out, set-set}
use borrow.Author.Tests.{eq-eqb, ne_eqb, eqb-true}
use Rattle.words.specs.Logic.{pick, pick_case, lt_or_le, false-true}
use Rattle.words.specs.Edition.{wide, root_mark}
use Rattle.index.specs.Bit.{bit}
use Rattle.index.specs.BinMap.{mark, clear}
use Rattle.index.specs.BinMapLaws.{mark_same}
use Rattle.index.specs.TreeBin.{min_size}
use Rattle.tries.specs.Bits.{wid, wid_pow}
use Rattle.rules.specs.BinOf.{trie_low, low_bytes}
use Rattle.chunk.specs.Bytes.{word, tree, link_of}
use Rattle.marks.specs.Marks.{holdable, mark_bit, lacks_mark, set_mark, drop_mark, Checked, checked, and_then, take_mark, no_marks, turns, answer}
use Rattle.binned.specs.BinsBytes.{bit_ok, childless, ring_ok, node_size, size_fits, node_fits, node_ok, tree_ok, tree_bin_ok, tree_bins_ok}
use Rattle.binned.proofs.SmallCode.{Binned, bins_start, bins_end, bins_bad, bins_turn}

-- ---- a mark that was set and dropped again

both : (a b : Bool) → a && b ≡ true → (a ≡ true) × (b ≡ true)
both true b q = (refl, q)
both false b q = false-true q

-- the bit of a number that had it clear
clear-mark : (i n : ℕ) → bit i n ≡ 0 → clear i (mark i n) ≡ n
unfolding clear mark
clear-mark i n q = let e : mark i n ≡ n + 2 ^ i = rw q (omega arith) in rw (mark_same i n) (omega arith)

set_clear : (s : List ℕ) (k j : ℕ) → bit j (get_or s k 0) ≡ 0 → set (set s k (mark j (get_or s k 0))) k (clear j (get_or (set s k (mark j (get_or s k 0))) k 0)) ≡ s
set_clear s k j q =
    ⊎_elim
    (λ l. ap (λ x. set (set s k (mark j (get_or s k 0))) k (clear j x)) (get_or-set_same s k (mark j (get_or s k 0)) 0 l)
    ∙ ap (set (set s k (mark j (get_or s k 0))) k) (clear-mark j (get_or s k 0) q) ∙ set-set s k (mark j (get_or s k 0)) (get_or s k 0) ∙ set-get_or s k 0)
    (λ l. set-set s k (mark j (get_or s k 0)) (clear j (get_or (set s k (mark j (get_or s k 0))) k 0)) ∙ set_out s k (clear j (get_or (set s k (mark j (get_or s k 0))) k 0)) l)
    (lt_or_le k (length s))

drop_set : (s : List ℕ) (n : ℕ) → lacks_mark wide s n ≡ true → drop_mark wide (set_mark wide s n) n ≡ s
unfolding lacks_mark set_mark drop_mark
drop_set s n q =
    let b = both (holdable wide n) (eqb (mark_bit wide s n) 0) q in
    rw b.0 (set_clear s (n / 16 / 64) (n / 16 % 64) (eqb-true (mark_bit wide s n) 0 b.1))

-- ---- a tree member that is right has a size that no member above has

ok_then : (c : Checked) (f : List ℕ → Checked) → (and_then c f).ok ≡ true → (f c.marks).ok ≡ true
ok_then c f = pick_case (λ (z : Checked). z.ok ≡ true → (f c.marks).ok ≡ true) c.ok (λ e q. q) (λ e q. false-true (sym e ∙ q))

ok_test : (b : Bool) (c : Checked) (m : List ℕ) → (pick b c (checked false m)).ok ≡ true → b ≡ true
ok_test true c m q = refl
ok_test false c m q = false-true q

module _ (w : List ℕ) (i k lo t up : ℕ) (s : List ℕ) where
  fits_new : node_fits wide w i k lo t up s ≡ true → lacks_mark wide s (node_size wide w t) ≡ true
  unfolding node_fits
  fits_new q =
      (both (ltb lo (word wide w t 1) && leb (word wide w t 1) (lo + 8 * wid k)) (lacks_mark wide s (node_size wide w t))
      (both (size_fits wide (word wide w t 1) k lo s) (eqb (word wide w t 6) up) (both (size_fits wide (word wide w t 1) k lo s && eqb (word wide w t 6) up) (eqb (word wide w t 7) i) q).0).0).1

  node_new : (m m₁ : List ℕ) → checked true m₁ ≡ node_ok wide w i k lo t up s m → lacks_mark wide s (node_size wide w t) ≡ true
  unfolding node_ok
  node_new m m₁ e =
      fits_new (ok_test (node_fits wide w i k lo t up s) (ring (take_mark wide m t).marks) (take_mark wide m t).marks
      (ok_then (take_mark wide m t) (λ m₂. pick (node_fits wide w i k lo t up s) (ring m₂) (checked false m₂)) (ap (λ (z : Checked). z.ok) (sym e))))
    where
      ring : List ℕ → Checked
      ring = ring_ok wide w i (node_size wide w t) t turns (word wide w t 3) t

-- ---- a tree

module _ (w : List ℕ) (i lo t up : ℕ) (s m : List ℕ) where
  empty_tree : (k : ℕ) → t ≡ 2 ^ 64 - 1 → tree_ok wide w i k lo t up s m ≡ checked true m
  unfolding tree_ok
  empty_tree zero q = rw (eq-eqb t (2 ^ 64 - 1) q) refl
  empty_tree (suc k) q = rw (eq-eqb t (2 ^ 64 - 1) q) refl

  module _ (f : t ≡ 2 ^ 64 - 1 → ⊥) (m₁ : List ℕ) where
    wrong_node : (k : ℕ) → node_ok wide w i k lo t up s m ≡ checked false m₁ → tree_ok wide w i k lo t up s m ≡ checked false m₁
    unfolding tree_ok
    wrong_node zero e = rw (ne_eqb t (2 ^ 64 - 1) f, e) refl
    wrong_node (suc k) e = rw (ne_eqb t (2 ^ 64 - 1) f, e) refl

    last_node : (k : ℕ) → k ≡ 0 → node_ok wide w i k lo t up s m ≡ checked true m₁ → tree_ok wide w i k lo t up s m ≡ checked (childless wide w t) m₁
    unfolding tree_ok
    last_node zero z e = rw (ne_eqb t (2 ^ 64 - 1) f, e) refl
    last_node (suc k) z e = absurd (let b : ⊥ = omega arith in b)

    inner_node : (k : ℕ) → (k ≡ 0 → ⊥) → node_ok wide w i k lo t up s m ≡ checked true m₁
        → tree_ok wide w i k lo t up s m
        ≡ and_then (tree_ok wide w i (k - 1) lo (word wide w t 4) t (set_mark wide s (node_size wide w t)) m₁)
        (λ m₂. tree_ok wide w i (k - 1) (lo + 8 * wid (k - 1)) (word wide w t 5) t (set_mark wide s (node_size wide w t)) m₂)
    unfolding tree_ok
    inner_node zero z e = absurd (z refl)
    inner_node (suc k) z e =
        rw (ne_eqb t (2 ^ 64 - 1) f, e)
        (ap (λ x. and_then (tree_ok wide w i x lo (word wide w t 4) t (set_mark wide s (node_size wide w t)) m₁)
        (λ m₂. tree_ok wide w i x (lo + 8 * wid x) (word wide w t 5) t (set_mark wide s (node_size wide w t)) m₂)) (let q : k ≡ suc k - 1 = omega arith in q))

module _ (w : List ℕ) (i k lo t up : ℕ) (s m : List ℕ) where
  pub tree_none : t ≡ 2 ^ 64 - 1 → checked true m ≡ tree_ok wide w i k lo t up s m
  tree_none q = sym (empty_tree w i lo t up s m k q)

  module _ (f : t ≡ 2 ^ 64 - 1 → ⊥) {x : Bool} {m₁ : List ℕ} (e : checked x m₁ ≡ node_ok wide w i k lo t up s m) where
    pub tree_node : x ≡ false → checked false m₁ ≡ tree_ok wide w i k lo t up s m
    tree_node q = sym (wrong_node w i lo t up s m f m₁ k (answer e q))

    pub tree_last : {y : Bool} → x ≡ true → k ≡ 0 → y ≡ childless wide w t → checked y m₁ ≡ tree_ok wide w i k lo t up s m
    tree_last q z u = ap (λ v. checked v m₁) u ∙ sym (last_node w i lo t up s m f m₁ k z (answer e q))

    module _ (q : x ≡ true) (z : k ≡ 0 → ⊥) {n : ℕ} (e₁ : n ≡ node_size wide w t) {s₁ : List ℕ} (e₂ : s₁ ≡ set_mark wide s n) where
      above : s₁ ≡ set_mark wide s (node_size wide w t)
      above = e₂ ∙ ap (set_mark wide s) e₁

      module _ {a : ℕ} (e₃ : a ≡ word wide w t 4) {y : Bool} {m₂ : List ℕ} (e₄ : checked y m₂ ≡ tree_ok wide w i (k - 1) lo a t s₁ m₁) where
        lower : checked y m₂ ≡ tree_ok wide w i (k - 1) lo (word wide w t 4) t (set_mark wide s (node_size wide w t)) m₁
        lower = e₄ ∙ ap (λ v. tree_ok wide w i (k - 1) lo v t s₁ m₁) e₃ ∙ ap (λ v. tree_ok wide w i (k - 1) lo (word wide w t 4) t v m₁) above

        pub tree_lower : y ≡ false → checked false m₂ ≡ tree_ok wide w i k lo t up s m
        tree_lower u = sym (inner_node w i lo t up s m f m₁ k z (answer e q) ∙ rw (answer lower u) refl)

        module _ (u : y ≡ true) {s₂ : List ℕ} (e₅ : s₂ ≡ s₁) {b : ℕ} (e₆ : b ≡ word wide w t 5) {h : ℕ} (e₇ : h ≡ 8 * wid (k - 1)) where
          pub tree_upper : {v o : Bool} {m₃ : List ℕ} → checked v m₃ ≡ tree_ok wide w i (k - 1) (lo + h) b t s₂ m₂ → v ≡ o → checked o m₃ ≡ tree_ok wide w i k lo t up s m
          tree_upper e₈ g =
              sym (answer e₈ g) ∙ ap (λ x. tree_ok wide w i (k - 1) (lo + h) x t s₂ m₂) e₆ ∙ ap (λ x. tree_ok wide w i (k - 1) (lo + x) (word wide w t 5) t s₂ m₂) e₇
              ∙ ap (λ x. tree_ok wide w i (k - 1) (lo + 8 * wid (k - 1)) (word wide w t 5) t x m₂) (e₅ ∙ above)
              ∙ sym (inner_node w i lo t up s m f m₁ k z (answer e q) ∙ rw (answer lower u) refl)

          pub tree_kept : {s₃ s₄ : List ℕ} → s₃ ≡ s₂ → s₄ ≡ drop_mark wide s₃ n → s₄ ≡ s
          tree_kept {s₃} e₈ e₉ =
              e₉ ∙ ap (drop_mark wide s₃) e₁ ∙ ap (λ x. drop_mark wide x (node_size wide w t)) (e₈ ∙ e₅ ∙ above)
              ∙ drop_set s (node_size wide w t) (node_new w i k lo t up s m m₁ (ap (λ v. checked v m₁) (sym q) ∙ e))

-- ---- the tree bins

module _ (r w s : List ℕ) (i : ℕ) (m : List ℕ) {t : ℕ} (e : t ≡ link_of tree r i) {x : Bool} (e₁ : x ≡ bit_ok wide (get_or r 1 0) i t) where
  told : x ≡ bit_ok wide (get_or r 1 0) i (link_of tree r i)
  told = e₁ ∙ ap (bit_ok wide (get_or r 1 0) i) e

  pub tree_bin_empty : x ≡ true → t ≡ 2 ^ 64 - 1 → checked true m ≡ tree_bin_ok wide r w s i m
  unfolding tree_bin_ok
  tree_bin_empty q n =
      tree_none w i (i / 2 + 4) (8 * trie_low wide i) t (root_mark wide) s m n
      ∙ ap (λ a. tree_ok wide w i (i / 2 + 4) (8 * trie_low wide i) a (root_mark wide) s m) e ∙ sym (rw (sym told ∙ q) refl)

  pub tree_root : {lo : ℕ} {y : Bool} {m₁ : List ℕ} → x ≡ true → i < 32 → lo ≡ min_size (i % 32) → checked y m₁ ≡ tree_ok wide w i (i / 2 + 4) lo t (root_mark wide) s m → checked y m₁ ≡ tree_bin_ok wide r w s i m
  unfolding tree_bin_ok
  tree_root q l z u =
      u ∙ ap (λ a. tree_ok wide w i (i / 2 + 4) a t (root_mark wide) s m) (z ∙ ap min_size (let v : i % 32 ≡ i = omega arith in v) ∙ sym (low_bytes wide i))
      ∙ ap (λ a. tree_ok wide w i (i / 2 + 4) (8 * trie_low wide i) a (root_mark wide) s m) e ∙ sym (rw (sym told ∙ q) refl)

pub root-fits : (i : ℕ) {lo : ℕ} → i < 32 → lo ≡ min_size (i % 32) → (i / 2 + 4 ≤ 24) × (lo + 8 * wid (i / 2 + 4) ≤ 2 ^ 40)
unfolding min_size
root-fits i l e =
    let a : 2 ^ (i % 32 / 2 + 7) ≤ 2 ^ 22 = pow_mono {j = 22} (omega arith) in
    let b : 2 ^ (i / 2 + 4) ≤ 2 ^ 19 = pow_mono {j = 19} (omega arith) in
    (omega arith, omega (arith, wid_pow (i / 2 + 4), twice (i % 32 % 2) (2 ^ (i % 32 / 2 + 7)) (omega arith)))
  where
    twice : (d p : ℕ) → d < 2 → (2 + d) * p ≤ 3 * p
    twice zero p l = omega arith
    twice (suc zero) p l = omega arith
    twice (suc (suc d)) p l = absurd (let z : ⊥ = omega arith in z)

-- the state of the loop: the bins from here are the bins, and no size is noted
pub record Trees (r w m₀ : List ℕ) (i : ℕ) (m s : List ℕ) : Type 0 where
  pub bins : Binned (tree_bin_ok wide r w no_marks) m₀ i m
  pub none : s ≡ no_marks

pub trees_start : (r w m : List ℕ) {s : List ℕ} → s ≡ no_marks → Trees r w m 0 m s
trees_start r w m e = record { bins = bins_start (tree_bin_ok wide r w no_marks) m; none = e }

module _ (r w m₀ : List ℕ) (i : ℕ) (m s : List ℕ) (v : Trees r w m₀ i m s) where
  pub trees_end : 32 ≤ i → checked true m ≡ tree_bins_ok wide r w m₀
  unfolding tree_bins_ok
  trees_end l = bins_end (tree_bin_ok wide r w no_marks) m₀ i m v.bins l

  module _ (l : i < 32) {x : Bool} {m₁ : List ℕ} (e : checked x m₁ ≡ tree_bin_ok wide r w s i m) where
    here : checked x m₁ ≡ tree_bin_ok wide r w no_marks i m
    here = e ∙ ap (λ a. tree_bin_ok wide r w a i m) v.none

    pub trees_bad : x ≡ false → checked false m₁ ≡ tree_bins_ok wide r w m₀
    unfolding tree_bins_ok
    trees_bad q = bins_bad (tree_bin_ok wide r w no_marks) m₀ i m v.bins l here q

    pub trees_turn : {s₁ : List ℕ} → x ≡ true → (x ≡ true → s₁ ≡ s) → Trees r w m₀ (i + 1) m₁ s₁
    trees_turn q f = record { bins = bins_turn (tree_bin_ok wide r w no_marks) m₀ i m v.bins l here q; none = f q ∙ v.none }

pub ruleset laws = (root-fits, trees_start, tree_bin_empty)
