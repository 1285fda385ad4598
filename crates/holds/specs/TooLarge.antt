-- A need above every size in the tries finds nothing there, whatever their shapes. So best fit finds the smallest size that fits or nothing fits
-- (`BestFit`), whatever the need: no bound on it is left. Assumes nothing.
use Rattle.std.specs.Prelude.{◌≡◌, refl, false, [], ◌⊎◌, ℕ, zero, suc, ◌*◌, ◌≤◌, ◌<◌, eqb, leb, ltb, get_or}
use Rattle.std.proofs.Common.{sym, ◌∙◌, ap, subst, inr, ⊎_elim, arith, leb-true, le-ltb}
use Rattle.std.proofs.Math.ListN.{get_or-eq_default}
use Rattle.words.specs.Edition.{Edition, wide, narrow, W}
use Rattle.words.specs.Logic.{pick, pick_case, lt_or_le}
use Rattle.tries.specs.Bits.{bit}
use Rattle.tries.specs.Tree.{Tree, leaf, node, is_leaf, All, all_map}
use Rattle.tries.specs.Search.{Cand, better, down, walk, start}
use Rattle.rules.specs.BinOf.{trie_bin, trie_bits, huge}
use Rattle.rules.specs.Heap.{Heap, grows_some}
use Rattle.rules.specs.Malloc.{first_filled, best_from, best_large}
use Rattle.holds.specs.Ops.{State}
use Rattle.holds.specs.Bin.{Says}
use Rattle.holds.specs.BestFit.{Fits, Misses, trie_bytes, best_large_lem}

-- ---- the two searches, where nothing fits

better-keeps : (need p s : ℕ) (c : Cand) → s < need → better need p s c ≡ c
better-keeps need p s c l = pick_case (λ d. d ≡ c) (leb need s) (λ z. absurd (let b : ⊥ = omega (arith, leb-true need s z) in b)) (λ z. refl)

down-keeps : (need : ℕ) (t : Tree) (c : Cand) → All (λ s. s < need) t → down need t c ≡ c
down-keeps need leaf c a = refl
down-keeps need (node p ps s leaf r) c a = down-keeps need r (better need p s c) a.2 ∙ better-keeps need p s c a.0
down-keeps need (node p ps s (node p₁ ps₁ s₁ l₁ r₁) r) c a = down-keeps need (node p₁ ps₁ s₁ l₁ r₁) (better need p s c) a.1 ∙ better-keeps need p s c a.0

walk-keeps : (k need : ℕ) (t rst : Tree) (c : Cand) → All (λ s. s < need) t → All (λ s. s < need) rst → walk k need t rst c ≡ c
walk-keeps zero need leaf rst c a b = down-keeps need rst c b
walk-keeps (suc k) need leaf rst c a b = down-keeps need rst c b
walk-keeps zero need (node p ps s l r) rst c a b = better-keeps need p s c a.0
walk-keeps (suc k) need (node p ps s l r) rst c a b =
    pick_case (λ d. d ≡ c) (eqb s need) (λ _. q)
    (λ _. pick_case (λ d. d ≡ c) (bit k need) (λ _. walk-keeps k need r rst (better need p s c) a.2 b ∙ q)
    (λ _. walk-keeps k need l (pick (is_leaf r) rst r) (better need p s c) a.1 (pick_case (All (λ x. x < need)) (is_leaf r) (λ _. b) (λ _. a.2)) ∙ q))
  where
    q : better need p s c ≡ c
    q = better-keeps need p s c a.0

-- ---- a large need

module _ (e : Edition) (t : State) (h : Heap) (n : Says e t h []) (nb : ℕ) where
  none_fits : huge ≤ W e * nb → (i : ℕ) → All (λ s. s < nb) (get_or h.tries i leaf)
  none_fits hi i =
      ⊎_elim (λ l. all_map (λ s u. words e (omega arith)) (get_or h.tries i leaf) (trie_bytes e t h n i l))
      (λ l. subst (All (λ s. s < nb)) (sym (get_or-eq_default h.tries leaf {n = i} (omega (arith, n.tries.marks.count)))) tt) (lt_or_le i 32)
    where
      words : (e : Edition) {s : ℕ} → W e * s < W e * nb → s < nb
      words wide u = omega arith
      words narrow u = omega arith

  pub best_any : 256 ≤ W e * nb → Fits e h 0 nb (best_large e h nb) ⊎ Misses e h 0 nb (best_large e h nb)
  best_any lo = ⊎_elim (λ hi. best_large_lem e t h n nb lo hi) (λ hi. inr (record { missed = missed hi; small = λ j _ _. none_fits hi j })) (lt_or_le (W e * nb) huge)
    where
      c : Cand
      c = walk (trie_bits e (trie_bin e nb)) nb (get_or h.tries (trie_bin e nb) leaf) leaf (start 0 huge)

      past : (d : Cand) → d ≡ start 0 huge → ltb d.size huge ≡ false
      past d q = le-ltb d.size huge (omega (arith, ap (λ x. x.size) q))

      missed : huge ≤ W e * nb → ltb (best_large e h nb).size huge ≡ false
      missed hi =
          pick_case (λ (d : Cand). ltb d.size huge ≡ false) (ltb c.size huge)
          (λ _. past c (walk-keeps (trie_bits e (trie_bin e nb)) nb (get_or h.tries (trie_bin e nb) leaf) leaf (start 0 huge) (none_fits hi (trie_bin e nb)) tt))
          (λ _. let j = first_filled grows_some (suc (trie_bin e nb)) 0 h.tries in
          past (best_from h (suc (trie_bin e nb)) nb) (down-keeps nb (get_or h.tries j leaf) (start 0 huge) (none_fits hi j)))
