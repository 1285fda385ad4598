-- The two searches on the record and the words, and that they are the rules' searches on the heap that is held. Assumes nothing.
use Rattle.std.specs.Prelude.{◌≡◌, List, [], ◌∷◌, ltb, length, get_or}
use Rattle.std.proofs.Math.Path.{refl, ap}
use Rattle.std.proofs.Common.{sym, ◌∙◌, arith}
use Rattle.std.proofs.Math.Logic.{⊎_elim}
use Prim.Native.Nat.{ℕ, zero, suc, ◌*◌, ◌≤◌, ◌<◌}
use Rattle.std.proofs.Math.ListN.{get_or-eq_default}
use Rattle.words.specs.Edition.{Edition, W, no_link, root_mark}
use Rattle.words.specs.Fields.{fld}
use Rattle.words.specs.Logic.{pick, le_or_lt}
use Rattle.index.specs.BinMap.{first_from}
use Rattle.tries.specs.Tree.{leaf}
use Rattle.tries.specs.Search.{Cand, walk, down, start}
use Rattle.tries.specs.SearchMem.{walk_m, down_m}
use Rattle.tries.proofs.SearchMem.{walk_tree, down_tree, shape_depth}
use Rattle.rules.specs.BinOf.{trie_bin, trie_bits, trie_low, InTrie, trie_in, huge}
use Rattle.rules.specs.Heap.{Heap, grows_some}
use Rattle.rules.specs.Malloc.{first_filled, best_from, best_large}
use Rattle.holds.specs.Ops.{State}
use Rattle.holds.specs.Bin.{Says}
use Rattle.holds.specs.FirstBin.{first_agrees}

-- ---- L1

-- from the link v down the leftmost children, in bin j
abbrev pub search_down : Edition → State → ℕ → ℕ → Cand
search_down e t j nb = down_m e (fld t.words) (suc (trie_bits e j)) nb (get_or t.ctl.roots j (no_link e)) (start 0 huge)

unfoldable pub best_from_s : Edition → State → ℕ → ℕ → Cand
best_from_s e t i nb = search_down e t (first_from 32 t.ctl.tree_map i) nb

unfoldable pub best_large_s : Edition → State → ℕ → Cand
best_large_s e t nb =
    let i = trie_bin e nb in
    let c = walk_m e (fld t.words) (suc (trie_bits e i)) (trie_bits e i) nb (get_or t.ctl.roots i 0) (no_link e) (start 0 huge) in
    pick (ltb c.size huge) c (best_from_s e t (suc i) nb)

module _ (e : Edition) (t : State) (h : Heap) (n : Says e t h []) where
  -- L1 is the rule
  pub best_from_is : (i nb : ℕ) → i ≤ 32 → best_from_s e t i nb ≡ best_from h i nb
  unfolding best_from_s
  best_from_is i nb l =
      ap (λ k. search_down e t k nb) (first_agrees grows_some leaf t.ctl.tree_map i h.tries n.tries.marks l) ∙ ⊎_elim out inside (le_or_lt 32 j)
    where
      j : ℕ
      j = first_filled grows_some i 0 h.tries

      inside : j < 32 → search_down e t j nb ≡ best_from h i nb
      inside k =
          down_tree e (fld t.words) j (root_mark e) (suc (trie_bits e j)) nb (get_or t.ctl.roots j (no_link e)) (get_or h.tries j leaf) (start 0 huge)
          (shape_depth (trie_bits e j) (trie_low e j) (get_or h.tries j leaf) (n.tries.at j k).shape)
          (other_default t.ctl.roots j (no_link e) (omega (arith, n.tries.count)) ∙ n.tries.linked j k) (n.tries.at j k).tree
        where
          other_default : (xs : List ℕ) (k d : ℕ) → k < length xs → get_or xs k d ≡ get_or xs k 0
          other_default [] k d u = absurd (omega arith)
          other_default (x ∷ xs) zero d u = refl
          other_default (x ∷ xs) (suc k) d u = other_default xs k d (omega arith)

      out : 32 ≤ j → search_down e t j nb ≡ best_from h i nb
      out z =
          ap (λ v. down_m e (fld t.words) (suc (trie_bits e j)) nb v (start 0 huge)) (get_or-eq_default t.ctl.roots (no_link e) {n = j} (omega (arith, n.tries.count)))
          ∙ down_tree e (fld t.words) j 0 (suc (trie_bits e j)) nb (no_link e) leaf (start 0 huge) (omega arith) refl tt
          ∙ ap (λ u. down nb u (start 0 huge)) (sym (get_or-eq_default h.tries leaf {n = j} (omega (arith, n.tries.marks.count))))

  pub best_large_is : (nb : ℕ) → 256 ≤ W e * nb → W e * nb < huge → best_large_s e t nb ≡ best_large e h nb
  unfolding best_large_s
  best_large_is nb lo hi =
      ap (λ z. pick (ltb z.size huge) z (best_from_s e t (suc i) nb))
      (walk_tree e (fld t.words) i (root_mark e) (suc (trie_bits e i)) (trie_bits e i) nb (get_or t.ctl.roots i 0) (get_or h.tries i leaf) 0 (no_link e) leaf (start 0 huge)
      (shape_depth (trie_bits e i) (trie_low e i) (get_or h.tries i leaf) (n.tries.at i b.0).shape) (n.tries.linked i b.0) (n.tries.at i b.0).tree (omega arith) refl tt)
      ∙ ap (λ z. pick (ltb c.size huge) c z) (best_from_is (suc i) nb (omega (arith, b.0)))
    where
      i : ℕ
      i = trie_bin e nb

      b : (i < 32) × InTrie e i nb
      b = trie_in e nb lo hi

      c : Cand
      c = walk (trie_bits e i) nb (get_or h.tries i leaf) leaf (start 0 huge)
