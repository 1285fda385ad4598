-- MALLOC'S GRANT, whatever its source: a block of the need, or of less than 4 words more, at a place where no block stood; every block in use stays,
-- nothing else appears, the heap stays tidy and the total stays. From a free chunk it is one retiling step there, from the top one at the end
-- of the chunks. By cases on where the answer comes from (`Source`), so this is of every answer that malloc has. Assumes nothing.
use Rattle.std.specs.Prelude.{◌≡◌, refl, List, [], ◌∷◌, ◌++◌, ℕ, ◌+◌, ◌-◌, ◌≤◌, ◌<◌, ◌%◌, leb}
use Rattle.std.proofs.Common.{sym, ◌∙◌, ap, append-nil, inl, arith, leb-true, leb-false}
use Rattle.std.proofs.Math.Option.{Option, some}
use Rattle.words.specs.Logic.{pick_case}
use Rattle.words.specs.Edition.{Edition}
use Rattle.tiling.specs.Tiling.{Chunk, used, free, end_of, Starts, Split, starts_split}
use Rattle.rules.specs.Heap.{Heap, heap_chunks, heap_tiles}
use Rattle.rules.specs.Binning.{retile}
use Rattle.rules.specs.Malloc.{Grant, Rest, settle, serve}
use Rattle.rules.specs.Source.{Source, nowhere, from_top_lem, from_chunk, TakenOut}
use Rattle.rules.specs.Tidy.{TidyHeap, all_free}
use Rattle.rules.specs.Lookup.{split_retile}
use Rattle.rules.specs.Blocks.{Granted, Grants}
use Rattle.rules.specs.Splice.{splice_grants, serve-part, serve-whole}
use Rattle.rules.specs.Leaves.{SameTiles, settle_leaves, taken_leaves}

-- ---- from a free chunk

-- a rest of 4 words or more is free, less stays with the block
serve-grants : (e : Edition) (r : Rest) (h h₀ : Heap) (x s nb : ℕ) → TidyHeap h → (k : Split 0 h.chunks x (free s)) → nb % 2 ≡ 0 → 4 ≤ nb → nb ≤ s → TakenOut e h x s h₀
    → Grants h nb (nb + 4) (λ y. ⊥) (some (serve e r h₀ x s nb))
serve-grants e r h h₀ x s nb t k v l fit out =
    pick_case (λ (g : Grant). Granted h g.heap g.place nb (nb + 4) (λ y. ⊥)) (leb 4 (s - nb))
    (λ z. let same = settle_leaves e r cut (x + nb) (s - nb) in
    serve-part h t k.before (free s ∷ []) k.after k.whole x s k.place (omega arith) refl (λ y. ⊥) (λ y u. absurd u) unused
    (settle e r cut (x + nb) (s - nb)) nb v l (leb-true 4 (s - nb) z) (same.0 ∙ retiled (used nb ∷ free (s - nb) ∷ [])) (same.1 ∙ taken.1))
    (λ z. serve-whole h t k.before (free s ∷ []) k.after k.whole x s k.place (omega arith) refl (λ y. ⊥) (λ y u. absurd u) unused
    (heap_chunks h₀ (retile 0 h₀.chunks x (used s ∷ []))) nb (nb + 4) (omega arith) fit (omega (arith, leb-false 4 (s - nb) z)) (retiled (used s ∷ [])) taken.1)
  where
    taken : SameTiles h h₀
    taken = taken_leaves e h x s h₀ out

    cut : Heap
    cut = heap_chunks h₀ (retile 0 h₀.chunks x (used nb ∷ free (s - nb) ∷ []))

    retiled : (new : List Chunk) → retile 0 h₀.chunks x new ≡ k.before ++ (new ++ k.after)
    retiled new = ap (λ c. retile 0 c x new) taken.0 ∙ split_retile h.chunks x (free s) new t.chunks k

    unused : (y n : ℕ) → Starts (end_of 0 k.before) (free s ∷ []) y (used n) → ⊥
    unused y n u = all_free (end_of 0 k.before) (free s ∷ []) y n tt u

-- ---- from the top

-- a rest of 2 words or more stays top
top_grants : (h : Heap) (nb : ℕ) → TidyHeap h → nb % 2 ≡ 0 → 4 ≤ nb → nb < h.top → Granted h (heap_tiles h (h.chunks ++ (used nb ∷ [])) (h.top - nb)) (end_of 0 h.chunks) nb (nb + 4) (λ y. ⊥)
top_grants h nb t v l fit =
    splice_grants h (heap_tiles h (h.chunks ++ (used nb ∷ [])) (h.top - nb)) h.chunks [] nb [] [] t
    (record { was = sym (append-nil h.chunks); now = refl; sum = omega arith; fixed = inl refl; tidy = (v, l, tt); rest = tt; last = refl; least = omega (arith, t.top_even) })
    (end_of 0 h.chunks) refl tt (λ y. ⊥) (λ y z. absurd z) (λ y n z. z) nb (nb + 4) (omega arith) (omega arith)

-- ---- from wherever it comes

pub malloc-grants : (e : Edition) (h : Heap) (nb : ℕ) → TidyHeap h → nb % 2 ≡ 0 → 4 ≤ nb → (o : Option Grant) → Source e h nb o → Grants h nb (nb + 4) (λ x. ⊥) o
malloc-grants e h nb t v l o (nowhere small low) = tt
malloc-grants e h nb t v l o (from_top_lem small fit) = top_grants h nb t v l fit
malloc-grants e h nb t v l o (from_chunk r h₀ x s st fit out rest) = serve-grants e r h h₀ x s nb t (starts_split 0 h.chunks x (free s) st) v l fit out
