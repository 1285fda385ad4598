-- The retiling steps that serve a need: a loose free chunk is cut, or taken whole; words of the top are taken. Each keeps what is held, in step
-- with the rule. Assumes nothing.
use Rattle.std.specs.Prelude.{◌≡◌, refl, true, List, [], ◌∷◌, ◌++◌, ℕ, ◌+◌, ◌-◌, ◌*◌, ◌%◌, ◌≤◌, ◌<◌, length, set}
use Rattle.std.proofs.Common.{sym, ◌∙◌, ap, subst, inl, inr, arith, length-set, get_or-set_other}
use Rattle.words.specs.Edition.{Edition, W, enc}
use Rattle.words.specs.Fields.{ind}
use Rattle.tiling.specs.Tiling.{Chunk, Heads, end_append, used, free, end_of, last_use, Starts}
use Rattle.tiling.specs.Steps.{split_words, take_words, top_words, take_top}
use Rattle.tiling.specs.Swaps.{split_free, take-free}
use Rattle.rules.specs.Heap.{Heap, heap_chunks, heap_tiles}
use Rattle.rules.specs.Binning.{retile}
use Rattle.holds.specs.Holds.{Near}
use Rattle.holds.specs.Ops.{State, with_top}
use Rattle.holds.specs.Retile.{swap_near, swap_top}
use Rattle.holds.specs.Bin.{Says}
use Rattle.holds.specs.Lookup.{run_tidy, NextUsed}
use Rattle.rules.specs.Lookup.{retile_at}
use Rattle.rules.specs.Tidy.{starts_right}
use Rattle.holds.specs.Spot.{Spot}

module _ (e : Edition) (t : State) (h : Heap) (loose : List ℕ) (p s : ℕ) (n : Says e t h (p ∷ loose)) (k : Spot e t.words h p s) where
  retiled : (new : List Chunk) → retile 0 h.chunks p new ≡ k.xs ++ (new ++ k.ys)
  retiled new = ap (λ c. retile 0 c p new) k.whole ∙ ap (λ q. retile 0 (k.xs ++ (free s ∷ k.ys)) q new) k.place ∙ retile_at 0 true k.xs (free s) k.ys new (run_tidy e t.words 0 true (k.xs ++ (free s ∷ k.ys)) k.run)

  pub split_near : (nb r : ℕ) → s ≡ nb + r → nb % 2 ≡ 0 → 4 ≤ nb → 4 ≤ r
      → Near e t.ctl (split_words e t.words p nb r) (heap_chunks h (retile 0 h.chunks p (used nb ∷ free r ∷ []))) ((p + nb) ∷ loose) × Starts 0 (retile 0 h.chunks p (used nb ∷ free r ∷ [])) (p + nb) (free r)
  split_near nb r q v l lr =
      subst (λ c. Near e t.ctl (split_words e t.words p nb r) (heap_chunks h c) ((p + nb) ∷ loose) × Starts 0 c (p + nb) (free r)) (sym (retiled (used nb ∷ free r ∷ [])))
      (subst (λ a. Near e t.ctl (split_words e t.words a nb r) (heap_chunks h (k.xs ++ (used nb ∷ free r ∷ k.ys))) ((a + nb) ∷ loose) × Starts 0 (k.xs ++ (used nb ∷ free r ∷ k.ys)) (a + nb) (free r)) (sym k.place) (
        swap_near e t.ctl t.words (split_words e t.words a₀ nb r) h (p ∷ loose) ((a₀ + nb) ∷ loose) k.xs (free (nb + r) ∷ []) (used nb ∷ free r ∷ []) k.ys
            (subst (λ z. h.chunks ≡ k.xs ++ (free z ∷ k.ys)) q k.whole) n
            (split_free e t.words a₀ (last_use true k.xs) nb r v l (omega (arith, q, k.here.even)) lr k.here.apart (omega (arith, q, k.next.fits)))
            (λ x. omega (arith, ap (ind x) k.place)) (λ x. omega (arith, ap (ind x) k.place)),
        starts_right 0 k.xs (used nb ∷ free r ∷ k.ys) (a₀ + nb) (free r) (inr (inl (refl, refl))),
      ))
    where
      a₀ : ℕ
      a₀ = end_of 0 k.xs

  pub take_near : Near e t.ctl (take_words e t.words p s) (heap_chunks h (retile 0 h.chunks p (used s ∷ []))) loose
  take_near =
      subst (λ c. Near e t.ctl (take_words e t.words p s) (heap_chunks h c) loose) (sym (retiled (used s ∷ []) ∙ ap (λ z. k.xs ++ (used s ∷ z)) nx.whole))
      (subst (λ a. Near e t.ctl (take_words e t.words a s) (heap_chunks h (k.xs ++ (used s ∷ used nx.words ∷ nx.after))) loose) (sym k.place)
      (swap_near e t.ctl t.words (take_words e t.words a₀ s) h (p ∷ loose) loose k.xs (free s ∷ used nx.words ∷ []) (used s ∷ used nx.words ∷ []) nx.after
      (k.whole ∙ ap (λ z. k.xs ++ (free s ∷ z)) nx.whole) n
      (take-free e t.words a₀ (last_use true k.xs) s nx.words k.here.even k.here.least k.here.apart nx.here nx.fits)
      (λ x. omega (arith, ap (ind x) k.place)) (λ x. omega (arith, ap (ind x) k.place))))
    where
      a₀ : ℕ
      a₀ = end_of 0 k.xs

      nx : NextUsed e t.words a₀ s k.ys (length t.words)
      nx = k.next

-- ---- from the top

pub top_near : (e : Edition) (t : State) (h : Heap) (nb : ℕ) → nb % 2 ≡ 0 → 4 ≤ nb → nb < h.top → Says e t h []
    → Near e (with_top t.ctl (enc e (end_of 0 h.chunks + nb)) (W e * (h.top - nb))) (top_words e t.words (end_of 0 h.chunks) nb (h.top - nb)) (heap_tiles h (h.chunks ++ (used nb ∷ [])) (h.top - nb)) []
top_near e t h nb v l lt n =
    subst (λ a. Near e (with_top t.ctl (enc e a) (W e * (h.top - nb))) ws (heap_tiles h (cs ++ (used nb ∷ [])) (h.top - nb)) []) (end_append 0 cs (used nb ∷ []))
    (swap_top e t.ctl t.words ws h [] [] cs [] (used nb ∷ []) (h.top - nb) (nil cs) n (simp length-set)
    (take_top e t.words 0 true cs nb (h.top - nb) v l (omega (arith, n.heads.top.even)) (omega (arith, n.heads.top.even)) (subst (Heads e t.words cs) same n.heads))
    (λ i k. get_or-set_other (set t.words (p + nb + 1) (W e * (h.top - nb) + 1)) (p + 1) i (W e * nb + 3) 0 (λ z. omega arith) ∙ get_or-set_other t.words (p + nb + 1) i (W e * (h.top - nb) + 1) 0 (λ z. omega arith))
    (λ x. omega arith) (λ x. refl))
  where
    cs : List Chunk
    cs = h.chunks

    p : ℕ
    p = end_of 0 cs

    ws : List ℕ
    ws = top_words e t.words p nb (h.top - nb)

    same : h.top ≡ nb + (h.top - nb)
    same = omega arith

    nil : (xs : List Chunk) → xs ≡ xs ++ []
    nil [] = refl
    nil (x ∷ xs) = ap (λ z. x ∷ z) (nil xs)
