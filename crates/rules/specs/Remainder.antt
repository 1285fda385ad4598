-- WHERE THE REMAINDER GOES: what malloc leaves of the free chunk, or of the top, that served it. A rest of 4 words or more is a free chunk
-- behind the
-- block: the spare one for a small need or out of the spare chunk, else a binned one, and the spare chunk is as before; less stays with the
-- block. From the top the rest is the top. By where the answer comes from (`Source`). Assumes nothing.
use Rattle.std.specs.Prelude.{◌≡◌, refl, true, List, [], ◌∷◌, ◌++◌, ◌⊎◌, ℕ, ◌+◌, ◌-◌, ◌*◌, ◌≤◌, ◌<◌, leb}
use Rattle.std.proofs.Common.{sym, ◌∙◌, ap, subst, inl, inr, ⊎_elim, arith, leb-true, leb-false}
use Rattle.std.proofs.Math.Option.{Option, none, some}
use Rattle.words.specs.Logic.{pick_case}
use Rattle.words.specs.Edition.{Edition, W}
use Rattle.tiling.specs.Tiling.{Chunk, used, free, size, end_of, Starts, Split, starts_split}
use Rattle.rules.specs.Heap.{Heap, heap_chunks}
use Rattle.rules.specs.Binning.{retile, replace_old}
use Rattle.rules.specs.Malloc.{Grant, Rest, to_dv, to_bin, settle, serve}
use Rattle.rules.specs.Source.{TakenOut, was_dv, was_binned, RestOf, Source, nowhere, from_top_lem, from_chunk}
use Rattle.rules.specs.Tidy.{TidyHeap, starts_left, starts_right, starts_parts, starts_in', starts_size, starts_apart'}
use Rattle.rules.specs.Lookup.{split_retile}
use Rattle.rules.specs.Leaves.{bin_leaves, unbin_leaves, settle_leaves, taken_leaves}

-- g is what a need of nb words leaves of h, served from the free chunk of s words at x
pub record Left (e : Edition) (h g : Heap) (x s nb : ℕ) : Type 0 where
  pub cut : nb + 4 ≤ s → Starts 0 g.chunks x (used nb) × Starts 0 g.chunks (x + nb) (free (s - nb))
  pub whole : s < nb + 4 → Starts 0 g.chunks x (used s)
  pub spare : nb + 4 ≤ s → (W e * nb < 256) ⊎ (h.dv ≡ some x) → g.dv ≡ some (x + nb)
  pub binned : nb + 4 ≤ s → 256 ≤ W e * nb → (h.dv ≡ some x → ⊥) → g.dv ≡ h.dv
  pub stays : s < nb + 4 → (h.dv ≡ some x → ⊥) → g.dv ≡ h.dv
  pub others : (y : ℕ) (c : Chunk) → Starts 0 h.chunks y c → (y ≡ x → ⊥) → Starts 0 g.chunks y c

-- the spare chunk, after the remainder is settled and before
settled_dv : (e : Edition) (h : Heap) (p s : ℕ) → (settle e to_dv h p s).dv ≡ some p
settled_dv e h p s = go h.dv
  where
    go : (d : Option ℕ) → (replace_old e h d p).dv ≡ some p
    go none = refl
    go (some d) = refl

taken_dv : (e : Edition) (h : Heap) (x s : ℕ) (h₀ : Heap) → TakenOut e h x s h₀ → (h.dv ≡ some x → ⊥) → h₀.dv ≡ h.dv
taken_dv e h x s h₀ (was_dv q) ne = absurd (ne q)
taken_dv e h x s h₀ (was_binned q) ne = (unbin_leaves e h x s).1

module _ (e : Edition) (h : Heap) (t : TidyHeap h) (nb : ℕ) where
  module _ (r : Rest) (h₀ : Heap) (x s : ℕ) (st : Starts 0 h.chunks x (free s)) (fit : nb ≤ s) (out : TakenOut e h x s h₀)
      (rest : RestOf e h x nb r) where
    k : Split 0 h.chunks x (free s)
    k = starts_split 0 h.chunks x (free s) st

    retiled : (new : List Chunk) → retile 0 h₀.chunks x new ≡ k.before ++ (new ++ k.after)
    retiled new = ap (λ c. retile 0 c x new) (taken_leaves e h x s h₀ out).0 ∙ split_retile h.chunks x (free s) new t.chunks k

    -- what starts in the new chunks starts in the heap
    there : (g : Heap) (new : List Chunk) (y : ℕ) (c : Chunk) → g.chunks ≡ retile 0 h₀.chunks x new → Starts x (new ++ k.after) y c
        → Starts 0 g.chunks y c
    there g new y c q u =
        subst (λ z. Starts 0 z y c) (sym (q ∙ retiled new))
        (starts_right 0 k.before (new ++ k.after) y c (subst (λ z. Starts z (new ++ k.after) y c) k.place u))

    -- what starts elsewhere stays, since the new chunks end where the old one did
    elsewhere : (g : Heap) (new : List Chunk) → g.chunks ≡ retile 0 h₀.chunks x new → end_of x new ≡ x + s → (y : ℕ) (c : Chunk)
        → Starts 0 h.chunks y c → (y ≡ x → ⊥) → Starts 0 g.chunks y c
    elsewhere g new q ends y c sy ne =
        ⊎_elim (λ u. subst (λ z. Starts 0 z y c) (sym (q ∙ retiled new)) (starts_left 0 k.before (new ++ k.after) y c u))
        (λ u. ⊎_elim (λ v. absurd (ne (v.0 ∙ sym k.place)))
        (λ v. there g new y c q
        (starts_right x new k.after y c (subst (λ z. Starts z k.after y c) (ap (λ z. z + s) (sym k.place) ∙ sym ends) v))) u)
        (starts_parts 0 k.before (free s ∷ k.after) y c (subst (λ z. Starts 0 z y c) k.whole sy))

    abbrev cut_heap : Heap
    cut_heap = heap_chunks h₀ (retile 0 h₀.chunks x (used nb ∷ free (s - nb) ∷ []))

    spare_is : (r : Rest) → RestOf e h x nb r → (W e * nb < 256) ⊎ (h.dv ≡ some x)
        → (settle e r cut_heap (x + nb) (s - nb)).dv ≡ some (x + nb)
    spare_is to_dv a u = settled_dv e cut_heap (x + nb) (s - nb)
    spare_is to_bin a u = absurd (⊎_elim (λ z. let y : ⊥ = omega (arith, z, a.0) in y) a.1 u)

    binned_is : (r : Rest) → RestOf e h x nb r → 256 ≤ W e * nb → (h.dv ≡ some x → ⊥) → (settle e r cut_heap (x + nb) (s - nb)).dv ≡ h.dv
    binned_is to_dv a l ne = absurd (⊎_elim (λ z. let y : ⊥ = omega (arith, z, l) in y) ne a)
    binned_is to_bin a l ne = (bin_leaves e cut_heap (x + nb) (s - nb)).1 ∙ taken_dv e h x s h₀ out ne

    serve_left : Left e h (serve e r h₀ x s nb).heap x s nb
    serve_left =
        pick_case (λ (g : Grant). Left e h g.heap x s nb) (leb 4 (s - nb))
        (λ z. let big = leb-true 4 (s - nb) z in
        record {
          cut = λ _. (at_x (inl (refl, refl)), at_x (inr (inl (refl, refl))));
          whole = λ l. absurd (let y : ⊥ = omega (arith, l, big) in y);
          spare = λ _ u. spare_is r rest u;
          binned = λ _ l ne. binned_is r rest l ne;
          stays = λ l. absurd (let y : ⊥ = omega (arith, l, big) in y);
          others = elsewhere (settle e r cut_heap (x + nb) (s - nb)) (used nb ∷ free (s - nb) ∷ [])
              (settle_leaves e r cut_heap (x + nb) (s - nb)).0 (omega arith);
        })
        (λ z. let low = leb-false 4 (s - nb) z in
        record {
          cut = λ l. absurd (let y : ⊥ = omega (arith, l, low) in y);
          whole = λ _. there (heap_chunks h₀ (retile 0 h₀.chunks x (used s ∷ []))) (used s ∷ []) x (used s) refl (inl (refl, refl));
          spare = λ l. absurd (let y : ⊥ = omega (arith, l, low) in y);
          binned = λ l. absurd (let y : ⊥ = omega (arith, l, low) in y);
          stays = λ _ ne. taken_dv e h x s h₀ out ne;
          others = elsewhere (heap_chunks h₀ (retile 0 h₀.chunks x (used s ∷ []))) (used s ∷ []) refl (omega arith);
        })
      where
        at_x : {y : ℕ} {c : Chunk} → Starts x (used nb ∷ free (s - nb) ∷ k.after) y c
            → Starts 0 (settle e r cut_heap (x + nb) (s - nb)).chunks y c
        at_x u =
            there (settle e r cut_heap (x + nb) (s - nb)) (used nb ∷ free (s - nb) ∷ []) _ _
            (settle_leaves e r cut_heap (x + nb) (s - nb)).0 u

  place_of_lem : (k : Rest) (h₀ : Heap) (x s : ℕ) → (serve e k h₀ x s nb).place ≡ x
  place_of_lem k h₀ x s = pick_case (λ (g : Grant). g.place ≡ x) (leb 4 (s - nb)) (λ _. refl) (λ _. refl)

  -- the chunk that served is the one at the grant's place
  pub malloc_left : (o : Option Grant) (g : Grant) → Source e h nb o → o ≡ some g → (x s : ℕ) → Starts 0 h.chunks x (free s)
      → g.place ≡ x
      → Left e h g.heap x s nb
  malloc_left o g (nowhere small low) q x s st p = absurd (none_some q)
    where
      none_some : none ≡ some g → ⊥
      none_some z = let y : ◌≡◌ {A = ℕ} 0 1 = cc in let b : ⊥ = omega arith in b
  malloc_left o g (from_top_lem small fit) q x s st p =
      absurd (let z : ⊥ = omega
      (arith, ap place_at q, p, starts_in' 0 h.chunks x (free s) st, starts_size true 0 h.chunks x (free s) t.chunks st) in z)
    where
      place_at : Option Grant → ℕ
      place_at none = 0
      place_at (some a) = a.place
  malloc_left o g (from_chunk k h₀ y u sy fit out rest) q x s st p =
      ⊎_elim (λ z. subst (λ (a : Heap). Left e h a x s nb) (ap heap_at q)
      (subst (λ m. Left e h (serve e k h₀ y u nb).heap m s nb) z.0
      (subst (λ m. Left e h (serve e k h₀ y u nb).heap y m nb) (ap size z.1) (serve_left k h₀ y u sy fit out rest))))
      (λ z. absurd (let w : ⊥ = ⊎_elim (λ v. apart v) (λ v. apart' v) z in w))
      (starts_apart' 0 h.chunks y (free u) x (free s) sy st)
    where
      heap_at : Option Grant → Heap
      heap_at none = h
      heap_at (some a) = a.heap

      place_at : Option Grant → ℕ
      place_at none = 0
      place_at (some a) = a.place

      same : y ≡ x
      same = sym (place_of_lem k h₀ y u) ∙ ap place_at q ∙ p

      apart : y + u ≤ x → ⊥
      apart v = omega (arith, same, v, starts_size true 0 h.chunks y (free u) t.chunks sy)

      apart' : x + s ≤ y → ⊥
      apart' v = omega (arith, same, v, starts_size true 0 h.chunks x (free s) t.chunks st)
