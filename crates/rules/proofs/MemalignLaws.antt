-- MEMALIGN'S GRANT: malloc's block for nb + al + 4 words, its lead given back, then its tail: three grants, each in the place of the one before.
-- The lead is even, none or more than 4 words, and at most al + 4, so what is left holds the need; the place behind it is aligned. What is
-- granted has nb words, or up to 4 more. Assumes nothing.
use Rattle.std.specs.Prelude.{◌≡◌, refl, true, ◌↔◌, ℕ, suc, ◌+◌, ◌-◌, ◌*◌, ◌/◌, ◌≤◌, ◌<◌, ◌%◌, ltb, eqb}
use Rattle.std.proofs.Common.{sym, ◌∙◌, ap, subst, arith, div-mul-le_self, mul_left_comm, suc-mul, ltb-true, ltb-false, eqb-true}
use Rattle.std.proofs.Math.Option.{Option, none, some}
use Rattle.std.proofs.Math.Nat.{lt-div-mul-add}
use Rattle.std.proofs.lemmas.Bool.{eqb-false}
use Rattle.words.specs.Logic.{pick_case}
use Rattle.words.specs.Edition.{Edition}
use Rattle.tiling.specs.Tiling.{used, Starts, starts_split}
use Rattle.rules.specs.Heap.{Heap}
use Rattle.rules.specs.Malloc.{Grant, malloc}
use Rattle.rules.specs.Realloc.{shrink}
use Rattle.rules.specs.Memalign.{gap, lead_to, give_lead, give_tail, trimmed, aligned, memalign}
use Rattle.rules.specs.Source.{Source}
use Rattle.rules.specs.Tidy.{TidyHeap, starts_even'}
use Rattle.rules.specs.Lookup.{split_size}
use Rattle.rules.specs.Blocks.{Granted, Grants, granted_below, granted_then}
use Rattle.rules.specs.MallocLaws.{malloc-grants}
use Rattle.rules.proofs.Cutting.{as_granted, keep_second}
use Rattle.rules.proofs.ReallocLaws.{shrink-grants, some_none}
use Rattle.rules.specs.MemalignLaws.{GrantsAligned, Lead}

-- ---- the lead

-- "A lead of 32 or less moves on to the next aligned place"
pub lead_is : (p al m : ℕ) → p % 2 ≡ 0 → al ≡ 2 * m → 4 ≤ al → Lead p al (lead_to p al)
lead_is p al m v q l =
    pick_case (Lead p al) (eqb g 0)
    (λ a. record { even = refl; most = omega arith; more = λ z. absurd (z refl); times = x / al; aligned = omega (arith, eqb-true g 0 a, above) })
    (λ a. pick_case (Lead p al) (ltb 4 g) (λ b. record { even = even; most = omega (arith, small); more = λ _. ltb-true 4 g b; times = x / al; aligned = omega (arith, above) })
    (λ b. record { even = omega (arith, even, q); most = omega (arith, ltb-false 4 g b); more = λ _. omega (arith, eqb-false g 0 a); times = suc (x / al); aligned = omega (arith, above, suc-mul (x / al) al) }))
  where
    g : ℕ
    g = gap p al

    x : ℕ
    x = p + 2 + al - 1

    above : p + 2 ≤ x / al * al
    above = let pos : 0 < al = omega arith in omega (arith, lt-div-mul-add {a = x} {b = al} pos)

    small : g < al
    small = omega (arith, div-mul-le_self x al)

    even : g % 2 ≡ 0
    even = omega (arith, ap (λ z. x / al * z) q ∙ mul_left_comm (x / al) 2 m, above)

-- ---- lead and tail

module _ (e : Edition) (h : Heap) (t : TidyHeap h) (p s : ℕ) (st : Starts 0 h.chunks p (used s)) where
  -- no lead, or one that is cut off and given back: what is left is the block
  pub lead_grants : (k : ℕ) → k % 2 ≡ 0 → ((k ≡ 0 → ⊥) → 4 < k) → k + 4 ≤ s → Granted h (give_lead e h p s k) (p + k) (s - k) (s - k + 1) (λ x. x ≡ p)
  lead_grants k v more fit =
      pick_case (λ z. Granted h z (p + k) (s - k) (s - k + 1) (λ x. x ≡ p)) (eqb k 0)
      (λ z. let q = eqb-true k 0 z in subst (λ y. Granted h h y (s - k) (s - k + 1) (λ x. x ≡ p)) (let y : p ≡ p + k = omega arith in y) (as_granted h t p s st (s - k) (s - k + 1) (omega arith) (omega arith)))
      (λ z. let big = more (eqb-false k 0 z) in keep_second h t p s st e k (s - k) (omega arith) v (omega arith) (omega arith) (s - k) (s - k + 1) (omega arith) (omega arith))

  -- "The tail goes back only if size > nb + 32"
  tail_grants : (nb : ℕ) → nb % 2 ≡ 0 → 4 ≤ nb → nb ≤ s → Granted h (give_tail e h p s nb) p nb (nb + 5) (λ x. x ≡ p)
  tail_grants nb v l fit =
      pick_case (λ z. Granted h z p nb (nb + 5) (λ x. x ≡ p)) (ltb (nb + 4) s)
      (λ _. granted_below h (shrink e h p s nb) p nb (nb + 4) (nb + 5) (λ x. x ≡ p) (omega arith) (shrink-grants e h p s nb t st v l fit))
      (λ z. as_granted h t p s st nb (nb + 5) fit (omega (arith, ltb-false (nb + 4) s z)))

pub memalign-grants : (e : Edition) (h : Heap) (al m nb : ℕ) → TidyHeap h → al ≡ 2 * m → 4 ≤ al → nb % 2 ≡ 0 → 4 ≤ nb → Source e h (nb + al + 4) (malloc e h (nb + al + 4))
    → GrantsAligned h al nb (memalign e h al nb)
memalign-grants e h al m nb t q la v l src = go (malloc e h (nb + al + 4)) (malloc-grants e h (nb + al + 4) t (omega arith) (omega arith) (malloc e h (nb + al + 4)) src)
  where
    go : (o : Option Grant) → Grants h (nb + al + 4) (nb + al + 4 + 4) (λ x. ⊥) o → GrantsAligned h al nb (aligned e o al nb)
    go none g = tt
    go (some a) g =
        subst (λ z. GrantsAligned h al nb (some (trimmed e a.heap p z k nb))) (sym (split_size a.heap.chunks p (used s) g.changes.tidy.chunks (starts_split 0 a.heap.chunks p (used s) g.block))) (
          granted_then h a.heap (give_tail e cut (p + k) (s - k) nb) p (p + k) (nb + al + 4) (nb + al + 4 + 4) nb (nb + 5) (λ x. ⊥) g
              (granted_then a.heap cut (give_tail e cut (p + k) (s - k) nb) (p + k) (p + k) (s - k) (s - k + 1) nb (nb + 5) (λ x. x ≡ p) lead
              (tail_grants e cut lead.changes.tidy (p + k) (s - k) rest nb v l (omega (arith, ld.most, g.large)))),
          (ld.times, ld.aligned),
        )
      where
        p : ℕ
        p = a.place

        s : ℕ
        s = g.words

        k : ℕ
        k = lead_to p al

        ld : Lead p al k
        ld = lead_is p al m (starts_even' true 0 a.heap.chunks p (used s) g.changes.tidy.chunks refl g.block) q la

        cut : Heap
        cut = give_lead e a.heap p s k

        lead : Granted a.heap cut (p + k) (s - k) (s - k + 1) (λ x. x ≡ p)
        lead = lead_grants e a.heap g.changes.tidy p s g.block k ld.even ld.more (omega (arith, ld.most, g.large))

        rest : Starts 0 cut.chunks (p + k) (used (s - k))
        rest = subst (λ n. Starts 0 cut.chunks (p + k) (used n)) (let y : lead.words ≡ s - k = omega (arith, lead.large, lead.tight) in y) lead.block

-- "refusal 6 exactly when that request finds no room"
pub memalign_none : (e : Edition) (h : Heap) (al nb : ℕ) → memalign e h al nb ≡ none ↔ malloc e h (nb + al + 4) ≡ none
memalign_none e h al nb = go (malloc e h (nb + al + 4))
  where
    go : (o : Option Grant) → aligned e o al nb ≡ none ↔ o ≡ none
    go none = ((λ q. refl), (λ q. refl))
    go (some g) = ((λ q. some_none q), (λ q. some_none q))
