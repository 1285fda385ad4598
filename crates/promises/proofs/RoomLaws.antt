-- ITS OWN PLACE, IN NUMBERS: the rule of a resize finds room where the block is exactly when `RoomAt` says so. By what stands behind the
-- block: the
-- top, a block in use, or a free chunk, and no two chunks start at one place. Assumes nothing.
use Rattle.std.specs.Prelude.{◌≡◌, refl, true, List, [], ◌∷◌, ◌++◌, ◌↔◌, ℕ, ◌+◌, ◌<◌, leb, ltb}
use Rattle.std.proofs.Common.{sym, ◌∙◌, ap, subst, inl, inr, ⊎_elim, arith, leb-true, leb-false, ltb-true, ltb-false}
use Rattle.std.proofs.Math.Option.{Option, some}
use Rattle.words.specs.Logic.{pick_case}
use Rattle.words.specs.Edition.{wide}
use Rattle.index.specs.Sizes.{need_words}
use Rattle.tiling.specs.Tiling.{Chunk, used, free, size, end_of, end_append, Starts}
use Rattle.rules.specs.Heap.{Heap}
use Rattle.rules.specs.Calls.{block_of}
use Rattle.rules.specs.Realloc.{front, grow_in, resize_here}
use Rattle.rules.proofs.ReallocLaws.{some_none}
use Rattle.rules.specs.Lookup.{Block}
use Rattle.rules.specs.Tidy.{TidyHeap, differ, starts_right, starts_in', starts_size, starts_apart'}
use Rattle.promises.specs.Promises.{RoomAt, OwnPlace}

-- two chunks of one place are one
pub one_chunk : (h : Heap) → TidyHeap h → (q : ℕ) (c d : Chunk) → Starts 0 h.chunks q c → Starts 0 h.chunks q d → c ≡ d
one_chunk h t q c d a b =
    ⊎_elim (λ u. u.1)
    (λ u. absurd (let z : ⊥ = ⊎_elim (λ v. omega (arith, v, starts_size true 0 h.chunks q c t.chunks a))
    (λ v. omega (arith, v, starts_size true 0 h.chunks q d t.chunks b)) u in z))
    (starts_apart' 0 h.chunks q c q d a b)

module _ (h : Heap) (t : TidyHeap h) (p s nb : ℕ) (xs : List Chunk) (place : p ≡ end_of 0 xs) where
  abbrev Found : Option Heap → Type 0
  Found o = (k : Heap) × (o ≡ some k)

  -- what follows the block starts where it ends
  pub next : (c : Chunk) (ys : List Chunk) → h.chunks ≡ xs ++ (used s ∷ c ∷ ys) → Starts 0 h.chunks (p + s) c
  next c ys q =
      subst (λ z. Starts 0 z (p + s) c) (sym q)
      (starts_right 0 xs (used s ∷ c ∷ ys) (p + s) c (inr (inl (ap (λ a. a + s) place, refl))))

  pub last : h.chunks ≡ xs ++ (used s ∷ []) → p + s ≡ end_of 0 h.chunks
  last q = ap (λ a. a + s) place ∙ sym (ap (end_of 0) q ∙ end_append 0 xs (used s ∷ []))

  pub room-found : (ys : List Chunk) → h.chunks ≡ xs ++ (used s ∷ ys) → Found (resize_here wide h xs p s nb ys) → RoomAt h p s nb
  room-found ys q = pick_case (λ o. Found o → RoomAt h p s nb) (leb nb s) (λ z _. inl (leb-true nb s z)) (λ _. grows ys q)
    where
      grows : (ys : List Chunk) → h.chunks ≡ xs ++ (used s ∷ ys) → Found (grow_in wide h xs p s nb ys) → RoomAt h p s nb
      grows [] q =
          pick_case (λ o. Found o → RoomAt h p s nb) (ltb nb (s + h.top)) (λ z _. inr (inl (last q, ltb-true nb (s + h.top) z)))
          (λ _ u. some_none (sym u.1))
      grows (used n ∷ ys) q = λ u. some_none (sym u.1)
      grows (free b ∷ ys) q =
          pick_case (λ o. Found o → RoomAt h p s nb) (leb nb (s + b)) (λ z _. inr (inr (b, next (free b) ys q, leb-true nb (s + b) z)))
          (λ _ u. some_none (sym u.1))

  found-room : (ys : List Chunk) → h.chunks ≡ xs ++ (used s ∷ ys) → RoomAt h p s nb → Found (resize_here wide h xs p s nb ys)
  found-room ys q r = pick_case Found (leb nb s) (λ _. (_, refl)) (λ z. grows ys q (leb-false nb s z) r)
    where
      -- a chunk that follows ends behind the block
      longer : (c : Chunk) (ys : List Chunk) → h.chunks ≡ xs ++ (used s ∷ c ∷ ys) → p + s ≡ end_of 0 h.chunks → ⊥
      longer c ys q z = omega
          (arith, z, starts_in' 0 h.chunks (p + s) c (next c ys q), starts_size true 0 h.chunks (p + s) c t.chunks (next c ys q))

      grows : (ys : List Chunk) → h.chunks ≡ xs ++ (used s ∷ ys) → s < nb → RoomAt h p s nb → Found (grow_in wide h xs p s nb ys)
      grows ys q l (inl a) = absurd (let z : ⊥ = omega (arith, a, l) in z)
      grows [] q l (inr (inl a)) =
          pick_case Found (ltb nb (s + h.top)) (λ _. (_, refl))
          (λ z. absurd (let y : ⊥ = omega (arith, a.1, ltb-false nb (s + h.top) z) in y))
      grows (used n ∷ ys) q l (inr (inl a)) = absurd (longer (used n) ys q a.0)
      grows (free b ∷ ys) q l (inr (inl a)) = absurd (longer (free b) ys q a.0)
      grows [] q l (inr (inr a)) =
          absurd (let z : ⊥ = omega (
            arith,
            last q,
            starts_in' 0 h.chunks (p + s) (free a.0) a.1,
            starts_size true 0 h.chunks (p + s) (free a.0)
                t.chunks a.1,
          ) in z)
      grows (used n ∷ ys) q l (inr (inr a)) = differ n a.0 (one_chunk h t (p + s) (used n) (free a.0) (next (used n) ys q) a.1)
      grows (free b ∷ ys) q l (inr (inr a)) =
          pick_case Found (leb nb (s + b)) (λ _. (_, refl))
          (λ z. absurd (let y : ⊥ =
          omega (
            arith,
            a.2,
            leb-false nb (s + b) z,
            ap size
                (one_chunk h t (p + s) (free b) (free a.0) (next (free b) ys q) a.1),
          ) in y))

-- of the block at p, as `find` gives it: a resize to n bytes finds room there exactly when the page says so
pub own_place : (h : Heap) (t : TidyHeap h) (off n p s : ℕ) (b : Block h.chunks p s) → off ≡ block_of wide p
    → Starts 0 h.chunks p (used s)
    → ((k : Heap) × (resize_here wide h (front b.f) p s (need_words 8 n) b.f.after ≡ some k)) ↔ OwnPlace h off n
own_place h t off n p s b q st = (
  λ u. (p, s, st, q, room-found h t p s nb (front b.f) b.place b.f.after b.whole u),
  λ u. found-room h t p s nb (front b.f) b.place b.f.after b.whole (here u.0 u.1 u.2 u.3 u.4),
)
  where
    nb : ℕ
    nb = need_words 8 n

    here : (x r : ℕ) → Starts 0 h.chunks x (used r) → off ≡ block_of wide x → RoomAt h x r nb → RoomAt h p s nb
    here x r sx z room =
        let y : x ≡ p = omega (arith, q, z) in
        let e = ap size (one_chunk h t p (used r) (used s) (subst (λ a. Starts 0 h.chunks a (used r)) y sx) st) in
        subst (λ a. RoomAt h p a nb) e (subst (λ a. RoomAt h a r nb) y room)
