-- WHAT THE RULES KEEP of the chunks, with no words below: sizes are even and at least 4, no two free chunks adjoin, and the top stands behind a
-- chunk in use. The heap that set-up makes is so. Laws of append and split, and where a chunk lies in such a list: inside it, at an even place,
-- and apart from every other one; all by recursion on the list. Assumes nothing.
use Rattle.std.specs.Prelude.{◌≡◌, refl, Bool, true, false, List, [], ◌∷◌, ◌++◌, ◌⊎◌, ℕ, ◌+◌, ◌≤◌, ◌%◌}
use Rattle.std.proofs.Common.{sym, ◌∙◌, ap, inl, inr, ⊎_elim, arith}
use Rattle.tiling.specs.Tiling.{Chunk, used, free, size, in_use, end_of, last_use, total, end_ge, Starts}
use Rattle.rules.specs.Heap.{Heap, fresh_heap}

-- the Bool: what stands before is in use
abbrev pub Tidy : Bool → List Chunk → Type 0
Tidy pu [] = Unit {0}
Tidy pu (used s ∷ cs) = (s % 2 ≡ 0) × (4 ≤ s) × Tidy true cs
Tidy pu (free s ∷ cs) = (pu ≡ true) × (s % 2 ≡ 0) × (4 ≤ s) × Tidy false cs

pub record TidyHeap (h : Heap) : Type 0 where
  pub chunks : Tidy true h.chunks
  pub last : last_use true h.chunks ≡ true
  pub top_even : h.top % 2 ≡ 0
  pub top_least : 2 ≤ h.top

-- set-up's heap, in every arena that document 01 allows
pub fresh_tidy : (n : ℕ) → n % 2 ≡ 0 → 16 ≤ n → TidyHeap (fresh_heap n)
fresh_tidy n v l = record { chunks = tt; last = refl; top_even = omega arith; top_least = omega arith }

-- ---- append and split

pub tidy_head : (pu : Bool) (c : Chunk) (cs : List Chunk) → Tidy pu (c ∷ cs) → (size c % 2 ≡ 0) × (4 ≤ size c) × Tidy (in_use c) cs
tidy_head pu (used s) cs t = t
tidy_head pu (free s) cs t = (t.1, t.2, t.3)

pub tidy_append : (pu : Bool) (xs ys : List Chunk) → Tidy pu xs → Tidy (last_use pu xs) ys → Tidy pu (xs ++ ys)
tidy_append pu [] ys t u = u
tidy_append pu (used s ∷ xs) ys t u = (t.0, t.1, tidy_append true xs ys t.2 u)
tidy_append pu (free s ∷ xs) ys t u = (t.0, t.1, t.2, tidy_append false xs ys t.3 u)

pub tidy_left : (pu : Bool) (xs ys : List Chunk) → Tidy pu (xs ++ ys) → Tidy pu xs
tidy_left pu [] ys t = tt
tidy_left pu (used s ∷ xs) ys t = (t.0, t.1, tidy_left true xs ys t.2)
tidy_left pu (free s ∷ xs) ys t = (t.0, t.1, t.2, tidy_left false xs ys t.3)

pub tidy_right : (pu : Bool) (xs ys : List Chunk) → Tidy pu (xs ++ ys) → Tidy (last_use pu xs) ys
tidy_right pu [] ys t = t
tidy_right pu (x ∷ xs) ys t = tidy_right (in_use x) xs ys (tidy_head pu x (xs ++ ys) t).2

-- what may stand after a free chunk may stand after one in use
pub tidy_true : (pu : Bool) (cs : List Chunk) → Tidy pu cs → Tidy true cs
tidy_true pu [] t = tt
tidy_true pu (used s ∷ cs) t = t
tidy_true pu (free s ∷ cs) t = (refl, t.1, t.2, t.3)

pub last_true : (pu : Bool) (cs : List Chunk) → last_use pu cs ≡ true → last_use true cs ≡ true
last_true pu [] q = refl
last_true pu (c ∷ cs) q = q

pub total_even : (pu : Bool) (cs : List Chunk) → Tidy pu cs → total cs % 2 ≡ 0
total_even pu [] t = refl
total_even pu (c ∷ cs) t = let u = tidy_head pu c cs t in omega (arith, u.0, total_even (in_use c) cs u.2)

-- ---- a chunk of appended lists

pub differ : {A : Type 0} (x y : ℕ) → used x ≡ free y → A
differ x y q = let z : ◌≡◌ {A = ℕ} 0 1 = cc in absurd (let b : ⊥ = omega arith in b)

-- no chunk is in use
abbrev pub AllFree : List Chunk → Type 0
AllFree [] = Unit {0}
AllFree (used s ∷ cs) = ⊥
AllFree (free s ∷ cs) = AllFree cs

pub all_free : (p : ℕ) (cs : List Chunk) (x s : ℕ) → AllFree cs → Starts p cs x (used s) → ⊥
all_free p [] x s f st = st
all_free p (used n ∷ cs) x s f st = f
all_free p (free n ∷ cs) x s f (inl st) = differ s n st.1
all_free p (free n ∷ cs) x s f (inr st) = all_free (p + n) cs x s f st

pub starts_left : (p : ℕ) (xs ys : List Chunk) (x : ℕ) (c : Chunk) → Starts p xs x c → Starts p (xs ++ ys) x c
starts_left p [] ys x c h = absurd h
starts_left p (d ∷ xs) ys x c (inl h) = inl h
starts_left p (d ∷ xs) ys x c (inr h) = inr (starts_left (p + size d) xs ys x c h)

pub starts_right : (p : ℕ) (xs ys : List Chunk) (x : ℕ) (c : Chunk) → Starts (end_of p xs) ys x c → Starts p (xs ++ ys) x c
starts_right p [] ys x c h = h
starts_right p (d ∷ xs) ys x c h = inr (starts_right (p + size d) xs ys x c h)

pub starts_parts : (p : ℕ) (xs ys : List Chunk) (x : ℕ) (c : Chunk) → Starts p (xs ++ ys) x c → Starts p xs x c ⊎ Starts (end_of p xs) ys x c
starts_parts p [] ys x c h = inr h
starts_parts p (d ∷ xs) ys x c (inl h) = inl (inl h)
starts_parts p (d ∷ xs) ys x c (inr h) = ⊎_elim (λ z. inl (inr z)) (λ z. inr z) (starts_parts (p + size d) xs ys x c h)

-- ---- where it lies

pub starts_in' : (p : ℕ) (cs : List Chunk) (q : ℕ) (c : Chunk) → Starts p cs q c → (p ≤ q) × (q + size c ≤ end_of p cs)
starts_in' p [] q c s = absurd s
starts_in' p (d ∷ cs) q c (inl s) = omega (arith, end_ge (p + size d) cs, ap size s.1)
starts_in' p (d ∷ cs) q c (inr s) = omega (arith, starts_in' (p + size d) cs q c s)

pub starts_size : (pu : Bool) (p : ℕ) (cs : List Chunk) (q : ℕ) (c : Chunk) → Tidy pu cs → Starts p cs q c → (size c % 2 ≡ 0) × (4 ≤ size c)
starts_size pu p [] q c t s = absurd s
starts_size pu p (d ∷ cs) q c t (inl s) = let u = tidy_head pu d cs t in omega (arith, u.0, u.1, ap size s.1)
starts_size pu p (d ∷ cs) q c t (inr s) = starts_size (in_use d) (p + size d) cs q c (tidy_head pu d cs t).2 s

pub starts_even' : (pu : Bool) (p : ℕ) (cs : List Chunk) (q : ℕ) (c : Chunk) → Tidy pu cs → p % 2 ≡ 0 → Starts p cs q c → q % 2 ≡ 0
starts_even' pu p [] q c t v s = absurd s
starts_even' pu p (d ∷ cs) q c t v (inl s) = omega (arith, s.0)
starts_even' pu p (d ∷ cs) q c t v (inr s) =
    let u = tidy_head pu d cs t in
    starts_even' (in_use d) (p + size d) cs q c u.2 (omega (arith, u.0)) s

-- two chunks are one and the same, or lie apart
pub starts_apart' : (p : ℕ) (cs : List Chunk) (q : ℕ) (c : Chunk) (r : ℕ) (d : Chunk) → Starts p cs q c → Starts p cs r d → ((q ≡ r) × (c ≡ d)) ⊎ ((q + size c ≤ r) ⊎ (r + size d ≤ q))
starts_apart' p [] q c r d s u = absurd s
starts_apart' p (x ∷ cs) q c r d (inl s) (inl u) = inl (s.0 ∙ sym u.0, s.1 ∙ sym u.1)
starts_apart' p (x ∷ cs) q c r d (inl s) (inr u) = inr (inl (omega (arith, s.0, ap size s.1, starts_in' (p + size x) cs r d u)))
starts_apart' p (x ∷ cs) q c r d (inr s) (inl u) = inr (inr (omega (arith, u.0, ap size u.1, starts_in' (p + size x) cs q c s)))
starts_apart' p (x ∷ cs) q c r d (inr s) (inr u) = starts_apart' (p + size x) cs q c r d s u
