-- THE WORDS THAT A TILING RESTS ON, by its chunks: the head of whatever stands in it, a chunk or the top; the head behind a chunk; a free chunk's
-- foot. By recursion on the list. Assumes nothing.
use Rattle.std.specs.Prelude.{ℕ, ◌+◌, ◌≡◌, refl, List, [], ◌∷◌, ◌++◌, ◌⊎◌}
use Rattle.std.proofs.Common.{ap, subst, inl, inr, ⊎_elim, arith}
use Rattle.tiling.specs.Tiling.{Chunk, used, free, size, end_of, HeadsReads, Starts}

-- behind the chunk d, behind the chunks xs
pub reads_tail : (p : ℕ) (d : Chunk) (cs : List Chunk) (ts i : ℕ) → HeadsReads (p + size d) cs ts i → HeadsReads p (d ∷ cs) ts i
reads_tail p (used n) cs ts i (inl r) = inl (inr r)
reads_tail p (used n) cs ts i (inr r) = inr r
reads_tail p (free n) cs ts i (inl r) = inl (inr (inr r))
reads_tail p (free n) cs ts i (inr r) = inr r

pub reads_right : (p : ℕ) (xs ys : List Chunk) (ts i : ℕ) → HeadsReads (end_of p xs) ys ts i → HeadsReads p (xs ++ ys) ts i
reads_right p [] ys ts i r = r
reads_right p (x ∷ xs) ys ts i r = reads_tail p x (xs ++ ys) ts i (reads_right (p + size x) xs ys ts i r)

-- what holds of two ends behind the same chunks holds of both whole
pub reads_under : {A : Type 0} (p : ℕ) (xs us vs : List Chunk) (ts ts' i : ℕ) → (HeadsReads (end_of p xs) us ts i → HeadsReads (end_of p xs) vs ts' i ⊎ A) → HeadsReads p (xs ++ us) ts i → HeadsReads p (xs ++ vs) ts' i ⊎ A
reads_under p [] us vs ts ts' i f r = f r
reads_under p (used n ∷ xs) us vs ts ts' i f (inl (inl z)) = inl (inl (inl z))
reads_under p (used n ∷ xs) us vs ts ts' i f (inl (inr r)) = ⊎_elim (λ y. inl (reads_tail p (used n) (xs ++ vs) ts' i y)) (λ y. inr y) (reads_under (p + n) xs us vs ts ts' i f (inl r))
reads_under p (used n ∷ xs) us vs ts ts' i f (inr r) = ⊎_elim (λ y. inl (reads_tail p (used n) (xs ++ vs) ts' i y)) (λ y. inr y) (reads_under (p + n) xs us vs ts ts' i f (inr r))
reads_under p (free n ∷ xs) us vs ts ts' i f (inl (inl z)) = inl (inl (inl z))
reads_under p (free n ∷ xs) us vs ts ts' i f (inl (inr (inl z))) = inl (inl (inr (inl z)))
reads_under p (free n ∷ xs) us vs ts ts' i f (inl (inr (inr r))) = ⊎_elim (λ y. inl (reads_tail p (free n) (xs ++ vs) ts' i y)) (λ y. inr y) (reads_under (p + n) xs us vs ts ts' i f (inl r))
reads_under p (free n ∷ xs) us vs ts ts' i f (inr r) = ⊎_elim (λ y. inl (reads_tail p (free n) (xs ++ vs) ts' i y)) (λ y. inr y) (reads_under (p + n) xs us vs ts ts' i f (inr r))

-- the first head, or the top's
pub reads_here : (p : ℕ) (cs : List Chunk) (ts : ℕ) → HeadsReads p cs ts (p + 1)
reads_here p [] ts = inr (inl refl)
reads_here p (used n ∷ cs) ts = inl (inl refl)
reads_here p (free n ∷ cs) ts = inl (inl refl)

-- of a chunk that starts at x: its head, the head behind it, its foot
pub reads_head : (p : ℕ) (cs : List Chunk) (ts x : ℕ) (c : Chunk) → Starts p cs x c → HeadsReads p cs ts (x + 1)
reads_head p [] ts x c s = absurd s
reads_head p (d ∷ cs) ts x c (inl s) = subst (HeadsReads p (d ∷ cs) ts) (let z : p + 1 ≡ x + 1 = omega (arith, s.0) in z) (reads_here p (d ∷ cs) ts)
reads_head p (d ∷ cs) ts x c (inr s) = reads_tail p d cs ts (x + 1) (reads_head (p + size d) cs ts x c s)

pub reads_next : (p : ℕ) (cs : List Chunk) (ts x : ℕ) (c : Chunk) → Starts p cs x c → HeadsReads p cs ts (x + size c + 1)
reads_next p [] ts x c s = absurd s
reads_next p (d ∷ cs) ts x c (inl s) =
    reads_tail p d cs ts (x + size c + 1) (subst (HeadsReads (p + size d) cs ts) (let z : p + size d + 1 ≡ x + size c + 1 = omega (arith, s.0, ap size s.1) in z) (reads_here (p + size d) cs ts))
reads_next p (d ∷ cs) ts x c (inr s) = reads_tail p d cs ts (x + size c + 1) (reads_next (p + size d) cs ts x c s)

pub reads_foot : (p : ℕ) (cs : List Chunk) (ts x n : ℕ) → Starts p cs x (free n) → HeadsReads p cs ts (x + n)
reads_foot p [] ts x n s = absurd s
reads_foot p (used k ∷ cs) ts x n (inl s) = let z : ◌≡◌ {A = ℕ} 0 1 = cc s.1 in absurd (let b : ⊥ = omega arith in b)
reads_foot p (free k ∷ cs) ts x n (inl s) = inl (inr (inl (omega (arith, s.0, ap size s.1))))
reads_foot p (d ∷ cs) ts x n (inr s) = reads_tail p d cs ts (x + n) (reads_foot (p + size d) cs ts x n s)
