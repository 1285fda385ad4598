-- The chunk tiling: what the words of an arena say of chunks in address order, as a list of chunks.
-- Places and sizes are counted in words. A run of chunks starts at a place p, after a chunk that is in use or not (pu);
-- `Run` says that the heads, and the feet of the free ones, are right, and that no two free ones adjoin. `Heads` is a whole
-- arena: a run from place 0 to the top, and then the top with the foot word. Everything holds for both word sizes.
-- Assumes nothing.
use Rattle.std.specs.Prelude.{ℕ, ◌+◌, ◌*◌, ◌≤◌, ◌<◌, ◌%◌, ◌≡◌, refl, Bool, true, false, List, [], ◌∷◌, ◌++◌, ◌⊎◌, length, get_or}
use Rattle.std.proofs.Common.{sym, ap, ◌∙◌, inl, inr, arith}
use Rattle.words.specs.Edition.{Edition, W, size_of, flags_of, decode}

-- ---- the model

-- a chunk, in use or free, with its size in words
pub data Chunk : Type 0 where
  used : ℕ → Chunk
  free : ℕ → Chunk

abbrev pub size : Chunk → ℕ
size (used s) = s
size (free s) = s

abbrev pub in_use : Chunk → Bool
in_use (used s) = true
in_use (free s) = false

abbrev pub bit : Bool → ℕ
bit false = 0
bit true = 1

pub bit_below : (b : Bool) → bit b < 2
bit_below true = omega arith
bit_below false = omega arith

-- ---- runs

-- where a run of chunks from p ends, and whether what stands before its end is in use
abbrev pub end_of : ℕ → List Chunk → ℕ
end_of p [] = p
end_of p (c ∷ cs) = end_of (p + size c) cs

abbrev pub last_use : Bool → List Chunk → Bool
last_use pu [] = pu
last_use pu (c ∷ cs) = last_use (in_use c) cs

abbrev pub total : List Chunk → ℕ
total [] = 0
total (c ∷ cs) = size c + total cs

-- ---- what the words say

-- a chunk in use at p: its head has its size, CINUSE, and PINUSE as pu says
pub record UsedAt (e : Edition) (w : List ℕ) (p : ℕ) (pu : Bool) (s : ℕ) : Type 0 where
  pub even : s % 2 ≡ 0
  pub least : 4 ≤ s
  pub head : get_or w (p + 1) 0 ≡ W e * s + 2 + bit pu

-- a free chunk at p: the one before is in use, the head has the size and PINUSE, and the size stands in word 0 of the next
pub record FreeAt (e : Edition) (w : List ℕ) (p : ℕ) (pu : Bool) (s : ℕ) : Type 0 where
  pub even : s % 2 ≡ 0
  pub least : 4 ≤ s
  pub apart : pu ≡ true
  pub head : get_or w (p + 1) 0 ≡ W e * s + 1
  pub foot : get_or w (p + s) 0 ≡ W e * s

abbrev pub ChunkAt : Edition → List ℕ → ℕ → Bool → Chunk → Type 0
ChunkAt e w p pu (used s) = UsedAt e w p pu s
ChunkAt e w p pu (free s) = FreeAt e w p pu s

-- the top at p, of ts words: what stands before is in use, its CINUSE is clear, and after it stands the foot word
pub record TopAt (e : Edition) (w : List ℕ) (p : ℕ) (pu : Bool) (ts : ℕ) : Type 0 where
  pub even : ts % 2 ≡ 0
  pub least : 2 ≤ ts
  pub apart : pu ≡ true
  pub ends : p + ts + 10 ≡ length w
  pub head : get_or w (p + 1) 0 ≡ W e * ts + 1
  pub foot : get_or w (p + ts + 1) 0 ≡ W e * 10

abbrev pub Run : Edition → List ℕ → ℕ → Bool → List Chunk → Type 0
Run e w p pu [] = Unit {0}
Run e w p pu (c ∷ cs) = ChunkAt e w p pu c × Run e w (p + size c) (in_use c) cs

-- a run of chunks from p, and then the top
pub record HeadsFrom (e : Edition) (w : List ℕ) (p : ℕ) (pu : Bool) (cs : List Chunk) (ts : ℕ) : Type 0 where
  pub run : Run e w p pu cs
  pub top : TopAt e w (end_of p cs) (last_use pu cs) ts

-- a whole arena: the first chunk has PINUSE
abbrev pub Heads : Edition → List ℕ → List Chunk → ℕ → Type 0
Heads e w cs ts = HeadsFrom e w 0 true cs ts

-- ---- sizes and places

pub even_of : (e : Edition) (w : List ℕ) (p : ℕ) (pu : Bool) (c : Chunk) → ChunkAt e w p pu c → size c % 2 ≡ 0
even_of e w p pu (used s) h = h.even
even_of e w p pu (free s) h = h.even

pub least_of : (e : Edition) (w : List ℕ) (p : ℕ) (pu : Bool) (c : Chunk) → ChunkAt e w p pu c → 4 ≤ size c
least_of e w p pu (used s) h = h.least
least_of e w p pu (free s) h = h.least

-- the sum of the sizes
pub end_total : (p : ℕ) (cs : List Chunk) → end_of p cs ≡ p + total cs
end_total p [] = omega arith
end_total p (c ∷ cs) = omega (arith, end_total (p + size c) cs)

pub end_ge : (p : ℕ) (cs : List Chunk) → p ≤ end_of p cs
end_ge p cs = omega (arith, end_total p cs)

pub end_append : (p : ℕ) (xs ys : List Chunk) → end_of p (xs ++ ys) ≡ end_of (end_of p xs) ys
end_append p [] ys = refl
end_append p (a ∷ xs) ys = end_append (p + size a) xs ys

pub last_append : (pu : Bool) (xs ys : List Chunk) → last_use pu (xs ++ ys) ≡ last_use (last_use pu xs) ys
last_append pu [] ys = refl
last_append pu (a ∷ xs) ys = last_append (in_use a) xs ys

pub end_even : (e : Edition) (w : List ℕ) (p : ℕ) (pu : Bool) (cs : List Chunk) → Run e w p pu cs → p % 2 ≡ 0 → end_of p cs % 2 ≡ 0
end_even e w p pu [] h q = q
end_even e w p pu (c ∷ cs) h q = end_even e w (p + size c) (in_use c) cs h.1 (omega (arith, even_of e w p pu c h.0))

-- ---- split at a place

pub run_append : (e : Edition) (w : List ℕ) (p : ℕ) (pu : Bool) (xs ys : List Chunk) → Run e w p pu xs → Run e w (end_of p xs) (last_use pu xs) ys
    → Run e w p pu (xs ++ ys)
run_append e w p pu [] ys h k = k
run_append e w p pu (a ∷ xs) ys h k = (h.0, run_append e w (p + size a) (in_use a) xs ys h.1 k)

pub run_left : (e : Edition) (w : List ℕ) (p : ℕ) (pu : Bool) (xs ys : List Chunk) → Run e w p pu (xs ++ ys) → Run e w p pu xs
run_left e w p pu [] ys h = tt
run_left e w p pu (a ∷ xs) ys h = (h.0, run_left e w (p + size a) (in_use a) xs ys h.1)

pub run_right : (e : Edition) (w : List ℕ) (p : ℕ) (pu : Bool) (xs ys : List Chunk) → Run e w p pu (xs ++ ys)
    → Run e w (end_of p xs) (last_use pu xs) ys
run_right e w p pu [] ys h = h
run_right e w p pu (a ∷ xs) ys h = run_right e w (p + size a) (in_use a) xs ys h.1

-- ---- the words that a run reads, and the frame

-- i is a word that the run of cs from p rests on: a head, or the foot of a free chunk
abbrev pub Reads : ℕ → List Chunk → ℕ → Type 0
Reads p [] i = ⊥
Reads p (used s ∷ cs) i = (i ≡ p + 1) ⊎ Reads (p + s) cs i
Reads p (free s ∷ cs) i = (i ≡ p + 1) ⊎ ((i ≡ p + s) ⊎ Reads (p + s) cs i)

-- words that agree on these keep the run
pub run_frame : (e : Edition) (w v : List ℕ) (p : ℕ) (pu : Bool) (cs : List Chunk)
    → ((i : ℕ) → Reads p cs i → get_or v i 0 ≡ get_or w i 0) → Run e w p pu cs → Run e v p pu cs
run_frame e w v p pu [] f h = tt
run_frame e w v p pu (used s ∷ cs) f h = (
  record { even = h.0.even; least = h.0.least; head = f (p + 1) (inl refl) ∙ h.0.head },
  run_frame e w v (p + s) true cs (λ i r. f i (inr r)) h.1,
)
run_frame e w v p pu (free s ∷ cs) f h = (
  record { even = h.0.even; least = h.0.least; apart = h.0.apart; head = f (p + 1) (inl refl) ∙ h.0.head; foot = f (p + s) (inr (inl refl)) ∙ h.0.foot },
  run_frame e w v (p + s) false cs (λ i r. f i (inr (inr r))) h.1,
)

module _ (e : Edition) (w : List ℕ) where
  -- they lie behind the start, and not behind word 0 of what follows
  pub reads_in : (p : ℕ) (pu : Bool) (cs : List Chunk) (i : ℕ) → Run e w p pu cs → Reads p cs i → (p < i) × (i ≤ end_of p cs)
  reads_in p pu [] i h r = absurd r
  reads_in p pu (used s ∷ cs) i h (inl q) = omega (arith, end_ge (p + s) cs)
  reads_in p pu (used s ∷ cs) i h (inr r) = omega (arith, reads_in (p + s) true cs i h.1 r)
  reads_in p pu (free s ∷ cs) i h (inl q) = omega (arith, end_ge (p + s) cs)
  reads_in p pu (free s ∷ cs) i h (inr (inl q)) = omega (arith, end_ge (p + s) cs)
  reads_in p pu (free s ∷ cs) i h (inr (inr r)) = omega (arith, reads_in (p + s) false cs i h.1 r)

  -- so words that agree from behind p up to the end keep the run
  pub run_frame_in : (v : List ℕ) (p : ℕ) (pu : Bool) (cs : List Chunk)
      → ((i : ℕ) → p < i → i ≤ end_of p cs → get_or v i 0 ≡ get_or w i 0) → Run e w p pu cs → Run e v p pu cs
  run_frame_in v p pu cs f h =
      run_frame e w v p pu cs (λ i r. let b : (p < i) × (i ≤ end_of p cs) = reads_in p pu cs i h r in f i b.0 b.1) h

-- ---- a chunk of the list, by its start

-- the chunk c starts at q, in the run of cs from p
abbrev pub Starts : ℕ → List Chunk → ℕ → Chunk → Type 0
Starts p [] q c = ⊥
Starts p (d ∷ cs) q c = ((q ≡ p) × (c ≡ d)) ⊎ Starts (p + size d) cs q c

-- the list, split there
pub record Split (p : ℕ) (cs : List Chunk) (q : ℕ) (c : Chunk) : Type 0 where
  pub before : List Chunk
  pub after : List Chunk
  pub whole : cs ≡ before ++ (c ∷ after)
  pub place : q ≡ end_of p before

pub starts_split : (p : ℕ) (cs : List Chunk) (q : ℕ) (c : Chunk) → Starts p cs q c → Split p cs q c
starts_split p [] q c s = absurd s
starts_split p (d ∷ cs) q c (inl s) = record { before = []; after = cs; whole = ap (λ (x : Chunk). x ∷ cs) (sym s.1); place = s.0 }
starts_split p (d ∷ cs) q c (inr s) =
    let t : Split (p + size d) cs q c = starts_split (p + size d) cs q c s in
    record { before = d ∷ t.before; after = t.after; whole = ap (λ (x : List Chunk). d ∷ x) t.whole; place = t.place }

pub split_starts : (p : ℕ) (xs : List Chunk) (c : Chunk) (ys : List Chunk) → Starts p (xs ++ (c ∷ ys)) (end_of p xs) c
split_starts p [] c ys = inl (refl, refl)
split_starts p (x ∷ xs) c ys = inr (split_starts (p + size x) xs c ys)

module _ (e : Edition) (w : List ℕ) where
  pub starts_in : (p : ℕ) (pu : Bool) (cs : List Chunk) (q : ℕ) (c : Chunk) → Run e w p pu cs → Starts p cs q c
      → (p ≤ q) × (q + size c ≤ end_of p cs)
  starts_in p pu [] q c h s = absurd s
  starts_in p pu (d ∷ cs) q c h (inl s) = omega (arith, end_ge (p + size d) cs, ap size s.1)
  starts_in p pu (d ∷ cs) q c h (inr s) = omega (arith, starts_in (p + size d) (in_use d) cs q c h.1 s)

  pub starts_even : (p : ℕ) (pu : Bool) (cs : List Chunk) (q : ℕ) (c : Chunk) → Run e w p pu cs → p % 2 ≡ 0 → Starts p cs q c → q % 2 ≡ 0
  starts_even p pu [] q c h v s = absurd s
  starts_even p pu (d ∷ cs) q c h v (inl s) = omega (arith, s.0)
  starts_even p pu (d ∷ cs) q c h v (inr s) = starts_even (p + size d) (in_use d) cs q c h.1 (omega (arith, even_of e w p pu d h.0)) s

  -- what the words say of it
  pub starts_at_lem : (p : ℕ) (pu : Bool) (cs : List Chunk) (q : ℕ) (c : Chunk) → Run e w p pu cs → Starts p cs q c
      → (b : Bool) × ChunkAt e w q b c
  starts_at_lem p pu [] q c h s = absurd s
  starts_at_lem p pu (d ∷ cs) q c h (inl s) = (pu, rw (s.0, s.1) h.0)
  starts_at_lem p pu (d ∷ cs) q c h (inr s) = starts_at_lem (p + size d) (in_use d) cs q c h.1 s

  -- two chunks of a run are one and the same, or lie apart
  pub starts_apart : (p : ℕ) (pu : Bool) (cs : List Chunk) (q : ℕ) (c : Chunk) (r : ℕ) (d : Chunk) → Run e w p pu cs
      → Starts p cs q c → Starts p cs r d → ((q ≡ r) × (c ≡ d)) ⊎ ((q + size c ≤ r) ⊎ (r + size d ≤ q))
  starts_apart p pu [] q c r d h s t = absurd s
  starts_apart p pu (x ∷ cs) q c r d h (inl s) (inl t) = inl (s.0 ∙ sym t.0, s.1 ∙ sym t.1)
  starts_apart p pu (x ∷ cs) q c r d h (inl s) (inr t) =
      inr (inl (omega (arith, ap size s.1, starts_in (p + size x) (in_use x) cs r d h.1 t)))
  starts_apart p pu (x ∷ cs) q c r d h (inr s) (inl t) =
      inr (inr (omega (arith, ap size t.1, starts_in (p + size x) (in_use x) cs q c h.1 s)))
  starts_apart p pu (x ∷ cs) q c r d h (inr s) (inr t) = starts_apart (p + size x) (in_use x) cs q c r d h.1 s t

  -- an owner's words are none that the run rests on
  pub owned_free : (p : ℕ) (pu : Bool) (cs : List Chunk) (q s i : ℕ) → Run e w p pu cs → Starts p cs q (used s)
      → q + 2 ≤ i → i ≤ q + s → Reads p cs i → ⊥
  owned_free p pu [] q s i h t lo hi r = absurd r
  owned_free p pu (used k ∷ cs) q s i h (inl t) lo hi (inl r) = omega arith
  owned_free p pu (used k ∷ cs) q s i h (inl t) lo hi (inr r) = omega (arith, ap size t.1, reads_in e w (p + k) true cs i h.1 r)
  owned_free p pu (used k ∷ cs) q s i h (inr t) lo hi (inl r) =
      omega (arith, starts_in (p + k) true cs q (used s) h.1 t)
  owned_free p pu (used k ∷ cs) q s i h (inr t) lo hi (inr r) = owned_free (p + k) true cs q s i h.1 t lo hi r
  owned_free p pu (free k ∷ cs) q s i h (inl t) lo hi r = let z : ◌≡◌ {A = ℕ} 0 1 = cc t.1 in omega arith
  owned_free p pu (free k ∷ cs) q s i h (inr t) lo hi (inl r) =
      omega (arith, starts_in (p + k) false cs q (used s) h.1 t)
  owned_free p pu (free k ∷ cs) q s i h (inr t) lo hi (inr (inl r)) =
      omega (arith, starts_in (p + k) false cs q (used s) h.1 t)
  owned_free p pu (free k ∷ cs) q s i h (inr t) lo hi (inr (inr r)) = owned_free (p + k) false cs q s i h.1 t lo hi r

-- ---- the words determine the list

-- the flags in a chunk's head
abbrev pub flags : Bool → Chunk → ℕ
flags pu (used s) = 2 + bit pu
flags pu (free s) = 1

abbrev pub head_of : List ℕ → ℕ → ℕ
head_of w p = get_or w (p + 1) 0

pub chunk_decode : (e : Edition) (w : List ℕ) (p : ℕ) (pu : Bool) (c : Chunk) → ChunkAt e w p pu c
    → (size_of e (head_of w p) ≡ size c) × (flags_of e (head_of w p) ≡ flags pu c)
chunk_decode e w p pu (used s) h = decode e (head_of w p) s (2 + bit pu) h.even (omega (arith, bit_below pu)) (omega (arith, h.head))
chunk_decode e w p pu (free s) h = decode e (head_of w p) s 1 h.even (omega arith) h.head

pub top_decode : (e : Edition) (w : List ℕ) (p : ℕ) (pu : Bool) (ts : ℕ) → TopAt e w p pu ts
    → (size_of e (head_of w p) ≡ ts) × (flags_of e (head_of w p) ≡ 1)
top_decode e w p pu ts h = decode e (head_of w p) ts 1 h.even (omega arith) h.head

same_flags : (e : Edition) (w : List ℕ) (p : ℕ) (pu : Bool) (c d : Chunk) → ChunkAt e w p pu c → ChunkAt e w p pu d
    → (size c ≡ size d) × (flags pu c ≡ flags pu d)
same_flags e w p pu c d h k =
    (sym (chunk_decode e w p pu c h).0 ∙ (chunk_decode e w p pu d k).0, sym (chunk_decode e w p pu c h).1 ∙ (chunk_decode e w p pu d k).1)

pub chunk_unique : (e : Edition) (w : List ℕ) (p : ℕ) (pu : Bool) (c d : Chunk) → ChunkAt e w p pu c → ChunkAt e w p pu d → c ≡ d
chunk_unique e w p pu (used s) (used t) h k = ap used (same_flags e w p pu (used s) (used t) h k).0
chunk_unique e w p pu (free s) (free t) h k = ap free (same_flags e w p pu (free s) (free t) h k).0
chunk_unique e w p pu (used s) (free t) h k = absurd (let b : ⊥ = omega (arith, (same_flags e w p pu (used s) (free t) h k).1) in b)
chunk_unique e w p pu (free s) (used t) h k = absurd (let b : ⊥ = omega (arith, (same_flags e w p pu (free s) (used t) h k).1) in b)

-- the words determine a run, given where it ends
pub run_unique : (e : Edition) (w : List ℕ) (p : ℕ) (pu : Bool) (xs ys : List Chunk) → Run e w p pu xs → Run e w p pu ys
    → end_of p xs ≡ end_of p ys → xs ≡ ys
run_unique e w p pu [] [] h k q = refl
run_unique e w p pu [] (y ∷ ys) h k q = absurd (let b : ⊥ = omega (arith, least_of e w p pu y k.0, end_ge (p + size y) ys) in b)
run_unique e w p pu (x ∷ xs) [] h k q = absurd (let b : ⊥ = omega (arith, least_of e w p pu x h.0, end_ge (p + size x) xs) in b)
run_unique e w p pu (x ∷ xs) (y ∷ ys) h k q =
    let c : x ≡ y = chunk_unique e w p pu x y h.0 k.0 in
    let k' : Run e w (p + size x) (in_use x) ys × (end_of (p + size x) xs ≡ end_of (p + size x) ys) = rw c (k.1, rw c at q) in
    let r : xs ≡ ys = run_unique e w (p + size x) (in_use x) xs ys h.1 k'.0 k'.1 in
    cc (c, r)

-- the heads of a top and of a chunk in use differ in CINUSE
pub top_not_used : (e : Edition) (w : List ℕ) (p : ℕ) (pu : Bool) (ts s : ℕ) → TopAt e w p pu ts → UsedAt e w p pu s → ⊥
top_not_used e w p pu ts s h k = omega (arith, (top_decode e w p pu ts h).1, (chunk_decode e w p pu (used s) k).1)

top_as_free : (e : Edition) (w : List ℕ) (p : ℕ) (pu : Bool) (ts s : ℕ) → TopAt e w p pu ts → FreeAt e w p pu s → ts ≡ s
top_as_free e w p pu ts s h k = sym (top_decode e w p pu ts h).0 ∙ (chunk_decode e w p pu (free s) k).0

-- where a top stands, no chunk with a top behind it does: a free chunk of the top's size would leave no room for another top
pub top_no_chunk : (e : Edition) (w : List ℕ) (p : ℕ) (pu : Bool) (ts : ℕ) (c : Chunk) (cs : List Chunk) (us : ℕ)
    → TopAt e w p pu ts → HeadsFrom e w p pu (c ∷ cs) us → ⊥
top_no_chunk e w p pu ts (used s) cs us h k = top_not_used e w p pu ts s h k.run.0
top_no_chunk e w p pu ts (free s) cs us h k =
    omega (arith, top_as_free e w p pu ts s h k.run.0, end_ge (p + s) cs, h.ends, k.top.ends, k.top.least)

top_unique : (e : Edition) (w : List ℕ) (p : ℕ) (pu : Bool) (ts us : ℕ) → TopAt e w p pu ts → TopAt e w p pu us → ts ≡ us
top_unique e w p pu ts us h k = omega (arith, h.ends, k.ends)

-- the words determine the chunks and the top
pub heads_unique : (e : Edition) (w : List ℕ) (p : ℕ) (pu : Bool) (xs ys : List Chunk) (ts us : ℕ)
    → HeadsFrom e w p pu xs ts → HeadsFrom e w p pu ys us → (xs ≡ ys) × (ts ≡ us)
heads_unique e w p pu [] [] ts us h k = (refl, top_unique e w p pu ts us h.top k.top)
heads_unique e w p pu [] (y ∷ ys) ts us h k = absurd (top_no_chunk e w p pu ts y ys us h.top k)
heads_unique e w p pu (x ∷ xs) [] ts us h k = absurd (top_no_chunk e w p pu us x xs ts k.top h)
heads_unique e w p pu (x ∷ xs) (y ∷ ys) ts us h k =
    let q : x ≡ y = chunk_unique e w p pu x y h.run.0 k.run.0 in
    let k' : HeadsFrom e w (p + size x) (in_use x) ys us = rw q (record { run = k.run.1; top = k.top }) in
    let r : (xs ≡ ys) × (ts ≡ us) = heads_unique e w (p + size x) (in_use x) xs ys ts us (record { run = h.run.1; top = h.top }) k' in
    (cc (q, r.0), r.1)

-- ---- a whole arena: frame

-- i is a word that a whole arena's tiling rests on
abbrev pub HeadsReads : ℕ → List Chunk → ℕ → ℕ → Type 0
HeadsReads p cs ts i = Reads p cs i ⊎ ((i ≡ end_of p cs + 1) ⊎ (i ≡ end_of p cs + ts + 1))

pub heads_frame : (e : Edition) (w v : List ℕ) (p : ℕ) (pu : Bool) (cs : List Chunk) (ts : ℕ) → length v ≡ length w
    → ((i : ℕ) → HeadsReads p cs ts i → get_or v i 0 ≡ get_or w i 0) → HeadsFrom e w p pu cs ts → HeadsFrom e v p pu cs ts
heads_frame e w v p pu cs ts l f h =
    record {
      run = run_frame e w v p pu cs (λ i r. f i (inl r)) h.run;
      top = record {
        even = h.top.even;
        least = h.top.least;
        apart = h.top.apart;
        ends = h.top.ends ∙ sym l;
        head = f (end_of p cs + 1) (inr (inl refl)) ∙ h.top.head;
        foot = f (end_of p cs + ts + 1) (inr (inr refl)) ∙ h.top.foot;
      };
    }
