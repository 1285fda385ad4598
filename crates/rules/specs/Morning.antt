-- Document 01's ★ cases, "A morning on 128 words": one table, one statement, proved by computation from the rules. A case is a list of calls,
-- each with its answer, and of what is found in between. A wrong number anywhere makes the statement false. Assumes nothing.
use Rattle.std.specs.Prelude.{◌≡◌, refl, Bool, true, false, ◌&&◌, List, [], ◌∷◌, ◌++◌, ℕ, ◌+◌, ◌*◌, eqb}
use Rattle.std.proofs.Math.Option.{Option, none, some}
use Rattle.words.specs.Logic.{pick}
use Rattle.words.specs.Edition.{wide}
use Rattle.index.specs.Sizes.{need_words, need, round_up}
use Rattle.index.specs.TreeBin.{tree_index, reach, min_size}
use Rattle.tiling.specs.Tiling.{Chunk, used, free, end_of}
use Rattle.tries.specs.Bits.{bit}
use Rattle.rules.specs.BinOf.{huge}
use Rattle.rules.specs.Heap.{Heap, fresh_heap, holds_some, grows_some}
use Rattle.rules.specs.Binning.{dv_words}
use Rattle.rules.specs.Malloc.{first_filled}
use Rattle.rules.specs.Calls.{Call, Malloc, Free, Realloc, Memalign, Answer, granted, done, bytes, refused, number, answer_to, live_size}

-- one line of a case; offsets and sizes in bytes, as document 01 has them
pub data Line : Type 0 where
  call : Call → Answer → Line  -- the call gets this answer
  copying : Call → Answer → ℕ → Line  -- and copies so many words
  refusing : Call → ℕ → Line  -- the call is refused with this number
  top_is : ℕ → ℕ → Line  -- the top's place and size
  dv_is : ℕ → ℕ → Line  -- the spare chunk's place and size
  no_dv_lem : Line
  free_is : ℕ → ℕ → Line  -- a free chunk of that place and size
  block_is : ℕ → ℕ → Line  -- the block at this offset has a chunk of that size
  fresh_is : Line  -- the heap is the fresh one

-- ---- tests

-- an answer as two numbers: its kind, and what it carries (a refusal: document 01's number)
abbrev pub kind : Answer → ℕ
kind (granted off) = 0
kind done = 1
kind (bytes n) = 2
kind (refused r) = 3

abbrev pub value : Answer → ℕ
value (granted off) = off
value done = 0
value (bytes n) = n
value (refused r) = number r

abbrev pub same : Answer → ℕ → ℕ → Bool
same a k v = eqb (kind a) k && eqb (value a) v

abbrev free_at : ℕ → List Chunk → ℕ → ℕ → Bool
free_at a [] p s = false
free_at a (used t ∷ cs) p s = free_at (a + t) cs p s
free_at a (free t ∷ cs) p s = pick (eqb (8 * a) p) (eqb (8 * t) s) (free_at (a + t) cs p s)

abbrev is_size : Option ℕ → ℕ → Bool
is_size none s = false
is_size (some t) s = eqb (8 * t) s

abbrev none_left : List Chunk → Bool
none_left [] = true
none_left (c ∷ cs) = false

abbrev is_none : Option ℕ → Bool
is_none none = true
is_none (some d) = false

abbrev dv_at : Option ℕ → ℕ → Bool
dv_at none p = false
dv_at (some d) p = eqb (8 * d) p

-- no chunk, no spare chunk, all bins empty: the first filled one lies past the last
abbrev is_fresh : ℕ → Heap → Bool
is_fresh n h = none_left h.chunks && (eqb (h.top + 10) n && (is_none h.dv && (eqb (first_filled holds_some 0 0 h.small) 32 && eqb (first_filled grows_some 0 0 h.tries) 32)))

-- the heap after a line, if the line is right
pub record After : Type 0 where
  pub right : Bool
  pub heap : Heap

abbrev pub after : Bool → Heap → After
after b h = record { right = b; heap = h }

abbrev pub line : ℕ → Heap → Line → After
line n h (call c a) = let o = answer_to wide n h c in after (same o.answer (kind a) (value a)) o.heap
line n h (copying c a k) = let o = answer_to wide n h c in after (same o.answer (kind a) (value a) && eqb o.copied k) o.heap
line n h (refusing c k) = let o = answer_to wide n h c in after (same o.answer 3 k) o.heap
line n h (top_is p s) = after (eqb (8 * end_of 0 h.chunks) p && eqb (8 * h.top) s) h
line n h (dv_is p s) = after (dv_at h.dv p && eqb (8 * dv_words h) s) h
line n h no_dv_lem = after (is_none h.dv) h
line n h (free_is p s) = after (free_at 0 h.chunks p s) h
line n h (block_is off s) = after (is_size (live_size wide 0 h.chunks off) s) h
line n h fresh_is = after (is_fresh n h) h

-- every line of a case is right, in an arena of n words
abbrev pub runs : ℕ → Heap → List Line → Bool
runs n h [] = true
runs n h (l ∷ ls) = let a = line n h l in a.right && runs n a.heap ls

abbrev pub all_run : ℕ → List (List Line) → Bool
all_run n [] = true
all_run n (c ∷ cs) = runs n (fresh_heap n) c && all_run n cs

-- ---- the table

abbrev gets : ℕ → ℕ → Line
gets n off = call (Malloc n) (granted off)

abbrev gives : ℕ → Line
gives off = call (Free off) done

abbrev M : List Line
M = gets 24 16 ∷ gets 25 48 ∷ gets 232 96 ∷ gets 233 336 ∷ top_is 576 368 ∷ []

abbrev D : List Line
D = M ++ (gives 96 ∷ gets 24 96 ∷ dv_is 112 208 ∷ [])

abbrev pub stars : List (List Line)
stars =
    (top_is 0 944 ∷ fresh_is ∷ [])
    ∷ M
    ∷ (M ++ (gives 16 ∷ gets 1 16 ∷ []))
    ∷ D
    ∷ (D ++ (gets 100 128 ∷ gets 88 240 ∷ no_dv_lem ∷ []))
    ∷ (D ++ (call (Realloc 96 232) (granted 96) ∷ no_dv_lem ∷ []))
    ∷ (D ++ (copying (Realloc 96 233) (granted 592) 3 ∷ dv_is 80 240 ∷ top_is 832 112 ∷ []))
    ∷ (gets 920 16 ∷ top_is 928 16 ∷ [])
    ∷ (refusing (Malloc 921) 6 ∷ fresh_is ∷ [])
    ∷ (call (Memalign 64 24) (granted 64) ∷ free_is 0 48 ∷ top_is 80 864 ∷ [])
    ∷ (call (Memalign 32 24) (granted 64) ∷ block_is 64 48 ∷ top_is 96 848 ∷ [])
    ∷ (gets 72 16 ∷ call (Memalign 64 24) (granted 192) ∷ top_is 208 736 ∷ [])
    ∷ (M ++ (gives 336 ∷ gives 16 ∷ gives 96 ∷ gives 48 ∷ fresh_is ∷ []))
    ∷ []

pub morning : all_run 128 stars ≡ true
unfolding need_words need round_up tree_index reach min_size bit huge
morning = refl
