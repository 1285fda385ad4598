-- THE CALLS, in bytes and offsets: what each answers and leaves, on a heap that is held in an arena of n words, and the refusals with document
-- 01's numbers in document 01's order. Rows 1 and 2 of its table come before there is a heap: a word count that is not allowed, and a record and
-- arena that hold no heap. Assumes nothing.
use Rattle.std.specs.Prelude.{Bool, true, false, ◌&&◌, List, [], ◌∷◌, ℕ, ◌+◌, ◌-◌, ◌*◌, ◌/◌, ◌%◌, leb, ltb, eqb}
use Rattle.std.proofs.Math.Option.{Option, none, some}
use Rattle.words.specs.Logic.{pick}
use Rattle.words.specs.Edition.{Edition, wide, narrow, W}
use Rattle.index.specs.Sizes.{need_words}
use Rattle.tiling.specs.Tiling.{Chunk, used, free}
use Rattle.rules.specs.Heap.{Heap, fresh_heap}
use Rattle.rules.specs.Malloc.{Grant, malloc}
use Rattle.rules.specs.Free.{give_back}
use Rattle.rules.specs.Realloc.{realloc}
use Rattle.rules.specs.Memalign.{memalign}

pub data Call : Type 0 where
  Malloc : ℕ → Call  -- bytes
  Free : ℕ → Call  -- offset
  Realloc : ℕ → ℕ → Call  -- offset, bytes
  Memalign : ℕ → ℕ → Call  -- alignment, bytes
  Usable : ℕ → Call  -- offset

-- "When the box says no"
pub data Reason : Type 0 where
  bad_count unsound bad_alignment too_many : Reason
  not_live : ℕ → Reason  -- the offset it was asked about
  no_room : Reason

abbrev pub number : Reason → ℕ
number bad_count = 1
number unsound = 2
number bad_alignment = 3
number too_many = 4
number (not_live off) = 5
number no_room = 6

pub data Answer : Type 0 where
  granted : ℕ → Answer  -- the block's offset
  done : Answer
  bytes : ℕ → Answer  -- usable
  refused : Reason → Answer

-- what a call answers, the heap it leaves, and how many words it copied
pub record Outcome : Type 0 where
  pub answer : Answer
  pub heap : Heap
  pub copied : ℕ

abbrev pub outcome : Answer → Heap → ℕ → Outcome
outcome a h k = record { answer = a; heap = h; copied = k }

-- a refused call leaves the heap
abbrev pub refuse : Heap → Reason → Outcome
refuse h r = outcome (refused r) h 0

-- ---- numbers

-- row 1: "word count odd, below 16 or above 8,192"
abbrev pub allowed_count : ℕ → Bool
allowed_count n = eqb (n % 2) 0 && (leb 16 n && leb n 8192)

-- row 3: "alignment not one of 32, 64, .. 4,096"
abbrev pub is_in : ℕ → List ℕ → Bool
is_in x [] = false
is_in x (y ∷ ys) = pick (eqb x y) true (is_in x ys)

abbrev pub alignments : Edition → List ℕ
alignments wide = 32 ∷ 64 ∷ 128 ∷ 256 ∷ 512 ∷ 1024 ∷ 2048 ∷ 4096 ∷ []
alignments narrow = 16 ∷ 32 ∷ 64 ∷ 128 ∷ 256 ∷ 512 ∷ 1024 ∷ 2048 ∷ 4096 ∷ []

-- "block = chunk + 16", and back
abbrev pub block_of : Edition → ℕ → ℕ
block_of e p = W e * (p + 2)

abbrev pub place_of : Edition → ℕ → ℕ
place_of e off = off / W e - 2

-- row 5: the size of the live block that starts at the offset; the list starts at a
abbrev pub live_size : Edition → ℕ → List Chunk → ℕ → Option ℕ
live_size e a [] off = none
live_size e a (used s ∷ cs) off = pick (eqb off (block_of e a)) (some s) (live_size e (a + s) cs off)
live_size e a (free s ∷ cs) off = live_size e (a + s) cs off

-- ---- answers

-- row 6, or the grant of a chunk
abbrev pub grant_or6 : Edition → Heap → Option Grant → Outcome
grant_or6 e h none = refuse h no_room
grant_or6 e h (some g) = outcome (granted (block_of e g.place)) g.heap 0

-- "A move copies exactly the old chunk's size - 8 bytes, always whole words"; s is the old size
abbrev pub moved_or6 : Edition → Heap → ℕ → ℕ → Option Grant → Outcome
moved_or6 e h p s none = refuse h no_room
moved_or6 e h p s (some g) = outcome (granted (block_of e g.place)) g.heap (pick (eqb g.place p) 0 (s - 1))

abbrev pub free_call : Edition → Heap → Option ℕ → ℕ → Outcome
free_call e h none off = refuse h (not_live off)
free_call e h (some s) off = outcome done (give_back e h (place_of e off)) 0

abbrev pub realloc_call : Edition → Heap → Option ℕ → ℕ → ℕ → Outcome
realloc_call e h none off n = refuse h (not_live off)
realloc_call e h (some s) off n = moved_or6 e h (place_of e off) s (realloc e h (place_of e off) (need_words (W e) n))

-- "it equals head size - 8"
abbrev pub usable_call : Edition → Heap → Option ℕ → ℕ → Outcome
usable_call e h none off = refuse h (not_live off)
usable_call e h (some s) off = outcome (bytes (W e * (s - 1))) h 0

-- row 4: "bytes above the arena's byte length"
abbrev pub unless_too_many : Edition → ℕ → Heap → ℕ → Outcome → Outcome
unless_too_many e words h n o = pick (ltb (W e * words) n) (refuse h too_many) o

-- a call on a heap that is held in an arena of `words` words
abbrev pub answer_to : Edition → ℕ → Heap → Call → Outcome
answer_to e words h (Malloc n) = unless_too_many e words h n (grant_or6 e h (malloc e h (need_words (W e) n)))
answer_to e words h (Free off) = free_call e h (live_size e 0 h.chunks off) off
answer_to e words h (Realloc off n) = unless_too_many e words h n (realloc_call e h (live_size e 0 h.chunks off) off n)
answer_to e words h (Memalign al n) =
    pick (is_in al (alignments e)) (unless_too_many e words h n (grant_or6 e h (memalign e h (al / W e) (need_words (W e) n)))) (refuse h bad_alignment)
answer_to e words h (Usable off) = usable_call e h (live_size e 0 h.chunks off) off

-- set-up "knows only 1"
abbrev pub set_up : ℕ → Option Heap
set_up n = pick (allowed_count n) (some (fresh_heap n)) none
