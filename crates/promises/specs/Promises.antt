-- THE PROMISES: document 01's demands in their order, about the very definitions that the calls' contracts cite (`call_a` and `set_up_a` of
-- `calls`, `ByValue`; `lent` and `back` of `lend`). A sentence stands above each statement; that all hold is `kept` in `AllKept`.
-- Throughout, c is the numbers of a record, w the arena's words, k a call, h the heap that both hold, es and fs lists of calls, of owners'
-- writes and of rebuilds. Chunks are counted in words of 8 bytes: `Starts 0 h.chunks x (free s)` says that a free chunk of s words
-- starts at
-- word x. Assumes nothing.
use Rattle.std.specs.Prelude.{◌≡◌, false, List, [], ◌∷◌, ◌↔◌, ◌⊎◌, ℕ, ◌+◌, ◌-◌, ◌*◌, ◌/◌, ◌%◌, ◌≤◌, ◌<◌, length, get_or, set, Result, ⊤}
use Rattle.std.proofs.Math.Option.{none, some}
use Rattle.words.specs.Edition.{wide, no_link}
use Rattle.index.specs.Sizes.{need_words}
use Rattle.tiling.specs.Tiling.{used, free, end_of, Starts}
use Rattle.tiling.specs.Steps.{fresh_words}
use Rattle.rules.specs.Heap.{Heap, fresh_heap}
use Rattle.rules.specs.Source.{Small}
use Rattle.rules.specs.Calls.{Call, Malloc, Free, Realloc, Memalign, Usable, Answer, granted, done, bytes, refused, bad_count}
use Rattle.rules.specs.Calls.{is_in, block_of, live_size, answer_to}
use Rattle.holds.specs.Holds.{Control, Holds, Sound, fresh_control}
use Rattle.holds.specs.Governed.{Governed, GovernedIn}
use Rattle.holds.specs.NoRoom.{Tight}
use Rattle.holds.specs.Alike.{Alike}
use Rattle.lend.specs.LendBytes.{lent, back}
use Rattle.calls.specs.CallBytes.{refusal}
use Rattle.calls.specs.Record.{image, empty_control}
use Rattle.calls.specs.ByValue.{ends, call_a, set_up_a}
use Rattle.calls.specs.CallReach.{call_via, Copies}
use Rattle.calls.specs.Histories.{Box, box, Event, writes, asked, after, answers, heap_after, set_up_on}
use Rattle.calls.specs.InUse.{Ledger}
use Rattle.calls.specs.Kept.{Unmoved, Unwritten}
use Rattle.chunk.specs.declared.access.BlockOff.{BlockOff}
use Rattle.arena.specs.Answers.{answer_of, block_answer, done_answer, bytes_answer}
use Rattle.arena.specs.declared.answers.Reason.{Reason}
use Rattle.arena.specs.Record.{numbers}
use Rattle.arena.specs.Answers as code
use Rattle.arena.specs.declared.control.Control as arena

-- ---- what a call says: its answer, and document 01's number of its refusal, 0 where it is not refused

abbrev pub says : Control → List ℕ → Call → Answer
says c w k = (call_a wide c w k).answer

abbrev pub refused_by : Control → List ℕ → Call → ℕ
refused_by c w k = refusal (says c w k)

-- ---- the rows of document 01's table

-- row 1, the other way round: "word count odd, below 16 or above 8,192"
abbrev pub Allowed : ℕ → Type 0
Allowed m = (m % 2 ≡ 0) × (16 ≤ m) × (m ≤ 8192)

-- row 3: "alignment not one of 32, 64, .. 4,096"
abbrev pub Misaligned : Call → Type 0
Misaligned (Malloc n) = ⊥
Misaligned (Free off) = ⊥
Misaligned (Realloc off n) = ⊥
Misaligned (Memalign al n) = is_in al (32 ∷ 64 ∷ 128 ∷ 256 ∷ 512 ∷ 1024 ∷ 2048 ∷ 4096 ∷ []) ≡ false
Misaligned (Usable off) = ⊥

-- the bytes that a call asks for
abbrev pub asks_for : Call → ℕ
asks_for (Malloc n) = n
asks_for (Free off) = 0
asks_for (Realloc off n) = n
asks_for (Memalign al n) = n
asks_for (Usable off) = 0

-- row 4: "bytes above the arena's byte length"; the arena has m words
abbrev pub TooLong : ℕ → Call → Type 0
TooLong m k = 8 * m < asks_for k

-- row 5: "no live block starts at the offset"
abbrev pub Dead : Heap → Call → Type 0
Dead h (Malloc n) = ⊥
Dead h (Free off) = live_size wide 0 h.chunks off ≡ none
Dead h (Realloc off n) = live_size wide 0 h.chunks off ≡ none
Dead h (Memalign al n) = ⊥
Dead h (Usable off) = live_size wide 0 h.chunks off ≡ none

-- the words that a call asks of malloc: its need; memalign asks for nb + alignment + 32 bytes
abbrev pub wants : Call → ℕ
wants (Malloc n) = need_words 8 n
wants (Free off) = 0
wants (Realloc off n) = need_words 8 n
wants (Memalign al n) = need_words 8 n + al / 8 + 4
wants (Usable off) = 0

-- The block of s words at p has room for nb words where it is: it has them; or it lies before the top and nb is less than both together;
-- or a free chunk of b words follows and nb is no more than both together.
abbrev pub RoomAt : Heap → ℕ → ℕ → ℕ → Type 0
RoomAt h p s nb =
    (nb ≤ s) ⊎ (((p + s ≡ end_of 0 h.chunks) × (nb < s + h.top)) ⊎ ((b : ℕ) × Starts 0 h.chunks (p + s) (free b) × (nb ≤ s + b)))

-- a block starts at the offset and has room where it is for n bytes
abbrev pub OwnPlace : Heap → ℕ → ℕ → Type 0
OwnPlace h off n = (p : ℕ) × (s : ℕ) × Starts 0 h.chunks p (used s) × (off ≡ block_of wide p) × RoomAt h p s (need_words 8 n)

-- row 6: nothing binned or spare is large enough and the top is not larger than the need; for a resize, its own place has no room either
abbrev pub Full : Heap → Call → Type 0
Full h (Malloc n) = Tight h (wants (Malloc n))
Full h (Free off) = ⊥
Full h (Realloc off n) = (OwnPlace h off n → ⊥) × Tight h (wants (Realloc off n))
Full h (Memalign al n) = Tight h (wants (Memalign al n))
Full h (Usable off) = ⊥

-- ---- blocks

-- a live block of n bytes starts at the offset: so the call says
abbrev pub LiveAt : Box → ℕ → ℕ → Type 0
LiveAt s off n = says s.control s.words (Usable off) ≡ bytes n

-- record and words after a call
abbrev pub left : Control → List ℕ → Call → Box
left c w k = asked wide (box c w) k

-- what stands after a granted set-up on w and then es
abbrev pub then : List ℕ → List Event → Box
then w es = after wide (set_up_on wide w) es

-- none of the answers is a refusal by row 1 or 2
abbrev pub NoneUnsound : List Answer → Type 0
NoneUnsound [] = Unit {0}
NoneUnsound (a ∷ told) = (refusal a ≡ 1 → ⊥) × (refusal a ≡ 2 → ⊥) × NoneUnsound told

-- malloc of n bytes is served from the free chunk of s words at x
abbrev pub Serves : Control → List ℕ → Heap → ℕ → ℕ → ℕ → Type 0
Serves c w h n x s = Holds wide c w h × Starts 0 h.chunks x (free s) × (says c w (Malloc n) ≡ granted (block_of wide x))

-- the block of s words at x is resized to n bytes, and is then at y
abbrev pub Resizes : Control → List ℕ → Heap → ℕ → ℕ → ℕ → ℕ → Type 0
Resizes c w h n x s y =
    Holds wide c w h × Starts 0 h.chunks x (used s) × (says c w (Realloc (block_of wide x) n) ≡ granted (block_of wide y))

-- what the block of s words at x has to itself for a need of nb words: its own words, or these and the free chunk behind it
abbrev pub OwnWords : Heap → ℕ → ℕ → ℕ → ℕ → Type 0
OwnWords h x s nb t = ((nb ≤ s) × (t ≡ s)) ⊎ ((s < nb) × ((b : ℕ) × Starts 0 h.chunks (x + s) (free b) × (t ≡ s + b)))

-- two arenas of one length agree in document 01's list of governed words
abbrev pub Agree : Heap → List ℕ → List ℕ → Type 0
Agree h w v = (length v ≡ length w) × ((i : ℕ) → Governed h i → get_or v i 0 ≡ get_or w i 0)

-- ---- the promises

-- DOCUMENT 01'S NUMBERS that the statements below use.
pub record Numbers : Type 0 where
  -- The need, in bytes: 32 for a request below 23, else the request plus 8, rounded up to 16.
  pub need_least : (n : ℕ) → n < 23 → 8 * need_words 8 n ≡ 32
  pub need : (n : ℕ) → 23 ≤ n → (n + 8 ≤ 8 * need_words 8 n) × (8 * need_words 8 n < n + 24) × (8 * need_words 8 n % 16 ≡ 0)
  -- block = chunk + 16, in bytes.
  pub block : (p : ℕ) → block_of wide p ≡ 8 * p + 16

-- DEMAND 1. Any record, arena and numbers may be handed to any call.
pub record AnyInput : Type 0 where
  -- 1 is said exactly when the word count is not allowed.
  pub row_1 : (c : Control) (w : List ℕ) (k : Call) → refused_by c w k ≡ 1 ↔ (Allowed (length w) → ⊥)
  -- 2 is said exactly when the count is allowed, and record and arena are not sound.
  pub row_2 : (c : Control) (w : List ℕ) (k : Call) → refused_by c w k ≡ 2 ↔ Allowed (length w) × (Sound wide c w → ⊥)
  -- 3, 4, 5 and 6 are said exactly when theirs is the first row that applies.
  pub row_3 : (c : Control) (w : List ℕ) (h : Heap) (k : Call) → Holds wide c w h → refused_by c w k ≡ 3 ↔ Misaligned k
  pub row_4 : (c : Control) (w : List ℕ) (h : Heap) (k : Call) → Holds wide c w h
      → refused_by c w k ≡ 4 ↔ (Misaligned k → ⊥) × TooLong (length w) k
  pub row_5 : (c : Control) (w : List ℕ) (h : Heap) (k : Call) → Holds wide c w h
      → refused_by c w k ≡ 5 ↔ (Misaligned k → ⊥) × (TooLong (length w) k → ⊥) × Dead h k
  pub row_6 : (c : Control) (w : List ℕ) (h : Heap) (k : Call) → Holds wide c w h
      → refused_by c w k ≡ 6 ↔ (Misaligned k → ⊥) × (TooLong (length w) k → ⊥) × (Dead h k → ⊥) × Full h k
  -- A refused call hands back the given record and leaves the arena word for word.
  pub unchanged : (c : Control) (w : List ℕ) (k : Call) → (refused_by c w k ≡ 0 → ⊥) → left c w k ≡ box c w
  -- Nothing is written outside the arena: it has as many words as before.
  pub within : (c : Control) (w : List ℕ) (k : Call) → length (left c w k).words ≡ length w
  -- Set-up knows only 1, and then returns the empty record with length 0; else it makes the fresh heap.
  pub set_up_refused : (w : List ℕ) → (Allowed (length w) → ⊥)
      → set_up_a wide w ≡ ends (refused bad_count) (empty_control wide (no_link wide) 0 0) w
  pub set_up_done : (w : List ℕ) → Allowed (length w) → set_up_a wide w ≡ ends done (fresh_control wide (length w)) (fresh_words wide w)
  pub set_up_holds : (w : List ℕ) → Allowed (length w)
      → Holds wide (fresh_control wide (length w)) (fresh_words wide w) (fresh_heap (length w))
  -- It writes the top's head, length - 80 + 1, at word 1, and 80 in the word at byte length - 72. No other word changes.
  pub set_up_head : (w : List ℕ) → Allowed (length w) → get_or (set_up_a wide w).words 1 0 ≡ 8 * length w - 80 + 1
  pub set_up_foot : (w : List ℕ) → Allowed (length w) → get_or (set_up_a wide w).words (length w - 72 / 8) 0 ≡ 80
  pub set_up_else : (w : List ℕ) (i : ℕ) → Allowed (length w) → (i ≡ 1 → ⊥) → (i ≡ length w - 72 / 8 → ⊥)
      → get_or (set_up_a wide w).words i 0 ≡ get_or w i 0

-- DEMAND 2. On sound pairs each call does what the rules say.
pub record TheRules : Type 0 where
  -- The answer is the rule's, and the rule's heap is held after it.
  pub obeys : (c : Control) (w : List ℕ) (h : Heap) (k : Call) → Holds wide c w h → let o = answer_to wide (length w) h k in
      (says c w k ≡ o.answer) × Holds wide (left c w k).control (left c w k).words o.heap
  -- Bins serve before the top: a block is cut from the top only where every binned or spare chunk is too small for what malloc is asked.
  pub bins_first : (c : Control) (w : List ℕ) (h : Heap) (k : Call) (off : ℕ) → Holds wide c w h → says c w k ≡ granted off
      → block_of wide (end_of 0 h.chunks) ≤ off → Small h (wants k)
  -- A resize tries its own place first: the block stays where it is exactly when that has room.
  pub own_place_first : (c : Control) (w : List ℕ) (h : Heap) (off n : ℕ) → Holds wide c w h
      → says c w (Realloc off n) ≡ granted off ↔ (n ≤ 8 * length w) × OwnPlace h off n
  -- Which words a call may change: those that are governed in a heap that it passes through, and those that a move copies into. No other.
  pub reaches : (c : Control) (w : List ℕ) (h : Heap) (k : Call) (i : ℕ) → Holds wide c w h → (GovernedIn (call_via wide h k) i → ⊥)
      → (Copies wide h k i → ⊥) → get_or (left c w k).words i 0 ≡ get_or w i 0
  -- A move copies exactly the old chunk's size - 8 bytes: so many of the new block's first words are the old one's. What stays copies none.
  pub copies_into : (c : Control) (w : List ℕ) (h : Heap) (n x s y i : ℕ) → Resizes c w h n x s y → (y ≡ x → ⊥)
      → Copies wide h (Realloc (block_of wide x) n) i ↔ (y + 2 ≤ i) × (8 * i < 8 * (y + 2) + (8 * s - 8))
  pub copies_what : (c : Control) (w : List ℕ) (h : Heap) (n x s y i : ℕ) → Resizes c w h n x s y → (y ≡ x → ⊥) → 8 * i < 8 * s - 8
      → get_or (left c w (Realloc (block_of wide x) n)).words (y + 2 + i) 0 ≡ get_or w (x + 2 + i) 0
  pub copies_many : (c : Control) (w : List ℕ) (h : Heap) (n x s y : ℕ) → Resizes c w h n x s y → (y ≡ x → ⊥)
      → 8 * (answer_to wide (length w) h (Realloc (block_of wide x) n)).copied ≡ 8 * s - 8
  pub copies_none : (c : Control) (w : List ℕ) (h : Heap) (n x s i : ℕ) → Resizes c w h n x s x
      → Copies wide h (Realloc (block_of wide x) n) i → ⊥
  -- Usable is head size - 8: the chunk has s words.
  pub usable : (c : Control) (w : List ℕ) (h : Heap) (off s : ℕ) → Holds wide c w h → live_size wide 0 h.chunks off ≡ some s
      → says c w (Usable off) ≡ bytes (8 * s - 8)
  -- The granted chunk is a function of the sizes, their ages and the spare chunk alone: whatever shapes the tries have, the same answers.
  pub shape_free : (c d : Control) (w v : List ℕ) (h g : Heap) → Holds wide c w h → Holds wide d v g → length w ≡ length v → Alike h g
      → (es : List Event) → answers wide (box c w) es ≡ answers wide (box d v) es

-- WHAT IS GRANTED, and where the remainder goes.
pub record Grants : Type 0 where
  -- A grant of n bytes is live at its offset, with at least n usable bytes.
  pub enough : (c : Control) (w : List ℕ) (h : Heap) (k : Call) (off : ℕ) → Holds wide c w h → says c w k ≡ granted off
      → (m : ℕ) × LiveAt (left c w k) off m × (asks_for k ≤ m)
  -- Its chunk is less than the need + 32 bytes, after memalign at most that.
  pub tight : (c : Control) (w : List ℕ) (h : Heap) (k : Call) (off m : ℕ) → Holds wide c w h → says c w k ≡ granted off
      → LiveAt (left c w k) off m → m + 8 ≤ 8 * need_words 8 (asks_for k) + 32
  pub tight_malloc : (c : Control) (w : List ℕ) (h : Heap) (n off m : ℕ) → Holds wide c w h → says c w (Malloc n) ≡ granted off
      → LiveAt (left c w (Malloc n)) off m → m + 8 < 8 * need_words 8 n + 32
  pub tight_realloc : (c : Control) (w : List ℕ) (h : Heap) (b n off m : ℕ) → Holds wide c w h → says c w (Realloc b n) ≡ granted off
      → LiveAt (left c w (Realloc b n)) off m → m + 8 < 8 * need_words 8 n + 32
  -- Its offset is a multiple of 16, and memalign's of its alignment.
  pub granule : (c : Control) (w : List ℕ) (h : Heap) (k : Call) (off : ℕ) → Holds wide c w h → says c w k ≡ granted off → off % 16 ≡ 0
  pub aligned : (c : Control) (w : List ℕ) (h : Heap) (al n off : ℕ) → Holds wide c w h → says c w (Memalign al n) ≡ granted off
      → (j : ℕ) × (off ≡ j * al)
  -- Of the free chunk that serves malloc, 32 bytes or more beyond the need are free again behind the block; less stays with the block.
  pub rest_split : (c : Control) (w : List ℕ) (h : Heap) (n x s : ℕ) → Serves c w h n x s → need_words 8 n + 4 ≤ s
      → LiveAt (left c w (Malloc n)) (block_of wide x) (8 * need_words 8 n - 8)
  pub rest_free : (c : Control) (w : List ℕ) (h g : Heap) (n x s : ℕ) → Serves c w h n x s → need_words 8 n + 4 ≤ s
      → Holds wide (left c w (Malloc n)).control (left c w (Malloc n)).words g
      → Starts 0 g.chunks (x + need_words 8 n) (free (s - need_words 8 n))
  pub rest_stays : (c : Control) (w : List ℕ) (h : Heap) (n x s : ℕ) → Serves c w h n x s → s < need_words 8 n + 4
      → LiveAt (left c w (Malloc n)) (block_of wide x) (8 * s - 8)
  -- The rest is `dv` for a need below 256 bytes, or where the chunk was `dv` itself; else `dv` is what it was, and so the rest is in a bin.
  pub rest_spare : (c : Control) (w : List ℕ) (h : Heap) (n x s : ℕ) → Serves c w h n x s → need_words 8 n + 4 ≤ s
      → (8 * need_words 8 n < 256) ⊎ (c.dv ≡ 8 * x) → let d = (left c w (Malloc n)).control in
      (d.dv ≡ 8 * (x + need_words 8 n)) × (d.dv_size ≡ 8 * (s - need_words 8 n))
  pub rest_binned : (c : Control) (w : List ℕ) (h : Heap) (n x s : ℕ) → Serves c w h n x s → 256 ≤ 8 * need_words 8 n → (c.dv ≡ 8 * x → ⊥)
      → let d = (left c w (Malloc n)).control in (d.dv ≡ c.dv) × (d.dv_size ≡ c.dv_size)
  -- From the top the rest is the top.
  pub rest_top : (c : Control) (w : List ℕ) (h : Heap) (n : ℕ) → Holds wide c w h → says c w (Malloc n) ≡ granted (c.top + 16)
      → let d = (left c w (Malloc n)).control in (d.top ≡ c.top + 8 * need_words 8 n) × (d.top_size ≡ c.top_size - 8 * need_words 8 n)
  -- A resize that stays: of what the block has to itself 32 bytes or more beyond the need are split off, less stays with the block.
  pub resize_split : (c : Control) (w : List ℕ) (h : Heap) (n x s t : ℕ) → Resizes c w h n x s x → OwnWords h x s (need_words 8 n) t
      → need_words 8 n + 4 ≤ t → LiveAt (left c w (Realloc (block_of wide x) n)) (block_of wide x) (8 * need_words 8 n - 8)
  pub resize_stays : (c : Control) (w : List ℕ) (h : Heap) (n x s t : ℕ) → Resizes c w h n x s x → OwnWords h x s (need_words 8 n) t
      → t < need_words 8 n + 4 → LiveAt (left c w (Realloc (block_of wide x) n)) (block_of wide x) (8 * t - 8)
  -- Into the top it has just the need, and the rest is the top.
  pub resize_top : (c : Control) (w : List ℕ) (h : Heap) (n x s : ℕ) → Resizes c w h n x s x → s < need_words 8 n → 8 * (x + s) ≡ c.top
      → let d = (left c w (Realloc (block_of wide x) n)).control in LiveAt (left c w (Realloc (block_of wide x) n)) (block_of wide x)
      (8 * need_words 8 n - 8)
      × (d.top ≡ 8 * (x + need_words 8 n)) × (d.top_size ≡ c.top_size + 8 * s - 8 * need_words 8 n)

-- LENDING: the words of a live block, to its owner.
pub record Lends : Type 0 where
  -- For any record, arena and offset: as many bytes are lent as `usable` says, and none exactly where it refuses.
  pub lent_bytes : (c : Control) (w : List ℕ) (off n : ℕ) → says c w (Usable off) ≡ bytes n → 8 * length (lent wide (image c) w off) ≡ n
  pub empty_as_refused : (c : Control) (w : List ℕ) (off : ℕ) → lent wide (image c) w off ≡ [] ↔ (refused_by c w (Usable off) ≡ 0 → ⊥)
  -- They are the block's own: from word 2 of its chunk on.
  pub lent_words : (c : Control) (w : List ℕ) (h : Heap) (x s i : ℕ) → Holds wide c w h → Starts 0 h.chunks x (used s)
      → 8 * i < 8 * s - 8 → get_or (lent wide (image c) w (block_of wide x)) i 0 ≡ get_or w (x + 2 + i) 0
  -- A word of them written, and the part given back, is the event `writes` of a history.
  pub store_writes : (c : Control) (w : List ℕ) (h : Heap) (off i v : ℕ) → Holds wide c w h
      → back wide (image c) w off (set (lent wide (image c) w off) i v) ≡ (after wide (box c w) (writes off i v ∷ [])).words

-- DEMAND 3. From one granted set-up, after any calls and owners' writes (and rebuilds of a lost record, document 02).
pub record Histories : Type 0 where
  -- None was refused as unsound.
  pub none_unsound : (w : List ℕ) (es : List Event) → Allowed (length w) → NoneUnsound (answers wide (set_up_on wide w) es)
  -- The blocks in use are exactly those granted and not since given back or moved.
  pub in_use : (w : List ℕ) (es : List Event) (off : ℕ) → Allowed (length w)
      → ((n : ℕ) × LiveAt (then w es) off n) ↔ Ledger (λ o. ⊥) es (answers wide (set_up_on wide w) es) off
  -- No two share a byte, and none reaches outside the arena.
  pub apart : (w : List ℕ) (es : List Event) (off n off' n' : ℕ) → Allowed (length w) → LiveAt (then w es) off n
      → LiveAt (then w es) off' n' → (off ≡ off' → ⊥) → (off + n ≤ off') ⊎ (off' + n' ≤ off)
  pub inside : (w : List ℕ) (es : List Event) (off n : ℕ) → Allowed (length w) → LiveAt (then w es) off n → off + n ≤ 8 * length w
  -- A block stays where it is, with its size, while no call that names it is granted or done;
  pub stays : (w : List ℕ) (es fs : List Event) (x n : ℕ) → Allowed (length w) → LiveAt (then w es) (block_of wide x) n
      → Unmoved wide (then w es) fs x → LiveAt (after wide (then w es) fs) (block_of wide x) n
  -- and each of its words while its owner does not write that word.
  pub keeps : (w : List ℕ) (es fs : List Event) (x n i : ℕ) → Allowed (length w) → LiveAt (then w es) (block_of wide x) n → 8 * i < n
      → Unmoved wide (then w es) fs x → Unwritten wide fs x i
      → get_or (after wide (then w es) fs).words (x + 2 + i) 0 ≡ get_or (then w es).words (x + 2 + i) 0
  -- What the owner writes is read back.
  pub reads_back : (w : List ℕ) (es : List Event) (x n i v : ℕ) → Allowed (length w) → LiveAt (then w es) (block_of wide x) n → 8 * i < n
      → get_or (after wide (then w es) (writes (block_of wide x) i v ∷ [])).words (x + 2 + i) 0 ≡ v
  -- After a resize the words are as before, as far as both sizes reach.
  pub resize_keeps : (w : List ℕ) (es : List Event) (x y m n n' i : ℕ) → Allowed (length w) → LiveAt (then w es) (block_of wide x) n
      → let k = Realloc (block_of wide x) m in let t = left (then w es).control (then w es).words k in
      says (then w es).control (then w es).words k ≡ granted (block_of wide y) → LiveAt t (block_of wide y) n'
      → 8 * i < n → 8 * i < n' → get_or t.words (y + 2 + i) 0 ≡ get_or (then w es).words (x + 2 + i) 0
  -- When the last is given back, in whatever order, the record is the fresh one, and every later list gets a fresh arena's answers.
  pub fresh_record : (w : List ℕ) (es : List Event) → Allowed (length w) → ((off n : ℕ) → LiveAt (then w es) off n → ⊥)
      → (then w es).control ≡ fresh_control wide (length w)
  pub fresh-answers : (w v : List ℕ) (es fs : List Event) → Allowed (length w) → length v ≡ length w
      → ((off n : ℕ) → LiveAt (then w es) off n → ⊥) → answers wide (then w es) fs ≡ answers wide (set_up_on wide v) fs

-- WHAT MAY SWAY AN ANSWER: the call's numbers, the record, and document 01's list of governed words.
pub record Swayed : Type 0 where
  -- Two arenas that agree in the list, under one record, get the same answers,
  pub same_answers : (c : Control) (w v : List ℕ) (h : Heap) → Holds wide c w h → Agree h w v → (es : List Event)
      → answers wide (box c v) es ≡ answers wide (box c w) es
  -- and go on agreeing in it, record and all.
  pub same_record : (c : Control) (w v : List ℕ) (h : Heap) → Holds wide c w h → Agree h w v → (es : List Event)
      → (after wide (box c v) es).control ≡ (after wide (box c w) es).control
  pub same_words : (c : Control) (w v : List ℕ) (h : Heap) → Holds wide c w h → Agree h w v → (es : List Event)
      → Agree (heap_after wide (length w) h es) (after wide (box c w) es).words (after wide (box c v) es).words

-- NO SECOND OUTCOME: two outcomes that both fit a call's contract are one, in the types of the code.
pub record Settled : Type 0 where
  -- What a call returns, the record that it hands back and every word: malloc, realloc and memalign return a block,
  pub block : (c d d' : arena.Control) (w v v' : List ℕ) (k : Call) (x x' : Result BlockOff Reason)
      → ends (block_answer x) (numbers d) v ≡ call_a wide (numbers c) w k → ends (block_answer x') (numbers d') v' ≡ call_a wide (numbers c) w k
      → (x ≡ x') × (d ≡ d') × (v ≡ v')
  -- free says that it is done,
  pub done : (c d d' : arena.Control) (w v v' : List ℕ) (k : Call) (x x' : Result ⊤ Reason)
      → ends (done_answer x) (numbers d) v ≡ call_a wide (numbers c) w k → ends (done_answer x') (numbers d') v' ≡ call_a wide (numbers c) w k
      → (x ≡ x') × (d ≡ d') × (v ≡ v')
  -- usable returns a number of bytes,
  pub bytes : (c d d' : arena.Control) (w v v' : List ℕ) (k : Call) (x x' : Result ℕ Reason)
      → ends (bytes_answer x) (numbers d) v ≡ call_a wide (numbers c) w k → ends (bytes_answer x') (numbers d') v' ≡ call_a wide (numbers c) w k
      → (x ≡ x') × (d ≡ d') × (v ≡ v')
  -- and set-up says that it is done.
  pub fresh : (d d' : arena.Control) (w v v' : List ℕ) (x x' : Result ⊤ Reason)
      → ends (done_answer x) (numbers d) v ≡ set_up_a wide w → ends (done_answer x') (numbers d') v' ≡ set_up_a wide w
      → (x ≡ x') × (d ≡ d') × (v ≡ v')
  -- The same of any answer in the code's own offsets and reasons, with the code's record.
  pub call : (c d d' : arena.Control) (w v v' : List ℕ) (k : Call) (a a' : code.Answer)
      → ends (answer_of a) (numbers d) v ≡ call_a wide (numbers c) w k → ends (answer_of a') (numbers d') v' ≡ call_a wide (numbers c) w k
      → (a ≡ a') × (d ≡ d') × (v ≡ v')
  pub set_up : (d d' : arena.Control) (w v v' : List ℕ) (a a' : code.Answer)
      → ends (answer_of a) (numbers d) v ≡ set_up_a wide w → ends (answer_of a') (numbers d') v' ≡ set_up_a wide w
      → (a ≡ a') × (d ≡ d') × (v ≡ v')
  -- And two results of the code that say the same answer are one: of a block, of a call that is done, of a number of bytes.
  pub one_block : (x x' : Result BlockOff Reason) → block_answer x ≡ block_answer x' → x ≡ x'
  pub one_done : (x x' : Result ⊤ Reason) → done_answer x ≡ done_answer x' → x ≡ x'
  pub one_bytes : (x x' : Result ℕ Reason) → bytes_answer x ≡ bytes_answer x' → x ≡ x'

-- ALL OF IT.
pub record Promises : Type 0 where
  pub numbers : Numbers
  pub any_input : AnyInput
  pub the_rules : TheRules
  pub grants : Grants
  pub lends : Lends
  pub histories : Histories
  pub swayed : Swayed
  pub settled : Settled
