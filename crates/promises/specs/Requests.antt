-- DOCUMENT 02'S REQUESTS, one record each, in its own numbers. A sentence stands above each statement; that all hold is `requests_kept` in
-- `AllKept`. Throughout, c is the numbers of a record, w the arena's words, es a history. Assumes nothing.
use Rattle.std.specs.Prelude.{◌≡◌, List, [], ◌∷◌, ◌++◌, ◌↔◌, ◌⊎◌, ℕ, zero, suc, ◌+◌, ◌*◌, ◌/◌, ◌%◌, ◌≤◌, ◌<◌, eqb, length, get_or, Result, ⊤}
use Rattle.std.proofs.Math.Option.{Option, none, some}
use Rattle.words.specs.Logic.{pick}
use Rattle.words.specs.Edition.{wide, no_link}
use Rattle.index.specs.Sizes.{need_words}
use Rattle.index.specs.TreeBin.{tree_index}
use Rattle.tries.specs.Tree.{leaf}
use Rattle.tiling.specs.Tiling.{Chunk, used, free, Heads, Starts}
use Rattle.rules.specs.Heap.{Heap, fresh_heap}
use Rattle.rules.specs.Calls.{Call, Malloc, Free, Realloc, Memalign, Answer, granted, done, bytes, refused, is_in, block_of}
use Rattle.holds.specs.Holds.{Control, Holds, Sound}
use Rattle.holds.specs.Governed.{Governed, Tiled}
use Rattle.holds.specs.Rings.{ring_of}
use Rattle.rebuild.specs.CrateWay.{takes, gives}
use Rattle.calls.specs.CallBytes.{refusal}
use Rattle.calls.specs.Record.{empty_control}
use Rattle.calls.specs.ByValue.{ends, call_a, rebuild_a}
use Rattle.calls.specs.Histories.{Box, box, Event, asks, remade_box, after, answers, heap_after, set_up_on}
use Rattle.arena.specs.Answers.{answer_of, done_answer}
use Rattle.arena.specs.declared.answers.Reason.{Reason}
use Rattle.arena.specs.Record.{numbers}
use Rattle.arena.specs.Answers as code
use Rattle.arena.specs.declared.control.Control as arena
use Rattle.batch.specs.BatchBytes.{ended, batch_a}
use Rattle.batch.specs.Whole.{whole_number}
use Rattle.batch.specs.declared.whole.Whole.{Whole}
use Rattle.batch.specs.declared.whole.WholeRefusal.{WholeRefusal}
use Rattle.promises.specs.Promises.{says, Allowed, LiveAt, then, Serves, Agree}

-- ---- (xiii) rebuild after a lost record: start is the arena's address modulo 4,096, cs its chunks in address order without the top, ts
-- the top's
-- words; what a rebuild hands back is `rebuild_a` of `calls`, `ByValue`, which the contract of the call cites

-- the word count and the start are set-up's, and the words meet the first two points of "Sound": the chunks cs tile 0 to the top, the top
-- of ts words ends at length - 80, and sizes, flags, free feet and the foot word are right
abbrev pub Meets : List ℕ → ℕ → List Chunk → ℕ → Type 0
Meets w start cs ts = Allowed (length w) × (start ≡ 0) × Heads wide w cs ts

abbrev pub asks_all : List Call → List Event
asks_all [] = []
asks_all (c ∷ cs) = asks c ∷ asks_all cs

-- document 02's way on a fresh arena: "every chunk but the top taken in address order, then the free ones given back from the lowest up"
abbrev pub in_order : List Chunk → List Event
in_order cs = asks_all (takes wide cs ++ gives wide 0 cs)

-- word i is one of words 2 to 7 of a free chunk, or, where that has less than 256 bytes, one of its words 2 and 3
abbrev pub BinWord : List Chunk → ℕ → Type 0
BinWord cs i = (x : ℕ) × (s : ℕ) × (k : ℕ) × Starts 0 cs x (free s) × (i ≡ x + k) × (2 ≤ k) × (k < 8) × (8 * s < 256 → k < 4)

pub record Rebuild : Type 0 where
  -- It is granted exactly when the word count and the start are allowed and the words meet the first two points of "Sound".
  pub granted_exactly : (w : List ℕ) (start : ℕ)
      → refusal (rebuild_a wide w start).answer ≡ 0 ↔ ((cs : List Chunk) × (ts : ℕ) × Meets w start cs ts)
  -- 1 is said exactly when the word count is not allowed, or the start is one that set-up refuses: any but 0.
  pub refused_1 : (w : List ℕ) (start : ℕ)
      → refusal (rebuild_a wide w start).answer ≡ 1 ↔ ((Allowed (length w) → ⊥) ⊎ (start ≡ 0 → ⊥))
  -- 2 is said exactly when both are allowed and no chunks and top meet the two points.
  pub refused_2 : (w : List ℕ) (start : ℕ)
      → refusal (rebuild_a wide w start).answer ≡ 2
      ↔ (Allowed (length w) × (start ≡ 0) × ((cs : List Chunk) (ts : ℕ) → Heads wide w cs ts → ⊥))
  -- Refused, it hands back set-up's empty record, and no word is changed.
  pub unchanged : (w : List ℕ) (start : ℕ) → (refusal (rebuild_a wide w start).answer ≡ 0 → ⊥)
      → ((rebuild_a wide w start).control ≡ empty_control wide (no_link wide) 0 0) × ((rebuild_a wide w start).words ≡ w)
  -- Granted, the record and the words are sound, with the chunks that the heads say and no spare chunk. The bins are those that the rules
  -- fill on a fresh arena where every chunk but the top is taken in address order and then the free ones are given back from the lowest up.
  pub leaves : (w : List ℕ) (start : ℕ) (cs : List Chunk) (ts : ℕ) → Meets w start cs ts
      → let t = rebuild_a wide w start in
      let h = heap_after wide (length w) (fresh_heap (length w)) (in_order cs) in
      Holds wide t.control t.words h × (h.chunks ≡ cs) × (h.top ≡ ts) × (h.dv ≡ none)
  -- So are the record, number for number, and every word that may sway an answer: our own calls leave the same on any fresh arena v of that
  -- length.
  pub same_record : (w v : List ℕ) (start : ℕ) (cs : List Chunk) (ts : ℕ) → Meets w start cs ts → length v ≡ length w
      → (rebuild_a wide w start).control ≡ (then v (in_order cs)).control
  pub same_words : (w v : List ℕ) (start : ℕ) (cs : List Chunk) (ts i : ℕ) → Meets w start cs ts → length v ≡ length w
      → Governed (heap_after wide (length w) (fresh_heap (length w)) (in_order cs)) i
      → get_or (rebuild_a wide w start).words i 0 ≡ get_or (then v (in_order cs)).words i 0
  -- It writes the bin words of free chunks and nothing else.
  pub writes_links : (w : List ℕ) (start : ℕ) (cs : List Chunk) (ts i : ℕ) → Meets w start cs ts → (BinWord cs i → ⊥)
      → get_or (rebuild_a wide w start).words i 0 ≡ get_or w i 0
  -- The owner of a chunk in use of n words, at x, finds its n - 1 words as they were.
  pub keeps : (w : List ℕ) (start : ℕ) (cs : List Chunk) (ts x n i : ℕ) → Meets w start cs ts → Starts 0 cs x (used n) → i + 1 < n
      → get_or (rebuild_a wide w start).words (x + 2 + i) 0 ≡ get_or w (x + 2 + i) 0
  -- After any history, rebuilds in it too, it is granted, and a live block stays live, with its size and every word. A history goes on
  -- through it: `rebuilds` is an event, so `Histories` says of it too: none unsound, in use, apart, kept, and at the end the fresh record.
  pub in_a_history : (w : List ℕ) (es : List Event) → Allowed (length w) → (rebuild_a wide (then w es).words 0).answer ≡ done
  pub stays_live : (w : List ℕ) (es : List Event) (x n : ℕ) → Allowed (length w) → LiveAt (then w es) (block_of wide x) n
      → let s = remade_box wide (then w es) in
      LiveAt s (block_of wide x) n × ((i : ℕ) → 8 * i < n → get_or s.words (x + 2 + i) 0 ≡ get_or (then w es).words (x + 2 + i) 0)
  -- No second outcome: two that both fit the contract, in the types of the code, are one: what the rebuild returns, the record that it hands
  -- back, every word.
  pub settled_in_code : (d d' : arena.Control) (w v v' : List ℕ) (start : ℕ) (x x' : Result ⊤ Reason)
      → ends (done_answer x) (numbers d) v ≡ rebuild_a wide w start → ends (done_answer x') (numbers d') v' ≡ rebuild_a wide w start
      → (x ≡ x') × (d ≡ d') × (v ≡ v')
  -- The same of any answer in the code's own offsets and reasons, with the code's record.
  pub settled : (d d' : arena.Control) (w v v' : List ℕ) (start : ℕ) (a a' : code.Answer)
      → ends (answer_of a) (numbers d) v ≡ rebuild_a wide w start → ends (answer_of a') (numbers d') v' ≡ rebuild_a wide w start
      → (a ≡ a') × (d ≡ d') × (v ≡ v')

-- ---- (xi) one check for a whole schedule: cs is the list of calls, xs what the list for the answers holds before

-- "kind 0 to 3 for malloc, free, realloc, memalign, then two numbers, .. a lone one first"; no other kind is a call
abbrev pub call_of : ℕ → ℕ → ℕ → Option Call
call_of kind x y =
    pick (eqb kind 0) (some (Malloc x)) (pick (eqb kind 1) (some (Free x))
    (pick (eqb kind 2) (some (Realloc x y)) (pick (eqb kind 3) (some (Memalign x y)) none)))

-- the i-th of the list, three words each
abbrev pub listed : List ℕ → ℕ → Option Call
listed cs i = call_of (get_or cs (3 * i) 0) (get_or cs (3 * i + 1) 0) (get_or cs (3 * i + 2) 0)

-- n calls of the list from the i-th on, as a history; what is no call is left out
abbrev pub before : Option Call → List Event → List Event
before none es = es
before (some k) es = asks k ∷ es

abbrev pub schedule : List ℕ → ℕ → ℕ → List Event
schedule cs i zero = []
schedule cs i (suc n) = before (listed cs i) (schedule cs (i + 1) n)

-- "two words each (refusal, offset)": the offset of a grant, else 0; 9 for what is no call
abbrev pub placed : Answer → ℕ
placed (granted off) = off
placed done = 0
placed (bytes n) = 0
placed (refused why) = 0

abbrev pub refusal_of : Box → Option Call → ℕ
refusal_of s none = 9
refusal_of s (some k) = refusal (call_a wide s.control s.words k).answer

abbrev pub offset_of : Box → Option Call → ℕ
offset_of s none = 0
offset_of s (some k) = placed (call_a wide s.control s.words k).answer

pub record Batch : Type 0 where
  -- The whole is refused with 1 exactly when the word count is odd, below 16 or above 8,192,
  pub row_1 : (c : Control) (w cs xs : List ℕ) → (batch_a wide c w cs xs).refusal ≡ 1 ↔ (Allowed (length w) → ⊥)
  -- with 2 exactly when the count is allowed, and record and arena are not sound,
  pub row_2 : (c : Control) (w cs xs : List ℕ)
      → (batch_a wide c w cs xs).refusal ≡ 2 ↔ Allowed (length w) × (Sound wide c w → ⊥)
  -- with 8 exactly when they are sound, and the list of calls is no multiple of three words or the list for the answers is too short;
  pub row_8 : (c : Control) (w cs xs : List ℕ)
      → (batch_a wide c w cs xs).refusal ≡ 8 ↔ Sound wide c w × ((length cs % 3 ≡ 0 → ⊥) ⊎ (length xs < 2 * (length cs / 3)))
  -- else it is not refused.
  pub row_0 : (c : Control) (w cs xs : List ℕ)
      → (batch_a wide c w cs xs).refusal ≡ 0 ↔ Sound wide c w × (length cs % 3 ≡ 0) × (2 * (length cs / 3) ≤ length xs)
  -- A whole that is refused changes nothing: not the record, not the arena, not the list for the answers.
  pub unchanged : (c : Control) (w cs xs : List ℕ) → ((batch_a wide c w cs xs).refusal ≡ 0 → ⊥)
      → ((batch_a wide c w cs xs).control ≡ c) × ((batch_a wide c w cs xs).words ≡ w) × ((batch_a wide c w cs xs).answers ≡ xs)
  -- Nothing is written outside the arena and the list for the answers: both are as long as before.
  pub within : (c : Control) (w cs xs : List ℕ)
      → (length (batch_a wide c w cs xs).words ≡ length w) × (length (batch_a wide c w cs xs).answers ≡ length xs)
  -- Record and every word of the arena are those that the same calls leave, made one at a time.
  pub leaves : (c : Control) (w cs xs : List ℕ) → (batch_a wide c w cs xs).refusal ≡ 0
      → box (batch_a wide c w cs xs).control (batch_a wide c w cs xs).words ≡ after wide (box c w) (schedule cs 0 (length cs / 3))
  -- The i-th answer is that of the i-th call, made by itself on what the calls before it have left: its refusal, then its offset.
  pub answers : (c : Control) (w cs xs : List ℕ) (i : ℕ) → (batch_a wide c w cs xs).refusal ≡ 0 → 3 * i < length cs
      → let s = after wide (box c w) (schedule cs 0 i) in
      (get_or (batch_a wide c w cs xs).answers (2 * i) 0 ≡ refusal_of s (listed cs i)) ×
      (get_or (batch_a wide c w cs xs).answers (2 * i + 1) 0 ≡ offset_of s (listed cs i))
  -- An unknown kind answers 9, 0. (It is no call of the list, so by `leaves` and `answers` it changes nothing and the batch goes on.)
  pub unknown_9 : (c : Control) (w cs xs : List ℕ) (i : ℕ) → (batch_a wide c w cs xs).refusal ≡ 0 → 3 * i < length cs
      → 3 < get_or cs (3 * i) 0
      → (get_or (batch_a wide c w cs xs).answers (2 * i) 0 ≡ 9) × (get_or (batch_a wide c w cs xs).answers (2 * i + 1) 0 ≡ 0)
  -- A refusal has offset 0, and so has the "done" of a free.
  pub offset_0 : (c : Control) (w cs xs : List ℕ) (i : ℕ) → (batch_a wide c w cs xs).refusal ≡ 0 → 3 * i < length cs
      → (get_or (batch_a wide c w cs xs).answers (2 * i) 0 ≡ 0 → ⊥) ⊎ (get_or cs (3 * i) 0 ≡ 1)
      → get_or (batch_a wide c w cs xs).answers (2 * i + 1) 0 ≡ 0
  -- Words past the last answer stay.
  pub past_last : (c : Control) (w cs xs : List ℕ) (k : ℕ) → 2 * (length cs / 3) ≤ k
      → get_or (batch_a wide c w cs xs).answers k 0 ≡ get_or xs k 0
  -- A number that a kind doesn't use is ignored: lists of one length that say the same calls get the same.
  pub ignored : (c : Control) (w cs ds xs : List ℕ) → length cs ≡ length ds → ((i : ℕ) → 3 * i < length cs → listed cs i ≡ listed ds i)
      → batch_a wide c w cs xs ≡ batch_a wide c w ds xs
  -- In a history of demand 3 a batch is nothing but its calls: it is refused for its lists' lengths alone, and leaves what they leave.
  pub in_a_history : (w : List ℕ) (es : List Event) (cs xs : List ℕ) → Allowed (length w) → length cs % 3 ≡ 0
      → 2 * (length cs / 3) ≤ length xs
      → let s = after wide (set_up_on wide w) es in let b = batch_a wide s.control s.words cs xs in
      (b.refusal ≡ 0) × (box b.control b.words ≡ after wide (set_up_on wide w) (es ++ schedule cs 0 (length cs / 3)))
  -- What may sway an answer: beside the lists, only what sways a call. Two arenas that agree in document 01's list get the same answers
  -- (and, by `leaves` and `Swayed`, the same record, and go on agreeing in the list).
  pub same_answers : (c : Control) (w v cs xs : List ℕ) (h : Heap) → Holds wide c w h → Agree h w v
      → ((batch_a wide c v cs xs).refusal ≡ (batch_a wide c w cs xs).refusal) ×
      ((batch_a wide c v cs xs).answers ≡ (batch_a wide c w cs xs).answers)
  -- No second outcome: two that both fit the contract, in the types of the code, are one. (The list of calls is only read.)
  pub settled : (c : Control) (w v v' cs xs ys ys' : List ℕ) (x x' : Whole)
      → ended (whole_number x.answer) (numbers x.control) v ys ≡ batch_a wide c w cs xs
      → ended (whole_number x'.answer) (numbers x'.control) v' ys' ≡ batch_a wide c w cs xs
      → (x ≡ x') × (v ≡ v') × (ys ≡ ys')
  -- The same of any number for the whole, the code's or another, with the code's record.
  pub settled_by_number : (c : Control) (w v v' cs xs ys ys' : List ℕ) (n n' : ℕ) (d d' : arena.Control)
      → ended n (numbers d) v ys ≡ batch_a wide c w cs xs → ended n' (numbers d') v' ys' ≡ batch_a wide c w cs xs
      → (n ≡ n') × (d ≡ d') × (v ≡ v') × (ys ≡ ys')
  -- And two answers of the code for the whole that say the same number are one.
  pub one_whole : (x x' : Result ⊤ WholeRefusal) → whole_number x ≡ whole_number x' → x ≡ x'

-- ---- (vii) a stronger word on fit and order: h is the heap that c and w hold

-- "tree chunk": the free chunk of t words at y has 256 bytes or more and is not the spare one, `dv`
abbrev pub TreeChunk : Control → Heap → ℕ → ℕ → Type 0
TreeChunk c h y t = Starts 0 h.chunks y (free t) × (256 ≤ 8 * t) × (c.dv ≡ 8 * y → ⊥)

-- the small bins from i on, up to but not j, are empty; `h.small` at k lists the chunks of k words in their bin, the newest first
abbrev pub Empty : Heap → ℕ → ℕ → Type 0
Empty h i j = (k : ℕ) → i ≤ k → k < j → get_or h.small k [] ≡ []

-- a list of offsets, given back one after the other
abbrev pub gives_back : List ℕ → List Event
gives_back [] = []
gives_back (off ∷ offs) = asks (Free off) ∷ gives_back offs

-- Two boxes have the same chunks and the same top, and agree word for word in the heads (the top's too), the feet of free chunks and the
-- foot word: g and g' are the heaps that they hold (after a call on a held heap there is one, by `obeys`). Of bins and `dv` nothing is said.
abbrev pub SameChunks : Box → Box → Type 0
SameChunks s t =
    (g g' : Heap) → Holds wide s.control s.words g → Holds wide t.control t.words g'
    → (g.chunks ≡ g'.chunks) × (g.top ≡ g'.top) × ((i : ℕ) → Tiled g i → get_or s.words i 0 ≡ get_or t.words i 0)

pub record Fit : Type 0 where
  -- A large request served from a tree, the chunk of s words at x, gets one such that no smaller tree chunk holds the need.
  pub best-fit : (c : Control) (w : List ℕ) (h : Heap) (n x s : ℕ) → 256 ≤ 8 * need_words 8 n → Serves c w h n x s → (c.dv ≡ 8 * x → ⊥)
      → (y t : ℕ) → TreeChunk c h y t → need_words 8 n ≤ t → s ≤ t
  -- It gets `dv` exactly when `dv` holds it and no tree chunk that holds it is strictly smaller than `dv`. (More bytes than the arena's are
  -- refused before, with 4.)
  pub dv_exactly : (c : Control) (w : List ℕ) (h : Heap) (n : ℕ) → Holds wide c w h → 256 ≤ 8 * need_words 8 n
      → says c w (Malloc n) ≡ granted (c.dv + 16)
      ↔ (n ≤ 8 * length w) × (8 * need_words 8 n ≤ c.dv_size)
      × ((y t : ℕ) → TreeChunk c h y t → need_words 8 n ≤ t → 8 * t < c.dv_size → ⊥)
  -- Of several tree chunks of one size a request, large or small, gets the oldest: `ring_of s` lists a tree's chunks of s words, the oldest
  -- first.
  pub oldest : (c : Control) (w : List ℕ) (h : Heap) (n x s : ℕ) → Serves c w h n x s → TreeChunk c h x s
      → (ps : List ℕ) × (ring_of s (get_or h.tries (tree_index (8 * s)) leaf) ≡ x ∷ ps)
  -- A small request gets the newest chunk of its own size,
  pub small_own : (c : Control) (w : List ℕ) (h : Heap) (n x : ℕ) (xs : List ℕ) → Holds wide c w h → 8 * need_words 8 n < 256
      → n ≤ 8 * length w → get_or h.small (need_words 8 n) [] ≡ x ∷ xs → says c w (Malloc n) ≡ granted (block_of wide x)
  -- else `dv`, if that holds it,
  pub small_dv : (c : Control) (w : List ℕ) (h : Heap) (n : ℕ) → Holds wide c w h → 8 * need_words 8 n < 256
      → n ≤ 8 * length w → get_or h.small (need_words 8 n) [] ≡ [] → 8 * need_words 8 n ≤ c.dv_size
      → says c w (Malloc n) ≡ granted (c.dv + 16)
  -- else the newest of the smallest fuller bin,
  pub small_fuller : (c : Control) (w : List ℕ) (h : Heap) (n j x : ℕ) (xs : List ℕ) → Holds wide c w h → 8 * need_words 8 n < 256
      → n ≤ 8 * length w → c.dv_size < 8 * need_words 8 n → need_words 8 n < j → j < 32 → Empty h (need_words 8 n) j
      → get_or h.small j [] ≡ x ∷ xs → says c w (Malloc n) ≡ granted (block_of wide x)
  -- else, if there is a tree chunk, the smallest. (Else the top or 6, by `bins_first` and row 6 of document 01's table.)
  pub small_tree : (c : Control) (w : List ℕ) (h : Heap) (n y t : ℕ) → Holds wide c w h → 8 * need_words 8 n < 256
      → n ≤ 8 * length w → c.dv_size < 8 * need_words 8 n → Empty h (need_words 8 n) 32 → TreeChunk c h y t
      → (x : ℕ) × (s : ℕ) × TreeChunk c h x s × (says c w (Malloc n) ≡ granted (block_of wide x)) × ((z u : ℕ) → TreeChunk c h z u → s ≤ u)
  -- Two different live blocks, given back in either order: both calls are done, and what stands then are the same chunks, heads and feet.
  pub either_order : (c : Control) (w : List ℕ) (h : Heap) (off m off' m' : ℕ) → Holds wide c w h → LiveAt (box c w) off m
      → LiveAt (box c w) off' m' → (off ≡ off' → ⊥)
      → (answers wide (box c w) (gives_back (off ∷ off' ∷ [])) ≡ done ∷ done ∷ [])
      × SameChunks (after wide (box c w) (gives_back (off ∷ off' ∷ []))) (after wide (box c w) (gives_back (off' ∷ off ∷ [])))
  -- So do any two lists of the same offsets, in whatever order, those that are no live block's (any more) refused.
  pub any_order : (c : Control) (w : List ℕ) (h : Heap) (offs offs' : List ℕ) → Holds wide c w h → ((x : ℕ) → is_in x offs ≡ is_in x offs')
      → SameChunks (after wide (box c w) (gives_back offs)) (after wide (box c w) (gives_back offs'))

-- ALL OF THEM.
pub record Requests : Type 0 where
  pub rebuild : Rebuild
  pub batch : Batch
  pub fit : Fit
