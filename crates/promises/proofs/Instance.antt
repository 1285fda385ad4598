-- ONE INSTANCE OF EACH PROMISE of demands 1 and 3 and of what may sway an answer, so that nothing on the page is empty: a history on 128
-- words with all
-- calls and an owner's write, granted and refused, and one after which all is given back. Answers and heaps are computed by the rules,
-- which the
-- calls obey; the promises then tell the rest. Those of demand 2, of grants and of lending are in `GrantsInstance`. Assumes nothing.
use Rattle.std.specs.Prelude.{◌≡◌, refl, false, List, [], ◌∷◌, ◌⊎◌, ℕ, zero, suc, ◌+◌, ◌-◌, ◌*◌, ◌≤◌, ◌<◌, length, get_or, replicate}
use Rattle.std.proofs.Common.{sym, ◌∙◌, ap, subst, inl, inr, ⊎_elim, arith}
use Rattle.std.proofs.Math.Option.{none}
use Rattle.words.specs.Edition.{wide, no_link}
use Rattle.index.specs.Sizes.{need_words, need, round_up}
use Rattle.index.specs.TreeBin.{tree_index, min_size}
use Rattle.tiling.specs.Tiling.{used, free, Starts}
use Rattle.tiling.specs.Steps.{fresh_words}
use Rattle.rules.specs.BinOf.{huge}
use Rattle.rules.specs.Heap.{Heap, fresh_heap}
use Rattle.rules.specs.Calls.{Call, Malloc, Free, Realloc, Memalign, Usable, Answer, granted, done, bytes, refused, bad_count, too_many}
use Rattle.rules.specs.Calls.{not_live, no_room}
use Rattle.rules.specs.Calls.{bad_alignment, is_in, block_of, live_size, answer_to}
use Rattle.holds.specs.Holds.{Control, Holds, fresh_control}
use Rattle.holds.specs.NoRoom.{Tight}
use Rattle.holds.specs.SameWords.{governed_same}
use Rattle.tries.specs.Bits.{bit}
use Rattle.tries.specs.Tree.{Tree, leaf, node}
use Rattle.holds.specs.Rings.{ring_of, two_shapes}
use Rattle.holds.specs.Alike.{Alike}
use Rattle.calls.specs.CallBytes.{refusal}
use Rattle.calls.specs.Record.{empty_control}
use Rattle.calls.specs.ByValue.{ends, call_a, set_up_a}
use Rattle.calls.specs.Histories.{Event, asks, writes, box, after, answers, heap_after, HeldIn, set_up_on}
use Rattle.calls.proofs.Histories.{from_set_up}
use Rattle.calls.specs.InUse.{Ledger}
use Rattle.calls.specs.Kept.{Unmoved}
use Rattle.promises.specs.Promises.{refused_by, Allowed, LiveAt, left, then, NoneUnsound, Agree}
use Rattle.promises.proofs.AnyInputKept.{fresh_start}
use Rattle.promises.proofs.HistoriesKept.{live_at, held, count}
use Rattle.promises.proofs.AllKept.{kept}

abbrev pub zeros : List ℕ
zeros = replicate 128 0

pub count_128 : Allowed 128
count_128 = (refl, omega arith, omega arith)

abbrev fives : List ℕ
fives = replicate 128 5

-- two blocks, a word written, an aligned block, a resize that moves, a look, and a refusal by every row that a history can meet
abbrev pub morning : List Event
morning =
    asks (Malloc 24) ∷ writes 16 0 7 ∷ asks (Malloc 232) ∷ asks (Memalign 64 24) ∷ asks (Memalign 48 24) ∷ asks (Realloc 16 100) ∷ asks
    (Usable 16) ∷ asks (Usable 416) ∷ asks (Free 24) ∷ asks (Malloc 2000)
    ∷ asks (Malloc 900) ∷ []

abbrev told : List Answer
told =
    granted 16 ∷ granted 48 ∷ granted 384 ∷ refused bad_alignment ∷ granted 416 ∷ refused (not_live 16) ∷ bytes 104 ∷ refused
    (not_live 24) ∷ refused too_many ∷ refused no_room ∷ []

pub answered : answers wide (set_up_on wide zeros) morning ≡ told
unfolding need_words need round_up tree_index min_size huge
answered = (from_set_up wide zeros refl (omega arith) (omega arith) morning).answered

-- ---- the heap after some events, computed; a chunk in use of t words at the place x is a live block of 8 * (t - 1) bytes

abbrev pub after_all : List Event → Heap
after_all es = heap_after wide 128 (fresh_heap 128) es

pub live : (es : List Event) (x t : ℕ) → Starts 0 (after_all es).chunks x (used t) → LiveAt (then zeros es) (block_of wide x) (8 * (t - 1))
live es x t st = live_at (then zeros es) (after_all es) (held zeros count_128 es) x t st

-- the block that moved has 104 bytes at 416, the second one 232 at 48; at 16 nothing is left
pub moved : LiveAt (then zeros morning) 416 104
unfolding need_words need round_up tree_index min_size huge
moved = live morning 50 14 (inr (inr (inr (inr (inl (refl, refl))))))

pub second : LiveAt (then zeros morning) 48 232
unfolding need_words need round_up tree_index min_size huge
second = live morning 4 30 (inr (inl (refl, refl)))

pub none_at_16 : (n : ℕ) → LiveAt (then zeros morning) 16 n → ⊥
none_at_16 n p =
    gone (subst (λ a. Ledger (λ o. ⊥) morning a 16) answered ((kept.histories.in_use zeros morning 16 count_128).0 (n, p)))
  where
    gone : Ledger (λ o. ⊥) morning told 16 → ⊥
    gone u = ⊎_elim (λ v. v.1 refl) (λ v. omega (arith, v)) u

-- they share no byte, and lie in the arena
pub apart : (48 + 232 ≤ 416) ⊎ (416 + 104 ≤ 48)
apart = kept.histories.apart zeros morning 48 232 416 104 count_128 second moved (λ z. omega (arith, z))

pub inside : 416 + 104 ≤ 1024
inside = kept.histories.inside zeros morning 416 104 count_128 moved

-- ---- an owner's word: written, kept through two calls, and there after the move

abbrev opening : List Event
opening = asks (Malloc 24) ∷ []

abbrev written : List Event
written = asks (Malloc 24) ∷ writes 16 0 7 ∷ []

abbrev others : List Event
others = asks (Malloc 232) ∷ asks (Memalign 64 24) ∷ []

abbrev pub before : List Event
before = asks (Malloc 24) ∷ writes 16 0 7 ∷ asks (Malloc 232) ∷ asks (Memalign 64 24) ∷ []

abbrev pub through : List Event
through = asks (Malloc 24) ∷ writes 16 0 7 ∷ asks (Malloc 232) ∷ asks (Memalign 64 24) ∷ asks (Realloc 16 100) ∷ []

pub seven : get_or (then zeros written).words 2 0 ≡ 7
unfolding need_words need round_up tree_index min_size huge
seven = kept.histories.reads_back zeros opening 0 24 0 7 count_128 (live opening 0 4 (inl (refl, refl))) (omega arith)

pub kept_seven : get_or (then zeros before).words 2 0 ≡ 7
unfolding need_words need round_up tree_index min_size huge
kept_seven = kept.histories.keeps zeros written others 0 24 0 count_128 (live written 0 4 (inl (refl, refl))) (omega arith)
    ((λ z. absurd z), ((λ z. absurd z), tt)) tt ∙ seven

-- what a call answers after some events, by the rules
pub ruled_so : (es : List Event) (k : Call)
    → (call_a wide (then zeros es).control (then zeros es).words k).answer ≡ (answer_to wide 128 (after_all es) k).answer
ruled_so es k =
    (kept.the_rules.obeys (then zeros es).control (then zeros es).words (after_all es) k (held zeros count_128 es)).0
    ∙ ap (λ n. (answer_to wide n (after_all es) k).answer) (count zeros count_128 es)

pub answer_416 : (call_a wide (then zeros before).control (then zeros before).words (Realloc 16 100)).answer ≡ granted 416
unfolding need_words need round_up tree_index min_size huge
answer_416 = ruled_so before (Realloc 16 100)

pub moved_seven : get_or (call_a wide (then zeros before).control (then zeros before).words (Realloc 16 100)).words 52 0 ≡ 7
unfolding need_words need round_up tree_index min_size huge
moved_seven =
    kept.histories.resize_keeps zeros before 0 50 100 24 104 0 count_128 (live before 0 4 (inl (refl, refl))) answer_416
    (live through 50 14 (inr (inr (inr (inr (inl (refl, refl))))))) (omega arith) (omega arith) ∙ kept_seven

-- ---- all are given back: a resize in place, another order

abbrev evening : List Event
evening = asks (Malloc 24) ∷ asks (Malloc 300) ∷ asks (Realloc 48 100) ∷ asks (Free 16) ∷ asks (Free 48) ∷ []

abbrev all_done : List Answer
all_done = granted 16 ∷ granted 48 ∷ granted 48 ∷ done ∷ done ∷ []

pub given : answers wide (set_up_on wide zeros) evening ≡ all_done
unfolding need_words need round_up tree_index min_size huge
given = (from_set_up wide zeros refl (omega arith) (omega arith) evening).answered

none_left : (off n : ℕ) → LiveAt (then zeros evening) off n → ⊥
none_left off n p = gone (subst (λ a. Ledger (λ o. ⊥) evening a off) given ((kept.histories.in_use zeros evening off count_128).0 (n, p)))
  where
    gone : Ledger (λ o. ⊥) evening all_done off → ⊥
    gone u = ⊎_elim (λ v. ⊎_elim (λ x. ⊎_elim (λ y. y.0) (λ y. u.0.1 y) x.0) (λ x. v.1 x) v.0) (λ v. u.1 v) u.0.0

pub fresh_again : (then zeros evening).control ≡ fresh_control wide 128
fresh_again = kept.histories.fresh_record zeros evening count_128 none_left

-- and the morning is answered as on a fresh arena that held other words
pub second_morning : answers wide (then zeros evening) morning ≡ answers wide (set_up_on wide fives) morning
second_morning = kept.histories.fresh-answers zeros fives evening morning count_128 refl none_left

-- ---- a block that is named, and written elsewhere: a refused free and resize, and a write to its second word, leave the first

abbrev meanwhile : List Event
meanwhile = asks (Realloc 16 2000) ∷ writes 16 1 9 ∷ asks (Malloc 100) ∷ []

refused_2000 : refused_by (then zeros written).control (then zeros written).words (Realloc 16 2000) ≡ 4
unfolding need_words need round_up tree_index min_size huge
refused_2000 = ap refusal (ruled_so written (Realloc 16 2000))

unmoved : Unmoved wide (then zeros written) meanwhile 0
unmoved = ((λ _ z. let b : ⊥ = omega (arith, sym z ∙ refused_2000) in b), ((λ z. absurd z), tt))

pub still_there : LiveAt (after wide (then zeros written) meanwhile) 16 24
unfolding need_words need round_up tree_index min_size huge
still_there = kept.histories.stays zeros written meanwhile 0 24 count_128 (live written 0 4 (inl (refl, refl))) unmoved

pub still_seven : get_or (after wide (then zeros written) meanwhile).words 2 0 ≡ 7
unfolding need_words need round_up tree_index min_size huge
still_seven =
    kept.histories.keeps zeros written meanwhile 0 24 0 count_128 (live written 0 4 (inl (refl, refl))) (omega arith) unmoved
    ((λ _ z. let b : ⊥ = omega (arith, z) in b), tt) ∙ seven

pub none_unsound : NoneUnsound (answers wide (set_up_on wide zeros) morning)
none_unsound = kept.histories.none_unsound zeros morning count_128

-- ---- rows, on the pair after the morning

abbrev pub c : Control
c = (then zeros morning).control

abbrev pub w : List ℕ
w = (then zeros morning).words

abbrev h : Heap
h = after_all morning

pub holds : Holds wide c w h
holds = held zeros count_128 morning

number : (k : Call) → refused_by c w k ≡ refusal (answer_to wide 128 h k).answer
number k = ap refusal (ruled_so morning k)

-- 1: 14 words. 2: the fresh record with other words
pub row_1 : refused_by c (replicate 14 0) (Malloc 24) ≡ 1
row_1 = (kept.any_input.row_1 c (replicate 14 0) (Malloc 24)).1 (λ a. let b : ⊥ = omega (arith, a.1) in b)

pub row_2 : refused_by (fresh_control wide 126) zeros (Malloc 24) ≡ 2
row_2 = (kept.any_input.row_2 (fresh_control wide 126) zeros (Malloc 24)).1 (count_128, λ s. let b : ⊥ = omega (arith, s.1.long) in b)

pub row_3 : is_in 48 (32 ∷ 64 ∷ 128 ∷ 256 ∷ 512 ∷ 1024 ∷ 2048 ∷ 4096 ∷ []) ≡ false
unfolding need_words need round_up tree_index min_size huge
row_3 = (kept.any_input.row_3 c w h (Memalign 48 24) holds).0 (number (Memalign 48 24))

pub row_4 : 8 * length w < 2000
unfolding need_words need round_up tree_index min_size huge
row_4 = ((kept.any_input.row_4 c w h (Malloc 2000) holds).0 (number (Malloc 2000))).1

pub row_5 : live_size wide 0 h.chunks 24 ≡ none
unfolding need_words need round_up tree_index min_size huge
row_5 = ((kept.any_input.row_5 c w h (Free 24) holds).0 (number (Free 24))).2

refused_900 : refused_by c w (Malloc 900) ≡ 6
unfolding need_words need round_up tree_index min_size huge
refused_900 = number (Malloc 900)

pub row_6 : Tight h (need_words 8 900)
row_6 = ((kept.any_input.row_6 c w h (Malloc 900) holds).0 refused_900).3

pub unchanged : left c w (Malloc 900) ≡ box c w
unchanged = kept.any_input.unchanged c w (Malloc 900) (λ z. let b : ⊥ = omega (arith, sym z ∙ refused_900) in b)

pub within : length (left c w (Malloc 24)).words ≡ length w
within = kept.any_input.within c w (Malloc 24)

-- ---- set-up

pub set_up_refused : set_up_a wide (replicate 14 0) ≡ ends (refused bad_count) (empty_control wide (no_link wide) 0 0) (replicate 14 0)
set_up_refused = kept.any_input.set_up_refused (replicate 14 0) (λ a. let b : ⊥ = omega (arith, a.1) in b)

pub set_up_done : set_up_a wide fives ≡ ends done (fresh_control wide 128) (fresh_words wide fives)
set_up_done = kept.any_input.set_up_done fives count_128

pub set_up_holds : Holds wide (fresh_control wide 128) (fresh_words wide fives) (fresh_heap 128)
set_up_holds = kept.any_input.set_up_holds fives count_128

-- 945 at word 1, 80 at word 119, and word 50 stays
pub set_up_head : get_or (set_up_a wide fives).words 1 0 ≡ 945
set_up_head = kept.any_input.set_up_head fives count_128

pub set_up_foot : get_or (set_up_a wide fives).words 119 0 ≡ 80
set_up_foot = kept.any_input.set_up_foot fives count_128

pub set_up_else : get_or (set_up_a wide fives).words 50 0 ≡ 5
set_up_else = kept.any_input.set_up_else fives 50 count_128 (λ z. let b : ⊥ = omega (arith, z) in b)
    (λ z. let b : ⊥ = omega (arith, z) in b)

-- ---- what sways no answer: the words of a fresh arena, the shapes of tries

agrees : Agree (fresh_heap 128) (fresh_words wide zeros) (fresh_words wide fives)
agrees = (
  refl,
  λ i g. governed_same wide (fresh_control wide 128) (fresh_control wide 128) (fresh_words wide fives) (fresh_words wide zeros)
      (fresh_heap 128) refl (fresh_start fives count_128) (fresh_start zeros count_128) i g,
)

pub other_words : answers wide (set_up_on wide fives) morning ≡ answers wide (set_up_on wide zeros) morning
other_words = kept.swayed.same_answers (fresh_control wide 128) (fresh_words wide zeros) (fresh_words wide fives) (fresh_heap 128)
    (fresh_start zeros count_128) agrees morning

pub same_record : (then fives morning).control ≡ (then zeros morning).control
same_record = kept.swayed.same_record (fresh_control wide 128) (fresh_words wide zeros) (fresh_words wide fives) (fresh_heap 128)
    (fresh_start zeros count_128) agrees morning

pub same_words : Agree (heap_after wide (length (fresh_words wide zeros)) (fresh_heap 128) morning) (then zeros morning).words
    (then fives morning).words
same_words = kept.swayed.same_words (fresh_control wide 128) (fresh_words wide zeros) (fresh_words wide fives) (fresh_heap 128)
    (fresh_start zeros count_128) agrees morning

-- two large blocks on 256 words, given back in one order and in the other: one ring of each size, two shapes
abbrev wide_zeros : List ℕ
wide_zeros = replicate 256 0

count_256 : Allowed 256
count_256 = (refl, omega arith, omega arith)

abbrev one_way : List Event
one_way = asks (Malloc 264) ∷ asks (Malloc 520) ∷ asks (Malloc 312) ∷ asks (Malloc 24) ∷ asks (Free 16) ∷ asks (Free 816) ∷ []

abbrev other_way : List Event
other_way = asks (Malloc 264) ∷ asks (Malloc 520) ∷ asks (Malloc 312) ∷ asks (Malloc 24) ∷ asks (Free 816) ∷ asks (Free 16) ∷ []

abbrev one_shape : Tree
one_shape = node 0 [] 34 leaf (node 100 [] 40 leaf leaf)

abbrev other_shape : Tree
other_shape = node 100 [] 40 (node 0 [] 34 leaf leaf) leaf

-- both heaps, but for the first trie
abbrev shaped : Tree → Heap
shaped t = record {
  chunks = free 34 ∷ used 66 ∷ free 40 ∷ used 4 ∷ [];
  top = 102;
  dv = none;
  small = replicate 32 [];
  tries =
      t ∷ replicate 31 leaf;
}

one_heap : heap_after wide 256 (fresh_heap 256) one_way ≡ shaped one_shape
unfolding need_words need round_up tree_index min_size huge bit
one_heap = refl

other_heap : heap_after wide 256 (fresh_heap 256) other_way ≡ shaped other_shape
unfolding need_words need round_up tree_index min_size huge bit
other_heap = refl

first_only : (i s : ℕ) → ring_of s (get_or (one_shape ∷ replicate 31 leaf) i leaf) ≡ ring_of s (get_or (other_shape ∷ replicate 31 leaf) i leaf)
first_only zero s = two_shapes s
first_only (suc i) s = refl

alike : Alike (shaped one_shape) (shaped other_shape)
alike = record { chunks = refl; top = refl; dv = refl; small = refl; rings = λ i s l. first_only i s }

pub either_way : (es : List Event) → answers wide (then wide_zeros one_way) es ≡ answers wide (then wide_zeros other_way) es
either_way es =
    kept.the_rules.shape_free (then wide_zeros one_way).control (then wide_zeros other_way).control (then wide_zeros one_way).words
    (then wide_zeros other_way).words (shaped one_shape) (shaped other_shape)
    (subst (HeldIn wide (then wide_zeros one_way)) one_heap (held wide_zeros count_256 one_way))
    (subst (HeldIn wide (then wide_zeros other_way)) other_heap (held wide_zeros count_256 other_way))
    (count wide_zeros count_256 one_way ∙ sym (count wide_zeros count_256 other_way)) alike es
