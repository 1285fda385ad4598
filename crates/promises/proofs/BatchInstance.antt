-- ONE BATCH, so that nothing in `Batch` is empty: eight calls on 128 words, among them one of an unknown kind, numbers that no kind uses, a
-- resize that moves and two refusals. What it answers is computed by the rules, which the calls obey; the promises tell the rest. Assumes
-- nothing.
use Rattle.std.specs.Prelude.{◌≡◌, refl, List, [], ◌∷◌, ℕ, zero, suc, ◌+◌, ◌*◌, ◌<◌, get_or, replicate, Err}
use Rattle.std.proofs.Common.{◌∙◌, ap, inl, inr, arith}
use Rattle.std.proofs.Math.Option.{some}
use Rattle.words.specs.Edition.{wide}
use Rattle.index.specs.Sizes.{need_words, need, round_up}
use Rattle.index.specs.TreeBin.{tree_index, min_size}
use Rattle.rules.specs.BinOf.{huge}
use Rattle.rules.specs.Heap.{fresh_heap}
use Rattle.rules.specs.Calls.{Call, Malloc, Free, Realloc, Memalign, Answer, granted, done, refused, too_many, not_live, answer_to}
use Rattle.calls.specs.CallBytes.{refusal}
use Rattle.calls.specs.ByValue.{call_a}
use Rattle.calls.specs.Histories.{Box, after, heap_after, set_up_on}
use Rattle.calls.proofs.Histories.{calls-held, from_set_up}
use Rattle.arena.specs.Record.{numbers}
use Rattle.arena.specs.declared.control.Control as arena
use Rattle.batch.specs.BatchBytes.{Ended, ended, batch_a}
use Rattle.batch.specs.Whole.{whole_number}
use Rattle.batch.specs.declared.whole.Whole.{Whole}
use Rattle.batch.specs.declared.whole.WholeRefusal.TheVariants.{BadCount}
use Rattle.promises.specs.Requests.{listed, schedule, placed, refusal_of, offset_of}
use Rattle.promises.proofs.AnyInputKept.{fresh_start}
use Rattle.promises.proofs.AllKept.{requests_kept}
use Rattle.promises.proofs.Instance.{zeros, count_128}

-- malloc 24, malloc 232, an unknown kind, memalign 64 24, realloc 16 100, free 16, free 48, malloc 2000
abbrev calls : List ℕ
calls = 0 ∷ 24 ∷ 1 ∷ 0 ∷ 232 ∷ 2 ∷ 4 ∷ 24 ∷ 3 ∷ 3 ∷ 64 ∷ 24 ∷ 2 ∷ 16 ∷ 100 ∷ 1 ∷ 16 ∷ 5 ∷ 1 ∷ 48 ∷ 6 ∷ 0 ∷ 2000 ∷ 7 ∷ []

-- room for eight answers, and two words more
abbrev room : List ℕ
room = replicate 18 77

abbrev start : Box
start = set_up_on wide zeros

unfoldable pub run : Ended
run = batch_a wide start.control start.words calls room

pub runs : run.refusal ≡ 0
unfolding run
runs = (requests_kept.batch.in_a_history zeros [] calls room count_128 refl (omega arith)).0

-- the i-th answer, where the i-th of the list is the call k and the rules say a
says : (i : ℕ) (k : Call) (a : Answer) → 3 * i < 24 → listed calls i ≡ some k
    → (answer_to wide 128 (heap_after wide 128 (fresh_heap 128) (schedule calls 0 i)) k).answer ≡ a
    → (get_or run.answers (2 * i) 0 ≡ refusal a) × (get_or run.answers (2 * i + 1) 0 ≡ placed a)
unfolding run
says i k a l q u =
    let g = from_set_up wide zeros refl (omega arith) (omega arith) (schedule calls 0 i) in
    let s = after wide start (schedule calls 0 i) in
    let told : (call_a wide s.control s.words k).answer ≡ a =
    (calls-held wide s (heap_after wide 128 (fresh_heap 128) (schedule calls 0 i)) g.held k).answer
    ∙ ap (λ (n : ℕ). (answer_to wide n (heap_after wide 128 (fresh_heap 128) (schedule calls 0 i)) k).answer) g.count ∙ u in
    let z = requests_kept.batch.answers start.control start.words calls room i runs l in
    (z.0 ∙ ap (refusal_of s) q ∙ ap refusal told, z.1 ∙ ap (offset_of s) q ∙ ap placed told)

pub first : (get_or run.answers 0 0 ≡ 0) × (get_or run.answers 1 0 ≡ 16)
unfolding need_words need round_up tree_index min_size huge
first = says 0 (Malloc 24) (granted 16) (omega arith) refl refl

pub second : (get_or run.answers 2 0 ≡ 0) × (get_or run.answers 3 0 ≡ 48)
unfolding need_words need round_up tree_index min_size huge
second = says 1 (Malloc 232) (granted 48) (omega arith) refl refl

-- 9, and the batch goes on
pub unknown : (get_or run.answers 4 0 ≡ 9) × (get_or run.answers 5 0 ≡ 0)
unfolding run
unknown = requests_kept.batch.unknown_9 start.control start.words calls room 2 runs (omega arith) (omega arith)

pub aligned : (get_or run.answers 6 0 ≡ 0) × (get_or run.answers 7 0 ≡ 384)
unfolding need_words need round_up tree_index min_size huge
aligned = says 3 (Memalign 64 24) (granted 384) (omega arith) refl refl

-- it moves, and its old place is not live any more
pub moved : (get_or run.answers 8 0 ≡ 0) × (get_or run.answers 9 0 ≡ 416)
unfolding need_words need round_up tree_index min_size huge
moved = says 4 (Realloc 16 100) (granted 416) (omega arith) refl refl

pub not_there : (get_or run.answers 10 0 ≡ 5) × (get_or run.answers 11 0 ≡ 0)
unfolding need_words need round_up tree_index min_size huge
not_there = says 5 (Free 16) (refused (not_live 16)) (omega arith) refl refl

pub given_back : (get_or run.answers 12 0 ≡ 0) × (get_or run.answers 13 0 ≡ 0)
unfolding need_words need round_up tree_index min_size huge
given_back = says 6 (Free 48) done (omega arith) refl refl

pub too_long : (get_or run.answers 14 0 ≡ 4) × (get_or run.answers 15 0 ≡ 0)
unfolding need_words need round_up tree_index min_size huge
too_long = says 7 (Malloc 2000) (refused too_many) (omega arith) refl refl

pub past : get_or run.answers 17 0 ≡ 77
unfolding run
past = requests_kept.batch.past_last start.control start.words calls room 17 (omega arith)

-- ---- the whole, refused

pub odd_list : (batch_a wide start.control start.words (0 ∷ 24 ∷ []) room).refusal ≡ 8
odd_list =
    (requests_kept.batch.row_8 start.control start.words (0 ∷ 24 ∷ []) room).1
    ((fresh_heap 128, fresh_start zeros count_128), inl (λ z. omega (arith, z)))

pub short_list : (batch_a wide start.control start.words (0 ∷ 24 ∷ 0 ∷ []) (77 ∷ [])).refusal ≡ 8
short_list =
    (requests_kept.batch.row_8 start.control start.words (0 ∷ 24 ∷ 0 ∷ []) (77 ∷ [])).1
    ((fresh_heap 128, fresh_start zeros count_128), inr (omega arith))

pub odd_count : (batch_a wide start.control (replicate 15 0) calls []).refusal ≡ 1
odd_count = (requests_kept.batch.row_1 start.control (replicate 15 0) calls []).1 (λ a. omega (arith, a.0))

abbrev odd : List ℕ
odd = replicate 15 0

-- on 15 words whatever fits the contract is that refusal, with the given record, words and list for the answers
lost : (c : arena.Control) → ended 1 (numbers c) odd room ≡ batch_a wide (numbers c) odd calls room
unfolding batch_a
lost c = refl

pub one_number : (c d : arena.Control) (v ys : List ℕ) (n : ℕ)
    → ended n (numbers d) v ys ≡ batch_a wide (numbers c) odd calls room
    → (n ≡ 1) × (d ≡ c) × (v ≡ odd) × (ys ≡ room)
one_number c d v ys n p =
    requests_kept.batch.settled_by_number (numbers c) odd v odd calls room ys room n 1 d c p (lost c)

pub one_outcome : (c : arena.Control) (v ys : List ℕ) (x : Whole)
    → ended (whole_number x.answer) (numbers x.control) v ys ≡ batch_a wide (numbers c) odd calls room
    → (x ≡ record { answer = Err BadCount; control = c }) × (v ≡ odd) × (ys ≡ room)
one_outcome c v ys x p =
    requests_kept.batch.settled (numbers c) odd v odd calls room ys room x (record { answer = Err BadCount; control = c })
    p (lost c)

-- the same calls, other numbers where no kind looks
pub ignored : batch_a wide start.control start.words (0 ∷ 24 ∷ 1 ∷ []) room
    ≡ batch_a wide start.control start.words (0 ∷ 24 ∷ 9 ∷ []) room
ignored = requests_kept.batch.ignored start.control start.words (0 ∷ 24 ∷ 1 ∷ []) (0 ∷ 24 ∷ 9 ∷ []) room refl same
  where
    same : (i : ℕ) → 3 * i < 3 → listed (0 ∷ 24 ∷ 1 ∷ []) i ≡ listed (0 ∷ 24 ∷ 9 ∷ []) i
    same zero l = refl
    same (suc i) l = absurd (let z : ⊥ = omega arith in z)
