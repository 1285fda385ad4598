-- ONE INSTANCE OF EACH PROMISE of demand 2, of grants, of lending and of settled outcomes, on the histories of `Instance` and three more.
-- Assumes nothing.
use Rattle.std.specs.Prelude.{◌≡◌, refl, List, [], ◌∷◌, ◌↔◌, ℕ, ◌+◌, ◌-◌, ◌*◌, ◌≤◌, ◌<◌, ◌%◌, length, get_or, set, replicate, Result, Err, ⊤}
use Rattle.std.proofs.Common.{sym, ◌∙◌, ap, inl, inr, arith}
use Rattle.std.proofs.lemmas.List.{get_or-replicate}
use Rattle.words.specs.Edition.{wide, no_link}
use Rattle.words.specs.Fields.{count_l}
use Rattle.index.specs.Sizes.{need_words, need, round_up}
use Rattle.index.specs.TreeBin.{tree_index, min_size}
use Rattle.tiling.specs.Tiling.{free, Starts}
use Rattle.tries.specs.Bits.{bit}
use Rattle.tries.specs.Tree.{Tree, leaf, count}
use Rattle.rules.specs.BinOf.{huge}
use Rattle.rules.specs.Heap.{Heap, fresh_heap}
use Rattle.rules.specs.Source.{Small}
use Rattle.rules.specs.Calls.{Call, Malloc, Free, Realloc, Memalign, Usable, granted, bytes, block_of, answer_to}
use Rattle.holds.specs.Governed.{Linked, GovernedIn}
use Rattle.lend.specs.LendBytes.{lent, back}
use Rattle.calls.specs.CallBytes.{refusal, call_b}
use Rattle.calls.specs.Record.{image}
use Rattle.calls.specs.ByValue.{ends, call_a, set_up_a}
use Rattle.calls.specs.CallReach.{call_via, Copies}
use Rattle.calls.specs.Histories.{Event, asks, writes, after}
use Rattle.calls.proofs.Histories.{calls-held}
use Rattle.chunk.specs.declared.access.BlockOff.{BlockOff}
use Rattle.arena.specs.Answers.{answer_of, block_answer, done_answer, bytes_answer}
use Rattle.arena.specs.declared.answers.Reason.{Reason}
use Rattle.arena.specs.Record.{numbers}
use Rattle.arena.specs.declared.control.Control as arena
use Rattle.arena.specs.Answers as code
use Rattle.arena.specs.Answers.{Refused}
use Rattle.arena.specs.declared.answers.Reason.TheVariants.{BadCount}
use Rattle.promises.specs.Promises.{says, OwnPlace, LiveAt, left, then, Serves, Resizes}
use Rattle.promises.proofs.HistoriesKept.{held}
use Rattle.promises.proofs.AllKept.{kept}
use Rattle.promises.proofs.Instance.{zeros, count_128, after_all, live, ruled_so, morning, before, through, answer_416, kept_seven}

-- ---- document 01's numbers

pub need_22 : 8 * need_words 8 22 ≡ 32
need_22 = kept.numbers.need_least 22 (omega arith)

pub need_25 : (25 + 8 ≤ 8 * need_words 8 25) × (8 * need_words 8 25 < 25 + 24) × (8 * need_words 8 25 % 16 ≡ 0)
need_25 = kept.numbers.need 25 (omega arith)

pub block_48 : block_of wide 4 ≡ 8 * 4 + 16
block_48 = kept.numbers.block 4

-- ---- which words: malloc 24 on the fresh arena leaves word 60, which lies in the top

no_links : (h : Heap) → h.small ≡ replicate 32 [] → h.tries ≡ replicate 32 leaf → (i : ℕ) → Linked h i → ⊥
no_links h p q i (inl u) =
    let z = ap (λ b. count_l u.1 (get_or b u.0 [])) p
    ∙ ap (count_l u.1) (get_or-replicate {A = List ℕ} 32 u.0 [] [] u.2) in omega (arith, u.3, z)
no_links h p q i (inr u) =
    let z = ap (λ b. count u.1 (get_or b u.0 leaf)) q
    ∙ ap (count u.1) (get_or-replicate {A = Tree} 32 u.0 leaf leaf u.2) in omega (arith, u.3, z)

abbrev fresh : List Event
fresh = []

not_governed : GovernedIn (call_via wide (fresh_heap 128) (Malloc 24)) 60 → ⊥
unfolding need_words need round_up tree_index min_size huge
not_governed (inl (inl (inl u))) = u
not_governed (inl (inl (inr (inl u)))) = omega (arith, u)
not_governed (inl (inl (inr (inr u)))) = omega (arith, u)
not_governed (inl (inr u)) = no_links (fresh_heap 128) refl refl 60 u
not_governed (inr (inl (inl (inl (inl u))))) = omega (arith, u)
not_governed (inr (inl (inl (inl (inr u))))) = u
not_governed (inr (inl (inl (inr (inl u))))) = omega (arith, u)
not_governed (inr (inl (inl (inr (inr u))))) = omega (arith, u)
not_governed (inr (inl (inr u))) = no_links (after_all (asks (Malloc 24) ∷ [])) refl refl 60 u
not_governed (inr (inr u)) = u

pub untouched : get_or (left (then zeros fresh).control (then zeros fresh).words (Malloc 24)).words 60 0 ≡ get_or
    (then zeros fresh).words 60 0
untouched = kept.the_rules.reaches (then zeros fresh).control (then zeros fresh).words (fresh_heap 128) (Malloc 24) 60
    (held zeros count_128 fresh) not_governed (λ z. z)

-- ---- demand 2

answer_16 : says (then zeros fresh).control (then zeros fresh).words (Malloc 24) ≡ granted 16
unfolding need_words need round_up tree_index min_size huge
answer_16 = ruled_so fresh (Malloc 24)

-- the first block comes from the top, where nothing else is there to serve it
pub from_top_lem : Small (fresh_heap 128) (need_words 8 24)
from_top_lem = kept.the_rules.bins_first (then zeros fresh).control (then zeros fresh).words (fresh_heap 128) (Malloc 24) 16
    (held zeros count_128 fresh) answer_16 (omega arith)

pub top_left : ((left (then zeros fresh).control (then zeros fresh).words (Malloc 24)).control.top ≡ 0 + 8 * need_words 8 24)
    × ((left (then zeros fresh).control (then zeros fresh).words (Malloc 24)).control.top_size ≡ 944 - 8 * need_words 8 24)
top_left = kept.grants.rest_top (then zeros fresh).control (then zeros fresh).words (fresh_heap 128) 24
    (held zeros count_128 fresh) answer_16

abbrev two : List Event
two = asks (Malloc 24) ∷ asks (Malloc 300) ∷ []

-- the block at 48 of 40 words shrinks where it is; so its own place had room
answer_48 : says (then zeros two).control (then zeros two).words (Realloc 48 100) ≡ granted 48
unfolding need_words need round_up tree_index min_size huge
answer_48 = ruled_so two (Realloc 48 100)

pub own_place : OwnPlace (after_all two) 48 100
own_place = ((kept.the_rules.own_place_first (then zeros two).control (then zeros two).words (after_all two) 48 100
    (held zeros count_128 two)).0 answer_48).1

pub copies_none : Copies wide (after_all two) (Realloc 48 100) 7 → ⊥
unfolding need_words need round_up tree_index min_size huge
copies_none =
    kept.the_rules.copies_none (then zeros two).control (then zeros two).words (after_all two) 100 4 40 7
    (held zeros count_128 two, inr (inl (refl, refl)), answer_48)

-- the block of 4 words at 0 moves to 50: three words are copied, into words 52, 53 and 54
moves : Resizes (then zeros before).control (then zeros before).words (after_all before) 100 0 4 50
unfolding need_words need round_up tree_index min_size huge
moves = (held zeros count_128 before, inl (refl, refl), answer_416)

pub copies_into : Copies wide (after_all before) (Realloc 16 100) 54 ↔ (52 ≤ 54) × (8 * 54 < 8 * 52 + 24)
copies_into = kept.the_rules.copies_into (then zeros before).control (then zeros before).words (after_all before) 100 0 4 50 54 moves
    (λ z. let b : ⊥ = omega (arith, z) in b)

pub copies_what : get_or (left (then zeros before).control (then zeros before).words (Realloc 16 100)).words 52 0 ≡ 7
copies_what =
    kept.the_rules.copies_what (then zeros before).control (then zeros before).words (after_all before) 100 0 4 50 0 moves
    (λ z. let b : ⊥ = omega (arith, z) in b) (omega arith) ∙ kept_seven

pub copies_many : 8 * (answer_to wide (length (then zeros before).words) (after_all before) (Realloc 16 100)).copied ≡ 24
copies_many = kept.the_rules.copies_many (then zeros before).control (then zeros before).words (after_all before) 100 0 4 50 moves
    (λ z. let b : ⊥ = omega (arith, z) in b)

-- the chunk at 416 has 14 words
pub usable_104 : says (then zeros morning).control (then zeros morning).words (Usable 416) ≡ bytes (8 * 14 - 8)
unfolding need_words need round_up tree_index min_size huge
usable_104 = kept.the_rules.usable (then zeros morning).control (then zeros morning).words (after_all morning) 416 14
    (held zeros count_128 morning) refl

-- ---- grants: the block that moved to 416, and an aligned one at 384

pub enough : (m : ℕ) × LiveAt (left (then zeros before).control (then zeros before).words (Realloc 16 100)) 416 m × (100 ≤ m)
enough = kept.grants.enough (then zeros before).control (then zeros before).words (after_all before) (Realloc 16 100) 416
    (held zeros count_128 before) answer_416

pub tight_resize : 104 + 8 < 8 * need_words 8 100 + 32
unfolding need_words need round_up tree_index min_size huge
tight_resize =
    kept.grants.tight_realloc (then zeros before).control (then zeros before).words (after_all before) 16 100 416 104
    (held zeros count_128 before) answer_416
    (live through 50 14 (inr (inr (inr (inr (inl (refl, refl)))))))

pub tight_malloc : 24 + 8 < 8 * need_words 8 24 + 32
unfolding need_words need round_up tree_index min_size huge
tight_malloc =
    kept.grants.tight_malloc (then zeros fresh).control (then zeros fresh).words (fresh_heap 128) 24 16 24
    (held zeros count_128 fresh) answer_16
    (live (asks (Malloc 24) ∷ []) 0 4 (inl (refl, refl)))

abbrev two_blocks : List Event
two_blocks = asks (Malloc 24) ∷ asks (Malloc 232) ∷ []

answer_384 : says (then zeros two_blocks).control (then zeros two_blocks).words (Memalign 64 24) ≡ granted 384
unfolding need_words need round_up tree_index min_size huge
answer_384 = ruled_so two_blocks (Memalign 64 24)

pub tight : 24 + 8 ≤ 8 * need_words 8 24 + 32
unfolding need_words need round_up tree_index min_size huge
tight =
    kept.grants.tight (then zeros two_blocks).control (then zeros two_blocks).words (after_all two_blocks) (Memalign 64 24) 384 24
    (held zeros count_128 two_blocks) answer_384
    (live (asks (Malloc 24) ∷ asks (Malloc 232) ∷ asks (Memalign 64 24) ∷ []) 46 4 (inr (inr (inr (inl (refl, refl))))))

pub granule : 384 % 16 ≡ 0
granule = kept.grants.granule (then zeros two_blocks).control (then zeros two_blocks).words (after_all two_blocks) (Memalign 64 24) 384
    (held zeros count_128 two_blocks) answer_384

pub aligned : (j : ℕ) × (384 ≡ j * 64)
aligned = kept.grants.aligned (then zeros two_blocks).control (then zeros two_blocks).words (after_all two_blocks) 64 24 384
    (held zeros count_128 two_blocks) answer_384

-- ---- the remainder: of 208 bytes in a small bin, of 608 in a tree

abbrev small_hole : List Event
small_hole = asks (Malloc 200) ∷ asks (Malloc 24) ∷ asks (Free 16) ∷ []

serves_24 : Serves (then zeros small_hole).control (then zeros small_hole).words (after_all small_hole) 24 0 26
unfolding need_words need round_up tree_index min_size huge
serves_24 = (held zeros count_128 small_hole, inl (refl, refl), ruled_so small_hole (Malloc 24))

pub rest_split : LiveAt (left (then zeros small_hole).control (then zeros small_hole).words (Malloc 24)) 16 (8 * need_words 8 24 - 8)
unfolding need_words need round_up
rest_split = kept.grants.rest_split (then zeros small_hole).control (then zeros small_hole).words
    (after_all small_hole) 24 0 26 serves_24 (omega arith)

pub rest_spare : ((left (then zeros small_hole).control (then zeros small_hole).words (Malloc 24)).control.dv ≡ 8 * (0 + need_words 8 24))
    × ((left (then zeros small_hole).control (then zeros small_hole).words (Malloc 24)).control.dv_size ≡ 8 * (26 - need_words 8 24))
unfolding need_words need round_up
rest_spare = kept.grants.rest_spare (then zeros small_hole).control (then zeros small_hole).words
    (after_all small_hole) 24 0 26 serves_24 (omega arith) (inl (omega arith))

-- and of the spare chunk itself: what is left of `dv` stays it
abbrev spare_there : List Event
spare_there = asks (Malloc 200) ∷ asks (Malloc 24) ∷ asks (Free 16) ∷ asks (Malloc 24) ∷ []

serves_by_dv : Serves (then zeros spare_there).control (then zeros spare_there).words (after_all spare_there) 24 4 22
unfolding need_words need round_up tree_index min_size huge
serves_by_dv = (held zeros count_128 spare_there, inr (inl (refl, refl)), ruled_so spare_there (Malloc 24))

pub rest_of_dv : ((left (then zeros spare_there).control (then zeros spare_there).words (Malloc 24)).control.dv ≡ 8 * (4 + need_words 8 24))
    × ((left (then zeros spare_there).control (then zeros spare_there).words (Malloc 24)).control.dv_size ≡ 8 * (22 - need_words 8 24))
unfolding need_words need round_up tree_index min_size huge
rest_of_dv =
    kept.grants.rest_spare (then zeros spare_there).control (then zeros spare_there).words (after_all spare_there) 24 4 22 serves_by_dv
    (omega arith) (inr (held zeros count_128 spare_there).spare.2)

serves_185 : Serves (then zeros small_hole).control (then zeros small_hole).words (after_all small_hole) 185 0 26
unfolding need_words need round_up tree_index min_size huge
serves_185 = (held zeros count_128 small_hole, inl (refl, refl), ruled_so small_hole (Malloc 185))

pub rest_stays : LiveAt (left (then zeros small_hole).control (then zeros small_hole).words (Malloc 185)) 16 200
unfolding need_words need round_up
rest_stays = kept.grants.rest_stays (then zeros small_hole).control (then zeros small_hole).words
    (after_all small_hole) 185 0 26 serves_185 (omega arith)

abbrev large_hole : List Event
large_hole = asks (Malloc 600) ∷ asks (Malloc 24) ∷ asks (Free 16) ∷ []

serves_300 : Serves (then zeros large_hole).control (then zeros large_hole).words (after_all large_hole) 300 0 76
unfolding need_words need round_up tree_index min_size huge bit
serves_300 = (held zeros count_128 large_hole, inl (refl, refl), ruled_so large_hole (Malloc 300))

pub rest_free : Starts 0 (answer_to wide (length (then zeros large_hole).words) (after_all large_hole) (Malloc 300)).heap.chunks
    (0 + need_words 8 300) (free (76 - need_words 8 300))
unfolding need_words need round_up
rest_free =
    kept.grants.rest_free (then zeros large_hole).control (then zeros large_hole).words (after_all large_hole)
    (answer_to wide (length (then zeros large_hole).words) (after_all large_hole) (Malloc 300)).heap 300 0 76 serves_300 (omega arith)
    (calls-held wide (then zeros large_hole) (after_all large_hole) (held zeros count_128 large_hole) (Malloc 300)).held

-- there was no `dv`, and there is none
pub rest_binned : ((left (then zeros large_hole).control (then zeros large_hole).words
    (Malloc 300)).control.dv ≡ (then zeros large_hole).control.dv)
    × ((left (then zeros large_hole).control (then zeros large_hole).words
    (Malloc 300)).control.dv_size ≡ (then zeros large_hole).control.dv_size)
unfolding need_words need round_up tree_index min_size huge bit
rest_binned =
    kept.grants.rest_binned (then zeros large_hole).control (then zeros large_hole).words (after_all large_hole) 300 0 76 serves_300
    (omega arith)
    (λ z. let b : ⊥ = omega (arith, sym z ∙ (held zeros count_128 large_hole).spare.0) in b)

-- ---- a resize that stays: the block of 320 bytes at 48 to 100 bytes, and to 296; the one at 16, the last, into the top

pub resize_split : LiveAt (left (then zeros two).control (then zeros two).words (Realloc 48 100)) 48 (8 * need_words 8 100 - 8)
unfolding need_words need round_up tree_index min_size huge
resize_split =
    kept.grants.resize_split (then zeros two).control (then zeros two).words (after_all two) 100 4 40 40
    (held zeros count_128 two, inr (inl (refl, refl)), answer_48) (inl (omega arith, refl)) (omega arith)

-- into the free chunk of 208 bytes behind the block at 16
abbrev neighbour : List Event
neighbour = asks (Malloc 24) ∷ asks (Malloc 200) ∷ asks (Malloc 24) ∷ asks (Free 48) ∷ []

pub resize_joins : LiveAt (left (then zeros neighbour).control (then zeros neighbour).words (Realloc 16 100)) 16 (8 * need_words 8 100 - 8)
unfolding need_words need round_up tree_index min_size huge
resize_joins =
    kept.grants.resize_split (then zeros neighbour).control (then zeros neighbour).words (after_all neighbour) 100 0 4 30
    (held zeros count_128 neighbour, inl (refl, refl), ruled_so neighbour (Realloc 16 100))
    (inr (omega arith, (26, inr (inl (refl, refl)), refl))) (omega arith)

pub resize_stays : LiveAt (left (then zeros two).control (then zeros two).words (Realloc 48 296)) 48 312
unfolding need_words need round_up tree_index min_size huge
resize_stays =
    kept.grants.resize_stays (then zeros two).control (then zeros two).words (after_all two) 296 4 40 40
    (held zeros count_128 two, inr (inl (refl, refl)), ruled_so two (Realloc 48 296)) (inl (omega arith, refl)) (omega arith)

abbrev one : List Event
one = asks (Malloc 24) ∷ []

pub resize_top : LiveAt (left (then zeros one).control (then zeros one).words (Realloc 16 100)) 16 (8 * need_words 8 100 - 8)
unfolding need_words need round_up tree_index min_size huge
resize_top =
    (kept.grants.resize_top (then zeros one).control (then zeros one).words (after_all one) 100 0 4
    (held zeros count_128 one, inl (refl, refl), ruled_so one (Realloc 16 100)) (omega arith) (sym (held zeros count_128 one).top_place)).0

-- ---- lending: the block of 104 bytes at 416, and none at 24

pub lent_104 : 8 * length (lent wide (image (then zeros morning).control) (then zeros morning).words 416) ≡ 104
lent_104 = kept.lends.lent_bytes (then zeros morning).control (then zeros morning).words 416 104 usable_104

pub none_lent : lent wide (image (then zeros morning).control) (then zeros morning).words 24 ≡ []
unfolding need_words need round_up tree_index min_size huge
none_lent =
    (kept.lends.empty_as_refused (then zeros morning).control (then zeros morning).words 24).1
    (λ z. let b : ⊥ = omega (arith, sym z ∙ ap refusal (ruled_so morning (Usable 24))) in b)

pub lent-word : get_or (lent wide (image (then zeros before).control) (then zeros before).words 16) 0 0 ≡ 7
unfolding need_words need round_up tree_index min_size huge
lent-word =
    kept.lends.lent_words (then zeros before).control (then zeros before).words (after_all before) 0 4 0 (held zeros count_128 before)
    (inl (refl, refl)) (omega arith) ∙ kept_seven

pub stored : back wide (image (then zeros before).control) (then zeros before).words 16
    (set (lent wide (image (then zeros before).control) (then zeros before).words 16) 1 9)
    ≡ (after wide (then zeros before) (writes 16 1 9 ∷ [])).words
stored = kept.lends.store_writes (then zeros before).control (then zeros before).words (after_all before) 16 1 9
    (held zeros count_128 before)

-- ---- settled: on 14 words whatever fits a call's contract is the refusal, with the given record and words

bad : (c : arena.Control) (k : Call)
    → ends (answer_of (Refused BadCount)) (numbers c) (replicate 14 0) ≡ call_a wide (numbers c) (replicate 14 0) k
unfolding call_a call_b
bad c k = refl

pub one_outcome : (c d : arena.Control) (v : List ℕ) (a : code.Answer)
    → ends (answer_of a) (numbers d) v ≡ call_a wide (numbers c) (replicate 14 0) (Malloc 24)
    → (a ≡ Refused BadCount) × (d ≡ c) × (v ≡ replicate 14 0)
one_outcome c d v a p = kept.settled.call c d c (replicate 14 0) v (replicate 14 0) (Malloc 24) a (Refused BadCount) p (bad c (Malloc 24))

pub one_malloc : (c d : arena.Control) (v : List ℕ) (x : Result BlockOff Reason)
    → ends (block_answer x) (numbers d) v ≡ call_a wide (numbers c) (replicate 14 0) (Malloc 24)
    → (x ≡ Err BadCount) × (d ≡ c) × (v ≡ replicate 14 0)
one_malloc c d v x p = kept.settled.block c d c (replicate 14 0) v (replicate 14 0) (Malloc 24) x (Err BadCount) p (bad c (Malloc 24))

pub one_free : (c d : arena.Control) (v : List ℕ) (x : Result ⊤ Reason)
    → ends (done_answer x) (numbers d) v ≡ call_a wide (numbers c) (replicate 14 0) (Free 16)
    → (x ≡ Err BadCount) × (d ≡ c) × (v ≡ replicate 14 0)
one_free c d v x p = kept.settled.done c d c (replicate 14 0) v (replicate 14 0) (Free 16) x (Err BadCount) p (bad c (Free 16))

pub one_usable : (c d : arena.Control) (v : List ℕ) (x : Result ℕ Reason)
    → ends (bytes_answer x) (numbers d) v ≡ call_a wide (numbers c) (replicate 14 0) (Usable 16)
    → (x ≡ Err BadCount) × (d ≡ c) × (v ≡ replicate 14 0)
one_usable c d v x p = kept.settled.bytes c d c (replicate 14 0) v (replicate 14 0) (Usable 16) x (Err BadCount) p (bad c (Usable 16))

-- and of set-up: the refusal with the empty record
abbrev pub empty : arena.Control
empty =
    record {
      smallmap = 0;
      treemap = 0;
      smallbins = replicate 32 record { 0 = no_link wide };
      treebins = replicate 32 record { 0 = no_link wide };
      dv = record { 0 = no_link wide };
      dvsize = 0;
      top = record { 0 = no_link wide };
      topsize = 0;
      length = 0;
    }

bad_set_up : ends (answer_of (Refused BadCount)) (numbers empty) (replicate 14 0) ≡ set_up_a wide (replicate 14 0)
unfolding set_up_a
bad_set_up = refl

pub one_set_up : (d : arena.Control) (v : List ℕ) (a : code.Answer) → ends (answer_of a) (numbers d) v ≡ set_up_a wide (replicate 14 0)
    → (a ≡ Refused BadCount) × (d ≡ empty) × (v ≡ replicate 14 0)
one_set_up d v a p = kept.settled.set_up d empty (replicate 14 0) v (replicate 14 0) a (Refused BadCount) p bad_set_up

pub one_fresh : (d : arena.Control) (v : List ℕ) (x : Result ⊤ Reason) → ends (done_answer x) (numbers d) v ≡ set_up_a wide (replicate 14 0)
    → (x ≡ Err BadCount) × (d ≡ empty) × (v ≡ replicate 14 0)
one_fresh d v x p = kept.settled.fresh d empty (replicate 14 0) v (replicate 14 0) x (Err BadCount) p bad_set_up
