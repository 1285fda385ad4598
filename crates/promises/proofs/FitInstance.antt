-- REQUEST (vii) IN NUMBERS, on 256 words: which of three tree chunks a large request gets; when it gets `dv` and when not; each way of a
-- small request; and blocks given back in two orders, with the bin that differs. Heaps and answers are computed by the rules. Assumes
-- nothing.
use Rattle.std.specs.Prelude.{◌≡◌, refl, Bool, true, false, List, [], ◌∷◌, ◌++◌, ℕ, zero, suc, ◌+◌, ◌*◌, ◌≤◌, ◌<◌, eqb, length, get_or, replicate}
use Rattle.std.proofs.Common.{sym, ◌∙◌, ap, subst, inl, inr, arith}
use Rattle.std.proofs.Math.Option.{some}
use Rattle.words.specs.Logic.{pick}
use Rattle.words.specs.Edition.{wide}
use Rattle.index.specs.Sizes.{need_words, need, round_up}
use Rattle.index.specs.TreeBin.{tree_index, min_size}
use Rattle.tiling.specs.Tiling.{used, free, size, Starts}
use Rattle.tries.specs.Bits.{bit}
use Rattle.tries.specs.Tree.{leaf, node}
use Rattle.rules.specs.BinOf.{huge}
use Rattle.rules.specs.Heap.{Heap, fresh_heap}
use Rattle.rules.specs.Calls.{Call, Malloc, Free, granted, done, is_in, answer_to}
use Rattle.holds.specs.Holds.{Control, SpareAt}
use Rattle.holds.specs.Rings.{ring_of}
use Rattle.calls.specs.Histories.{Event, asks, after, answers, heap_after, HeldIn}
use Rattle.promises.specs.Promises.{says, Allowed, LiveAt, then}
use Rattle.promises.specs.Requests.{TreeChunk, Empty, gives_back, SameChunks}
use Rattle.promises.proofs.AllKept.{kept, requests_kept}
use Rattle.promises.proofs.RoomLaws.{one_chunk}
use Rattle.promises.proofs.GrantedBy.{value, tidy}
use Rattle.promises.proofs.HistoriesKept.{live_at, held, count}

abbrev zeros : List ℕ
zeros = replicate 256 0

count_256 : Allowed 256
count_256 = (refl, omega arith, omega arith)

abbrev c : List Event → Control
c es = (then zeros es).control

abbrev w : List Event → List ℕ
w es = (then zeros es).words

abbrev heap : List Event → Heap
heap es = heap_after wide 256 (fresh_heap 256) es

holds : (es : List Event) → HeldIn wide (then zeros es) (heap es)
holds es = held zeros count_256 es

ruled_so : (es : List Event) (k : Call) → says (c es) (w es) k ≡ (answer_to wide 256 (heap es) k).answer
ruled_so es k =
    (kept.the_rules.obeys (c es) (w es) (heap es) k (holds es)).0 ∙ ap (λ n. (answer_to wide n (heap es) k).answer)
    (count zeros count_256 es)

within : (es : List Event) (n : ℕ) → n ≤ 2048 → n ≤ 8 * length (w es)
within es n l = omega (arith, l, count zeros count_256 es)

-- ---- three tree chunks of one bin, of 272, 368 and 320 bytes at 0, 304 and 704, of which the second came first and is the root: 280 bytes
-- need 288, so the root would do, but they get the third; 24 get the first

abbrev three : List Event
three =
    asks (Malloc 264) ∷ asks (Malloc 24) ∷ asks (Malloc 360) ∷ asks (Malloc 24) ∷ asks (Malloc 312) ∷ asks (Malloc 24)
    ∷ asks (Free 320) ∷ asks (Free 16) ∷ asks (Free 720) ∷ []

pub the_root : get_or (heap three).tries 0 leaf ≡ node 38 [] 46 (node 0 [] 34 leaf leaf) (node 88 [] 40 leaf leaf)
unfolding need_words need round_up tree_index min_size huge bit
the_root = refl

no_dv_lem : (x : ℕ) → (c three).dv ≡ 8 * x → ⊥
unfolding need_words need round_up tree_index min_size huge bit
no_dv_lem x z = omega (arith, sym z ∙ (holds three).spare.0)

pub third : says (c three) (w three) (Malloc 280) ≡ granted 720
unfolding need_words need round_up tree_index min_size huge bit
third = ruled_so three (Malloc 280)

second_tree : TreeChunk (c three) (heap three) 38 46
unfolding need_words need round_up tree_index min_size huge bit
second_tree = (inr (inr (inl (refl, refl))), omega arith, no_dv_lem 38)

pub no_smaller : (y t : ℕ) → TreeChunk (c three) (heap three) y t → 36 ≤ t → 40 ≤ t
unfolding need_words need round_up tree_index min_size huge bit
no_smaller y t tc l =
    requests_kept.fit.best-fit (c three) (w three) (heap three) 280 88 40 (omega arith)
    (holds three, inr (inr (inr (inr (inl (refl, refl))))), third) (no_dv_lem 88) y t tc l

all_bare : (m k : ℕ) → get_or {A = List ℕ} (replicate m []) k [] ≡ []
all_bare zero k = refl
all_bare (suc m) zero = refl
all_bare (suc m) (suc k) = all_bare m k

bins_bare : Empty (heap three) 4 32
unfolding need_words need round_up tree_index min_size huge bit
bins_bare k _ _ = all_bare 32 k

no_spare : (c three).dv_size ≡ 0
unfolding need_words need round_up tree_index min_size huge bit
no_spare = (holds three).spare.1

pub first : says (c three) (w three) (Malloc 24) ≡ granted 16
unfolding need_words need round_up tree_index min_size huge bit
first = ruled_so three (Malloc 24)

pub smallest_tree : (z u : ℕ) → TreeChunk (c three) (heap three) z u → 34 ≤ u
unfolding need_words need round_up tree_index min_size huge bit
smallest_tree z u tc =
    let t = requests_kept.fit.small_tree (c three) (w three) (heap three) 24 38 46 (holds three) (omega arith)
    (within three 24 (omega arith))
    (omega (arith, no_spare)) bins_bare second_tree in
    let x : t.0 ≡ 0 = omega (arith, ap value (sym t.3 ∙ first)) in
    let s : t.1 ≡ 34 = ap size (one_chunk (heap three) (tidy (c three) (w three) (heap three) (holds three)) 0 (free t.1) (free 34)
    (subst (λ (a : ℕ). Starts 0 (heap three).chunks a (free t.1)) x t.2.0) (inl (refl, refl))) in
    omega (arith, s, t.4 z u tc)

-- ---- the spare chunk of 496 bytes at 32: 300 bytes get it, also beside a tree chunk of 496 bytes, but not beside one of 320

abbrev spare : List Event
spare = asks (Malloc 520) ∷ asks (Malloc 24) ∷ asks (Malloc 312) ∷ asks (Malloc 24) ∷ asks (Free 16) ∷ asks (Malloc 24) ∷ []

abbrev beside_320 : List Event
beside_320 =
    asks (Malloc 520) ∷ asks (Malloc 24) ∷ asks (Malloc 312) ∷ asks (Malloc 24) ∷ asks (Free 16) ∷ asks (Malloc 24) ∷ asks (Free 576) ∷ []

abbrev beside_496 : List Event
beside_496 =
    asks (Malloc 520) ∷ asks (Malloc 24) ∷ asks (Malloc 488) ∷ asks (Malloc 24) ∷ asks (Free 16) ∷ asks (Malloc 24) ∷ asks (Free 576) ∷ []

spare_bytes : (es : List Event) (p s : ℕ) → (heap es).dv ≡ some p → Starts 0 (heap es).chunks p (free s) → (c es).dv_size ≡ 8 * s
spare_bytes es p s q st =
    let z = subst (λ d. SpareAt wide (c es).dv (c es).dv_size (heap es).chunks d) q (holds es).spare in
    z.3 ∙ ap (λ k. 8 * k) (ap size (one_chunk (heap es) (tidy (c es) (w es) (heap es) (holds es)) p (free z.0) (free s) z.1 st))

dv_32 : (c spare).dv ≡ 32
unfolding need_words need round_up tree_index min_size huge bit
dv_32 = (holds spare).spare.2

pub gets_dv : (says (c spare) (w spare) (Malloc 300) ≡ granted 48) × (says (c beside_496) (w beside_496) (Malloc 300) ≡ granted 48)
unfolding need_words need round_up tree_index min_size huge bit
gets_dv = (ruled_so spare (Malloc 300), ruled_so beside_496 (Malloc 300))

-- so no tree chunk that holds 320 bytes has less than the spare chunk's
pub none_better : (y t : ℕ) → TreeChunk (c beside_496) (heap beside_496) y t → 40 ≤ t → 8 * t < 496 → ⊥
unfolding need_words need round_up tree_index min_size huge bit
none_better y t tc l u =
    ((requests_kept.fit.dv_exactly (c beside_496) (w beside_496) (heap beside_496) 300 (holds beside_496) (omega arith)
    ).0 (gets_dv.1 ∙ ap granted (let z : 48 ≡ (c beside_496).dv + 16 = omega (arith, (holds beside_496).spare.2) in z))).2 y t tc l
    (omega (arith, u, spare_bytes beside_496 4 62 refl (inr (inl (refl, refl)))))

-- and it is not `dv` that serves beside the tree chunk of 320 bytes
pub not_dv : says (c beside_320) (w beside_320) (Malloc 300) ≡ granted ((c beside_320).dv + 16) → ⊥
unfolding need_words need round_up tree_index min_size huge bit
not_dv u =
    ((requests_kept.fit.dv_exactly (c beside_320) (w beside_320) (heap beside_320) 300 (holds beside_320) (omega arith)).0 u).2 70 40
    (inr (inr (inr (inl (refl, refl)))), omega arith, λ z. omega (arith, z, (holds beside_320).spare.2)) (omega arith)
    (omega (arith, spare_bytes beside_320 4 62 refl (inr (inl (refl, refl)))))

pub the_tree : says (c beside_320) (w beside_320) (Malloc 300) ≡ granted 576
unfolding need_words need round_up tree_index min_size huge bit
the_tree = ruled_so beside_320 (Malloc 300)

-- 24 bytes get `dv` too: their own bin is empty
pub small_from_dv : says (c spare) (w spare) (Malloc 24) ≡ granted 48
unfolding need_words need round_up tree_index min_size huge bit
small_from_dv =
    requests_kept.fit.small_dv (c spare) (w spare) (heap spare) 24 (holds spare) (omega arith) (within spare 24 (omega arith)) refl
    (omega (arith, spare_bytes spare 4 62 refl (inr (inl (refl, refl))))) ∙ ap granted
    (let z : (c spare).dv + 16 ≡ 48 = omega (arith, dv_32) in z)

-- ---- the oldest of three tree chunks of 272 bytes, which came from the highest down

abbrev rings : List Event
rings =
    asks (Malloc 264) ∷ asks (Malloc 24) ∷ asks (Malloc 264) ∷ asks (Malloc 24) ∷ asks (Malloc 264) ∷ asks (Malloc 24)
    ∷ asks (Free 624) ∷ asks (Free 320) ∷ asks (Free 16) ∷ []

pub served_oldest : says (c rings) (w rings) (Malloc 264) ≡ granted 624
unfolding need_words need round_up tree_index min_size huge bit
served_oldest = ruled_so rings (Malloc 264)

pub oldest_first : (ps : List ℕ) × (ring_of 34 (get_or (heap rings).tries (tree_index 272) leaf) ≡ 76 ∷ ps)
unfolding need_words need round_up tree_index min_size huge bit
oldest_first =
    let st : Starts 0 (heap rings).chunks 76 (free 34) = inr (inr (inr (inr (inl (refl, refl))))) in
    requests_kept.fit.oldest (c rings) (w rings) (heap rings) 264 76 34 (holds rings, st, served_oldest)
    (st, omega arith, λ z. omega (arith, sym z ∙ (holds rings).spare.0))

-- ---- small bins: of two chunks of 32 bytes the newest; and of none a chunk of 48

abbrev small_ones : List Event
small_ones = asks (Malloc 24) ∷ asks (Malloc 24) ∷ asks (Malloc 24) ∷ asks (Malloc 24) ∷ asks (Free 16) ∷ asks (Free 80) ∷ []

pub newest_own : says (c small_ones) (w small_ones) (Malloc 24) ≡ granted 80
unfolding need_words need round_up tree_index min_size huge bit
newest_own =
    requests_kept.fit.small_own (c small_ones) (w small_ones) (heap small_ones) 24 8 (0 ∷ []) (holds small_ones) (omega arith)
    (within small_ones 24 (omega arith)) refl

abbrev one_48 : List Event
one_48 = asks (Malloc 40) ∷ asks (Malloc 24) ∷ asks (Free 16) ∷ []

four_five : (k : ℕ) → 4 ≤ k → k < 6 → get_or (heap one_48).small k [] ≡ []
unfolding need_words need round_up tree_index min_size huge bit
four_five zero lo hi = absurd (omega arith)
four_five (suc zero) lo hi = absurd (omega arith)
four_five (suc (suc zero)) lo hi = absurd (omega arith)
four_five (suc (suc (suc zero))) lo hi = absurd (omega arith)
four_five (suc (suc (suc (suc zero)))) lo hi = refl
four_five (suc (suc (suc (suc (suc zero))))) lo hi = refl
four_five (suc (suc (suc (suc (suc (suc k)))))) lo hi = absurd (omega arith)

pub fuller-bin : says (c one_48) (w one_48) (Malloc 24) ≡ granted 16
unfolding need_words need round_up tree_index min_size huge bit
fuller-bin =
    requests_kept.fit.small_fuller (c one_48) (w one_48) (heap one_48) 24 6 0 [] (holds one_48) (omega arith)
    (within one_48 24 (omega arith))
    (omega (arith, (holds one_48).spare.1)) (omega arith) (omega arith) four_five refl

-- ---- either order: of four blocks of 24 bytes the second and the third are given back, and become one chunk; or the first and the third

abbrev four : List Event
four = asks (Malloc 24) ∷ asks (Malloc 24) ∷ asks (Malloc 24) ∷ asks (Malloc 24) ∷ []

live : (x : ℕ) → Starts 0 (heap four).chunks x (used 4) → LiveAt (then zeros four) (8 * (x + 2)) 24
live x st = live_at (then zeros four) (heap four) (holds four) x 4 st

pub joined : SameChunks (then zeros (four ++ gives_back (48 ∷ 80 ∷ []))) (then zeros (four ++ gives_back (80 ∷ 48 ∷ [])))
unfolding need_words need round_up tree_index min_size huge bit
joined =
    (requests_kept.fit.either_order (c four) (w four) (heap four) 48 24 80 24 (holds four) (live 4 (inr (inl (refl, refl))))
    (live 8 (inr (inr (inl (refl, refl)))))
    (λ z. omega (arith, z))).1

pub both_done : answers wide (then zeros four) (gives_back (48 ∷ 80 ∷ [])) ≡ done ∷ done ∷ []
unfolding need_words need round_up tree_index min_size huge bit
both_done =
    (requests_kept.fit.either_order (c four) (w four) (heap four) 48 24 80 24 (holds four) (live 4 (inr (inl (refl, refl))))
    (live 8 (inr (inr (inl (refl, refl))))) (λ z. omega (arith, z))).0

abbrev one_way : List Event
one_way = four ++ gives_back (16 ∷ 80 ∷ [])

abbrev other_way : List Event
other_way = four ++ gives_back (80 ∷ 16 ∷ [])

pub apart : SameChunks (then zeros one_way) (then zeros other_way)
unfolding need_words need round_up tree_index min_size huge bit
apart =
    (requests_kept.fit.either_order (c four) (w four) (heap four) 16 24 80 24 (holds four) (live 0 (inl (refl, refl)))
    (live 8 (inr (inr (inl (refl, refl)))))
    (λ z. omega (arith, z))).1

-- the head of the first chunk is the same word, by the promise
pub same_head : get_or (w one_way) 1 0 ≡ get_or (w other_way) 1 0
unfolding need_words need round_up tree_index min_size huge bit
same_head = (apart (heap one_way) (heap other_way) (holds one_way) (holds other_way)).2 1 (inl (inl refl))

-- more can't be said: the bin of 32 bytes lists them the other way round, and the next request tells
pub bins_differ : (get_or (heap one_way).small 4 [] ≡ 8 ∷ 0 ∷ []) × (get_or (heap other_way).small 4 [] ≡ 0 ∷ 8 ∷ [])
unfolding need_words need round_up tree_index min_size huge bit
bins_differ = (refl, refl)

pub answers_differ : (says (c one_way) (w one_way) (Malloc 24) ≡ granted 80) × (says (c other_way) (w other_way) (Malloc 24) ≡ granted 16)
unfolding need_words need round_up tree_index min_size huge bit
answers_differ = (ruled_so one_way (Malloc 24), ruled_so other_way (Malloc 24))

-- ---- any order: three of them, and an offset that is given back twice
same_three : (x : ℕ) → is_in x (16 ∷ 48 ∷ 80 ∷ []) ≡ is_in x (80 ∷ 16 ∷ 80 ∷ 48 ∷ [])
same_three x = turned (eqb x 16) (eqb x 48) (eqb x 80)
  where
    turned : (a b d : Bool) → pick a true (pick b true (pick d true false)) ≡ pick d true (pick a true (pick d true (pick b true false)))
    turned true true true = refl
    turned true true false = refl
    turned true false true = refl
    turned true false false = refl
    turned false true true = refl
    turned false true false = refl
    turned false false true = refl
    turned false false false = refl

pub three_blocks : SameChunks (after wide (then zeros four) (gives_back (16 ∷ 48 ∷ 80 ∷ [])))
    (after wide (then zeros four) (gives_back (80 ∷ 16 ∷ 80 ∷ 48 ∷ [])))
three_blocks =
    requests_kept.fit.any_order (c four) (w four) (heap four) (16 ∷ 48 ∷ 80 ∷ []) (80 ∷ 16 ∷ 80 ∷ 48 ∷ []) (holds four) same_three
