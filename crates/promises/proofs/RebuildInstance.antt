-- REQUEST (xiii) IN NUMBERS, on 128 words: document 01's state D loses its record, is rebuilt, serves, is rebuilt again, and all is given
-- back; in which order free chunks of one size then stand in their bin; and what is refused. Computed. Assumes nothing.
use Rattle.std.specs.Prelude.{◌≡◌, refl, List, [], ◌∷◌, ◌++◌, ℕ, ◌+◌, get_or, replicate}
use Rattle.std.proofs.Common.{sym, ◌∙◌, ap, subst, inl, inr, arith}
use Rattle.std.proofs.Math.Option.{none, some}
use Rattle.words.specs.Edition.{wide}
use Rattle.index.specs.Sizes.{need_words, need, round_up}
use Rattle.index.specs.TreeBin.{tree_index, min_size}
use Rattle.tiling.specs.Tiling.{Chunk, Heads, end_of}
use Rattle.tries.specs.Bits.{bit}
use Rattle.tries.specs.Tree.{leaf, node}
use Rattle.rules.specs.BinOf.{huge}
use Rattle.rules.specs.Calls.{Malloc, Free, granted, done}
use Rattle.holds.specs.Holds.{fresh_control}
use Rattle.holds.specs.Unique.{NoneInUse}
use Rattle.calls.specs.CallBytes.{refusal}
use Rattle.calls.specs.ByValue.{rebuild_a}
use Rattle.calls.proofs.Histories as H
use Rattle.calls.specs.Histories.{Event, asks, rebuilds, remade_box, answers, set_up_on}
use Rattle.calls.proofs.Histories.{from_set_up}
use Rattle.promises.specs.Promises.{Allowed, LiveAt, then}
use Rattle.promises.specs.Requests.{Meets}
use Rattle.promises.proofs.AllKept.{requests_kept}
use Rattle.promises.proofs.HistoriesKept.{live_at, held, count}
use Rattle.promises.proofs.Instance.{zeros, count_128}
use Rattle.promises.specs.RebuildInstance.{heap}

-- ---- state D: the spare chunk of 208 bytes at 112 goes into small bin 26

abbrev to_D : List Event
to_D = asks (Malloc 24) ∷ asks (Malloc 25) ∷ asks (Malloc 232) ∷ asks (Malloc 233) ∷ asks (Free 96) ∷ asks (Malloc 24) ∷ []

abbrev lost : List Event
lost = to_D ++ (rebuilds ∷ [])

pub spare-before : (heap to_D).dv ≡ some 14
unfolding need_words need round_up tree_index min_size huge
spare-before = refl

pub binned_after : ((heap lost).dv ≡ none) × (get_or (heap lost).small 26 [] ≡ 14 ∷ [])
unfolding need_words need round_up tree_index min_size huge
binned_after = (refl, refl)

-- it is granted, and the block of 40 bytes at 48 stays live
pub granted_on_D : (rebuild_a wide (then zeros to_D).words 0).answer ≡ done
granted_on_D = requests_kept.rebuild.in_a_history zeros to_D count_128

pub live_on_D : LiveAt (remade_box wide (then zeros to_D)) 48 40
unfolding need_words need round_up tree_index min_size huge
live_on_D =
    (requests_kept.rebuild.stays_live zeros to_D 4 40 count_128
    (live_at (then zeros to_D) (heap to_D) (held zeros count_128 to_D) 4 6 (inr (inl (refl, refl))))).0

-- its record is the one that our own calls leave on a fresh arena: five chunks taken in address order, and the fourth given back
meets_D : Meets (then zeros to_D).words 0 (heap to_D).chunks (heap to_D).top
meets_D = (subst Allowed (sym (count zeros count_128 to_D)) count_128, refl, (held zeros count_128 to_D).heads)

pub by_calls : (rebuild_a wide (then zeros to_D).words 0).control
    ≡ (then zeros (asks (Malloc 24) ∷ asks (Malloc 40) ∷ asks (Malloc 24) ∷ asks (Malloc 200) ∷ asks (Malloc 248)
    ∷ asks (Free 128) ∷ [])).control
unfolding need_words need round_up tree_index min_size huge
by_calls =
    requests_kept.rebuild.same_record (then zeros to_D).words zeros 0 (heap to_D).chunks (heap to_D).top meets_D
    (sym (count zeros count_128 to_D))

-- the bin serves, a second rebuild is granted, and when all is given back the record is the fresh one
abbrev to_the_end : List Event
to_the_end =
    lost ++ (asks (Malloc 100) ∷ asks (Free 16) ∷ rebuilds ∷ asks (Free 48) ∷ asks (Free 96) ∷ asks (Free 128) ∷ asks (Free 336) ∷ [])

pub answered-lost : answers wide (set_up_on wide zeros) to_the_end
    ≡ granted 16 ∷ granted 48 ∷ granted 96 ∷ granted 336 ∷ done ∷ granted 96 ∷ done
    ∷ granted 128 ∷ done ∷ done ∷ done ∷ done ∷ done ∷ done ∷ []
unfolding need_words need round_up tree_index min_size huge
answered-lost = (from_set_up wide zeros refl (omega arith) (omega arith) to_the_end).answered

all_given_back : (heap to_the_end).chunks ≡ []
unfolding need_words need round_up tree_index min_size huge
all_given_back = refl

pub fresh_after_rebuilds : (then zeros to_the_end).control ≡ fresh_control wide 128
fresh_after_rebuilds = H.fresh_record wide zeros refl (omega arith) (omega arith) to_the_end (subst NoneInUse (sym all_given_back) tt)

-- ---- the order: chunks of 32 bytes at 0, 64 and 128, given back from the highest down, stand with the lowest first; rebuilt, the highest

-- chunks of 272 bytes at 0, 304 and 608: the tree member is the first that came, now the lowest; the others follow it as they came
abbrev large_ones : List Event
large_ones =
    asks (Malloc 264) ∷ asks (Malloc 24) ∷ asks (Malloc 264) ∷ asks (Malloc 24) ∷ asks (Malloc 264) ∷ asks (Malloc 24)
    ∷ asks (Free 624) ∷ asks (Free 320) ∷ asks (Free 16) ∷ []

abbrev large_again : List Event
large_again = large_ones ++ (rebuilds ∷ [])

pub first_is_lowest : (get_or (heap large_ones).tries 0 leaf ≡ node 76 (38 ∷ 0 ∷ []) 34 leaf leaf)
    × (get_or (heap large_again).tries 0 leaf ≡ node 0 (38 ∷ 76 ∷ []) 34 leaf leaf)
unfolding need_words need round_up tree_index min_size huge bit
first_is_lowest = (refl, refl)

-- ---- refused: 14 words, a start of 16, and words that are all zero

pub too_few : refusal (rebuild_a wide (replicate 14 0) 0).answer ≡ 1
too_few = (requests_kept.rebuild.refused_1 (replicate 14 0) 0).1 (inl (λ a. omega (arith, a.1)))

pub another_start : refusal (rebuild_a wide zeros 16).answer ≡ 1
another_start = (requests_kept.rebuild.refused_1 zeros 16).1 (inr (λ z. omega (arith, z)))

no_heads : (cs : List Chunk) (ts : ℕ) → Heads wide zeros cs ts → ⊥
no_heads cs ts k =
    let i : end_of 0 cs + ts + 1 ≡ 119 = omega (arith, k.top.ends) in
    let z : get_or zeros 119 0 ≡ 80 = sym (ap (λ j. get_or zeros j 0) i) ∙ k.top.foot in
    omega (arith, z)

pub no_foot_word : refusal (rebuild_a wide zeros 0).answer ≡ 2
no_foot_word = (requests_kept.rebuild.refused_2 zeros 0).1 (count_128, refl, no_heads)
