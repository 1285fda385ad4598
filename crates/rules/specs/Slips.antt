-- A SECOND TABLE, of slips that the ★ cases do not notice: histories on 256 words with the answers that follow from document 01's words, proved
-- by computation from the rules like `Morning`. Each case names the words that it goes by. Assumes nothing.
use Rattle.std.specs.Prelude.{◌≡◌, refl, true, List, [], ◌∷◌, ◌++◌, ℕ}
use Rattle.index.specs.Sizes.{need_words, need, round_up}
use Rattle.index.specs.TreeBin.{tree_index, reach, min_size}
use Rattle.tries.specs.Bits.{bit}
use Rattle.rules.specs.BinOf.{huge}
use Rattle.rules.specs.Calls.{Malloc, Free, Realloc, Memalign, granted, done}
use Rattle.rules.specs.Morning.{Line, call, copying, refusing, top_is, dv_is, no_dv_lem, free_is, block_is, all_run}

abbrev takes : ℕ → ℕ → Line
takes n off = call (Malloc n) (granted off)

abbrev drops : ℕ → Line
drops off = call (Free off) done

-- "smallest fitting tree chunk, unless `dv` fits as well or better": `dv` fits with 576 bytes, the tree chunk of 416 fits better
abbrev better_tree : List Line
better_tree = takes 600 16 ∷ takes 24 624 ∷ takes 408 656 ∷ takes 24 1072 ∷ drops 16 ∷ takes 24 16 ∷ dv_is 32 576 ∷ drops 656 ∷ takes 400 656 ∷ dv_is 32 576 ∷ []

-- `dv` and the tree chunk fit equally well, both 416: `dv`
abbrev dv_as_well : List Line
dv_as_well = takes 440 16 ∷ takes 24 464 ∷ takes 408 496 ∷ takes 24 912 ∷ drops 16 ∷ takes 24 16 ∷ dv_is 32 416 ∷ drops 496 ∷ takes 400 48 ∷ no_dv_lem ∷ free_is 480 416 ∷ []

-- small bins: "Last in, first out"
abbrev newest_first : List Line
newest_first = takes 100 16 ∷ takes 24 128 ∷ takes 100 160 ∷ takes 24 272 ∷ takes 100 304 ∷ takes 24 416 ∷ drops 16 ∷ drops 160 ∷ drops 304 ∷ takes 100 304 ∷ takes 100 160 ∷ takes 100 16 ∷ []

-- "a ring newcomer goes before the tree member (its `prev`)", "a ring member's `next` takes its place": the oldest first
abbrev oldest_first : List Line
oldest_first = takes 408 16 ∷ takes 24 432 ∷ takes 408 464 ∷ takes 24 880 ∷ takes 408 912 ∷ takes 24 1328 ∷ drops 16 ∷ drops 464 ∷ drops 912 ∷ takes 408 16 ∷ takes 408 464 ∷ takes 408 912 ∷ []

-- "`dv`; else the next fuller small bin": the bin of 112 bytes would hold the need of 80, `dv` with 176 comes first, and what is left of it stays `dv`
abbrev dv_first : List Line
dv_first =
    takes 200 16 ∷ takes 24 224 ∷ takes 100 256 ∷ takes 24 368 ∷ drops 16 ∷ takes 24 16 ∷ dv_is 32 176 ∷ drops 256 ∷ takes 72 48 ∷ dv_is 112 96
    ∷ free_is 240 112 ∷ []

-- "the next fuller small bin; else `tmalloc_small`": 208 bytes in a small bin, 416 in a tree
abbrev bin_before_tree : List Line
bin_before_tree = takes 200 16 ∷ takes 24 224 ∷ takes 408 256 ∷ takes 24 672 ∷ drops 16 ∷ drops 256 ∷ takes 24 16 ∷ dv_is 32 176 ∷ free_is 240 416 ∷ []

-- "its remainder is binned": of a large need, so there is no `dv`
abbrev rest_binned : List Line
rest_binned = takes 600 16 ∷ takes 24 624 ∷ drops 16 ∷ takes 300 16 ∷ block_is 16 320 ∷ free_is 320 288 ∷ no_dv_lem ∷ []

-- "Merge back .. then .. `dv`": the block behind `dv` is given back, and both together are `dv`
abbrev merged_is_dv : List Line
merged_is_dv = takes 200 16 ∷ takes 24 224 ∷ takes 24 256 ∷ drops 16 ∷ takes 24 16 ∷ dv_is 32 176 ∷ drops 224 ∷ dv_is 32 208 ∷ []

-- "into the top if oldsize + topsize > nb": 32 and 1,936 bytes; 1,952 leave the top 16, and one step more is not to be had
abbrev to_the_end : List Line
to_the_end = takes 24 16 ∷ top_is 32 1936 ∷ call (Realloc 16 1944) (granted 16) ∷ block_is 16 1952 ∷ top_is 1952 16 ∷ []

abbrev past_the_end : List Line
past_the_end = takes 24 16 ∷ refusing (Realloc 16 1945) 6 ∷ block_is 16 32 ∷ top_is 32 1936 ∷ []

-- "into .. a binned neighbour if the sum is at least nb": a block of 32 bytes, and 112 bytes in a small bin behind it
abbrev neighbour : List Line
neighbour = takes 24 16 ∷ takes 100 48 ∷ takes 24 160 ∷ drops 48 ∷ []

-- the sum just holds it; a rest of 16 stays with the block; a rest of 32 is split off, and binned; one step past the sum it moves
abbrev just_the_sum : List Line
just_the_sum = neighbour ++ (call (Realloc 16 136) (granted 16) ∷ block_is 16 144 ∷ no_dv_lem ∷ [])

abbrev rest_of_16 : List Line
rest_of_16 = neighbour ++ (call (Realloc 16 120) (granted 16) ∷ block_is 16 144 ∷ no_dv_lem ∷ [])

abbrev rest_of_32 : List Line
rest_of_32 = neighbour ++ (call (Realloc 16 104) (granted 16) ∷ block_is 16 112 ∷ free_is 112 32 ∷ no_dv_lem ∷ [])

abbrev past_the_sum : List Line
past_the_sum = neighbour ++ (copying (Realloc 16 137) (granted 192) 3 ∷ block_is 192 160 ∷ free_is 0 144 ∷ no_dv_lem ∷ [])

-- "The tail goes back only if size > nb + 32": behind the lead of 80 bytes the block has 64, which is nb + 32
abbrev tail_stays : List Line
tail_stays = takes 24 16 ∷ takes 136 48 ∷ takes 24 192 ∷ drops 48 ∷ call (Memalign 64 24) (granted 128) ∷ block_is 128 64 ∷ free_is 32 80 ∷ []

abbrev mallocs : List (List Line)
mallocs = better_tree ∷ dv_as_well ∷ newest_first ∷ oldest_first ∷ dv_first ∷ bin_before_tree ∷ rest_binned ∷ merged_is_dv ∷ tail_stays ∷ []

abbrev resizes : List (List Line)
resizes = to_the_end ∷ past_the_end ∷ just_the_sum ∷ rest_of_16 ∷ rest_of_32 ∷ past_the_sum ∷ []

pub slips : all_run 256 (mallocs ++ resizes) ≡ true
unfolding need_words need round_up tree_index reach min_size bit huge
slips = refl
