-- Which part of the arena is lent to the owner of a block (document 01): its first word and its number of words, for all inputs, in
-- the code's own numbers. Where the call refuses, the part is empty. Both editions. Assumes nothing.
use Rattle.std.specs.Prelude.{Bool, ◌&&◌, List, ◌++◌, ℕ, ◌+◌, ◌/◌, leb, length, get_or, take, drop}
use Rattle.words.specs.Logic.{pick}
use Rattle.words.specs.Edition.{Edition, W}
use Rattle.sound.specs.SoundBytes.{count_ok, sound_b, live_b, usable_b}

-- an allowed number of words, a sound pair, and a live block starts at the offset
unfoldable pub lends_b : Edition → List ℕ → List ℕ → ℕ → Bool
lends_b e r w off = count_ok (length w) && sound_b e r w && live_b e w (get_or r 4 0) off

-- the block's words end in the arena: so it is wherever the call lends (`LendLaws`)
unfoldable pub fits_b : Edition → List ℕ → ℕ → Bool
fits_b e w off = leb (off / W e + usable_b e w off / W e) (length w)

-- the part's first word, and its number of words
unfoldable pub lent_from : Edition → List ℕ → List ℕ → ℕ → ℕ
lent_from e r w off = pick (lends_b e r w off) (pick (fits_b e w off) (off / W e) 0) 0

unfoldable pub lent_words : Edition → List ℕ → List ℕ → ℕ → ℕ
lent_words e r w off = pick (lends_b e r w off) (pick (fits_b e w off) (usable_b e w off / W e) 0) 0

-- the words that are lent
abbrev pub lent : Edition → List ℕ → List ℕ → ℕ → List ℕ
lent e r w off = take (lent_words e r w off) (drop (lent_from e r w off) w)

-- the arena when the part is back, with ys in it
abbrev pub back : Edition → List ℕ → List ℕ → ℕ → List ℕ → List ℕ
back e r w off ys = take (lent_from e r w off) w ++ (ys ++ drop (lent_words e r w off) (drop (lent_from e r w off) w))
