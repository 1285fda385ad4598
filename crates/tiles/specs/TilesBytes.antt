-- THE WORDS LEVEL of the check's first part: the chunks from 0 to the top, and the top. What each test answers and which marks it leaves, for all
-- inputs, in the code's own numbers. One walk of the heads marks the free chunks; it has a bound, more turns than a set has granules. r is the
-- record's image, w the arena's words, m the marks; places and sizes are bytes; nothing wraps. Both editions. Assumes nothing.
use Rattle.std.specs.Prelude.{Bool, true, false, ◌&&◌, List, ℕ, zero, suc, ◌+◌, ◌-◌, ◌*◌, ◌%◌, eqb, leb, ltb, get_or, Option, Some, None}
use Rattle.words.specs.Logic.{pick}
use Rattle.words.specs.Edition.{Edition, W, flags_of}
use Rattle.chunk.specs.Bytes.{word}
use Rattle.tiles.specs.declared.Tile.{Tile}
use Rattle.marks.specs.Marks.{set_mark, Checked, checked, no}

-- the head of c is exactly that of a free chunk of n bytes, or of the top: the chunk before is in use, and no other flag
abbrev pub head_is : Edition → List ℕ → ℕ → ℕ → Bool
head_is e w c n = eqb (word e w c 1) (n + 1)

-- ---- the tiling

-- "the top ends at length - 80 .. Sizes are multiples of 16 .. (top: 16). The foot word is 80": len is the arena's length
unfoldable pub top_ok : Edition → List ℕ → List ℕ → ℕ → Bool
top_ok e r w len =
    let top = get_or r 4 0 in
    let ts = get_or r 5 0 in
    eqb (top % (2 * W e)) 0 && leb (top + 12 * W e) len && eqb (top + ts + 10 * W e) len && head_is e w top ts && eqb (word e w (top + ts) 1) (10 * W e)

-- a chunk's size, 0 where none fits, and whether it is in use
pub record Step : Type 0 where
  pub size : ℕ
  pub used : Bool

abbrev pub step : ℕ → Bool → Step
step n u = record { size = n; used = u }

-- the same as a chunk, or none where none fits
abbrev pub tile_of : Step → Option Tile
tile_of s = pick (eqb s.size 0) None (Some (record { size = s.size; used = s.used }))

-- the flags of a chunk in use: CINUSE, and PINUSE where the chunk before is in use
abbrev pub used_flags : Bool → ℕ
used_flags pu = pick pu 3 2

-- a head's size
abbrev pub head_size : Edition → List ℕ → ℕ → ℕ
head_size e w p = word e w p 1 - flags_of e (word e w p 1)

-- n bytes at p are a chunk and end at the top or before it; a free one comes after one in use, and its size stands in word 0 of the next
abbrev pub room_for : Edition → ℕ → ℕ → ℕ → Bool
room_for e p n top = leb (4 * W e) n && leb (p + n) top

abbrev pub free_ok : Edition → List ℕ → Bool → ℕ → ℕ → ℕ → Bool
free_ok e w pu f n next = pu && eqb f 1 && eqb (word e w next 0) n

-- The chunk at p, before the top; pu: the chunk before is in use
unfoldable pub chunk_at : Edition → List ℕ → ℕ → Bool → ℕ → Step
chunk_at e w p pu top =
    let n = head_size e w p in
    let f = flags_of e (word e w p 1) in
    pick (room_for e p n top) (pick (eqb f (used_flags pu)) (step n true) (pick (free_ok e w pu f n (p + n)) (step n false) (step 0 true))) (step 0 true)

-- chunks from p to the top, the last of them in use; the free ones are marked
unfoldable pub walk_heads : Edition → List ℕ → ℕ → ℕ → ℕ → Bool → List ℕ → Checked
walk_heads e w top zero p pu m = no m
walk_heads e w top (suc k) p pu m =
    let s = chunk_at e w p pu top in
    pick (ltb p top) (pick (eqb s.size 0) (no m) (walk_heads e w top k (p + s.size) s.used (pick s.used m (set_mark e m p)))) (checked pu m)
