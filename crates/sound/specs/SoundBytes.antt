-- THE WORDS LEVEL of the check (document 01, port order 9): what it answers, for all inputs, in the code's own numbers. One walk of the heads marks
-- the free chunks (`TilesBytes`); the spare chunk, each small bin and each tree take the marks of what they hold (`BinsBytes`); at the end no
-- mark is left. Then: which blocks are live in what it has accepted. r is the record's image, w the arena's words, m the marks. Both
-- editions. Assumes nothing.
use Rattle.std.specs.Prelude.{Bool, true, false, ◌&&◌, List, ℕ, zero, suc, ◌+◌, ◌-◌, ◌*◌, ◌%◌, ◌^◌, eqb, leb, ltb, length, get_or}
use Rattle.words.specs.Logic.{pick}
use Rattle.words.specs.Edition.{Edition, W}
use Rattle.chunk.specs.Bytes.{size_b, cinuse_b}
use Rattle.marks.specs.Marks.{turns, Checked, checked, and_then, no_marks, is_empty}
use Rattle.tiles.specs.TilesBytes.{top_ok, walk_heads}
use Rattle.binned.specs.BinsBytes.{dv_ok, small_bins_ok, tree_bins_ok}

-- "an even number from 16 to 8,192"
unfoldable pub count_ok : ℕ → Bool
count_ok n = leb 16 n && leb n 8192 && eqb (n % 2) 0

-- ---- all of it

-- "Each free chunk but the top is in one place .. these hold nothing else"
unfoldable pub bins_ok : Edition → List ℕ → List ℕ → List ℕ → Checked
bins_ok e r w m =
    and_then (dv_ok e r w m) (λ m₁. and_then (small_bins_ok e r w m₁) (λ m₂. and_then (tree_bins_ok e r w m₂) (λ m₃. checked (is_empty m₃) m₃)))

-- the numbers of the record: its length, and maps of 32 bits
unfoldable pub record_ok : List ℕ → ℕ → Bool
record_ok r len = eqb (get_or r 6 0) len && ltb (get_or r 0 0) (2 ^ 32) && ltb (get_or r 1 0) (2 ^ 32)

-- the chunks tile the arena, and each free one is in its place
abbrev pub chunks_ok : Edition → List ℕ → List ℕ → Bool
chunks_ok e r w = (and_then (walk_heads e w (get_or r 4 0) turns 0 true no_marks) (bins_ok e r w)).ok

unfoldable pub sound_b : Edition → List ℕ → List ℕ → Bool
sound_b e r w =
    let len = W e * length w in
    count_ok (length w) && record_ok r len && top_ok e r w len && chunks_ok e r w

-- ---- live blocks, in a tiling that the check has accepted

-- a chunk in use starts at c, from the chunk at p on
unfoldable pub starts_at : Edition → List ℕ → ℕ → ℕ → ℕ → Bool
starts_at e w zero p c = false
starts_at e w (suc k) p c = pick (eqb p c) (cinuse_b e w p) (pick (leb (p + size_b e w p) c) (starts_at e w k (p + size_b e w p) c) false)

-- a live block starts at this offset: block = chunk + 2 words
unfoldable pub live_b : Edition → List ℕ → ℕ → ℕ → Bool
live_b e w top off = leb (2 * W e) off && ltb (off - 2 * W e) top && starts_at e w turns 0 (off - 2 * W e)

-- its owner's bytes: "size - 8"
unfoldable pub usable_b : Edition → List ℕ → ℕ → ℕ
usable_b e w off = pick (ltb off (2 * W e)) 0 (size_b e w (off - 2 * W e) - W e)
