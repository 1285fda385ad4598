-- THE WORDS LEVEL of the rebuild (document 02, (xiii)): given only the arena's words and its start, what it answers, the record's image
-- it makes and the words it leaves, for all inputs. One walk of the heads finds the top; a second enters the free chunks into their bins,
-- from the lowest offset up. Both walks have a bound, reads are total, sums of the second wrap. Places and sizes are bytes. Both
-- editions. Assumes nothing.
use Rattle.std.specs.Prelude.{Bool, true, ◌&&◌, List, ◌∷◌, ℕ, zero, suc, ◌+◌, ◌-◌, ◌*◌, eqb, ltb, length, replicate, Option, Some, None, Result, Ok, Err}
use Rattle.words.specs.Logic.{pick}
use Rattle.words.specs.Edition.{Edition, W, no_link}
use Rattle.chunk.specs.Bytes.{Store, store, wrap, word, size_b, cinuse_b}
use Rattle.treebin.specs.Binning.{insert_chunk}
use Rattle.marks.specs.Marks.{turns}
use Rattle.tiles.specs.TilesBytes.{head_is, chunk_at}
use Rattle.sound.specs.SoundBytes.{count_ok}
use Rattle.rebuild.specs.declared.RebuildError.{RebuildError}
use Rattle.rebuild.specs.declared.RebuildError.TheVariants.{BadCount, Unsound}

-- ---- the top

-- an offset, or none where it is the link to nothing
abbrev pub place_of : Edition → ℕ → Option ℕ
place_of e x = pick (eqb x (no_link e)) None (Some x)

-- the top stands at p and ends at end: the chunk before is in use, and its head says just the rest
unfoldable pub top_here : Edition → List ℕ → ℕ → ℕ → Bool → Bool
top_here e w end p pu = pu && ltb p end && head_is e w p (end - p)

-- chunks from p on, up to the top: its offset, none where the heads tell no tiling
unfoldable pub seek_top : Edition → List ℕ → ℕ → ℕ → ℕ → Bool → ℕ
seek_top e w end zero p pu = no_link e
seek_top e w end (suc k) p pu =
    let s = chunk_at e w p pu end in
    pick (top_here e w end p pu) p (pick (eqb s.size 0) (no_link e) (seek_top e w end k (p + s.size) s.used))

-- "The foot word is 80"
unfoldable pub top_of : Edition → List ℕ → ℕ → ℕ
top_of e w end = pick (eqb (word e w end 1) (10 * W e)) (seek_top e w end turns 0 true) (no_link e)

-- ---- the free chunks

-- a free chunk goes into its bin
unfoldable pub enter_b : Edition → List ℕ → List ℕ → ℕ → ℕ → Store
enter_b e r w p n = pick (cinuse_b e w p) (store r w) (insert_chunk e r w p n)

-- "Free chunks go into bins from the lowest offset up"
unfoldable pub fill_from : Edition → ℕ → ℕ → ℕ → List ℕ → List ℕ → Store
fill_from e top zero p r w = store r w
fill_from e top (suc k) p r w =
    let n = size_b e w p in
    let t = enter_b e r w p n in
    pick (ltb p top) (fill_from e top k (wrap e (p + n)) t.image t.words) (store r w)

-- ---- all of it

-- every bin empty, "there is no `dv`"
unfoldable pub empty_image : Edition → ℕ → ℕ → ℕ → List ℕ
empty_image e top ts len = 0 ∷ 0 ∷ no_link e ∷ 0 ∷ top ∷ ts ∷ len ∷ 0 ∷ replicate 64 (no_link e)

-- the refusal's number, 0 where it is granted; the record's image; the words
pub record Rebuilt : Type 0 where
  pub refusal : ℕ
  pub image : List ℕ
  pub words : List ℕ

abbrev pub rebuilt : ℕ → List ℕ → List ℕ → Rebuilt
rebuilt n r w = record { refusal = n; image = r; words = w }

-- the code's answer, read so: a record, or why there is none, with set-up's empty record
abbrev pub refusal_of : Result (List ℕ) RebuildError → ℕ
refusal_of (Ok r) = 0
refusal_of (Err BadCount) = 1
refusal_of (Err Unsound) = 2

abbrev pub image_or_empty : Edition → Result (List ℕ) RebuildError → List ℕ
image_or_empty e (Ok r) = r
image_or_empty e (Err why) = empty_image e (no_link e) 0 0

-- "otherwise 2 (or 1 ..), with set-up's empty record and no word changed"
abbrev pub refuses : Edition → ℕ → List ℕ → Rebuilt
refuses e n w = rebuilt n (empty_image e (no_link e) 0 0) w

abbrev pub grants : Store → Rebuilt
grants t = rebuilt 0 t.image t.words

-- len is the arena's length in bytes, end the top's end, "length - 80"
abbrev pub with_top : Edition → List ℕ → ℕ → ℕ → ℕ → Rebuilt
with_top e w len end top =
    pick (eqb top (no_link e)) (refuses e 2 w) (grants (fill_from e top turns 0 (empty_image e top (end - top) len) w))

-- the starts that set-up allows: it knows 0 alone, until request (iv)
unfoldable pub allowed_start : ℕ → Bool
allowed_start start = eqb start 0

unfoldable pub rebuild_b : Edition → List ℕ → ℕ → Rebuilt
rebuild_b e w start =
    let len = W e * length w in
    let end = len - 10 * W e in
    pick (count_ok (length w) && allowed_start start) (with_top e w len end (top_of e w end)) (refuses e 1 w)
