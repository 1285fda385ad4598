-- THE WORDS LEVEL of small bins (document 01, port order 3): what each step leaves in the record's image and in the arena's words, for all
-- inputs. c is a chunk, n its size in bytes; bin n / 8, taken modulo 32. A write through a link to nothing falls past every arena, so no step
-- needs a test for it. Assumes nothing.
use Rattle.std.specs.Prelude.{List, ℕ, ◌/◌, ◌%◌, eqb}
use Rattle.words.specs.Logic.{pick}
use Rattle.words.specs.Edition.{Edition, no_link}
use Rattle.chunk.specs.Bytes.{Store, store, word, put, small, link_of, enter_r, relink_r}

abbrev pub small_bin_of : ℕ → ℕ
small_bin_of n = n / 8 % 32

-- c goes before the newest, f: "word 2 leads to the next older, word 3 to the next newer, none at the ends"
abbrev pub link_new_w : Edition → List ℕ → ℕ → ℕ → List ℕ
link_new_w e w c f = put e (put e (put e w f 3 c) c 2 f) c 3 (no_link e)

-- the neighbours of c, f the older and b the newer, are joined
abbrev pub join_w : Edition → List ℕ → ℕ → ℕ → List ℕ
join_w e w f b = put e (put e w f 3 b) b 2 f

-- `insert_small_chunk`
unfoldable pub insert_small : Edition → List ℕ → List ℕ → ℕ → ℕ → Store
insert_small e r w c n = store (enter_r small r (small_bin_of n) c) (link_new_w e w c (link_of small r (small_bin_of n)))

-- `unlink_small_chunk`, from any place of its list: if c was the newest, the next older is, or the bin is empty
unfoldable pub unlink_small : Edition → List ℕ → List ℕ → ℕ → ℕ → Store
unlink_small e r w c n =
    store (pick (eqb (word e w c 3) (no_link e)) (relink_r e small r (small_bin_of n) (word e w c 2)) r) (join_w e w (word e w c 2) (word e w c 3))

-- `unlink_first_small_chunk`: c is the newest of bin i
unfoldable pub unlink_first : Edition → List ℕ → List ℕ → ℕ → ℕ → Store
unlink_first e r w c i = store (relink_r e small r i (word e w c 2)) (put e w (word e w c 2) 3 (no_link e))
