-- THE WORDS LEVEL of malloc (document 01, port order 5): what it answers, and leaves in the record's image and in the arena's words, for all
-- inputs. A need of nb bytes; the answer is the chunk, or none where there is no room. Assumes nothing.
use Rattle.std.specs.Prelude.{List, ℕ, ◌+◌, ◌-◌, ◌*◌, ◌%◌, leb, ltb, eqb, get_or}
use Rattle.words.specs.Logic.{pick}
use Rattle.words.specs.Edition.{Edition, W, no_link}
use Rattle.index.specs.BinMap.{first_from, own_or_next}
use Rattle.rules.specs.Malloc.{Rest, to_dv, to_bin}
use Rattle.chunk.specs.Bytes.{Store, store, wrap, less, small, map_of, link_of, set_dv, set_top, used_w, top_w, take_w, split_w}
use Rattle.smallbin.specs.SmallBytes.{small_bin_of, unlink_first}
use Rattle.treebin.specs.TreeBytes.{unlink_large}
use Rattle.treebin.specs.SearchBytes.{Best, best_above, best_tree}
use Rattle.treebin.specs.Binning.{insert_chunk, replace_dv}

-- what a call answers and leaves
pub record Reply : Type 0 where
  pub answer : ℕ
  pub image : List ℕ
  pub words : List ℕ

abbrev pub reply : ℕ → List ℕ → List ℕ → Reply
reply a r w = record { answer = a; image = r; words = w }

abbrev pub answering : ℕ → Store → Reply
answering a t = reply a t.image t.words

-- ---- from a free chunk that is in no bin

-- what becomes of the rest of n bytes at c
unfoldable pub settle_b : Edition → Rest → List ℕ → List ℕ → ℕ → ℕ → Store
settle_b e to_dv r w c n = replace_dv e r w c n
settle_b e to_bin r w c n = insert_chunk e r w c n

-- nb bytes of the chunk c, of which n are left: "A remainder of 32 or more .., less stays with the block"
unfoldable pub serve_b : Edition → Rest → List ℕ → List ℕ → ℕ → ℕ → ℕ → Store
serve_b e k r w c nb n = pick (ltb n (W e * 4)) (store r (take_w e w c (wrap e (nb + n)))) (settle_b e k r (split_w e w c nb n) (wrap e (c + nb)) n)

-- ---- "Then `dv` if nb <= dvsize. Then the top if nb < topsize. Else 6."

unfoldable pub malloc_top : Edition → List ℕ → List ℕ → ℕ → Reply
malloc_top e r w nb =
    let p = get_or r 4 0 in
    let rest = wrap e (p + nb) in
    let n = get_or r 5 0 - nb in
    pick (leb (get_or r 5 0) nb) (reply (no_link e) r w) (reply p (set_top r rest n) (used_w e (top_w e w rest n) p nb))

-- from the spare chunk of s bytes at d, of which n are left
unfoldable pub cut_dv : Edition → List ℕ → List ℕ → ℕ → ℕ → ℕ → ℕ → Reply
cut_dv e r w d s nb n = pick (ltb n (W e * 4)) (reply d (set_dv r (no_link e) 0) (take_w e w d s)) (reply d (set_dv r (wrap e (d + nb)) n) (split_w e w d nb n))

unfoldable pub malloc_dv : Edition → List ℕ → List ℕ → ℕ → Reply
malloc_dv e r w nb = pick (ltb (get_or r 3 0) nb) (malloc_top e r w nb) (cut_dv e r w (get_or r 2 0) (get_or r 3 0) nb (get_or r 3 0 - nb))

-- ---- from the bins

-- the newest of small bin j, whole; or cut, the rest becoming dv
unfoldable pub take_small : Edition → List ℕ → List ℕ → ℕ → Reply
take_small e r w j =
    let p = link_of small r j in
    let t = unlink_first e r w p j in
    reply p t.image (take_w e t.words p (8 * j))

unfoldable pub take_fuller : Edition → List ℕ → List ℕ → ℕ → ℕ → Reply
take_fuller e r w j nb =
    let p = link_of small r j in
    let t = unlink_first e r w p j in
    answering p (serve_b e to_dv t.image t.words p nb (less e (8 * j) nb))

-- a find among the trees
unfoldable pub take_tree : Edition → Rest → List ℕ → List ℕ → ℕ → Best → Reply
take_tree e k r w nb b =
    let t = unlink_large e r w b.at in
    answering b.at (serve_b e k t.image t.words b.at nb b.rsize)

-- ---- "Small need: its own bin; else if nb <= dvsize, `dv`; else the next fuller small bin; else `tmalloc_small`"

unfoldable pub small_tree : Edition → List ℕ → List ℕ → ℕ → Best → Reply
small_tree e r w nb b = pick (eqb b.at (no_link e)) (malloc_top e r w nb) (take_tree e to_dv r w nb b)

unfoldable pub malloc_fuller : Edition → List ℕ → List ℕ → ℕ → Reply
malloc_fuller e r w nb =
    let j = first_from 32 (map_of small r) (small_bin_of nb % 32) in
    pick (ltb j 32) (take_fuller e r w j nb) (small_tree e r w nb (best_above e r w 0 nb))

unfoldable pub malloc_small : Edition → List ℕ → List ℕ → ℕ → Reply
malloc_small e r w nb =
    let j = own_or_next 32 (map_of small r) (small_bin_of nb % 32) in
    pick (ltb j 32) (take_small e r w j) (pick (leb nb (get_or r 3 0)) (malloc_dv e r w nb) (malloc_fuller e r w nb))

-- ---- "Large need: `tmalloc_large`, smallest fitting tree chunk, unless `dv` fits as well or better; its remainder is binned"

unfoldable pub malloc_find : Edition → List ℕ → List ℕ → ℕ → Best → Reply
malloc_find e r w nb b =
    pick (eqb b.at (no_link e)) (malloc_dv e r w nb)
    (pick (ltb (get_or r 3 0) nb) (take_tree e to_bin r w nb b) (pick (ltb b.rsize (get_or r 3 0 - nb)) (take_tree e to_bin r w nb b) (malloc_dv e r w nb)))

unfoldable pub malloc_b : Edition → List ℕ → List ℕ → ℕ → Reply
malloc_b e r w nb = pick (ltb nb 256) (malloc_small e r w nb) (malloc_find e r w nb (best_tree e r w nb))
