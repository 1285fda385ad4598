-- THE WORDS LEVEL, its ground: what each access and each setter leaves, in the code's own numbers. Places and sizes are bytes; sums wrap; a read
-- past the end gives 0 and a write past the end does nothing, so each definition holds for all inputs. The code's contracts cite these and
-- nothing else; that nothing wraps in a held heap is shown in `Plain`. Both editions. Assumes nothing.
use Rattle.std.specs.Prelude.{ℕ, ◌+◌, ◌-◌, ◌*◌, ◌/◌, ◌%◌, ◌^◌, Bool, List, ◌==◌, slice_index, slice_set}
use Rattle.words.specs.Logic.{pick}
use Rattle.words.specs.Edition.{Edition, wide, narrow, W, no_link}
use Rattle.index.specs.BinMap.{mark, clear}

-- ---- numbers and words

abbrev pub limit : Edition → ℕ
limit wide = 2 ^ 64
limit narrow = 2 ^ 32

abbrev pub wrap : Edition → ℕ → ℕ
wrap e n = n % limit e

-- a difference that wraps
abbrev pub less : Edition → ℕ → ℕ → ℕ
less e a b = wrap e (a + (limit e - b))

-- word k of the chunk at c
abbrev pub word : Edition → List ℕ → ℕ → ℕ → ℕ
word e w c k = slice_index w (c / W e + k)

abbrev pub put : Edition → List ℕ → ℕ → ℕ → ℕ → List ℕ
put e w c k v = slice_set w (c / W e + k) v

-- ---- heads: size and flags

abbrev pub size_b : Edition → List ℕ → ℕ → ℕ
size_b e w c = word e w c 1 / 8 * 8

abbrev pub cinuse_b : Edition → List ℕ → ℕ → Bool
cinuse_b e w c = word e w c 1 / 2 % 2 == 1

abbrev pub pinuse_b : Edition → List ℕ → ℕ → Bool
pinuse_b e w c = word e w c 1 % 2 == 1

-- the one before is in use; is free
abbrev pub pinuse_w : Edition → List ℕ → ℕ → List ℕ
pinuse_w e w c = put e w c 1 (word e w c 1 / 2 * 2 + 1)

abbrev pub unpin_w : Edition → List ℕ → ℕ → List ℕ
unpin_w e w c = put e w c 1 (word e w c 1 / 2 * 2)

-- ---- heads and feet of whole chunks

-- in use, and the one before is
abbrev pub used_w : Edition → List ℕ → ℕ → ℕ → List ℕ
used_w e w c n = put e w c 1 (wrap e (n + 3))

-- the top's head
abbrev pub top_w : Edition → List ℕ → ℕ → ℕ → List ℕ
top_w e w c n = put e w c 1 (wrap e (n + 1))

-- a free chunk's head and foot
abbrev pub free_w : Edition → List ℕ → ℕ → ℕ → List ℕ
free_w e w c n = put e (put e w c 1 (wrap e (n + 1))) (wrap e (c + n)) 0 n

-- the same, and the next chunk is told
abbrev pub give_w : Edition → List ℕ → ℕ → ℕ → ℕ → List ℕ
give_w e w c n next = unpin_w e (put e (put e w c 1 (wrap e (n + 1))) next 0 n) next

-- a free chunk is taken whole
abbrev pub take_w : Edition → List ℕ → ℕ → ℕ → List ℕ
take_w e w c n = pinuse_w e (used_w e w c n) (wrap e (c + n))

-- in use, its own PINUSE kept, and the next chunk is told
abbrev pub inuse_w : Edition → List ℕ → ℕ → ℕ → List ℕ
inuse_w e w c n = pinuse_w e (put e w c 1 (wrap e (n + (word e w c 1 % 2 + 2)))) (wrap e (c + n))

-- a free chunk is cut: nb bytes in use, n free
abbrev pub split_w : Edition → List ℕ → ℕ → ℕ → ℕ → List ℕ
split_w e w c nb n = free_w e (used_w e w c nb) (wrap e (c + nb)) n

-- ---- the record's image: 72 numbers, smallmap, treemap, dv, dvsize, top, topsize, length, a word that is 0, 32 heads, 32 roots

abbrev pub set_dv : List ℕ → ℕ → ℕ → List ℕ
set_dv r c n = slice_set (slice_set r 2 c) 3 n

abbrev pub set_top : List ℕ → ℕ → ℕ → List ℕ
set_top r c n = slice_set (slice_set r 4 c) 5 n

-- where a kind of bin has its map and its links: small bins and tree bins
pub data Kind : Type 0 where
  small tree : Kind

abbrev pub map_at : Kind → ℕ
map_at small = 0
map_at tree = 1

abbrev pub link_at : Kind → ℕ → ℕ
link_at small i = 8 + i
link_at tree i = 40 + i

-- the link of bin i, the map
abbrev pub link_of : Kind → List ℕ → ℕ → ℕ
link_of k r i = slice_index r (link_at k (i % 32))

abbrev pub map_of : Kind → List ℕ → ℕ
map_of k r = slice_index r (map_at k) % 2 ^ 32

abbrev pub set_link : Kind → List ℕ → ℕ → ℕ → List ℕ
set_link k r i v = slice_set r (link_at k (i % 32)) v

abbrev pub mark_r : Kind → List ℕ → ℕ → List ℕ
mark_r k r i = slice_set r (map_at k) (mark (i % 32) (slice_index r (map_at k)))

abbrev pub clear_r : Kind → List ℕ → ℕ → List ℕ
clear_r k r i = slice_set r (map_at k) (clear (i % 32) (slice_index r (map_at k)))

-- bin i gets a first member; another first member, or none, and then its bit is cleared
abbrev pub enter_r : Kind → List ℕ → ℕ → ℕ → List ℕ
enter_r k r i v = set_link k (mark_r k r i) i v

abbrev pub relink_r : Edition → Kind → List ℕ → ℕ → ℕ → List ℕ
relink_r e k r i v = pick (v == no_link e) (set_link k (clear_r k r i) i v) (set_link k r i v)

-- ---- what a step changes: the image and the words

pub record Store : Type 0 where
  pub image : List ℕ
  pub words : List ℕ

abbrev pub store : List ℕ → List ℕ → Store
store r w = record { image = r; words = w }
