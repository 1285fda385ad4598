-- THE WORDS LEVEL of tree bins (document 01, port order 4), insertion and unlinking: what each step leaves in the record's image and in the
-- arena's words, for all inputs. A walk goes down at most 64 levels, more than a tree can have. Where a link is none a write through it falls
-- past every arena. Assumes nothing.
use Rattle.std.specs.Prelude.{List, ℕ, zero, suc, ◌+◌, ◌*◌, ◌%◌, eqb}
use Rattle.words.specs.Logic.{pick}
use Rattle.words.specs.Edition.{Edition, wide, narrow, no_link, root_mark}
use Rattle.index.specs.TreeBin.{tree_index, key_at, side}
use Rattle.chunk.specs.Bytes.{Store, store, limit, word, put, size_b, tree, link_of, enter_r, relink_r}
use Rattle.smallbin.specs.SmallBytes.{join_w}

-- ---- the way down

abbrev pub word_bits : Edition → ℕ
word_bits wide = 64
word_bits narrow = 32

-- the shifted size that the way down bin i starts with, and the child word that a shifted size chooses
abbrev pub first_key : Edition → ℕ → ℕ → ℕ
first_key e n i = key_at (word_bits e) (i % 32) n 0

abbrev pub child_word : Edition → ℕ → ℕ
child_word e key = 4 + side (word_bits e) key

abbrev pub next_key : Edition → ℕ → ℕ
next_key e key = key * 2 % limit e

-- a word of a node: the child word `side` of the node `at`; side 0 stands for its ring
pub record Seat : Type 0 where
  pub at : ℕ
  pub side : ℕ

abbrev pub seat : ℕ → ℕ → Seat
seat t k = record { at = t; side = k }

-- where a newcomer of n bytes goes below the node t
unfoldable pub seek_b : Edition → List ℕ → ℕ → ℕ → ℕ → ℕ → Seat
seek_b e w n zero t key = seat t 0
seek_b e w n (suc k) t key =
    pick (eqb (size_b e w t) n) (seat t 0)
    (pick (eqb (word e w t (child_word e key)) (no_link e)) (seat t (child_word e key)) (seek_b e w n k (word e w t (child_word e key)) (next_key e key)))

-- ---- insertion

-- c as a lone node without children, below `up`
abbrev pub tie_w : Edition → List ℕ → ℕ → ℕ → ℕ → List ℕ
tie_w e w c up i = put e (put e (put e (put e (put e (put e w c 6 up) c 2 c) c 3 c) c 4 (no_link e)) c 5 (no_link e)) c 7 i

-- c in the child word k of t
abbrev pub slot_w : Edition → List ℕ → ℕ → ℕ → ℕ → ℕ → List ℕ
slot_w e w c i t k = tie_w e (put e w t k c) c t i

-- "a ring newcomer goes before the tree member (its `prev`)": f stands before t
abbrev pub ring_w : Edition → List ℕ → ℕ → ℕ → ℕ → ℕ → List ℕ
ring_w e w c i t f =
    put e (put e (put e (put e (put e (put e (put e (put e w f 3 c) t 2 c) c 2 f) c 3 t) c 6 (no_link e)) c 4 (no_link e)) c 5 (no_link e)) c 7 i

unfoldable pub seat_w : Edition → List ℕ → ℕ → ℕ → Seat → List ℕ
seat_w e w c i s = pick (eqb s.side 0) (ring_w e w c i s.at (word e w s.at 2)) (slot_w e w c i s.at s.side)

-- `insert_large_chunk`
unfoldable pub insert_large : Edition → List ℕ → List ℕ → ℕ → ℕ → Store
insert_large e r w c n =
    pick (eqb (link_of tree r (tree_index n)) (no_link e)) (store (enter_r tree r (tree_index n) c) (tie_w e w c (root_mark e) (tree_index n)))
    (store r (seat_w e w c (tree_index n) (seek_b e w n 64 (link_of tree r (tree_index n)) (first_key e n (tree_index n)))))

-- ---- unlinking

-- "the deepest descendant reached by child 1 before child 0": the child word to take, the word that holds the deepest below it
abbrev pub last_side : Edition → List ℕ → ℕ → ℕ
last_side e w t = pick (eqb (word e w t 5) (no_link e)) 4 5

unfoldable pub deep_b : Edition → List ℕ → ℕ → ℕ → ℕ → Seat
deep_b e w zero t k = seat t k
deep_b e w (suc n) t k =
    let h = word e w t k in
    pick (eqb (word e w h (last_side e w h)) (no_link e)) (seat t k) (deep_b e w n h (last_side e w h))

-- a lone node's heir is taken from its place; a node without children has none
unfoldable pub pop_w : Edition → List ℕ → ℕ → List ℕ
pop_w e w c =
    let s = deep_b e w 64 c (last_side e w c) in
    pick (eqb (word e w c (last_side e w c)) (no_link e)) w (put e w s.at s.side (no_link e))

unfoldable pub pop_heir : Edition → List ℕ → ℕ → ℕ
pop_heir e w c =
    let s = deep_b e w 64 c (last_side e w c) in
    pick (eqb (word e w c (last_side e w c)) (no_link e)) (no_link e) (word e w s.at s.side)

-- what led to c leads to v: the root of bin i, or the parent's child word
unfoldable pub lead_r : Edition → List ℕ → List ℕ → ℕ → ℕ → ℕ → List ℕ
lead_r e r w c up v = pick (eqb up (root_mark e)) (relink_r e tree r (word e w c 7 % 32) v) r

unfoldable pub lead_w : Edition → List ℕ → ℕ → ℕ → ℕ → List ℕ
lead_w e w c up v = pick (eqb up (root_mark e)) w (put e w up (pick (eqb (word e w up 4) c) 4 5) v)

-- v gets the parent `up` and the children x and y
abbrev pub adopt_w : Edition → List ℕ → ℕ → ℕ → ℕ → ℕ → List ℕ
adopt_w e w v up x y = put e (put e (put e (put e (put e w v 6 up) v 4 x) v 5 y) x 6 v) y 6 v

-- c's place in the tree, if it has one, goes to v, if that is something
unfoldable pub replace_tree : Edition → List ℕ → List ℕ → ℕ → ℕ → Store
replace_tree e r w c v =
    let up = word e w c 6 in
    pick (eqb up (no_link e)) (store r w)
    (store (lead_r e r w c up v) (pick (eqb v (no_link e)) (lead_w e w c up v) (adopt_w e (lead_w e w c up v) v up (word e w c 4) (word e w c 5))))

-- `unlink_large_chunk`: "a ring member's `next` takes its place, else the deepest descendant"
unfoldable pub unlink_large : Edition → List ℕ → List ℕ → ℕ → Store
unlink_large e r w c =
    pick (eqb (word e w c 3) c) (replace_tree e r (pop_w e w c) c (pop_heir e w c))
    (replace_tree e r (join_w e w (word e w c 2) (word e w c 3)) c (word e w c 3))
