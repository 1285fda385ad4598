-- THE WORDS LEVEL of the check's second part: the spare chunk, each small bin and each tree take the marks of what they hold. What each test
-- answers and which marks it leaves, for all inputs, in the code's own numbers. Every walk has a bound, `turns`. r is the record's image, w
-- the arena's words, m the marks; places and sizes are bytes; nothing wraps. Both editions. Assumes nothing.
use Rattle.std.specs.Prelude.{Bool, ◌&&◌, List, ℕ, zero, suc, ◌+◌, ◌-◌, ◌*◌, ◌%◌, eqb, leb, ltb, get_or}
use Rattle.words.specs.Logic.{pick}
use Rattle.words.specs.Edition.{Edition, W, no_link, root_mark}
use Rattle.index.specs.Bit.{bit}
use Rattle.tries.specs.Bits.{wid}
use Rattle.rules.specs.BinOf.{trie_bits, trie_low}
use Rattle.chunk.specs.Bytes.{word, small, tree, link_of}
use Rattle.marks.specs.Marks.{turns, lacks_mark, set_mark, Checked, checked, yes, no, and_then, take_mark, no_marks}
use Rattle.tiles.specs.TilesBytes.{head_is}

-- ---- the spare chunk and the small bins

-- "The record gives .. `dv` with [its] true size; without a `dv`, `dvsize` is 0"
unfoldable pub dv_ok : Edition → List ℕ → List ℕ → List ℕ → Checked
dv_ok e r w m =
    let dv = get_or r 2 0 in
    let n = get_or r 3 0 in
    pick (eqb dv (no_link e)) (checked (eqb n 0) m) (and_then (take_mark e m dv) (checked (head_is e w dv n)))

-- bit i of a map is set exactly where the bin's link is something
unfoldable pub bit_ok : Edition → ℕ → ℕ → ℕ → Bool
bit_ok e map i link = eqb (bit (i % 32) map) (pick (eqb link (no_link e)) 0 1)

-- one of a list: its head, and its link to the newer
abbrev pub linked_ok : Edition → List ℕ → ℕ → ℕ → ℕ → Bool
linked_ok e w c n newer = head_is e w c n && eqb (word e w c 3) newer

-- a list from c on, each of n bytes
unfoldable pub list_ok : Edition → List ℕ → ℕ → ℕ → ℕ → ℕ → List ℕ → Checked
list_ok e w n zero c newer m = no m
list_ok e w n (suc k) c newer m =
    pick (eqb c (no_link e)) (yes m)
    (and_then (take_mark e m c) (λ m₁. pick (linked_ok e w c n newer) (list_ok e w n k (word e w c 2) c m₁) (no m₁)))

unfoldable pub small_bin_ok : Edition → List ℕ → List ℕ → ℕ → List ℕ → Checked
small_bin_ok e r w i m =
    let c = link_of small r i in
    pick (bit_ok e (get_or r 0 0) i c) (list_ok e w (8 * i) turns c (no_link e) m) (no m)

-- the bins from i on, k of them, one after another
unfoldable pub all_bins : (ℕ → List ℕ → Checked) → ℕ → ℕ → List ℕ → Checked
all_bins f zero i m = yes m
all_bins f (suc k) i m = and_then (f i m) (all_bins f k (i + 1))

unfoldable pub small_bins_ok : Edition → List ℕ → List ℕ → List ℕ → Checked
small_bins_ok e r w m = all_bins (small_bin_ok e r w) 32 0 m

-- ---- the trees

-- "none where nothing is"
abbrev pub childless : Edition → List ℕ → ℕ → Bool
childless e w c = eqb (word e w c 4) (no_link e) && eqb (word e w c 5) (no_link e)

-- another member c of a ring of n bytes in bin i, behind `last`: "the others with no parent and no children"
unfoldable pub member_ok : Edition → List ℕ → ℕ → ℕ → ℕ → ℕ → Bool
member_ok e w i n last c =
    head_is e w c n && eqb (word e w c 7) i && eqb (word e w c 2) last && eqb (word e w c 6) (no_link e) && childless e w c

-- the ring of t, from its member c on, behind `last`; it closes at t
unfoldable pub ring_ok : Edition → List ℕ → ℕ → ℕ → ℕ → ℕ → ℕ → ℕ → List ℕ → Checked
ring_ok e w i n t zero c last m = no m
ring_ok e w i n t (suc k) c last m =
    pick (eqb c t) (checked (eqb (word e w t 2) last) m)
    (and_then (take_mark e m c) (λ m₁. pick (member_ok e w i n last c) (ring_ok e w i n t k (word e w c 3) c m₁) (no m₁)))

-- the size that a tree member's head says
abbrev pub node_size : Edition → List ℕ → ℕ → ℕ
node_size e w t = word e w t 1 - 1

-- h, a head, says a size of [lo, lo + 2^k words) that is none of the sizes s
abbrev pub size_fits : Edition → ℕ → ℕ → ℕ → List ℕ → Bool
size_fits e h k lo s = ltb lo h && leb h (lo + W e * wid k) && lacks_mark e s (h - 1)

-- The tree member t fits below `up` in bin i; s: the sizes of the members above
unfoldable pub node_fits : Edition → List ℕ → ℕ → ℕ → ℕ → ℕ → ℕ → List ℕ → Bool
node_fits e w i k lo t up s =
    size_fits e (word e w t 1) k lo s && eqb (word e w t 6) up && eqb (word e w t 7) i

-- a tree member with its ring
unfoldable pub node_ok : Edition → List ℕ → ℕ → ℕ → ℕ → ℕ → ℕ → List ℕ → List ℕ → Checked
node_ok e w i k lo t up s m =
    and_then (take_mark e m t) (λ m₁. pick (node_fits e w i k lo t up s) (ring_ok e w i (node_size e w t) t turns (word e w t 3) t m₁) (no m₁))

-- The tree at t: child 0 has the lower half of the sizes, child 1 the upper. s: the sizes of the members above, which must not come again
unfoldable pub tree_ok : Edition → List ℕ → ℕ → ℕ → ℕ → ℕ → ℕ → List ℕ → List ℕ → Checked
tree_ok e w i zero lo t up s m =
    pick (eqb t (no_link e)) (yes m) (and_then (node_ok e w i zero lo t up s m) (checked (childless e w t)))
tree_ok e w i (suc k) lo t up s m =
    let s₁ = set_mark e s (node_size e w t) in
    pick (eqb t (no_link e)) (yes m)
    (and_then (node_ok e w i (suc k) lo t up s m)
    (λ m₁. and_then (tree_ok e w i k lo (word e w t 4) t s₁ m₁) (λ m₂. tree_ok e w i k (lo + W e * wid k) (word e w t 5) t s₁ m₂)))

unfoldable pub tree_bin_ok : Edition → List ℕ → List ℕ → List ℕ → ℕ → List ℕ → Checked
tree_bin_ok e r w s i m =
    let t = link_of tree r i in
    pick (bit_ok e (get_or r 1 0) i t) (tree_ok e w i (trie_bits e i) (W e * trie_low e i) t (root_mark e) s m) (no m)

unfoldable pub tree_bins_ok : Edition → List ℕ → List ℕ → List ℕ → Checked
tree_bins_ok e r w m = all_bins (tree_bin_ok e r w no_marks) 32 0 m
