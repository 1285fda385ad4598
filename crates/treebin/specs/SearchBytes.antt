-- THE WORDS LEVEL of the two searches (document 01, port order 4 and 5): the best node found, by its remainder. A need of n bytes; none yet is
-- the link none with the largest remainder. "A search stops at once at an exact size." Assumes nothing.
use Rattle.std.specs.Prelude.{List, ℕ, zero, suc, ◌+◌, ◌-◌, ◌%◌, eqb, ltb}
use Rattle.words.specs.Logic.{pick}
use Rattle.words.specs.Edition.{Edition, no_link}
use Rattle.index.specs.TreeBin.{tree_index, side}
use Rattle.index.specs.BinMap.{first_from}
use Rattle.chunk.specs.Bytes.{word, size_b, tree, link_of, map_of}
use Rattle.treebin.specs.TreeBytes.{word_bits, first_key, child_word, next_key}

pub record Best : Type 0 where
  pub at : ℕ
  pub rsize : ℕ

abbrev pub best : ℕ → ℕ → Best
best t r = record { at = t; rsize = r }

abbrev pub no_best : Edition → Best
no_best e = best (no_link e) (no_link e)

-- t, of s bytes, where it holds n with less left over
unfoldable pub better_b : ℕ → ℕ → ℕ → Best → Best
better_b n t s b = pick (ltb s n) b (pick (ltb (s - n) b.rsize) (best t (s - n)) b)

-- ---- down the leftmost children

abbrev pub leftmost : Edition → List ℕ → ℕ → ℕ
leftmost e w t = pick (eqb (word e w t 4) (no_link e)) (word e w t 5) (word e w t 4)

unfoldable pub down_b : Edition → List ℕ → ℕ → ℕ → ℕ → Best → Best
down_b e w n zero t b = b
down_b e w n (suc k) t b = pick (eqb t (no_link e)) b (down_b e w n k (leftmost e w t) (better_b n t (size_b e w t) b))

-- ---- along the bits of the need

-- the right child that a way to the left passes by, where there is one, else what was passed before
abbrev pub passed_by : Edition → List ℕ → ℕ → ℕ → ℕ → ℕ
passed_by e w t key rest = pick (eqb (side (word_bits e) key) 0) (pick (eqb (word e w t 5) (no_link e)) rest (word e w t 5)) rest

-- the best on the way and the deepest right subtree passed by; nothing more to look at after an exact size
pub record Walked : Type 0 where
  pub found : Best
  pub rest : ℕ

abbrev pub walked : Best → ℕ → Walked
walked b t = record { found = b; rest = t }

unfoldable pub walk_b : Edition → List ℕ → ℕ → ℕ → ℕ → ℕ → ℕ → Best → Walked
walk_b e w n zero t key rest b = walked b rest
walk_b e w n (suc k) t key rest b =
    let b₁ = better_b n t (size_b e w t) b in
    let rest₁ = passed_by e w t key rest in
    let c = word e w t (child_word e key) in
    pick (eqb b₁.rsize 0) (walked b₁ (no_link e)) (pick (eqb c (no_link e)) (walked b₁ rest₁) (walk_b e w n k c (next_key e key) rest₁ b₁))

-- ---- the best tree chunk for a need

-- the smallest of the first filled tree from bin i on
unfoldable pub best_above : Edition → List ℕ → List ℕ → ℕ → ℕ → Best
best_above e r w i n =
    let j = first_from 32 (map_of tree r) (i % 32) in
    pick (ltb 31 i) (no_best e) (pick (ltb j 32) (down_b e w n 64 (link_of tree r j) (no_best e)) (no_best e))

-- `tmalloc_large`: in the need's own tree, else in the next fuller one
unfoldable pub best_own : Edition → List ℕ → ℕ → Walked → Best
best_own e w n s = down_b e w n 64 s.rest s.found

unfoldable pub best_tree : Edition → List ℕ → List ℕ → ℕ → Best
best_tree e r w n =
    let i = tree_index n in
    let root = link_of tree r i in
    let b = best_own e w n (walk_b e w n 64 root (first_key e n i) (no_link e) (no_best e)) in
    pick (eqb root (no_link e)) (best_above e r w (i + 1) n) (pick (eqb b.at (no_link e)) (best_above e r w (i + 1) n) b)
