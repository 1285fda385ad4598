-- What a list of writes to the links of some binned or loose chunks leaves: the tiling, and every bin that has none of these chunks.
-- Assumes nothing.
use Rattle.std.specs.Prelude.{List, [], ℕ, ◌≤◌, ◌<◌, get_or}
use Rattle.std.proofs.Common.{arith}
use Rattle.words.specs.Edition.{Edition, root_mark}
use Rattle.words.specs.Fields.{Mem, fld, count_l, Write, write_w, Within, within_map}
use Rattle.words.specs.Places.{AgreeTo}
use Rattle.tiling.specs.Tiling.{Heads}
use Rattle.tiling.specs.Free.{Roomy, heads_writes, other_words}
use Rattle.lists.specs.Links.{keep_list}
use Rattle.tries.specs.Tree.{Tree, leaf, count}
use Rattle.tries.specs.TreeAt.{keep, but_lt, but_pos}
use Rattle.rules.specs.BinOf.{bin_size}
use Rattle.rules.specs.Heap.{Heap}
use Rattle.holds.specs.Holds.{Control, Near, SmallAt, TrieAt}
use Rattle.holds.specs.Where.{small_roomy, trie_roomy}

pub keep_trie : (e : Edition) (m m' : Mem) (i : ℕ) (t : Tree) → ((x : ℕ) → 1 ≤ count x t → AgreeTo 8 m m' x) → TrieAt e m i t → TrieAt e m' i t
keep_trie e m m' i t k h = record { tree = keep e m m' i (root_mark e) t (λ x u j v. k x u j (but_pos j v) (but_lt j v)) h.tree; shape = h.shape }

module _ (e : Edition) (r : Control) (w : List ℕ) (h : Heap) (loose : List ℕ) (n : Near e r w h loose)
    (d : ℕ) (D : ℕ → Type 0) (us : List Write) (g : (x : ℕ) → D x → Roomy d h.chunks x) (ok : Within d D us) where
  pub frame_heads : Heads e (write_w w us) h.chunks h.top
  frame_heads = heads_writes e w h.chunks h.top n.heads d us (within_map d D (Roomy d h.chunks) us g ok)

  agree : (c x : ℕ) → Roomy c h.chunks x → (D x → ⊥) → AgreeTo c (fld w) (fld (write_w w us)) x
  unfolding fld
  agree c x a out j lo hi = other_words e w h.chunks h.top n.heads d D us g ok x a.0 j a.1 out (omega (arith, a.2))

  pub frame_small : (i : ℕ) → i < 32 → ((x : ℕ) → 1 ≤ count_l x (get_or h.small i []) → D x → ⊥) → SmallAt e (fld w) i (get_or h.small i []) → SmallAt e (fld (write_w w us)) i (get_or h.small i [])
  frame_small i l out = keep_list e (fld w) (fld (write_w w us)) (bin_size e i) (get_or h.small i []) (λ x u. agree 4 x (small_roomy e r w h loose n i l x u) (out x u))

  pub frame_trie : (i : ℕ) → i < 32 → ((x : ℕ) → 1 ≤ count x (get_or h.tries i leaf) → D x → ⊥) → TrieAt e (fld w) i (get_or h.tries i leaf) → TrieAt e (fld (write_w w us)) i (get_or h.tries i leaf)
  frame_trie i l out = keep_trie e (fld w) (fld (write_w w us)) i (get_or h.tries i leaf) (λ x u. agree 8 x (trie_roomy e r w h loose n i l x u) (out x u))
