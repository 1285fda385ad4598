-- THE HEAP and what it means that a record and an arena hold it: document 01's "Sound", sentence by sentence, with the readings in
-- docs/DECISIONS.md. Places and sizes are counted in words; the record's and the arena's numbers are in bytes. Both editions.
-- Assumes nothing.
use Rattle.std.specs.Prelude.{◌≡◌, List, [], ℕ, ◌+◌, ◌-◌, ◌*◌, ◌%◌, ◌≤◌, length, replicate}
use Rattle.std.proofs.Math.Option.{Option, none, some}
use Rattle.words.specs.Edition.{Edition, W, no_link, root_mark, enc}
use Rattle.words.specs.Fields.{Mem, ind, fld, count_l}
use Rattle.tiling.specs.Tiling.{Chunk, free, end_of, Heads, Starts}
use Rattle.tiling.specs.Free.{free_at}
use Rattle.lists.specs.Links.{newest, ListAt}
use Rattle.tries.specs.Tree.{Tree, leaf, count}
use Rattle.tries.specs.TreeAt.{link, TreeAt}
use Rattle.tries.specs.Shape.{Shaped}
use Rattle.rules.specs.BinOf.{bin_size, trie_bits, trie_low}
use Rattle.rules.specs.Heap.{holds_some, grows_some, Heap}
use Rattle.holds.specs.Bins.{Bins, sum_of}

-- ---- the control record, as plain numbers

pub record Control : Type 0 where
  pub small_map : ℕ
  pub tree_map : ℕ
  pub heads : List ℕ
  pub roots : List ℕ
  pub dv : ℕ
  pub dv_size : ℕ
  pub top : ℕ
  pub top_size : ℕ
  pub length : ℕ

-- ---- the bins

abbrev pub head_link : Edition → List ℕ → ℕ
head_link e ps = newest e ps (no_link e)

-- "A small bin is a list from the newest: word 2 leads to the next older, word 3 to the next newer, none at the ends"; its one size
abbrev pub SmallAt : Edition → Mem → ℕ → List ℕ → Type 0
SmallAt e m i ps = ListAt e m (bin_size e i) ps

-- "Every size in a tree belongs to its bin, which word 7 names. Under the root .. chooses the child .. A root's parent word is 2^64-2"
pub record TrieAt (e : Edition) (m : Mem) (i : ℕ) (t : Tree) : Type 0 where
  pub tree : TreeAt e m i (root_mark e) t
  pub shape : Shaped (trie_bits e i) (trie_low e i) t

abbrev pub SmallBins : Edition → Mem → ℕ → List ℕ → List (List ℕ) → Type 0
SmallBins e m map heads bins = Bins [] holds_some (head_link e) (SmallAt e) m map heads bins

abbrev pub TreeBins : Edition → Mem → ℕ → List ℕ → List Tree → Type 0
TreeBins e m map roots tries = Bins leaf grows_some (link e) (TrieAt e) m map roots tries

-- ---- the spare chunk: "The record gives .. `dv` with [its] true size; without a `dv`, `dvsize` is 0"

abbrev pub SpareAt : Edition → ℕ → ℕ → List Chunk → Option ℕ → Type 0
SpareAt e dv dv_size cs none = (dv ≡ no_link e) × (dv_size ≡ 0)
SpareAt e dv dv_size cs (some p) = (s : ℕ) × Starts 0 cs p (free s) × (dv ≡ enc e p) × (dv_size ≡ W e * s)

-- ---- how often x stands in a bin or is the spare chunk

abbrev pub in_dv : Option ℕ → ℕ → ℕ
in_dv none x = 0
in_dv (some p) x = ind x p

abbrev pub in_small : List (List ℕ) → ℕ → ℕ
in_small bins x = sum_of (count_l x) bins

abbrev pub in_tries : List Tree → ℕ → ℕ
in_tries tries x = sum_of (count x) tries

-- ---- Holds

-- The record r and the words w say the heap h, but for the free chunks `loose`, which stand in no bin: the state within a call.
pub record Near (e : Edition) (r : Control) (w : List ℕ) (h : Heap) (loose : List ℕ) : Type 0 where
  -- "the word count is allowed, the record's length is the arena's"
  pub even : length w % 2 ≡ 0
  pub least : 16 ≤ length w
  pub most : length w ≤ 8192
  pub long : r.length ≡ W e * length w
  -- "Chunks tile 0 to the top, the top ends at length - 80 .. No two free chunks adjoin, the top counted as free"
  pub heads : Heads e w h.chunks h.top
  -- "The record gives the top and `dv` with their true sizes"
  pub top_place : r.top ≡ enc e (end_of 0 h.chunks)
  pub top_size_lem : r.top_size ≡ W e * h.top
  pub spare : SpareAt e r.dv r.dv_size h.chunks h.dv
  -- "Map bits are set exactly for bins that hold something"; an empty bin holds none; the lists; the trees
  pub small : SmallBins e (fld w) r.small_map r.heads h.small
  pub tries : TreeBins e (fld w) r.tree_map r.roots h.tries
  -- "Each free chunk but the top is in one place .. these hold nothing else"
  pub tie : (x : ℕ) → in_small h.small x + in_tries h.tries x + in_dv h.dv x + count_l x loose ≡ free_at 0 h.chunks x

-- between calls nothing is loose
abbrev pub Holds : Edition → Control → List ℕ → Heap → Type 0
Holds e r w h = Near e r w h []

abbrev pub Sound : Edition → Control → List ℕ → Type 0
Sound e r w = (h : Heap) × Holds e r w h

-- ---- set-up

abbrev pub fresh_control : Edition → ℕ → Control
fresh_control e n =
    record {
      small_map = 0;
      tree_map = 0;
      heads = replicate 32 (no_link e);
      roots = replicate 32 (no_link e);
      dv = no_link e;
      dv_size = 0;
      top = 0;
      top_size = W e * (n - 10);
      length = W e * n;
    }
