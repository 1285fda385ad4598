-- The elementary steps, twice: on the record and the words (L1, every word settled) and on the abstract heap (L2). That the first follow the
-- second is shown in `BinSmall`, `BinLarge`, `Retile`. Definitions only; they assume nothing.
use Rattle.std.specs.Prelude.{List, ℕ, suc, eqb, get_or, set}
use Rattle.words.specs.Edition.{Edition, no_link, enc}
use Rattle.words.specs.Logic.{pick}
use Rattle.words.specs.Fields.{fld, write_w}
use Rattle.index.specs.BinMap.{mark, clear}
use Rattle.lists.specs.Links.{push_writes, cut_writes}
use Rattle.tries.specs.InsertWords.{insert_w}
use Rattle.tries.specs.UnlinkWords.{new_root, heir}
use Rattle.tries.specs.UnlinkMem.{unlink_w}
use Rattle.rules.specs.BinOf.{is_small, small_bin, trie_bin, trie_bits}
use Rattle.holds.specs.Holds.{Control}

-- what a call changes
pub record State : Type 0 where
  pub ctl : Control
  pub words : List ℕ

abbrev pub state : Control → List ℕ → State
state r w = record { ctl = r; words = w }

-- ---- a record, a heap, with some of it changed

abbrev pub with_small : Control → ℕ → List ℕ → Control
with_small r m l = record { small_map = m; tree_map = r.tree_map; heads = l; roots = r.roots; dv = r.dv; dv_size = r.dv_size; top = r.top; top_size = r.top_size; length = r.length }

abbrev pub with_trees : Control → ℕ → List ℕ → Control
with_trees r m l = record { small_map = r.small_map; tree_map = m; heads = r.heads; roots = l; dv = r.dv; dv_size = r.dv_size; top = r.top; top_size = r.top_size; length = r.length }

abbrev pub with_dv : Control → ℕ → ℕ → Control
with_dv r d s = record { small_map = r.small_map; tree_map = r.tree_map; heads = r.heads; roots = r.roots; dv = d; dv_size = s; top = r.top; top_size = r.top_size; length = r.length }

abbrev pub with_top : Control → ℕ → ℕ → Control
with_top r t s = record { small_map = r.small_map; tree_map = r.tree_map; heads = r.heads; roots = r.roots; dv = r.dv; dv_size = r.dv_size; top = t; top_size = s; length = r.length }

-- ---- bin: the free chunk q of s words goes into its bin (`insert_chunk`)

unfoldable pub push_small : Edition → State → ℕ → ℕ → State
push_small e t q i =
    state (with_small t.ctl (mark i t.ctl.small_map) (set t.ctl.heads i (enc e q))) (write_w t.words (push_writes e q (get_or t.ctl.heads i 0)))

unfoldable pub push_large : Edition → State → ℕ → ℕ → ℕ → State
push_large e t q i s =
    let v = get_or t.ctl.roots i 0 in
    state (with_trees t.ctl (mark i t.ctl.tree_map) (set t.ctl.roots i (pick (eqb v (no_link e)) (enc e q) v))) (insert_w e t.words i (trie_bits e i) v q s)

unfoldable pub bin_s : Edition → State → ℕ → ℕ → State
bin_s e t q s = pick (is_small e s) (push_small e t q (small_bin e s)) (push_large e t q (trie_bin e s) s)

-- ---- unbin: the free chunk c of s words leaves its bin (`unlink_chunk`)

-- the bin's bit, after its link has become v
abbrev pub unmark : Edition → ℕ → ℕ → ℕ → ℕ
unmark e i v m = pick (eqb v (no_link e)) (clear i m) m

unfoldable pub cut_small : Edition → State → ℕ → ℕ → State
cut_small e t c i =
    let m = fld t.words in
    let v = pick (eqb (m c 3) (no_link e)) (m c 2) (get_or t.ctl.heads i 0) in
    state (with_small t.ctl (unmark e i v t.ctl.small_map) (set t.ctl.heads i v)) (write_w t.words (cut_writes e m c))

unfoldable pub cut_large : Edition → State → ℕ → ℕ → State
cut_large e t c i =
    let n = suc (trie_bits e i) in
    let v = new_root e (fld t.words) c (heir e (fld t.words) n c) (get_or t.ctl.roots i 0) in
    state (with_trees t.ctl (unmark e i v t.ctl.tree_map) (set t.ctl.roots i v)) (unlink_w e t.words n c)

unfoldable pub unbin_s : Edition → State → ℕ → ℕ → State
unbin_s e t c s = pick (is_small e s) (cut_small e t c (small_bin e s)) (cut_large e t c (trie_bin e s))
