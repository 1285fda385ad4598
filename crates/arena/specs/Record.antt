-- THE CONTROL RECORD by value: the numbers that it holds. Assumes nothing.
use Rattle.std.specs.Prelude.{List, [], ◌∷◌, ℕ, zero, suc, ◌+◌, get_or, set}
use Rattle.chunk.specs.declared.access.ChunkOff.{ChunkOff}
use Rattle.holds.specs.Holds as holds
use Rattle.arena.specs.declared.control.Control.{Control}

abbrev pub offsets : List ChunkOff → List ℕ
offsets [] = []
offsets (x ∷ xs) = x.0 ∷ offsets xs

-- the numbers that a record holds
abbrev pub numbers : Control → holds.Control
numbers c =
    record {
      small_map = c.smallmap;
      tree_map = c.treemap;
      heads = offsets c.smallbins;
      roots = offsets c.treebins;
      dv = c.dv.0;
      dv_size = c.dvsize;
      top = c.top.0;
      top_size = c.topsize;
      length = c.length;
    }

-- n links, written from one word on
unfoldable pub copied_up : List ℕ → ℕ → List ℕ → ℕ → List ℕ
copied_up r from links zero = r
copied_up r from links (suc n) = set (copied_up r from links n) (from + n) (get_or links n 0)
