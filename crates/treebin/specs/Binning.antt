-- Both kinds of bin, by the size: `insert_chunk` and `unlink_chunk`; and `replace_dv`. Assumes nothing.
use Rattle.std.specs.Prelude.{List, ℕ, eqb, ltb, get_or}
use Rattle.words.specs.Logic.{pick}
use Rattle.words.specs.Edition.{Edition}
use Rattle.chunk.specs.Bytes.{Store, store, set_dv}
use Rattle.smallbin.specs.SmallBytes.{insert_small, unlink_small}
use Rattle.treebin.specs.TreeBytes.{insert_large, unlink_large}

unfoldable pub insert_chunk : Edition → List ℕ → List ℕ → ℕ → ℕ → Store
insert_chunk e r w c n = pick (ltb n 256) (insert_small e r w c n) (insert_large e r w c n)

unfoldable pub unlink_chunk : Edition → List ℕ → List ℕ → ℕ → ℕ → Store
unlink_chunk e r w c n = pick (ltb n 256) (unlink_small e r w c n) (unlink_large e r w c)

-- "`replace_dv` puts the old one in its small bin"
unfoldable pub replace_dv : Edition → List ℕ → List ℕ → ℕ → ℕ → Store
replace_dv e r w c n =
    let t = insert_chunk e r w (get_or r 2 0) (get_or r 3 0) in
    pick (eqb (get_or r 3 0) 0) (store (set_dv r c n) w) (store (set_dv t.image c n) t.words)
