-- THE WORDS LEVEL of free and `dispose_chunk` (document 01, port order 6): "Merge back, merge forward, then top, `dv` or a bin", for all inputs.
-- The chunk p of n bytes is in use, or was told so; `next` is the chunk behind it. Assumes nothing.
use Rattle.std.specs.Prelude.{Bool, true, false, List, ℕ, ◌+◌, eqb, get_or}
use Rattle.words.specs.Logic.{pick}
use Rattle.words.specs.Edition.{Edition, no_link}
use Rattle.chunk.specs.Bytes.{Store, store, wrap, less, word, size_b, cinuse_b, pinuse_b, set_dv, set_top, top_w, free_w, give_w}
use Rattle.treebin.specs.Binning.{insert_chunk, unlink_chunk}

-- n free bytes at p are put away: after a merge with the spare chunk they are that (`mine`), else they go to their bin
unfoldable pub away_b : Edition → Bool → List ℕ → List ℕ → ℕ → ℕ → Store
away_b e mine r w p n = pick mine (store (set_dv r p n) w) (insert_chunk e r w p n)

-- they join the top; the spare chunk; a binned chunk, next
unfoldable pub join_top : Edition → List ℕ → List ℕ → ℕ → ℕ → Store
join_top e r w p n = store (set_top r p (wrap e (get_or r 5 0 + n))) (top_w e w p (wrap e (get_or r 5 0 + n)))

unfoldable pub join_dv : Edition → List ℕ → List ℕ → ℕ → ℕ → Store
join_dv e r w p n = store (set_dv r p (wrap e (get_or r 3 0 + n))) (free_w e w p (wrap e (get_or r 3 0 + n)))

unfoldable pub join_binned : Edition → Bool → List ℕ → List ℕ → ℕ → ℕ → ℕ → Store
join_binned e mine r w p n next =
    let b = size_b e w next in
    let t = unlink_chunk e r w next b in
    let all = wrap e (n + b) in
    away_b e mine t.image (free_w e t.words p all) p all

-- merge forward
unfoldable pub forward_b : Edition → Bool → List ℕ → List ℕ → ℕ → ℕ → ℕ → Store
forward_b e mine r w p n next =
    pick (cinuse_b e w next) (away_b e mine r (give_w e w p n next) p n)
    (pick (eqb next (get_or r 4 0)) (join_top e r w p n) (pick (eqb next (get_or r 2 0)) (join_dv e r w p n) (join_binned e mine r w p n next)))

-- merge back: the chunk before, of b bytes, is let go first
unfoldable pub back_b : Edition → List ℕ → List ℕ → ℕ → ℕ → ℕ → Store
back_b e r w p n next =
    let b = word e w p 0 in
    let prev = less e p b in
    let all = wrap e (n + b) in
    let t = unlink_chunk e r w prev b in
    pick (eqb prev (get_or r 2 0)) (forward_b e true (set_dv r (no_link e) 0) w prev all next) (forward_b e false t.image t.words prev all next)

unfoldable pub dispose_b : Edition → List ℕ → List ℕ → ℕ → ℕ → Store
dispose_b e r w p n = pick (pinuse_b e w p) (forward_b e false r w p n (wrap e (p + n))) (back_b e r w p n (wrap e (p + n)))

unfoldable pub free_b : Edition → List ℕ → List ℕ → ℕ → Store
free_b e r w p = dispose_b e r w p (size_b e w p)
