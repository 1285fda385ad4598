-- THE WORDS LEVEL of realloc (document 01, port order 7): in its own place if that holds the need, else malloc, copy, free; for all inputs.
-- The block's chunk p shall have nb bytes. Assumes nothing.
use Rattle.std.specs.Prelude.{Bool, true, false, List, ℕ, zero, suc, ◌+◌, ◌-◌, ◌*◌, ◌/◌, leb, ltb, eqb, length, get_or, set}
use Rattle.words.specs.Logic.{pick}
use Rattle.words.specs.Edition.{Edition, W, no_link}
use Rattle.chunk.specs.Bytes.{Store, store, wrap, less, size_b, cinuse_b, set_dv, set_top, top_w, free_w, unpin_w, inuse_w}
use Rattle.treebin.specs.Binning.{unlink_chunk}
use Rattle.malloc.specs.MallocBytes.{Reply, reply, answering, malloc_b}
use Rattle.free.specs.FreeBytes.{dispose_b}

-- what trying in place leaves: whether the place holds the need now; where it does not, nothing has changed
pub record Tried : Type 0 where
  pub here : Bool
  pub image : List ℕ
  pub words : List ℕ

abbrev pub tried : Bool → List ℕ → List ℕ → Tried
tried b r w = record { here = b; image = r; words = w }

abbrev pub held : Store → Tried
held t = tried true t.image t.words

-- ---- in place

-- p, in use and nb + n bytes long, is cut to nb, and the rest is given back
unfoldable pub cut_back : Edition → List ℕ → List ℕ → ℕ → ℕ → ℕ → Store
cut_back e r w p nb n = dispose_b e r (inuse_w e (inuse_w e w p nb) (wrap e (p + nb)) n) (wrap e (p + nb)) n

-- "shrink": "a rest of 32 or more is split off, less stays with the block"
unfoldable pub shrink_b : Edition → List ℕ → List ℕ → ℕ → ℕ → ℕ → Store
shrink_b e r w p nb n = pick (ltb n (W e * 4)) (store r w) (cut_back e r w p nb n)

-- "into the top if oldsize + topsize > nb .. From the top the rest stays top"; both together are `all` bytes
unfoldable pub grow_top : Edition → List ℕ → List ℕ → ℕ → ℕ → ℕ → Tried
grow_top e r w p all nb =
    let rest = wrap e (p + nb) in
    pick (leb all nb) (tried false r w) (tried true (set_top r rest (all - nb)) (top_w e (inuse_w e w p nb) rest (all - nb)))

-- "into `dv` .. if the sum is at least nb"
unfoldable pub grow_dv : Edition → List ℕ → List ℕ → ℕ → ℕ → ℕ → Tried
grow_dv e r w p all nb =
    let rest = wrap e (p + nb) in
    pick (ltb all nb) (tried false r w)
    (pick (ltb (all - nb) (W e * 4)) (tried true (set_dv r (no_link e) 0) (inuse_w e w p all))
    (tried true (set_dv r rest (all - nb)) (unpin_w e (free_w e (inuse_w e w p nb) rest (all - nb)) (wrap e (p + all)))))

-- ".. or a binned neighbour": it is unlinked only when the sum is enough; then the whole is cut as a shrinking block is
unfoldable pub grow_binned : Edition → List ℕ → List ℕ → ℕ → ℕ → ℕ → ℕ → Tried
grow_binned e r w p old next nb =
    let b = size_b e w next in
    let all = wrap e (old + b) in
    let t = unlink_chunk e r w next b in
    pick (ltb all nb) (tried false r w) (held (shrink_b e t.image (inuse_w e t.words p all) p nb (all - nb)))

unfoldable pub try_realloc : Edition → List ℕ → List ℕ → ℕ → ℕ → Tried
try_realloc e r w p nb =
    let old = size_b e w p in
    let next = wrap e (p + old) in
    pick (leb nb old) (held (shrink_b e r w p nb (old - nb)))
    (pick (eqb next (get_or r 4 0)) (grow_top e r w p (wrap e (old + get_or r 5 0)) nb)
    (pick (eqb next (get_or r 2 0)) (grow_dv e r w p (wrap e (old + get_or r 3 0)) nb)
    (pick (cinuse_b e w next) (tried false r w) (grow_binned e r w p old next nb))))

-- ---- moved

-- n words from a on are copied to b on, upwards
unfoldable pub copy_up : List ℕ → ℕ → ℕ → ℕ → List ℕ
copy_up w a b zero = w
copy_up w a b (suc n) = let v = copy_up w a b n in set v (b + n) (get_or v (a + n) 0)

-- nothing where either part is not whole
unfoldable pub copy_words : List ℕ → ℕ → ℕ → ℕ → List ℕ
copy_words w a b n = pick (ltb (length w) n) w (pick (ltb (length w - n) a) w (pick (ltb (length w - n) b) w (copy_up w a b n)))

-- "A move copies exactly the old chunk's size - 8 bytes, always whole words"
unfoldable pub move_block : Edition → List ℕ → List ℕ → ℕ → ℕ → Store
move_block e r w p q =
    let old = size_b e w p in
    dispose_b e r (copy_words w (p / W e + 2) (q / W e + 2) (less e old (W e) / W e)) p old

unfoldable pub moved_b : Edition → ℕ → Reply → Reply
moved_b e p m = pick (eqb m.answer (no_link e)) m (answering m.answer (move_block e m.image m.words p m.answer))

unfoldable pub realloc_b : Edition → List ℕ → List ℕ → ℕ → ℕ → Reply
realloc_b e r w p nb =
    let t = try_realloc e r w p nb in
    pick t.here (reply p t.image t.words) (moved_b e p (malloc_b e t.image t.words nb))
