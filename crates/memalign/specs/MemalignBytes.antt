-- THE WORDS LEVEL of memalign (document 01, port order 8), for all inputs: al is the alignment in bytes, nb the need. Assumes nothing.
use Rattle.std.specs.Prelude.{List, ℕ, ◌+◌, ◌*◌, ◌%◌, leb, ltb, eqb}
use Rattle.words.specs.Logic.{pick}
use Rattle.words.specs.Edition.{Edition, W, no_link}
use Rattle.index.specs.Sizes.{need}
use Rattle.chunk.specs.Bytes.{Store, store, wrap, less, size_b, inuse_w}
use Rattle.malloc.specs.MallocBytes.{Reply, answering, malloc_b}
use Rattle.free.specs.FreeBytes.{dispose_b}
use Rattle.realloc.specs.ReallocBytes.{cut_back}

-- the bytes before the first good place in p: 0 where p is one. "A lead of 32 or less moves on to the next aligned place"
unfoldable pub lead_of : Edition → ℕ → ℕ → ℕ
lead_of e p al =
    let over = wrap e (p + 2 * W e) % al in
    let lead = less e al over in
    pick (eqb al 0) 0 (pick (eqb over 0) 0 (pick (leb lead (W e * 4)) (wrap e (lead + al)) lead))

-- the lead is cut off and given back
unfoldable pub give_lead_b : Edition → List ℕ → List ℕ → ℕ → ℕ → Store
give_lead_b e r w p lead =
    let n = size_b e w p in
    dispose_b e r (inuse_w e (inuse_w e w (wrap e (p + lead)) (less e n lead)) p lead) p lead

-- "The tail goes back only if size > nb + 32"
unfoldable pub give_tail_b : Edition → List ℕ → List ℕ → ℕ → ℕ → Store
give_tail_b e r w p nb =
    let n = size_b e w p in
    pick (ltb (wrap e (nb + W e * 4)) n) (cut_back e r w p nb (less e n nb)) (store r w)

unfoldable pub trim_b : Edition → List ℕ → List ℕ → ℕ → ℕ → ℕ → Reply
trim_b e r w p lead nb =
    let q = wrap e (p + lead) in
    let t = give_lead_b e r w p lead in
    pick (eqb lead 0) (answering p (give_tail_b e r w p nb)) (answering q (give_tail_b e t.image t.words q nb))

unfoldable pub aligned_b : Edition → ℕ → ℕ → Reply → Reply
aligned_b e al nb m = pick (eqb m.answer (no_link e)) m (trim_b e m.image m.words m.answer (lead_of e m.answer al) nb)

-- "Makes malloc's request for nb + alignment + 24 bytes"
unfoldable pub memalign_b : Edition → List ℕ → List ℕ → ℕ → ℕ → Reply
memalign_b e r w al nb = aligned_b e al nb (malloc_b e r w (wrap e (need (W e) (wrap e (nb + wrap e (al + W e * 3))))))
