-- THE CHECK IS RIGHT: `sound_b` says yes exactly when the record and the arena hold a heap. Yes gives the heap: its chunks from the walk, the top,
-- the spare chunk, the lists and the trees. The tie is a sum: the walk's marks are the free chunks, each test takes what it holds, and none is
-- left. Back, from any heap that is held, every test finds what it takes still in the set, since each free chunk stands in one place. Both
-- editions, every record of 72 numbers, every arena. Assumes nothing.
use Rattle.std.specs.Prelude.{◌≡◌, Bool, false, ◌&&◌, ℕ, ◌+◌, ◌*◌, ◌%◌, ◌^◌, ◌≤◌, ◌<◌, eqb, leb, ltb}
use Rattle.std.proofs.Math.Path.{refl}
use Rattle.std.proofs.Common.{sym, ◌∙◌, ap, subst, arith, eqb-true, eq-eqb, leb-true, le-leb, ltb-true, lt-ltb}
use Rattle.std.proofs.Math.Bool.{true}
use mathlib.Core.List.{List, []}
use Rattle.std.proofs.Math.Option.{Option}
use Rattle.std.proofs.Math.ListN.{length, get_or}
use Rattle.words.specs.Logic.{Decides, pick, false-true}
use Rattle.words.specs.Edition.{Edition, W, enc, head}
use Rattle.words.specs.Fields.{fld, count_l}
use Rattle.tiling.specs.Tiling.{Chunk, end_of, last_use, Run, TopAt, free, starts_in}
use Rattle.tiling.specs.Free.{free_at}
use Rattle.tries.specs.Tree.{Tree}
use Rattle.rules.specs.Heap.{Heap}
use Rattle.holds.specs.Holds.{Near, Sound, SpareAt, SmallBins, TreeBins, in_dv, in_small, in_tries}
use Rattle.holds.specs.Where.{counted, free_head}
use Rattle.chunk.specs.Bytes.{small, tree}
use Rattle.chunk.specs.Image.{decode, decode_is, get_map}
use Rattle.marks.specs.Marks.{Checked, checked, and_then, no_marks, is_empty, turns}
use Rattle.tiles.specs.TilesBytes.{top_ok, walk_heads}
use Rattle.binned.specs.BinsBytes.{dv_ok, small_bins_ok, tree_bins_ok}
use Rattle.sound.specs.SoundBytes.{count_ok, bins_ok, record_ok, chunks_ok, sound_b}
use Rattle.decides.specs.MarksLaws.{in_set, Sized, and_left, and_right, and_both, sized_none, none_in, empty_in, all_empty}
use Rattle.decides.specs.Took.{then_yes, took_then}
use Rattle.decides.specs.BinsLaws.{small_bins_yes, small_bins_there, tree_bins_yes, tree_bins_there}
use Rattle.decides.specs.TilingLaws.{Tiles, walk_yes, walk_marks, top_yes, top_there}
use Rattle.decides.specs.SpareLaws.{dv_yes, dv_there}

-- ---- the numbers

pub count_yes : (n : ℕ) → count_ok n ≡ true → (16 ≤ n) × (n ≤ 8192) × (n % 2 ≡ 0)
unfolding count_ok
count_yes n h =
    let a = leb 16 n in
    let b = leb n 8192 in
    let c = eqb (n % 2) 0 in
    (leb-true 16 n (and_left a b (and_left (a && b) c h)), leb-true n 8192 (and_right a b (and_left (a && b) c h)), eqb-true (n % 2) 0 (and_right (a && b) c h))

pub count_there : (n : ℕ) → 16 ≤ n → n ≤ 8192 → n % 2 ≡ 0 → count_ok n ≡ true
unfolding count_ok
count_there n l m v = and_both _ _ (and_both _ _ (le-leb 16 n l) (le-leb n 8192 m)) (eq-eqb (n % 2) 0 v)

record_yes : (r : List ℕ) (len : ℕ) → record_ok r len ≡ true → (get_or r 6 0 ≡ len) × (get_or r 0 0 < 2 ^ 32) × (get_or r 1 0 < 2 ^ 32)
unfolding record_ok
record_yes r len h =
    let a = eqb (get_or r 6 0) len in
    let b = ltb (get_or r 0 0) (2 ^ 32) in
    let c = ltb (get_or r 1 0) (2 ^ 32) in (
      eqb-true (get_or r 6 0) len (and_left a b (and_left (a && b) c h)),
      ltb-true (get_or r 0 0) (2 ^ 32) (and_right a b (and_left (a && b) c h)),
      ltb-true (get_or r 1 0) (2 ^ 32) (and_right (a && b) c h),
    )

record_there : (r : List ℕ) (len : ℕ) → get_or r 6 0 ≡ len → get_or r 0 0 < 2 ^ 32 → get_or r 1 0 < 2 ^ 32 → record_ok r len ≡ true
unfolding record_ok
record_there r len q a b = and_both _ _ (and_both _ _ (eq-eqb (get_or r 6 0) len q) (lt-ltb (get_or r 0 0) (2 ^ 32) a)) (lt-ltb (get_or r 1 0) (2 ^ 32) b)

-- ---- the whole walk: from 0, with no mark

whole-walk : (e : Edition) (w : List ℕ) (t top : ℕ) → top ≡ enc e t → walk_heads e w top turns 0 true no_marks ≡ walk_heads e w (enc e t) turns (enc e 0) true no_marks
whole-walk e w t top q = ap (λ o. walk_heads e w o turns 0 true no_marks) q ∙ ap (λ p. walk_heads e w (enc e t) turns p true no_marks) (let z : 0 ≡ enc e 0 = omega arith in z)

-- the free chunks are marked, and nothing else
abbrev Marked : Edition → List Chunk → Checked → Type 0
Marked e cs r = (r.ok ≡ true) × Sized r.marks × ((y : ℕ) → in_set e r.marks y ≡ free_at 0 cs y)

heads_there : (e : Edition) (w : List ℕ) (t top : ℕ) (cs : List Chunk) → top ≡ enc e t → t ≤ 8192 → Tiles e w 0 true t cs → Marked e cs (walk_heads e w top turns 0 true no_marks)
heads_there e w t top cs q l h =
    let a = walk_marks e w t turns 0 true no_marks cs h (omega arith) l refl sized_none (λ y _. none_in e y) in
    subst (Marked e cs) (sym (whole-walk e w t top q)) (a.0, a.1, (λ y. omega (arith, a.2 y, none_in e y)))

heads_yes : (e : Edition) (w : List ℕ) (t top : ℕ) → top ≡ enc e t → t ≤ 8192 → (walk_heads e w top turns 0 true no_marks).ok ≡ true
    → (cs : List Chunk) × Tiles e w 0 true t cs × Marked e cs (walk_heads e w top turns 0 true no_marks)
heads_yes e w t top q l h =
    let a = walk_yes e w t turns 0 true no_marks (omega arith) (ap (λ (z : Checked). z.ok) (sym (whole-walk e w t top q)) ∙ h) in
    (a.0, a.1, heads_there e w t top a.0 q l a.1)

-- ---- each free chunk is in its place

-- the spare chunk, the lists and the trees, and that they hold the free chunks, each once, and nothing else
record Placed (e : Edition) (r w : List ℕ) (cs : List Chunk) (dv : Option ℕ) (bins : List (List ℕ)) (trees : List Tree) : Type 0 where
  pub spare : SpareAt e (decode r).dv (decode r).dv_size cs dv
  pub small : SmallBins e (fld w) (decode r).small_map (decode r).heads bins
  pub tries : TreeBins e (fld w) (decode r).tree_map (decode r).roots trees
  pub tie : (x : ℕ) → in_small bins x + in_tries trees x + in_dv dv x + count_l x [] ≡ free_at 0 cs x

spare_in : (e : Edition) (r : List ℕ) (cs : List Chunk) (d : Option ℕ) → SpareAt e (get_or r 2 0) (get_or r 3 0) cs d → SpareAt e (decode r).dv (decode r).dv_size cs d
unfolding decode
spare_in e r cs d h = h

spare_out : (e : Edition) (r : List ℕ) (cs : List Chunk) (d : Option ℕ) → SpareAt e (decode r).dv (decode r).dv_size cs d → SpareAt e (get_or r 2 0) (get_or r 3 0) cs d
unfolding decode
spare_out e r cs d h = h

-- what stands behind the spare chunk, and behind the lists
abbrev empty_at : List ℕ → Checked
empty_at m = checked (is_empty m) m

abbrev from_trees : Edition → List ℕ → List ℕ → List ℕ → Checked
from_trees e r w m = and_then (tree_bins_ok e r w m) empty_at

abbrev from_small : Edition → List ℕ → List ℕ → List ℕ → Checked
from_small e r w m = and_then (small_bins_ok e r w m) (from_trees e r w)

module _ (e : Edition) (r w m : List ℕ) (cs : List Chunk) (q : length r ≡ 72) (run : Run e w 0 true cs) (sz : Sized m) (free-marks : (y : ℕ) → in_set e m y ≡ free_at 0 cs y) where
  placed_yes : get_or r 0 0 < 2 ^ 32 → get_or r 1 0 < 2 ^ 32 → (bins_ok e r w m).ok ≡ true → (dv : Option ℕ) × (bins : List (List ℕ)) × (tries : List Tree) × Placed e r w cs dv bins tries
  unfolding bins_ok
  placed_yes b₀ b₁ h =
      let g = then_yes (dv_ok e r w m) (from_small e r w) h in
      let d = dv_yes e r w m cs run sz (λ y. omega (arith, free-marks y)) g.0 in
      let m₁ = (dv_ok e r w m).marks in
      let g₁ = then_yes (small_bins_ok e r w m₁) (from_trees e r w) g.1 in
      let s = small_bins_yes e r w m₁ q b₀ d.2.1 g₁.0 in
      let m₂ = (small_bins_ok e r w m₁).marks in
      let g₂ = then_yes (tree_bins_ok e r w m₂) empty_at g₁.1 in
      let t = tree_bins_yes e r w m₂ q b₁ s.2 g₂.0 in
      let m₃ = (tree_bins_ok e r w m₂).marks in (
        d.0,
        s.0,
        t.0,
        record {
          spare = spare_in e r cs d.0 d.1;
          small = s.1;
          tries = t.1;
          tie = λ x. omega (arith, free-marks x, d.2.2 x, s.3 x, t.3 x, empty_in e m₃ x g₂.1);
        },
      )

  -- The last hypothesis: a free chunk's head says an even size within the arena
  placed_there : (dv : Option ℕ) (bins : List (List ℕ)) (tries : List Tree) → Placed e r w cs dv bins tries
      → ((x : ℕ) → 1 ≤ in_tries tries x → (z : ℕ) × (fld w x 1 ≡ head e z) × (z % 2 ≡ 0) × (z < 8192)) → (bins_ok e r w m).ok ≡ true
  unfolding bins_ok
  placed_there dv bins tries p f =
      let d = dv_there e r w m cs run sz dv (spare_out e r cs dv p.spare) (λ y. omega (arith, free-marks y, p.tie y)) in
      let m₁ = (dv_ok e r w m).marks in
      let s = small_bins_there e r w m₁ bins q d.1 p.small (λ y. omega (arith, free-marks y, p.tie y, d.2 y)) in
      let m₂ = (small_bins_ok e r w m₁).marks in
      let t = tree_bins_there e r w m₂ tries q s.1 p.tries (λ y. omega (arith, free-marks y, p.tie y, d.2 y, s.2 y)) f in
      let m₃ = (tree_bins_ok e r w m₂).marks in
      let z = all_empty e m₃ t.1 (λ y. omega (arith, free-marks y, p.tie y, d.2 y, s.2 y, t.2 y)) in
      (took_then e m (dv_ok e r w m) (from_small e r w) (in_dv dv) (λ y. in_small bins y + (in_tries tries y + 0)) d
      (took_then e m₁ (small_bins_ok e r w m₁) (from_trees e r w) (in_small bins) (λ y. in_tries tries y + 0) s
      (took_then e m₂ (tree_bins_ok e r w m₂) empty_at (in_tries tries) (λ y. 0) t (z, t.1, (λ y. omega arith))))).0

-- ---- all of it

then_there : (c : Checked) (f : List ℕ → Checked) → c.ok ≡ true → (f c.marks).ok ≡ true → (and_then c f).ok ≡ true
then_there c f p q = go c.ok p
  where
    go : (b : Bool) → b ≡ true → (pick b (f c.marks) c).ok ≡ true
    go true h = q
    go false h = false-true h

module _ (e : Edition) (r w : List ℕ) (q : length r ≡ 72) where
  -- the heap that the parts make
  held_of : (t ts : ℕ) (cs : List Chunk) (dv : Option ℕ) (bins : List (List ℕ)) (trees : List Tree) → (16 ≤ length w) × (length w ≤ 8192) × (length w % 2 ≡ 0) → get_or r 6 0 ≡ W e * length w
      → get_or r 4 0 ≡ enc e t → get_or r 5 0 ≡ enc e ts → TopAt e w t true ts → Tiles e w 0 true t cs → Placed e r w cs dv bins trees → Sound e (decode r) w
  held_of t ts cs dv bins trees k l top size at tiles p = (
    record { chunks = cs; top = ts; dv = dv; small = bins; tries = trees },
    record {
      even = k.2;
      least = k.0;
      most = k.1;
      long = sym (decode_is r).4 ∙ l;
      heads = record { run = tiles.0; top = rw (tiles.1, tiles.2) at };
      top_place = sym (decode_is r).2 ∙ top ∙ ap (enc e) (sym tiles.1);
      top_size_lem = sym (decode_is r).3 ∙ size;
      spare = p.spare;
      small = p.small;
      tries = p.tries;
      tie = p.tie;
    },
  )

  pub sound_yes : sound_b e r w ≡ true → Sound e (decode r) w
  unfolding sound_b
  sound_yes h =
      let len = W e * length w in
      let a = count_ok (length w) in
      let b = record_ok r len in
      let c = top_ok e r w len in
      let d = chunks_ok e r w in
      let v = walk_heads e w (get_or r 4 0) turns 0 true no_marks in
      let h₁ = and_left (a && b && c) d h in
      let h₂ = and_left (a && b) c h₁ in
      let k = count_yes (length w) (and_left a b h₂) in
      let l = record_yes r len (and_right a b h₂) in
      let t = top_yes e r w k.2 (and_right (a && b) c h₁) in
      let g = then_yes v (bins_ok e r w) (and_right (a && b && c) d h) in
      let x = heads_yes e w t.0 (get_or r 4 0) t.2 (omega (arith, t.4.ends, k.1)) g.0 in
      let p = placed_yes e r w v.marks x.0 q x.1.0 x.2.1 x.2.2 l.1 l.2 g.1 in
      held_of t.0 t.1 x.0 p.0 p.1 p.2 k l.0 t.2 t.3 t.4 x.1 p.3

  pub sound_there : Sound e (decode r) w → sound_b e r w ≡ true
  unfolding sound_b
  sound_there s =
      let h = s.0 in
      let n = s.1 in
      let t = end_of 0 h.chunks in
      let top : get_or r 4 0 ≡ enc e t = (decode_is r).2 ∙ n.top_place in
      let x = heads_there e w t (get_or r 4 0) h.chunks top (omega (arith, n.heads.top.ends, n.most)) (n.heads.run, refl, n.heads.top.apart) in
      and_both _ _ (and_both _ _ (and_both _ _ (count_there (length w) n.least n.most n.even)
      (record_there r (W e * length w) ((decode_is r).4 ∙ n.long) (subst (λ m. m < 2 ^ 32) (sym (get_map small r)) n.small.marks.bound)
      (subst (λ m. m < 2 ^ 32) (sym (get_map tree r)) n.tries.marks.bound)))
      (top_there e r w n.even t (last_use true h.chunks) h.top top ((decode_is r).3 ∙ n.top_size_lem) n.heads.top))
      (then_there (walk_heads e w (get_or r 4 0) turns 0 true no_marks) (bins_ok e r w) x.0
      (placed_there e r w (walk_heads e w (get_or r 4 0) turns 0 true no_marks).marks h.chunks q n.heads.run x.1 x.2 h.dv h.small h.tries
      (record { spare = n.spare; small = n.small; tries = n.tries; tie = n.tie }) (sizes h n)))
    where
      sizes : (h : Heap) (n : Near e (decode r) w h []) (x : ℕ) → 1 ≤ in_tries h.tries x → (z : ℕ) × (fld w x 1 ≡ head e z) × (z % 2 ≡ 0) × (z < 8192)
      sizes h n x u =
          let c = counted e (decode r) w h [] n x (omega (arith, u)) in
          let f = free_head e (decode r) w h [] n x c.0 c.1 in
          (c.0, f.0, f.2, omega (arith, starts_in e w 0 true h.chunks x (free c.0) n.heads.run c.1, n.heads.top.ends, n.most))

-- a Bool that is true exactly when P decides it
pub decides_of : (b : Bool) (P : Type 0) → (b ≡ true → P) → (P → b ≡ true) → Decides b P
decides_of true P f g = f refl
decides_of false P f g = λ p. false-true (g p)

pub sound_decides : (e : Edition) (r w : List ℕ) → length r ≡ 72 → Decides (sound_b e r w) (Sound e (decode r) w)
sound_decides e r w q = decides_of (sound_b e r w) (Sound e (decode r) w) (sound_yes e r w q) (sound_there e r w q)
