-- Steps that retile: the chunks `mid`, whose free ones are all loose, give way to `new`, whose free ones are loose then; the bins and the
-- spare chunk lie elsewhere and stay. One law for the middle, one for the end at the top. Assumes nothing.
use Rattle.std.specs.Prelude.{◌≡◌, refl, true, ℕ, ◌+◌, ◌*◌, ◌≤◌, ◌<◌, length, get_or}
use Rattle.std.proofs.Common.{sym, ◌∙◌, ap, subst, ⊎_elim, arith}
use mathlib.Core.List.{List, [], ◌++◌}
use Rattle.std.proofs.Math.Option.{Option, none, some}
use Rattle.words.specs.Edition.{Edition, W, enc}
use Rattle.words.specs.Fields.{fld, ind_self, count_l}
use Rattle.words.specs.Places.{AgreeTo}
use Rattle.tiling.specs.Tiling.{Chunk, free, end_of, last_use, Run, Heads, Starts, starts_in, end_append, run_left, run_right}
use Rattle.tiling.specs.Free.{free_at, free_append, starts_free, Roomy}
use Rattle.tiling.specs.Swaps.{Swap, swap_heads}
use Rattle.lists.specs.Links.{keep_list}
use Rattle.tries.specs.Tree.{leaf, count}
use Rattle.tries.specs.TreeAt.{link}
use Rattle.rules.specs.BinOf.{bin_size}
use Rattle.rules.specs.Tidy.{starts_left, starts_right, starts_parts}
use Rattle.rules.specs.Heap.{Heap, holds_some, grows_some, heap_tiles, heap_chunks}
use Rattle.holds.specs.Bins.{bins_keep, sum_at}
use Rattle.holds.specs.Holds.{Control, Near, SpareAt, SmallAt, TrieAt, head_link, in_dv}
use Rattle.holds.specs.Unique.{once}
use Rattle.holds.specs.Where.{small_roomy, trie_roomy}
use Rattle.holds.specs.Frame.{keep_trie}
use Rattle.holds.specs.Ops.{with_top}

-- ---- the general step

module _ (e : Edition) (r : Control) (w : List ℕ) (h : Heap) (loose : List ℕ) (n : Near e r w h loose) where
  -- what is not loose keeps its words and its place among the chunks
  pub move : (v : List ℕ) (cs : List Chunk) (ts : ℕ) (loose' : List ℕ) → length v ≡ length w → Heads e v cs ts
      → ((x s : ℕ) → Starts 0 h.chunks x (free s) → count_l x loose ≡ 0 → Starts 0 cs x (free s) × ((j : ℕ) → 1 ≤ j → j < s → get_or v (x + j) 0 ≡ get_or w (x + j) 0))
      → ((x : ℕ) → count_l x loose' + free_at 0 h.chunks x ≡ count_l x loose + free_at 0 cs x)
      → Near e (with_top r (enc e (end_of 0 cs)) (W e * ts)) v (heap_tiles h cs ts) loose'
  unfolding fld
  move v cs ts loose' l hd stay bal =
      record {
        even = rw l n.even;
        least = rw l n.least;
        most = rw l n.most;
        long = rw l n.long;
        heads = hd;
        top_place = refl;
        top_size_lem = refl;
        spare = spared h.dv (λ x. omega (arith, once e r w h loose n x)) n.spare;
        small = bins_keep [] holds_some (head_link e) (SmallAt e) (fld w) (fld v) r.small_map r.heads h.small
            (λ i k. keep_list e (fld w) (fld v) (bin_size e i) (get_or h.small i [])
            (λ x u. kept 4 x (small_roomy e r w h loose n i k x u) (omega (arith, once e r w h loose n x, sum_at (count_l x) [] h.small i (omega (arith, n.small.marks.count))))))
            n.small;
        tries = bins_keep leaf grows_some (link e) (TrieAt e) (fld w) (fld v) r.tree_map r.roots h.tries
            (λ i k. keep_trie e (fld w) (fld v) i (get_or h.tries i leaf)
            (λ x u. kept 8 x (trie_roomy e r w h loose n i k x u) (omega (arith, once e r w h loose n x, sum_at (count x) leaf h.tries i (omega (arith, n.tries.marks.count))))))
            n.tries;
        tie = λ x. omega (arith, n.tie x, bal x);
      }
    where
      kept : (d x : ℕ) → Roomy d h.chunks x → count_l x loose ≡ 0 → AgreeTo d (fld w) (fld v) x
      kept d x a z j lo hi = (stay x a.0 a.1 z).1 j lo (omega (arith, a.2))

      spared : (dv : Option ℕ) → ((x : ℕ) → in_dv dv x + count_l x loose ≤ 1) → SpareAt e r.dv r.dv_size h.chunks dv → SpareAt e r.dv r.dv_size cs dv
      spared none o a = a
      spared (some p) o a = (a.0, (stay p a.0 a.1 (omega (arith, o p, ind_self p))).0, a.2, a.3)

-- ---- in the middle

control_top : (r : Control) (a b : ℕ) → r.top ≡ a → r.top_size ≡ b → with_top r a b ≡ r
control_top r a b p q = rw (← p, ← q) refl

pub swap_near : (e : Edition) (r : Control) (w v : List ℕ) (h : Heap) (loose loose' : List ℕ) (xs mid new ys : List Chunk)
    → h.chunks ≡ xs ++ (mid ++ ys) → Near e r w h loose → Swap e w v (end_of 0 xs) (last_use true xs) mid new
    → ((x : ℕ) → free_at (end_of 0 xs) mid x ≤ count_l x loose)
    → ((x : ℕ) → count_l x loose' + free_at (end_of 0 xs) mid x ≡ count_l x loose + free_at (end_of 0 xs) new x)
    → Near e r v (heap_chunks h (xs ++ (new ++ ys))) loose'
swap_near e r w v h loose loose' xs mid new ys q n s cov bal =
    subst (λ c. Near e c v (heap_chunks h cs') loose') (control_top r (enc e (end_of 0 cs')) (W e * h.top) (n.top_place ∙ ap (enc e) (sym ends)) n.top_size_lem)
    (move e r w h loose n v cs' h.top loose' s.long heads' stay
    (λ x. omega (arith, bal x, was x, free_append 0 xs (new ++ ys) x, free_append a new ys x, ap (λ z. free_at z ys x) s.ends)))
  where
    a : ℕ
    a = end_of 0 xs

    cs' : List Chunk
    cs' = xs ++ (new ++ ys)

    heads₀ : Heads e w (xs ++ (mid ++ ys)) h.top
    heads₀ = subst (λ c. Heads e w c h.top) q n.heads

    heads' : Heads e v cs' h.top
    heads' = swap_heads e w v 0 true xs mid new ys h.top s heads₀

    was : (x : ℕ) → free_at 0 h.chunks x ≡ free_at 0 xs x + (free_at a mid x + free_at (end_of a mid) ys x)
    was x = ap (λ c. free_at 0 c x) q ∙ omega (arith, free_append 0 xs (mid ++ ys) x, free_append a mid ys x)

    ends : end_of 0 cs' ≡ end_of 0 h.chunks
    ends = end_append 0 xs (new ++ ys) ∙ end_append a new ys ∙ ap (λ z. end_of z ys) s.ends ∙ sym (ap (end_of 0) q ∙ end_append 0 xs (mid ++ ys) ∙ end_append a mid ys)

    back : Run e w a (last_use true xs) (mid ++ ys)
    back = run_right e w 0 true xs (mid ++ ys) heads₀.run

    stay : (x t : ℕ) → Starts 0 h.chunks x (free t) → count_l x loose ≡ 0 → Starts 0 cs' x (free t) × ((j : ℕ) → 1 ≤ j → j < t → get_or v (x + j) 0 ≡ get_or w (x + j) 0)
    stay x t st z =
        ⊎_elim
        (λ (u : Starts 0 xs x (free t)). (
          starts_left 0 xs (new ++ ys) x (free t) u,
          (λ j lo hi. s.lo (x + j) (omega (arith, starts_in e w 0 true xs x (free t) (run_left e w 0 true xs (mid ++ ys) heads₀.run) u))),
        ))
        (λ (u : Starts a (mid ++ ys) x (free t)). ⊎_elim
        (λ (y : Starts a mid x (free t)). absurd (let b : ⊥ = omega (arith, starts_free a mid x t y, cov x) in b))
        (λ (y : Starts (end_of a mid) ys x (free t)). (
          starts_right 0 xs (new ++ ys) x (free t) (starts_right a new ys x (free t) (subst (λ b. Starts b ys x (free t)) (sym s.ends) y)),
          (λ j lo hi. s.hi (x + j) (omega (arith, starts_in e w (end_of a mid) (last_use (last_use true xs) mid) ys x (free t) (run_right e w a (last_use true xs) mid ys back) y))),
        ))
        (starts_parts a mid ys x (free t) u))
        (starts_parts 0 xs (mid ++ ys) x (free t) (subst (λ c. Starts 0 c x (free t)) q st))

-- ---- at the end: the chunks mid and the top give way to new and another top; nothing before them is written

pub swap_top : (e : Edition) (r : Control) (w v : List ℕ) (h : Heap) (loose loose' : List ℕ) (xs mid new : List Chunk) (ts : ℕ)
    → h.chunks ≡ xs ++ mid → Near e r w h loose → length v ≡ length w → Heads e v (xs ++ new) ts
    → ((i : ℕ) → i ≤ end_of 0 xs → get_or v i 0 ≡ get_or w i 0)
    → ((x : ℕ) → free_at (end_of 0 xs) mid x ≤ count_l x loose)
    → ((x : ℕ) → count_l x loose' + free_at (end_of 0 xs) mid x ≡ count_l x loose + free_at (end_of 0 xs) new x)
    → Near e (with_top r (enc e (end_of 0 (xs ++ new))) (W e * ts)) v (heap_tiles h (xs ++ new) ts) loose'
swap_top e r w v h loose loose' xs mid new ts q n l hd lo cov bal =
    move e r w h loose n v (xs ++ new) ts loose' l hd stay
    (λ x. omega (arith, bal x, ap (λ c. free_at 0 c x) q, free_append 0 xs mid x, free_append 0 xs new x))
  where
    heads₀ : Heads e w (xs ++ mid) h.top
    heads₀ = subst (λ c. Heads e w c h.top) q n.heads

    stay : (x t : ℕ) → Starts 0 h.chunks x (free t) → count_l x loose ≡ 0 → Starts 0 (xs ++ new) x (free t) × ((j : ℕ) → 1 ≤ j → j < t → get_or v (x + j) 0 ≡ get_or w (x + j) 0)
    stay x t st z =
        ⊎_elim
        (λ (u : Starts 0 xs x (free t)). (
          starts_left 0 xs new x (free t) u,
          (λ j lo' hi. lo (x + j) (omega (arith, starts_in e w 0 true xs x (free t) (run_left e w 0 true xs mid heads₀.run) u))),
        ))
        (λ (u : Starts (end_of 0 xs) mid x (free t)). absurd (let b : ⊥ = omega (arith, starts_free (end_of 0 xs) mid x t u, cov x) in b))
        (starts_parts 0 xs mid x (free t) (subst (λ c. Starts 0 c x (free t)) q st))
