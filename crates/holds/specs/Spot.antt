-- A free chunk of a held heap with what stands around it, and the size that a lookup by its place gives.
-- Assumes nothing.
use Rattle.std.specs.Prelude.{◌≡◌, true, List, ◌∷◌, ◌++◌, ℕ, length}
use Rattle.std.proofs.Common.{◌∙◌, ap, subst}
use Rattle.words.specs.Edition.{Edition}
use Rattle.tiling.specs.Tiling.{Chunk, free, end_of, last_use, FreeAt, Run, Heads, Starts, Split, starts_split}
use Rattle.rules.specs.Heap.{Heap}
use Rattle.rules.specs.Binning.{size_at}
use Rattle.holds.specs.Ops.{State}
use Rattle.holds.specs.Bin.{Says}
use Rattle.holds.specs.Lookup.{run_tidy, next_used, NextUsed, heads_right}
use Rattle.rules.specs.Lookup.{size_at_lem}

-- a free chunk of the heap, with what stands around it
pub record Spot (e : Edition) (w : List ℕ) (h : Heap) (p s : ℕ) : Type 0 where
  pub xs : List Chunk
  pub ys : List Chunk
  pub whole : h.chunks ≡ xs ++ (free s ∷ ys)
  pub place : p ≡ end_of 0 xs
  pub run : Run e w 0 true (xs ++ (free s ∷ ys))
  pub here : FreeAt e w (end_of 0 xs) (last_use true xs) s
  pub next : NextUsed e w (end_of 0 xs) s ys (length w)

pub spot : (e : Edition) (t : State) (h : Heap) (loose : List ℕ) (p s : ℕ) → Says e t h loose → Starts 0 h.chunks p (free s) → Spot e t.words h p s
spot e t h loose p s n st = go (starts_split 0 h.chunks p (free s) st)
  where
    go : Split 0 h.chunks p (free s) → Spot e t.words h p s
    go k =
        let hd : Heads e t.words (k.before ++ (free s ∷ k.after)) h.top = subst (λ c. Heads e t.words c h.top) k.whole n.heads in
        let r = heads_right e t.words 0 true k.before (free s ∷ k.after) h.top hd in
        record {
          xs = k.before;
          ys = k.after;
          whole = k.whole;
          place = k.place;
          run = hd.run;
          here = r.run.0;
          next = next_used e t.words (end_of 0 k.before) (last_use true k.before) s k.after h.top r;
        }

-- the size that a lookup gives
pub looked_up : (e : Edition) (t : State) (h : Heap) (loose : List ℕ) (p s : ℕ) → Says e t h loose → Starts 0 h.chunks p (free s) → size_at 0 h.chunks p ≡ s
looked_up e t h loose p s n st =
    let k = spot e t h loose p s n st in
    ap (λ c. size_at 0 c p) k.whole ∙ ap (size_at 0 (k.xs ++ (free s ∷ k.ys))) k.place ∙ size_at_lem 0 true k.xs (free s) k.ys (run_tidy e t.words 0 true (k.xs ++ (free s ∷ k.ys)) k.run)
