-- A held heap is tidy; what follows a free chunk; the right part of a tiling. Assumes nothing.
use Rattle.std.specs.Prelude.{◌≡◌, refl, Bool, true, false, List, [], ◌∷◌, ◌++◌, ℕ, ◌+◌, ◌<◌, length}
use Rattle.std.proofs.Common.{arith}
use Rattle.words.specs.Edition.{Edition}
use Rattle.words.specs.Logic.{false-true}
use Rattle.rules.specs.Heap.{Heap}
use Rattle.rules.specs.Tidy.{Tidy, TidyHeap}
use Rattle.tiling.specs.Tiling.{Chunk, used, free, size, in_use, end_of, last_use, UsedAt, Run, HeadsFrom, end_ge, Heads}

-- a run of chunks is tidy, and so is a held heap: what the rules keep of the chunks
pub run_tidy : (e : Edition) (w : List ℕ) (p : ℕ) (pu : Bool) (cs : List Chunk) → Run e w p pu cs → Tidy pu cs
run_tidy e w p pu [] h = tt
run_tidy e w p pu (used s ∷ cs) h = (h.0.even, h.0.least, run_tidy e w (p + s) true cs h.1)
run_tidy e w p pu (free s ∷ cs) h = (h.0.apart, h.0.even, h.0.least, run_tidy e w (p + s) false cs h.1)

pub heads_tidy : (e : Edition) (w : List ℕ) (h : Heap) → Heads e w h.chunks h.top → TidyHeap h
heads_tidy e w h a = record { chunks = run_tidy e w 0 true h.chunks a.run; last = a.top.apart; top_even = a.top.even; top_least = a.top.least }

-- a free chunk stands before one in use
pub record NextUsed (e : Edition) (w : List ℕ) (a s : ℕ) (ys : List Chunk) (l : ℕ) : Type 0 where
  pub words : ℕ
  pub after : List Chunk
  pub whole : ys ≡ used words ∷ after
  pub here : UsedAt e w (a + s) false words
  pub fits : a + s + words < l

pub next_used : (e : Edition) (w : List ℕ) (p : ℕ) (pu : Bool) (s : ℕ) (ys : List Chunk) (ts : ℕ) → HeadsFrom e w p pu (free s ∷ ys) ts → NextUsed e w p s ys (length w)
next_used e w p pu s [] ts h = false-true h.top.apart
next_used e w p pu s (free t ∷ ys) ts h = false-true h.run.1.0.apart
next_used e w p pu s (used t ∷ ys) ts h =
    record { words = t; after = ys; whole = refl; here = h.run.1.0; fits = omega (arith, h.top.ends, end_ge (p + s + t) ys) }

-- the tail of an arena
pub heads_right : (e : Edition) (w : List ℕ) (p : ℕ) (pu : Bool) (xs ys : List Chunk) (ts : ℕ) → HeadsFrom e w p pu (xs ++ ys) ts → HeadsFrom e w (end_of p xs) (last_use pu xs) ys ts
heads_right e w p pu [] ys ts h = h
heads_right e w p pu (x ∷ xs) ys ts h = heads_right e w (p + size x) (in_use x) xs ys ts (record { run = h.run.1; top = h.top })
