-- WHAT DOES NOT TOUCH THE CHUNKS: the bins and the spare chunk are beside them. Said once for each operation of `Binning`, and for the steps of
-- malloc and free that are made of these. Assumes nothing.
use Rattle.std.specs.Prelude.{◌≡◌, refl, Bool, true, false, ℕ}
use Rattle.std.proofs.Math.Option.{Option, none, some}
use Rattle.words.specs.Logic.{pick_case}
use Rattle.words.specs.Edition.{Edition}
use Rattle.rules.specs.BinOf.{is_small}
use Rattle.rules.specs.Heap.{Heap, heap_dv}
use Rattle.rules.specs.Binning.{size_at, bin, unbin, replace_old}
use Rattle.rules.specs.Malloc.{Rest, to_dv, to_bin, settle}
use Rattle.rules.specs.Free.{away}
use Rattle.rules.specs.Source.{TakenOut, was_dv, was_binned}

pub bin_leaves : (e : Edition) (h : Heap) (q s : ℕ) → ((bin e h q s).chunks ≡ h.chunks) × ((bin e h q s).dv ≡ h.dv) × ((bin e h q s).top ≡ h.top)
bin_leaves e h q s = pick_case (λ (g : Heap). (g.chunks ≡ h.chunks) × (g.dv ≡ h.dv) × (g.top ≡ h.top)) (is_small e s) (λ _. (refl, refl, refl)) (λ _. (refl, refl, refl))

pub unbin_leaves : (e : Edition) (h : Heap) (q s : ℕ) → ((unbin e h q s).chunks ≡ h.chunks) × ((unbin e h q s).dv ≡ h.dv) × ((unbin e h q s).top ≡ h.top)
unbin_leaves e h q s = pick_case (λ (g : Heap). (g.chunks ≡ h.chunks) × (g.dv ≡ h.dv) × (g.top ≡ h.top)) (is_small e s) (λ _. (refl, refl, refl)) (λ _. (refl, refl, refl))

-- g has the chunks and the top of h
abbrev pub SameTiles : Heap → Heap → Type 0
SameTiles h g = (g.chunks ≡ h.chunks) × (g.top ≡ h.top)

pub settle_leaves : (e : Edition) (k : Rest) (h : Heap) (p s : ℕ) → SameTiles h (settle e k h p s)
settle_leaves e to_bin h p s = let l = bin_leaves e h p s in (l.0, l.2)
settle_leaves e to_dv h p s = go h.dv
  where
    go : (d : Option ℕ) → SameTiles h (replace_old e h d p)
    go none = (refl, refl)
    go (some d) = let l = bin_leaves e (heap_dv h none) d (size_at 0 h.chunks d) in (l.0, l.2)

pub away_leaves : (e : Edition) (mine : Bool) (h : Heap) (a t : ℕ) → SameTiles h (away e mine h a t)
away_leaves e true h a t = (refl, refl)
away_leaves e false h a t = let l = bin_leaves e h a t in (l.0, l.2)

pub taken_leaves : (e : Edition) (h : Heap) (x s : ℕ) (h₀ : Heap) → TakenOut e h x s h₀ → SameTiles h h₀
taken_leaves e h x s h₀ (was_dv q) = (refl, refl)
taken_leaves e h x s h₀ (was_binned q) = let l = unbin_leaves e h x s in (l.0, l.2)
