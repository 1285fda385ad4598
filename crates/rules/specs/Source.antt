-- WHERE MALLOC'S ANSWER COMES FROM: from a free chunk that fits, binned or spare; from the top, and then no free chunk fits; or from nowhere.
-- That these four are all is shown for held heaps (`holds`, `Source`); the laws of malloc (exact refusal 6, the granted block's size, what is
-- kept, the total) go by them. Assumes nothing.
use Rattle.std.specs.Prelude.{◌≡◌, [], ◌∷◌, ◌++◌, ◌⊎◌, ℕ, ◌-◌, ◌*◌, ◌≤◌, ◌<◌}
use Rattle.std.proofs.Math.Option.{Option, none, some}
use Rattle.words.specs.Edition.{Edition, W}
use Rattle.tiling.specs.Tiling.{used, free, end_of, Starts}
use Rattle.rules.specs.Heap.{Heap, heap_dv, heap_tiles}
use Rattle.rules.specs.Binning.{unbin}
use Rattle.rules.specs.Malloc.{Grant, grant, Rest, to_dv, to_bin, serve}

-- every free chunk, binned or spare, is too small
abbrev pub Small : Heap → ℕ → Type 0
Small h nb = (x s : ℕ) → Starts 0 h.chunks x (free s) → s < nb

-- h₀ is h without the free chunk of s words at x in its bin or as the spare chunk
pub data TakenOut (e : Edition) (h : Heap) (x s : ℕ) : Heap → Type 0 where
  was_dv : h.dv ≡ some x → TakenOut e h x s (heap_dv h none)
  was_binned : (h.dv ≡ some x → ⊥) → TakenOut e h x s (unbin e h x s)

-- where a rest of 4 words or more goes: of a small need it becomes the spare chunk, of the spare chunk it stays that, else it is binned
abbrev pub RestOf : Edition → Heap → ℕ → ℕ → Rest → Type 0
RestOf e h x nb to_dv = (W e * nb < 256) ⊎ (h.dv ≡ some x)
RestOf e h x nb to_bin = (256 ≤ W e * nb) × (h.dv ≡ some x → ⊥)

pub data Source (e : Edition) (h : Heap) (nb : ℕ) : Option Grant → Type 0 where
  nowhere : Small h nb → h.top ≤ nb → Source e h nb none
  from_top_lem : Small h nb → nb < h.top
      → Source e h nb (some (grant (end_of 0 h.chunks) (heap_tiles h (h.chunks ++ (used nb ∷ [])) (h.top - nb))))
  from_chunk : (k : Rest) (h₀ : Heap) (x s : ℕ) → Starts 0 h.chunks x (free s) → nb ≤ s → TakenOut e h x s h₀ → RestOf e h x nb k
      → Source e h nb (some (serve e k h₀ x s nb))
