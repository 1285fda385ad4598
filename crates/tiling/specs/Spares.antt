-- THE OWNER'S WORDS of a block in use, "words 2 up to and including word 0 of the next chunk", left as they were; and that another block lies
-- beside it, since two chunks of a run never share a word. Assumes nothing.
use Rattle.std.specs.Prelude.{ℕ, ◌+◌, ◌≤◌, ◌≡◌, refl, true, List, ◌⊎◌, get_or}
use Rattle.std.proofs.Common.{◌∙◌, ⊎_elim}
use Rattle.words.specs.Edition.{Edition}
use Rattle.tiling.specs.Tiling.{Chunk, used, Heads, Starts, starts_apart}

-- the owner's words of the block of s words at x are the same in both
abbrev pub Spares : ℕ → ℕ → List ℕ → List ℕ → Type 0
Spares x s w v = (i : ℕ) → x + 2 ≤ i → i ≤ x + s → get_or v i 0 ≡ get_or w i 0

-- one after another
module _ (x s : ℕ) where
  pub spares_refl : (w : List ℕ) → Spares x s w w
  spares_refl w i lo hi = refl

  pub spares_trans : (w v u : List ℕ) → Spares x s w v → Spares x s v u → Spares x s w u
  spares_trans w v u f g i lo hi = g i lo hi ∙ f i lo hi

-- the k words from a on lie before the block or behind it
abbrev pub Beside : ℕ → ℕ → ℕ → ℕ → Type 0
Beside x s a k = (x + s ≤ a) ⊎ (a + k ≤ x)

pub used_beside : (e : Edition) (w : List ℕ) (cs : List Chunk) (ts : ℕ) → Heads e w cs ts → (x s : ℕ) → Starts 0 cs x (used s) → (a k : ℕ) → Starts 0 cs a (used k) → (x ≡ a → ⊥) → Beside x s a k
used_beside e w cs ts h x s st a k sa n = ⊎_elim (λ z. absurd (n z.0)) (λ z. z) (starts_apart e w 0 true cs x (used s) a (used k) h.run st sa)
