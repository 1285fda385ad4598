-- A RESIZE IN PLACE LEAVES THE OWNER'S WORDS: of every other block all of them, of the block itself all that both sizes reach. The block stands in
-- use before and after, so these words are governed in neither heap, and the resize reaches no others. Assumes nothing.
use Rattle.std.specs.Prelude.{◌≡◌, refl, List, [], ◌∷◌, ◌++◌, ℕ, ◌+◌, ◌%◌, ◌≤◌, get_or}
use Rattle.std.proofs.Common.{sym, subst, inl}
use Rattle.std.proofs.Math.Option.{Option, none, some}
use Rattle.words.specs.Edition.{Edition, enc}
use Rattle.tiling.specs.Tiling.{Chunk, used, end_of, Starts}
use Rattle.tiling.specs.Spares.{Spares}
use Rattle.rules.specs.Heap.{Heap}
use Rattle.rules.specs.Realloc.{resize_here}
use Rattle.rules.specs.Tidy.{starts_right}
use Rattle.rules.specs.ReallocLaws.{GrantsHere}
use Rattle.rules.proofs.ReallocLaws.{resize_grants}
use Rattle.holds.specs.Lookup.{heads_tidy}
use Rattle.holds.specs.Governed.{Governed, owner_apart}
use Rattle.chunk.specs.Image.{decode}
use Rattle.chunk.specs.Held.{Held}
use Rattle.realloc.specs.ReallocBytes.{Tried, try_realloc}
use Rattle.realloc.specs.ReallocObeys.{Agrees}
use Rattle.realloc.proofs.ReallocObeys.{resize_agrees}
use Rattle.realloc.specs.ResizeReach.{heap_or}
use Rattle.realloc.proofs.ResizeReach.{resize_reaches}

module _ (e : Edition) (r w : List ℕ) (h : Heap) (n : Held e r w h []) (xs : List Chunk) (s nb : ℕ) (v : nb % 2 ≡ 0) (l : 4 ≤ nb) (ys : List Chunk) (q : h.chunks ≡ xs ++ (used s ∷ ys)) where
  abbrev at : ℕ
  at = end_of 0 xs

  here : Starts 0 h.chunks at (used s)
  here = subst (λ c. Starts 0 c at (used s)) (sym q) (starts_right 0 xs (used s ∷ ys) at (used s) (inl (refl, refl)))

  agrees : Agrees e r w (try_realloc e r w (enc e at) (enc e nb)) (resize_here e h xs at s nb ys)
  agrees = resize_agrees e r w h n xs s nb v l ys q

  pub resize_others : (x t : ℕ) → Starts 0 h.chunks x (used t) → (x ≡ at → ⊥) → Spares x t w (try_realloc e r w (enc e at) (enc e nb)).words
  resize_others x t sx ne i lo up =
      resize_reaches e r w h n xs s nb v l ys q i before
      (after (try_realloc e r w (enc e at) (enc e nb)) (resize_here e h xs at s nb ys) agrees (resize_grants e h (heads_tidy e w h n.near.heads) xs at s nb refl v l ys q here))
    where
      before : Governed h i → ⊥
      before = owner_apart e (decode r) w h [] n.near x t sx i lo up

      after : (a : Tried) (o : Option Heap) → Agrees e r w a o → GrantsHere h at nb o → Governed (heap_or h o) i → ⊥
      after a none f g = before
      after a (some k) f g = owner_apart e (decode a.image) a.words k [] f.1.near x t (g.changes.kept x t sx ne) i lo up

  -- the block itself has k words now: what both sizes reach is as it was
  pub resize_own : (g : Heap) → resize_here e h xs at s nb ys ≡ some g → (k : ℕ) → Starts 0 g.chunks at (used k)
      → (i : ℕ) → at + 2 ≤ i → i ≤ at + s → i ≤ at + k → get_or (try_realloc e r w (enc e at) (enc e nb)).words i 0 ≡ get_or w i 0
  resize_own g z k sk i lo hs hk =
      resize_reaches e r w h n xs s nb v l ys q i (owner_apart e (decode r) w h [] n.near at s here i lo hs)
      (subst (λ (o : Option Heap). Governed (heap_or h o) i → ⊥) (sym z) (owner_apart e (decode there.image) there.words g [] (subst (Agrees e r w there) z agrees).1.near at k sk i lo hk))
    where
      there : Tried
      there = try_realloc e r w (enc e at) (enc e nb)
