-- FREE LEAVES THE OWNER'S WORDS of every other block in use: the block stands in use before the call and after it, so its owner's words are governed
-- in neither heap, and free reaches no others. Assumes nothing.
use Rattle.std.specs.Prelude.{◌≡◌, List, [], ℕ, ◌+◌, ◌≤◌}
use Rattle.words.specs.Edition.{Edition, enc}
use Rattle.tiling.specs.Tiling.{used, Starts}
use Rattle.tiling.specs.Spares.{Spares}
use Rattle.rules.specs.Heap.{Heap}
use Rattle.rules.specs.Free.{give_back}
use Rattle.rules.proofs.FreeLaws.{give_changes}
use Rattle.holds.specs.Lookup.{heads_tidy}
use Rattle.holds.specs.Governed.{Governed, owner_apart}
use Rattle.chunk.specs.Image.{decode}
use Rattle.chunk.specs.Held.{Held}
use Rattle.free.specs.FreeBytes.{dispose_b, free_b}
use Rattle.free.proofs.FreeObeys.{dispose_obeys}
use Rattle.free.proofs.FreeReach.{dispose_reaches, free_reaches}

module _ (e : Edition) (r w : List ℕ) (h : Heap) (n : Held e r w h []) (p t : ℕ) (st : Starts 0 h.chunks p (used t)) (x s : ℕ) (sx : Starts 0 h.chunks x (used s)) (ne : x ≡ p → ⊥) where
  before : (i : ℕ) → x + 2 ≤ i → i ≤ x + s → Governed h i → ⊥
  before = owner_apart e (decode r) w h [] n.near x s sx

  after : (i : ℕ) → x + 2 ≤ i → i ≤ x + s → Governed (give_back e h p) i → ⊥
  after =
      owner_apart e (decode (dispose_b e r w (enc e p) (enc e t)).image) (dispose_b e r w (enc e p) (enc e t)).words (give_back e h p) [] (dispose_obeys e r w h n t p st).near x s
      ((give_changes e h p t (heads_tidy e w h n.near.heads) st).kept x s sx ne)

  -- giving back the block of t words at p
  pub dispose_spares : Spares x s w (dispose_b e r w (enc e p) (enc e t)).words
  dispose_spares i lo up = dispose_reaches e r w h n p t st i (before i lo up) (after i lo up)

  -- free reads the size itself
  pub free_spares : Spares x s w (free_b e r w (enc e p)).words
  free_spares i lo up = free_reaches e r w h n p t st i (before i lo up) (after i lo up)
