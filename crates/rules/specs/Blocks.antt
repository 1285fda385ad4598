-- WHAT A CALL DOES TO THE BLOCKS IN USE, as statements: which are gone, which is new, that every other one stays where it is with its size, that
-- nothing else appears, that the heap stays tidy and that the total of all sizes never changes. A refusal changes nothing: there is no heap
-- after it. Two laws: the granted block shares no word with one that stays, and a grant whose block is then cut or moved on inside what was
-- granted is still a grant. Assumes nothing.
use Rattle.std.specs.Prelude.{◌≡◌, ◌⊎◌, ℕ, ◌+◌, ◌≤◌, ◌<◌}
use Rattle.std.proofs.Math.Option.{Option, none, some}
use Rattle.std.proofs.Common.{inl, inr, ⊎_elim, arith}
use Rattle.tiling.specs.Tiling.{used, end_of, Starts}
use Rattle.rules.specs.Heap.{Heap}
use Rattle.rules.specs.Malloc.{Grant}
use Rattle.rules.specs.Tidy.{TidyHeap, starts_apart'}

-- from h to h': the blocks at the places `gone` leave, those that are `new` come
pub record Changes (h h' : Heap) (gone : ℕ → Type 0) (new : ℕ → ℕ → Type 0) : Type 0 where
  pub tidy : TidyHeap h'
  pub total : end_of 0 h'.chunks + h'.top ≡ end_of 0 h.chunks + h.top
  pub kept : (x s : ℕ) → Starts 0 h.chunks x (used s) → (gone x → ⊥) → Starts 0 h'.chunks x (used s)
  pub only : (x s : ℕ) → Starts 0 h'.chunks x (used s) → new x s ⊎ (Starts 0 h.chunks x (used s) × (gone x → ⊥))

-- the one new block stands at p, where no block that stays stood; it has at least lo words, and less than hi
pub record Granted (h h' : Heap) (p lo hi : ℕ) (gone : ℕ → Type 0) : Type 0 where
  pub words : ℕ
  pub block : Starts 0 h'.chunks p (used words)
  pub large : lo ≤ words
  pub tight : words < hi
  pub apart : (x s : ℕ) → Starts 0 h.chunks x (used s) → (gone x → ⊥) → x ≡ p → ⊥
  pub changes : Changes h h' gone (λ x s. (x ≡ p) × (s ≡ words))

-- an answer: a refusal, or a grant as above
abbrev pub Grants : Heap → ℕ → ℕ → (ℕ → Type 0) → Option Grant → Type 0
Grants h lo hi gone none = Unit {0}
Grants h lo hi gone (some g) = Granted h g.heap g.place lo hi gone

-- it shares no word with a block that stays: both are chunks of one list
pub granted_apart : (h h' : Heap) (p lo hi : ℕ) (gone : ℕ → Type 0) (g : Granted h h' p lo hi gone) (x s : ℕ) → Starts 0 h.chunks x (used s) → (gone x → ⊥) → (x + s ≤ p) ⊎ (p + g.words ≤ x)
granted_apart h h' p lo hi gone g x s st ng =
    ⊎_elim (λ u. absurd (g.apart x s st ng u.0)) (λ u. u) (starts_apart' 0 h'.chunks x (used s) p (used g.words) (g.changes.kept x s st ng) g.block)

-- with a looser bound
pub granted_below : (h h' : Heap) (p lo hi hi' : ℕ) (gone : ℕ → Type 0) → hi ≤ hi' → Granted h h' p lo hi gone → Granted h h' p lo hi' gone
granted_below h h' p lo hi hi' gone le g = record { words = g.words; block = g.block; large = g.large; tight = omega (arith, g.tight); apart = g.apart; changes = g.changes }

-- the block that was granted at p gives way to one at q: as if that had been granted
pub granted_then : (h h₁ h₂ : Heap) (p q lo₁ hi₁ lo hi : ℕ) (gone : ℕ → Type 0) → Granted h h₁ p lo₁ hi₁ gone → Granted h₁ h₂ q lo hi (λ x. x ≡ p) → Granted h h₂ q lo hi gone
granted_then h h₁ h₂ p q lo₁ hi₁ lo hi gone a b =
    record {
      words = b.words;
      block = b.block;
      large = b.large;
      tight = b.tight;
      apart = λ x s st ng z. b.apart x s (a.changes.kept x s st ng) (a.apart x s st ng) z;
      changes = record {
        tidy = b.changes.tidy;
        total = omega (arith, a.changes.total, b.changes.total);
        kept = λ x s st ng. b.changes.kept x s (a.changes.kept x s st ng) (a.apart x s st ng);
        only = λ x s st. ⊎_elim inl (λ u. ⊎_elim (λ v. absurd (u.1 v.0)) inr (a.changes.only x s u.0)) (b.changes.only x s st);
      };
    }
