-- The newest chunk of a small bin, and the bit of a bin, in a held heap. Assumes nothing.
use Rattle.std.specs.Prelude.{◌≡◌, refl, Bool, true, false, List, [], ◌∷◌, ℕ, ◌/◌, ◌≤◌, ◌<◌, eqb, get_or}
use Rattle.std.proofs.Common.{sym, ◌∙◌, ap, subst, arith}
use Rattle.words.specs.Edition.{Edition, W, dec_enc}
use Rattle.words.specs.Fields.{ind_self, count_l}
use Rattle.index.specs.Bit.{bit, tell}
use Rattle.tiling.specs.Tiling.{free, Starts}
use Rattle.rules.specs.BinOf.{bin_size}
use Rattle.rules.specs.Heap.{Heap, holds_some}
use Rattle.holds.specs.Bins.{sum_at}
use Rattle.holds.specs.Holds.{in_dv, head_link}
use Rattle.holds.specs.Unique.{once}
use Rattle.holds.specs.Where.{small_member}
use Rattle.holds.specs.Ops.{State}
use Rattle.holds.specs.Bin.{Says}

-- the newest of small bin i
module _ (e : Edition) (t : State) (h : Heap) (n : Says e t h []) (i : ℕ) (l : i < 32) (x : ℕ) (xs : List ℕ) (q : get_or h.small i [] ≡ x ∷ xs) where
  pub first_link : get_or t.ctl.heads i 0 / W e ≡ x
  first_link = ap (λ z. z / W e) (n.small.linked i l ∙ ap (head_link e) q) ∙ dec_enc e x

  first_in : 1 ≤ count_l x (get_or h.small i [])
  first_in = subst (λ z. 1 ≤ count_l x z) (sym q) (let u : 1 ≤ count_l x (x ∷ xs) = omega (arith, ind_self x) in u)

  pub first_starts : Starts 0 h.chunks x (free (bin_size e i))
  first_starts = small_member e t.ctl t.words h [] n i l x first_in

  pub first_not_dv : in_dv h.dv x ≡ 0
  first_not_dv = omega (arith, once e t.ctl t.words h [] n x, first_in, sum_at (count_l x) [] h.small i (omega (arith, n.small.marks.count)))

-- the bit of a bin
pub bit_small : (e : Edition) (t : State) (h : Heap) → Says e t h [] → (i : ℕ) → i < 32 → eqb (bit i t.ctl.small_map) 1 ≡ holds_some (get_or h.small i [])
bit_small e t h n i l = ap (λ z. eqb z 1) (n.small.marks.tells i l) ∙ told (holds_some (get_or h.small i []))
  where
    told : (b : Bool) → eqb (tell b) 1 ≡ b
    told true = refl
    told false = refl
