-- Lists of places: taking one out, and what that does to the counts. Assumes nothing.
use Rattle.std.specs.Prelude.{◌≡◌, List, [], ◌∷◌, ◌++◌, ℕ, ◌+◌, ◌≤◌, ◌<◌, eqb}
use Rattle.std.proofs.Common.{sym, ap, ⊎_elim, arith, eq-eqb, ne_eqb}
use Rattle.words.specs.Fields.{Mem, ind, ind_ne, count_l, count_l_append}
use Rattle.words.specs.Logic.{pick, same?}

abbrev pub remove : ℕ → List ℕ → List ℕ
remove c [] = []
remove c (y ∷ ys) = pick (eqb c y) ys (y ∷ remove c ys)

-- the list, parted at c
pub record Parted (c : ℕ) (ps : List ℕ) : Type 0 where
  pub before : List ℕ
  pub behind : List ℕ
  pub whole : ps ≡ before ++ c ∷ behind
  pub after : remove c ps ≡ before ++ behind

part_here : (c y : ℕ) (ys : List ℕ) → c ≡ y → Parted c (y ∷ ys)
part_here c y ys u = record { before = []; behind = ys; whole = ap (λ z. z ∷ ys) (sym u); after = rw (eq-eqb c y u) }

part_more : (c y : ℕ) (ys : List ℕ) → (c ≡ y → ⊥) → Parted c ys → Parted c (y ∷ ys)
part_more c y ys n q =
    record { before = y ∷ q.before; behind = q.behind; whole = ap (λ z. y ∷ z) q.whole; after = rw (ne_eqb c y n) (ap (λ z. y ∷ z) q.after) }

pub part : (c : ℕ) (ps : List ℕ) → 1 ≤ count_l c ps → Parted c ps
part c [] h = absurd (omega arith)
part c (y ∷ ys) h = ⊎_elim (λ u. part_here c y ys u) (λ n. part_more c y ys n (part c ys (omega (arith, ind_ne c y n)))) (same? c y)

pub count-remove : (x c : ℕ) (ps : List ℕ) → 1 ≤ count_l c ps → count_l x (remove c ps) + ind x c ≡ count_l x ps
count-remove x c ps h =
    let q = part c ps h in
    omega (
      arith,
      ap (count_l x) q.whole,
      ap (count_l x) q.after,
      count_l_append x q.before (c ∷ q.behind),
      count_l_append x q.before q.behind,
    )

-- the fields 1 to d - 1 of the place x are the same in both memories
abbrev pub AgreeTo : ℕ → Mem → Mem → ℕ → Type 0
AgreeTo d m m' x = (j : ℕ) → 1 ≤ j → j < d → m' x j ≡ m x j
