-- 32 bins of a kind, once for lists and tries: the map, the links of the record, and what the memory says of each bin; what a change of one
-- bin asks for; counts of places over all bins. Assumes nothing.
use Rattle.std.specs.Prelude.{◌≡◌, refl, Bool, List, [], ◌∷◌, ℕ, zero, suc, ◌+◌, ◌≤◌, ◌<◌, length, get_or, set, replicate}
use Rattle.std.proofs.Common.{sym, ◌∙◌, ap, ap₂, subst, ⊎_elim, arith, length-set, get_or-set_same, get_or-set_other}
use Rattle.words.specs.Fields.{Mem}
use Rattle.words.specs.Logic.{same?}
use Rattle.index.specs.MapOfBins as M

-- ---- sums over the bins

abbrev pub sum_of : {A : Type 0} → (A → ℕ) → List A → ℕ
sum_of f [] = 0
sum_of f (b ∷ bs) = f b + sum_of f bs

module _ {A : Type 0} (f : A → ℕ) (d : A) where
  pub sum_set : (bs : List A) (i : ℕ) (a : A) → i < length bs → sum_of f (set bs i a) + f (get_or bs i d) ≡ sum_of f bs + f a
  sum_set [] i a l = absurd (omega arith)
  sum_set (b ∷ bs) zero a l = omega arith
  sum_set (b ∷ bs) (suc i) a l = omega (arith, sum_set bs i a (omega arith))

  pub sum_at : (bs : List A) (i : ℕ) → i < length bs → f (get_or bs i d) ≤ sum_of f bs
  sum_at [] i l = absurd (omega arith)
  sum_at (b ∷ bs) zero l = omega arith
  sum_at (b ∷ bs) (suc i) l = omega (arith, sum_at bs i (omega arith))

  -- two bins
  pub sum_two : (bs : List A) (i j : ℕ) → i < length bs → j < length bs → (j ≡ i → ⊥) → f (get_or bs i d) + f (get_or bs j d) ≤ sum_of f bs
  sum_two [] i j l k n = absurd (omega arith)
  sum_two (b ∷ bs) zero zero l k n = absurd (n refl)
  sum_two (b ∷ bs) zero (suc j) l k n = omega (arith, sum_at bs j (omega arith))
  sum_two (b ∷ bs) (suc i) zero l k n = omega (arith, sum_at bs i (omega arith))
  sum_two (b ∷ bs) (suc i) (suc j) l k n = omega (arith, sum_two bs i j (omega arith) (omega arith) (λ z. n (ap suc z)))

  -- a positive sum has a positive part
  pub sum_find : (bs : List A) → 1 ≤ sum_of f bs → (i : ℕ) × (i < length bs) × (1 ≤ f (get_or bs i d))
  sum_find [] h = absurd (omega arith)
  sum_find (b ∷ bs) h = ⊎_elim (λ z. let q = sum_find bs (omega arith) in (suc q.0, omega (arith, q.1), q.2)) (λ n. (0, omega arith, omega arith)) (same? (f b) 0)

  pub sum_empty : (n : ℕ) → f d ≡ 0 → sum_of f (replicate n d) ≡ 0
  sum_empty zero z = refl
  sum_empty (suc n) z = omega (arith, sum_empty n z)

-- lists of one length with the same elements are the same
pub list_ext : {A : Type 0} (d : A) (xs ys : List A) → length xs ≡ length ys → ((i : ℕ) → i < length xs → get_or xs i d ≡ get_or ys i d) → xs ≡ ys
list_ext d [] [] l f = refl
list_ext d [] (y ∷ ys) l f = absurd (let z : ⊥ = omega arith in z)
list_ext d (x ∷ xs) [] l f = absurd (let z : ⊥ = omega arith in z)
list_ext d (x ∷ xs) (y ∷ ys) l f = ap₂ (λ a as'. a ∷ as') (f 0 (omega arith)) (list_ext d xs ys (omega arith) (λ i k. f (suc i) (omega arith)))

-- ---- bins

-- A bin is an A: `none` is the empty one, `fills` says whether one holds something, `link` gives the record's word for it, and `At m i a` says
-- that the memory m has a as bin i.
module _ {A : Type 0} (none : A) (fills : A → Bool) (link : A → ℕ) (At : Mem → ℕ → A → Type 0) where
  pub record Bins (m : Mem) (map : ℕ) (links : List ℕ) (bins : List A) : Type 0 where
    pub marks : M.MapOf fills none 32 bins map
    pub count : length links ≡ 32
    pub linked : (i : ℕ) → i < 32 → get_or links i 0 ≡ link (get_or bins i none)
    pub at : (i : ℕ) → i < 32 → At m i (get_or bins i none)

  -- all bins keep what the memory says of them
  pub bins_keep : (m m' : Mem) (map : ℕ) (links : List ℕ) (bins : List A) → ((i : ℕ) → i < 32 → At m i (get_or bins i none) → At m' i (get_or bins i none))
      → Bins m map links bins → Bins m' map links bins
  bins_keep m m' map links bins k b = record { marks = b.marks; count = b.count; linked = b.linked; at = λ i l. k i l (b.at i l) }

  -- bin i becomes a, and the others keep what the memory says of them
  pub bins_set : (m m' : Mem) (map map' : ℕ) (links : List ℕ) (bins : List A) (i v : ℕ) (a : A) → i < 32 → M.MapOf fills none 32 (set bins i a) map' → v ≡ link a → At m' i a
      → ((j : ℕ) → j < 32 → (j ≡ i → ⊥) → At m j (get_or bins j none) → At m' j (get_or bins j none))
      → Bins m map links bins → Bins m' map' (set links i v) (set bins i a)
  bins_set m m' map map' links bins i v a l ms q h k b =
      record {
        marks = ms;
        count = length-set links i v ∙ b.count;
        linked = λ j lj. ⊎_elim
            (λ z. subst (λ x. get_or (set links i v) x 0 ≡ link (get_or (set bins i a) x none)) (sym z) (get_or-set_same links i v 0 (omega (arith, b.count)) ∙ q ∙ ap link (sym here)))
            (λ n. get_or-set_other links i j v 0 n ∙ b.linked j lj ∙ ap link (sym (there j n)))
            (same? j i);
        at = λ j lj. ⊎_elim
            (λ z. subst (λ x. At m' x (get_or (set bins i a) x none)) (sym z) (subst (At m' i) (sym here) h))
            (λ n. subst (At m' j) (sym (there j n)) (k j lj n (b.at j lj)))
            (same? j i);
      }
    where
      here : get_or (set bins i a) i none ≡ a
      here = get_or-set_same bins i a none (omega (arith, b.marks.count))

      there : (j : ℕ) → (j ≡ i → ⊥) → get_or (set bins i a) j none ≡ get_or bins j none
      there j n = get_or-set_other bins i j a none n
