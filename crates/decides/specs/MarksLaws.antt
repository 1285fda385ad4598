-- The laws of `Marks`: a set as a count of places. `in_set e m x` is 1 where the place x (in words) is in the set and 0 where it is not, so that
-- what a walk takes out of a set is said by sums: what is left, and what was taken, is what was there. The bits of the numbers appear here
-- and nowhere above. A set holds at most 4,096 places, so no walk through a set is longer. For all sets of 64 numbers of 64 bits.
-- Assumes nothing.
use Rattle.std.specs.Prelude.{◌≡◌, refl, Bool, true, false, ◌&&◌, List, [], ◌∷◌, ◌⊎◌, ℕ, zero, suc, ◌+◌, ◌*◌, ◌/◌, ◌%◌, ◌^◌, ◌≤◌, ◌<◌, eqb, length, get_or, set, replicate}
use Rattle.std.proofs.Common.{sym, ◌∙◌, ap, subst, inl, inr, ⊎_elim, arith, pow_pos, length-set, length-append, get_or-set_same, get_or-set_other, eqb-true, ltb-true, eq-eqb, lt-ltb}
use Rattle.std.proofs.lemmas.List.{length-replicate, get_or-replicate}
use Rattle.std.proofs.Math.ListN.{get_or-eq_default}
use Rattle.words.specs.Logic.{pick, pick_case, same?, lt_or_le, false-true}
use Rattle.words.specs.Edition.{Edition, wide, narrow, enc, enc_inj}
use Rattle.words.specs.Fields.{ind, ind_eq, ind_ne, ind_self, count_l}
use Rattle.words.specs.Places.{remove, part, count-remove}
use Rattle.index.specs.Bit.{bit}
use Rattle.index.specs.BinMap.{mark, clear}
use Rattle.index.specs.BinMapLaws.{mark_same, mark_other, mark_lt, clear_same, clear_other, clear_lt}
use Rattle.index.specs.Digits.{bit_of_zero, bits_ext}
use Rattle.marks.specs.Marks.{granule, holdable, has_mark, lacks_mark, set_mark, drop_mark, Checked, yes, no, take_mark, no_marks, empty_from, is_empty}

-- how often the set has the place x: once or never
abbrev pub in_set : Edition → List ℕ → ℕ → ℕ
in_set e m x = pick (has_mark e m (enc e x)) 1 0

-- the numbers of a set
pub record Sized (m : List ℕ) : Type 0 where
  pub long : length m ≡ 64
  pub below : (i : ℕ) → get_or m i 0 < 2 ^ 64

-- ---- several tests at once

pub and_left : (a b : Bool) → (a && b) ≡ true → a ≡ true
and_left true b h = refl
and_left false b h = h

pub and_right : (a b : Bool) → (a && b) ≡ true → b ≡ true
and_right true b h = h
and_right false b h = false-true h

pub and_both : (a b : Bool) → a ≡ true → b ≡ true → (a && b) ≡ true
and_both true b p q = q
and_both false b p q = p

-- ---- the places that a set can hold

pub in_most : (e : Edition) (m : List ℕ) (x : ℕ) → in_set e m x ≤ 1
in_most e m x = pick_case (λ z. z ≤ 1) (has_mark e m (enc e x)) (λ _. omega arith) (λ _. omega arith)

granule_of : (e : Edition) (x : ℕ) → granule e (enc e x) ≡ x / 2
granule_of wide x = omega arith
granule_of narrow x = omega arith

holds_place : (e : Edition) (off : ℕ) → holdable e off ≡ true → (x : ℕ) × (off ≡ enc e x) × (x % 2 ≡ 0) × (x < 8192)
unfolding holdable
holds_place wide off h =
    let a = eqb-true (off % 16) 0 (and_left _ _ h) in
    let b = ltb-true (off / 16) 4096 (and_right (eqb (off % 16) 0) _ h) in
    (2 * (off / 16), omega arith, omega arith, omega arith)
holds_place narrow off h =
    let a = eqb-true (off % 8) 0 (and_left _ _ h) in
    let b = ltb-true (off / 8) 4096 (and_right (eqb (off % 8) 0) _ h) in
    (2 * (off / 8), omega arith, omega arith, omega arith)

place_holds : (e : Edition) (x : ℕ) → x % 2 ≡ 0 → x < 8192 → holdable e (enc e x) ≡ true
unfolding holdable
place_holds wide x v l = and_both _ _ (eq-eqb (8 * x % 16) 0 (omega arith)) (lt-ltb (8 * x / 16) 4096 (omega arith))
place_holds narrow x v l = and_both _ _ (eq-eqb (4 * x % 8) 0 (omega arith)) (lt-ltb (4 * x / 8) 4096 (omega arith))

pub in_place : (e : Edition) (m : List ℕ) (off : ℕ) → has_mark e m off ≡ true → (x : ℕ) × (off ≡ enc e x) × (x % 2 ≡ 0) × (x < 8192)
unfolding has_mark
in_place e m off h = holds_place e off (and_left _ _ h)

-- the bit of granule g
abbrev pub digit : List ℕ → ℕ → ℕ
digit m g = bit (g % 64) (get_or m (g / 64) 0)

digit_lt : (m : List ℕ) (g : ℕ) → digit m g < 2
digit_lt m g = omega arith

has_is : (e : Edition) (m : List ℕ) (x : ℕ) → x % 2 ≡ 0 → x < 8192 → has_mark e m (enc e x) ≡ eqb (digit m (x / 2)) 1
unfolding has_mark
has_is e m x v l = rw (place_holds e x v l, granule_of e x) refl

lacks_is : (e : Edition) (m : List ℕ) (x : ℕ) → x % 2 ≡ 0 → x < 8192 → lacks_mark e m (enc e x) ≡ eqb (digit m (x / 2)) 0
unfolding lacks_mark
lacks_is e m x v l = rw (place_holds e x v l, granule_of e x) refl

in_at : (e : Edition) (m : List ℕ) (x : ℕ) → x % 2 ≡ 0 → x < 8192 → in_set e m x ≡ digit m (x / 2)
in_at e m x v l = ap (λ b. pick b 1 0) (has_is e m x v l) ∙ go (digit m (x / 2)) (digit_lt m (x / 2))
  where
    go : (d : ℕ) → d < 2 → pick (eqb d 1) 1 0 ≡ d
    go zero h = refl
    go (suc zero) h = refl
    go (suc (suc d)) h = absurd (omega arith)

-- what is in a set is a place; what is no place is in none
pub in_even : (e : Edition) (m : List ℕ) (x : ℕ) → 1 ≤ in_set e m x → (x % 2 ≡ 0) × (x < 8192)
in_even e m x = pick_case (λ z. 1 ≤ z → (x % 2 ≡ 0) × (x < 8192)) (has_mark e m (enc e x))
    (λ h _. let p = in_place e m (enc e x) h in let q : x ≡ p.0 = enc_inj e x p.0 p.1 in (omega (arith, p.2), omega (arith, p.3)))
    (λ _ z. absurd (let b : ⊥ = omega arith in b))

in_not : (e : Edition) (m : List ℕ) (x : ℕ) → ((x % 2 ≡ 0) × (x < 8192) → ⊥) → in_set e m x ≡ 0
in_not e m x n = ⊎_elim (λ z. z) (λ z. absurd (n (in_even e m x (omega arith)))) (same? (in_set e m x) 0)

-- the same of a place or of none
by_place : (x : ℕ) → ((x % 2 ≡ 0) × (x < 8192)) ⊎ ((x % 2 ≡ 0) × (x < 8192) → ⊥)
by_place x = ⊎_elim (λ v. ⊎_elim (λ l. inl (v, l)) (λ l. inr (λ p. omega arith)) (lt_or_le x 8192)) (λ v. inr (λ p. v p.0)) (same? (x % 2) 0)

-- ---- one number of the set changes

pub digit_here : (m : List ℕ) (g v : ℕ) → length m ≡ 64 → g < 4096 → digit (set m (g / 64) v) g ≡ bit (g % 64) v
digit_here m g v l b = ap (bit (g % 64)) (get_or-set_same m (g / 64) v 0 (omega arith))

pub digit_other : (m : List ℕ) (g v j : ℕ) → length m ≡ 64 → g < 4096 → (g ≡ j → ⊥)
    → ((i : ℕ) → i < 64 → (g % 64 ≡ i → ⊥) → bit i v ≡ bit i (get_or m (g / 64) 0)) → digit (set m (g / 64) v) j ≡ digit m j
digit_other m g v j l b n f =
    ⊎_elim
    (λ (q : j / 64 ≡ g / 64). ap (λ i. bit (j % 64) (get_or (set m (g / 64) v) i 0)) q ∙ ap (bit (j % 64)) (get_or-set_same m (g / 64) v 0 (omega arith))
    ∙ f (j % 64) (omega arith) (λ z. n (omega arith)) ∙ ap (λ i. bit (j % 64) (get_or m i 0)) (sym q))
    (λ q. ap (bit (j % 64)) (get_or-set_other m (g / 64) (j / 64) v 0 q))
    (same? (j / 64) (g / 64))

sized_number : (m : List ℕ) (g v : ℕ) → v < 2 ^ 64 → Sized m → Sized (set m g v)
sized_number m g v l s =
    record {
      long = length-set m g v ∙ s.long;
      below = λ i. ⊎_elim
          (λ (q : i ≡ g). ⊎_elim (λ h. subst (λ z. z < 2 ^ 64) (sym (ap (λ j. get_or (set m g v) j 0) q ∙ get_or-set_same m g v 0 h)) l)
          (λ h. subst (λ z. z < 2 ^ 64) (sym (get_or-eq_default (set m g v) 0 {n = i} (omega (arith, length-set m g v)))) (pow_pos 64)) (lt_or_le g (length m)))
          (λ n. subst (λ z. z < 2 ^ 64) (sym (get_or-set_other m g i v 0 n)) (s.below i))
          (same? i g);
    }

low : (g : ℕ) → g % 64 < 64
low g = omega arith

pub sized_set : (e : Edition) (m : List ℕ) (off : ℕ) → Sized m → Sized (set_mark e m off)
unfolding set_mark
sized_set e m off s =
    let g = granule e off in
    pick_case Sized (holdable e off) (λ _. sized_number m (g / 64) (mark (g % 64) (get_or m (g / 64) 0)) (mark_lt 64 (g % 64) (get_or m (g / 64) 0) (low g) (s.below (g / 64))) s) (λ _. s)

pub sized_drop : (e : Edition) (m : List ℕ) (off : ℕ) → Sized m → Sized (drop_mark e m off)
unfolding drop_mark
sized_drop e m off s =
    let g = granule e off in
    pick_case Sized (holdable e off) (λ _. sized_number m (g / 64) (clear (g % 64) (get_or m (g / 64) 0)) (clear_lt 64 (g % 64) (get_or m (g / 64) 0) (s.below (g / 64))) s) (λ _. s)

pub sized_take : (e : Edition) (m : List ℕ) (off : ℕ) → Sized m → Sized (take_mark e m off).marks
unfolding take_mark
sized_take e m off s = pick_case (λ (c : Checked). Sized c.marks) (has_mark e m off) (λ _. sized_drop e m off s) (λ _. s)

-- ---- a place is set, is taken

set_is : (e : Edition) (m : List ℕ) (x : ℕ) → x % 2 ≡ 0 → x < 8192 → set_mark e m (enc e x) ≡ set m (x / 2 / 64) (mark (x / 2 % 64) (get_or m (x / 2 / 64) 0))
unfolding set_mark
set_is e m x v l = rw (place_holds e x v l, granule_of e x) refl

drop_is : (e : Edition) (m : List ℕ) (x : ℕ) → x % 2 ≡ 0 → x < 8192 → drop_mark e m (enc e x) ≡ set m (x / 2 / 64) (clear (x / 2 % 64) (get_or m (x / 2 / 64) 0))
unfolding drop_mark
drop_is e m x v l = rw (place_holds e x v l, granule_of e x) refl

pub set_there : (e : Edition) (m : List ℕ) (x : ℕ) → Sized m → x % 2 ≡ 0 → x < 8192 → (y : ℕ) → in_set e m x ≡ 0 → in_set e (set_mark e m (enc e x)) y ≡ in_set e m y + ind y x
set_there e m x s v l y z =
    ⊎_elim
    (λ (p : (y % 2 ≡ 0) × (y < 8192)). ⊎_elim
    (λ (q : y ≡ x). omega (arith, ap (in_set e m') q, in_at e m' x v l, ap (λ w. digit w g) (set_is e m x v l), digit_here m g n s.long (omega arith), mark_same (g % 64) (get_or m (g / 64) 0), ap (in_set e m) q, z, ind_eq y x q))
    (λ (q : y ≡ x → ⊥). omega (
      arith,
      in_at e m' y p.0 p.1,
      ap (λ w. digit w (y / 2)) (set_is e m x v l),
      digit_other m g n (y / 2) s.long (omega arith) (λ h. q (omega arith)) (λ i _ f. mark_other (g % 64) i (get_or m (g / 64) 0) f),
      in_at e m y p.0 p.1,
      ind_ne y x q,
    ))
    (same? y x))
    (λ (p : (y % 2 ≡ 0) × (y < 8192) → ⊥). omega (arith, in_not e m' y p, in_not e m y p, ind_ne y x (λ q. p (omega arith, omega arith))))
    (by_place y)
  where
    g : ℕ
    g = x / 2

    n : ℕ
    n = mark (g % 64) (get_or m (g / 64) 0)

    m' : List ℕ
    m' = set_mark e m (enc e x)

drop_there : (e : Edition) (m : List ℕ) (x : ℕ) → Sized m → x % 2 ≡ 0 → x < 8192 → (y : ℕ) → in_set e m x ≡ 1 → in_set e (drop_mark e m (enc e x)) y + ind y x ≡ in_set e m y
drop_there e m x s v l y z =
    ⊎_elim
    (λ (p : (y % 2 ≡ 0) × (y < 8192)). ⊎_elim
    (λ (q : y ≡ x). omega (
      arith,
      ap (in_set e m') q,
      in_at e m' x v l,
      ap (λ w. digit w g) (drop_is e m x v l),
      digit_here m g n s.long (omega arith),
      clear_same 64 (g % 64) (get_or m (g / 64) 0) (low g) (s.below (g / 64)),
      ap (in_set e m) q,
      z,
      ind_eq y x q,
    ))
    (λ (q : y ≡ x → ⊥). omega (
      arith,
      in_at e m' y p.0 p.1,
      ap (λ w. digit w (y / 2)) (drop_is e m x v l),
      digit_other m g n (y / 2) s.long (omega arith) (λ h. q (omega arith)) (λ i k f. clear_other 64 (g % 64) i (get_or m (g / 64) 0) (low g) k (s.below (g / 64)) f),
      in_at e m y p.0 p.1,
      ind_ne y x q,
    ))
    (same? y x))
    (λ (p : (y % 2 ≡ 0) × (y < 8192) → ⊥). omega (arith, in_not e m' y p, in_not e m y p, ind_ne y x (λ q. p (omega arith, omega arith))))
    (by_place y)
  where
    g : ℕ
    g = x / 2

    n : ℕ
    n = clear (g % 64) (get_or m (g / 64) 0)

    m' : List ℕ
    m' = drop_mark e m (enc e x)

-- what a take that says yes took
pub take_yes : (e : Edition) (m : List ℕ) (off : ℕ) → Sized m → (take_mark e m off).ok ≡ true
    → (x : ℕ) × (off ≡ enc e x) × (in_set e m x ≡ 1) × ((y : ℕ) → in_set e (take_mark e m off).marks y + ind y x ≡ in_set e m y)
unfolding take_mark
take_yes e m off s =
    pick_case (λ (c : Checked). c.ok ≡ true → (x : ℕ) × (off ≡ enc e x) × (in_set e m x ≡ 1) × ((y : ℕ) → in_set e c.marks y + ind y x ≡ in_set e m y)) (has_mark e m off)
    (λ h _. go (in_place e m off h) h) (λ _ q. false-true q)
  where
    go : (x : ℕ) × (off ≡ enc e x) × (x % 2 ≡ 0) × (x < 8192) → has_mark e m off ≡ true
        → (x : ℕ) × (off ≡ enc e x) × (in_set e m x ≡ 1) × ((y : ℕ) → in_set e (drop_mark e m off) y + ind y x ≡ in_set e m y)
    go p h =
        let i : in_set e m p.0 ≡ 1 = ap (λ b. pick b 1 0) (ap (has_mark e m) (sym p.1) ∙ h) in
        (p.0, p.1, i, (λ y. ap (λ o. in_set e (drop_mark e m o) y + ind y p.0) p.1 ∙ drop_there e m p.0 s p.2 p.3 y i))

-- what is in the set is taken
pub take_there : (e : Edition) (m : List ℕ) (x : ℕ) → in_set e m x ≡ 1 → (take_mark e m (enc e x)).ok ≡ true
unfolding take_mark
take_there e m x = go (has_mark e m (enc e x))
  where
    go : (b : Bool) → ◌≡◌ {A = ℕ} (pick b 1 0) 1 → (pick {A = Checked} b (yes (drop_mark e m (enc e x))) (no m)).ok ≡ true
    go true h = refl
    go false h = absurd (let z : ⊥ = omega arith in z)

-- ---- a place that is not in the set

pub lacks_yes : (e : Edition) (m : List ℕ) (off : ℕ) → lacks_mark e m off ≡ true → (x : ℕ) × (off ≡ enc e x) × (x % 2 ≡ 0) × (x < 8192) × (in_set e m x ≡ 0)
unfolding lacks_mark
lacks_yes e m off h =
    let p = holds_place e off (and_left _ _ h) in
    let l : lacks_mark e m (enc e p.0) ≡ true = ap (lacks_mark e m) (sym p.1) ∙ h in
    (p.0, p.1, p.2, p.3, in_at e m p.0 p.2 p.3 ∙ eqb-true (digit m (p.0 / 2)) 0 (sym (lacks_is e m p.0 p.2 p.3) ∙ l))

pub lacks_there : (e : Edition) (m : List ℕ) (x : ℕ) → x % 2 ≡ 0 → x < 8192 → in_set e m x ≡ 0 → lacks_mark e m (enc e x) ≡ true
lacks_there e m x v l z = lacks_is e m x v l ∙ eq-eqb (digit m (x / 2)) 0 (sym (in_at e m x v l) ∙ z)

-- ---- the empty set

no_number : (i : ℕ) → get_or no_marks i 0 ≡ 0
unfolding no_marks
no_number i = ⊎_elim (λ l. get_or-replicate 64 i 0 0 l) (λ l. get_or-eq_default (replicate 64 0) 0 {n = i} (omega (arith, length-replicate {A = ℕ} 64 0))) (lt_or_le i 64)

pub sized_none : Sized no_marks
unfolding no_marks
sized_none = record { long = length-replicate {A = ℕ} 64 0; below = λ i. subst (λ z. z < 2 ^ 64) (sym (no_number i)) (pow_pos 64) }

-- numbers that are 0 hold nothing
zeros_in : (e : Edition) (m : List ℕ) (x : ℕ) → ((i : ℕ) → i < 64 → get_or m i 0 ≡ 0) → in_set e m x ≡ 0
zeros_in e m x f =
    ⊎_elim (λ (p : (x % 2 ≡ 0) × (x < 8192)). in_at e m x p.0 p.1 ∙ ap (bit (x / 2 % 64)) (f (x / 2 / 64) (omega arith)) ∙ bit_of_zero (x / 2 % 64)) (λ p. in_not e m x p) (by_place x)

pub none_in : (e : Edition) (x : ℕ) → in_set e no_marks x ≡ 0
none_in e x = zeros_in e no_marks x (λ i _. no_number i)

empty_yes : (m : List ℕ) (k i : ℕ) → empty_from m k i ≡ true → (j : ℕ) → i ≤ j → j < i + k → get_or m j 0 ≡ 0
unfolding empty_from
empty_yes m zero i h j a b = absurd (omega arith)
empty_yes m (suc k) i h j a b =
    ⊎_elim (λ (q : j ≡ i). ap (λ z. get_or m z 0) q ∙ eqb-true (get_or m i 0) 0 (and_left _ _ h)) (λ n. empty_yes m k (i + 1) (and_right (eqb (get_or m i 0) 0) _ h) j (omega arith) (omega arith)) (same? j i)

empty_there : (m : List ℕ) (k i : ℕ) → ((j : ℕ) → i ≤ j → j < i + k → get_or m j 0 ≡ 0) → empty_from m k i ≡ true
unfolding empty_from
empty_there m zero i f = refl
empty_there m (suc k) i f = and_both _ _ (eq-eqb (get_or m i 0) 0 (f i (omega arith) (omega arith))) (empty_there m k (i + 1) (λ j a b. f j (omega arith) (omega arith)))

pub empty_in : (e : Edition) (m : List ℕ) (x : ℕ) → is_empty m ≡ true → in_set e m x ≡ 0
unfolding is_empty
empty_in e m x h = zeros_in e m x (λ i l. empty_yes m 64 0 h i (omega arith) (omega arith))

pub all_empty : (e : Edition) (m : List ℕ) → Sized m → ((x : ℕ) → in_set e m x ≡ 0) → is_empty m ≡ true
unfolding is_empty
all_empty e m s f = empty_there m 64 0 (λ j _ b. bits_ext 64 (get_or m j 0) 0 (s.below j) (pow_pos 64) (λ i l. clear-bit j i (omega arith) l ∙ sym (bit_of_zero i)))
  where
    clear-bit : (j i : ℕ) → j < 64 → i < 64 → bit i (get_or m j 0) ≡ 0
    clear-bit j i b l =
        let x = 2 * (64 * j + i) in
        let q : x / 2 / 64 ≡ j = omega arith in
        let r : x / 2 % 64 ≡ i = omega arith in
        ap (λ k. bit k (get_or m j 0)) (sym r) ∙ ap (λ k. bit (x / 2 % 64) (get_or m k 0)) (sym q) ∙ sym (in_at e m x (omega arith) (omega arith)) ∙ f x

-- ---- a set has at most 4,096 places

empty_list : (ps : List ℕ) → ((y : ℕ) → 1 ≤ count_l y ps → ⊥) → length ps ≡ 0
empty_list [] f = refl
empty_list (p ∷ ps) f = absurd (f p (omega (arith, ind_self p)))

-- even places below 2 n, each at most once, are at most n
few : (n : ℕ) (ps : List ℕ) → ((y : ℕ) → count_l y ps ≤ 1) → ((y : ℕ) → 1 ≤ count_l y ps → (y % 2 ≡ 0) × (y < n + n)) → length ps ≤ n
few zero ps d f = omega (arith, empty_list ps (λ y u. omega (arith, (f y u).1)))
few (suc n) ps d f =
    ⊎_elim
    (λ (z : count_l (n + n) ps ≡ 0). omega (arith, few n ps d (λ y u. let q = f y u in (q.0, small y q.0 q.1 (λ h. omega (arith, ap (λ v. count_l v ps) h))))))
    (λ (z : count_l (n + n) ps ≡ 0 → ⊥). let k : 1 ≤ count_l (n + n) ps = omega arith in
    let q = part (n + n) ps k in
    omega (
      arith,
      few n (remove (n + n) ps) (λ y. omega (arith, d y, count-remove y (n + n) ps k))
          (λ y u. let r = f y (omega (arith, count-remove y (n + n) ps k)) in
          (r.0, small y r.0 r.1 (λ h. omega (arith, d y, count-remove y (n + n) ps k, ind_eq y (n + n) h)))),
      ap length q.whole,
      length-append q.before ((n + n) ∷ q.behind),
      ap length q.after,
      length-append q.before q.behind,
    ))
    (same? (count_l (n + n) ps) 0)
  where
    small : (y : ℕ) → y % 2 ≡ 0 → y < suc n + suc n → (y ≡ n + n → ⊥) → y < n + n
    small y v l h = omega arith

pub fewer : (e : Edition) (m : List ℕ) (ps : List ℕ) → ((y : ℕ) → count_l y ps ≤ in_set e m y) → length ps ≤ 4096
fewer e m ps f = few 4096 ps (λ y. omega (arith, f y, in_most e m y)) (λ y u. in_even e m y (omega (arith, f y)))
