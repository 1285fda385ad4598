-- The next bin that holds something: the rule's search of the bins and the words' search of the map agree. Assumes nothing.
use Rattle.std.specs.Prelude.{◌≡◌, Bool, true, false, List, [], ◌∷◌, ℕ, zero, suc, ◌+◌, ◌≤◌, ◌<◌, leb, length, get_or}
use Rattle.std.proofs.Common.{sym, ◌∙◌, subst, ⊎_elim, arith, leb-true, leb-false}
use Rattle.words.specs.Logic.{pick_case, false-true, le_or_lt}
use Rattle.index.specs.BinMap.{FirstBin, first_from}
use Rattle.index.specs.MapOfBins as M
use Rattle.rules.specs.Malloc.{first_filled}

module _ {A : Type 0} (fills : A → Bool) (nil : A) where
  -- r is the first filled one of bs, which stand at j, from i on
  pub record Scan (i j : ℕ) (bs : List A) (r : ℕ) : Type 0 where
    pub from : j ≤ r
    pub within : r ≤ j + length bs
    pub empty : (k : ℕ) → i ≤ j + k → j + k < r → fills (get_or bs k nil) ≡ false
    pub filled : r < j + length bs → (k : ℕ) × (r ≡ j + k) × (i ≤ r) × (fills (get_or bs k nil) ≡ true)

  step : (i j : ℕ) (b : A) (bs : List A) (r : ℕ) → (i ≤ j → fills b ≡ false) → Scan i (suc j) bs r → Scan i j (b ∷ bs) r
  step i j b bs r f s =
      record {
        from = omega (arith, s.from);
        within = omega (arith, s.within);
        empty = gap;
        filled = λ l. let q = s.filled (omega arith) in (suc q.0, omega (arith, q.1), q.2, q.3);
      }
    where
      gap : (k : ℕ) → i ≤ j + k → j + k < r → fills (get_or (b ∷ bs) k nil) ≡ false
      gap zero l u = f (omega arith)
      gap (suc k) l u = s.empty k (omega arith) (omega arith)

  pub scan : (i j : ℕ) (bs : List A) → Scan i j bs (first_filled fills i j bs)
  scan i j [] = record { from = omega arith; within = omega arith; empty = λ k l u. absurd (omega arith); filled = λ l. absurd (omega arith) }
  scan i j (b ∷ bs) =
      pick_case (Scan i j (b ∷ bs)) (leb i j)
      (λ z. let l = leb-true i j z in pick_case (Scan i j (b ∷ bs)) (fills b)
      (λ y. record { from = omega arith; within = omega arith; empty = λ k p u. absurd (omega arith); filled = λ p. (0, omega arith, l, y) })
      (λ y. step i j b bs (first_filled fills i (suc j) bs) (λ _. y) (scan i (suc j) bs)))
      (λ z. let l = leb-false i j z in step i j b bs (first_filled fills i (suc j) bs) (λ p. absurd (omega arith)) (scan i (suc j) bs))

  first_one : (w i r r' : ℕ) (P : ℕ → Bool) → FirstBin w P i r → FirstBin w P i r' → r ≤ r'
  first_one w i r r' P a b =
      ⊎_elim (λ l. l) (λ l. absurd (false-true (sym (a.empty r' b.from l) ∙ b.filled (omega (arith, a.within))))) (le_or_lt r r')

  -- the rule's answer is the first filled bin
  pub first_is : (i : ℕ) (bins : List A) → length bins ≡ 32 → i ≤ 32 → FirstBin 32 (M.filled_at fills nil bins) i (first_filled fills i 0 bins)
  first_is i bins c l =
      record {
        from = ⊎_elim (λ u. omega (arith, s.within, u)) (λ u. (s.filled (omega arith)).2) (le_or_lt 32 y);
        within = omega (arith, s.within);
        empty = λ k p u. s.empty k (omega arith) (omega arith);
        filled = λ p. hit (s.filled (omega arith));
      }
    where
      y : ℕ
      y = first_filled fills i 0 bins

      s : Scan i 0 bins y
      s = scan i 0 bins

      hit : (k : ℕ) × (y ≡ 0 + k) × (i ≤ y) × (fills (get_or bins k nil) ≡ true) → fills (get_or bins y nil) ≡ true
      hit q = let z : q.0 ≡ y = omega (arith, q.1) in subst (λ k. fills (get_or bins k nil) ≡ true) z q.3

  -- and the map's
  pub first_agrees : (m i : ℕ) (bins : List A) → M.MapOf fills nil 32 bins m → i ≤ 32 → first_from 32 m i ≡ first_filled fills i 0 bins
  first_agrees m i bins t l =
      omega (arith, first_one 32 i x y (M.filled_at fills nil bins) a b, first_one 32 i y x (M.filled_at fills nil bins) b a)
    where
      x : ℕ
      x = first_from 32 m i

      y : ℕ
      y = first_filled fills i 0 bins

      a : FirstBin 32 (M.filled_at fills nil bins) i x
      a = M.map_next fills nil 32 m i bins t l

      b : FirstBin 32 (M.filled_at fills nil bins) i y
      b = first_is i bins t.count l
