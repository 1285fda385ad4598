-- The tie between a map and a list of bins, whatever the bins are (lists of places, trees): `MapOf w bins m` says that m is the map of w bins, in
-- terms of a yes or no, `fills`, for each bin. One law says what becomes of the map when one bin changes, for every index and every kind of
-- bin, so that no caller goes through the 32 bins. Assumes nothing.
use Rattle.std.specs.Prelude.{◌≡◌, ℕ, ◌^◌, ◌<◌, ◌≤◌, Bool, true, false, ◌≢◌, List, length, replicate, slice_index_or, slice_set, refl}
use Rattle.std.proofs.Common.{sym, ap, ◌∙◌, subst, pow_pos, length-set, get_or-set_same, get_or-set_other}
use Rattle.std.proofs.lemmas.List.{length-replicate, get_or-replicate}
use Rattle.words.specs.Logic.{pick}
use Rattle.index.specs.Bit.{tell}
use Rattle.index.specs.BinMap.{Tells, FirstBin, mark, clear, first_from}
use Rattle.index.specs.BinMapLaws.{mark_tells, clear_tells, mark_lt, clear_lt, empty_tells, first_bin, tells_one, mark_idem, clear_idem}

module _ {A : Type 0} (fills : A → Bool) (none : A) where
  abbrev pub filled_at : List A → ℕ → Bool
  filled_at bins i = fills (slice_index_or bins i none)

  -- m is the map of the w bins
  pub record MapOf (w : ℕ) (bins : List A) (m : ℕ) : Type 0 where
    pub bound : m < 2 ^ w
    pub count : length bins ≡ w
    pub tells : Tells w (filled_at bins) m

  -- bit i set or clear, as b says
  abbrev pub remark : ℕ → Bool → ℕ → ℕ
  remark i b m = pick b (mark i m) (clear i m)

  -- bin i becomes a: set or clear its bit
  pub map_set : (w i m : ℕ) (bins : List A) (a : A) → i < w → MapOf w bins m → MapOf w (slice_set bins i a) (remark i (fills a) m)
  map_set w i m bins a l t = record {
    bound = bounded (fills a);
    count = length-set bins i a ∙ t.count;
    tells = go (fills a) refl;
  }
    where
      here : fills (slice_index_or (slice_set bins i a) i none) ≡ fills a
      here = ap fills (get_or-set_same bins i a none (subst (λ (n : ℕ). i < n) (sym t.count) l))

      there : (j : ℕ) → i ≢ j → fills (slice_index_or (slice_set bins i a) j none) ≡ fills (slice_index_or bins j none)
      there j f = ap fills (get_or-set_other bins i j a none (λ e. f (sym e)))

      bounded : (b : Bool) → remark i b m < 2 ^ w
      bounded true = mark_lt w i m l t.bound
      bounded false = clear_lt w i m t.bound

      go : (b : Bool) → fills a ≡ b → Tells w (filled_at (slice_set bins i a)) (remark i b m)
      go true e = mark_tells w i m (filled_at bins) (filled_at (slice_set bins i a)) t.tells (here ∙ e) there
      go false e = clear_tells w i m (filled_at bins) (filled_at (slice_set bins i a)) l t.bound t.tells (here ∙ e) there

  -- a bin that stays filled, or stays empty, leaves the map as it is
  pub map_keep : (w i m : ℕ) (bins : List A) (a : A) → i < w → fills a ≡ filled_at bins i → MapOf w bins m → MapOf w (slice_set bins i a) m
  map_keep w i m bins a l e t = subst (λ (n : ℕ). MapOf w (slice_set bins i a) n) (go (fills a) e) (map_set w i m bins a l t)
    where
      go : (b : Bool) → b ≡ filled_at bins i → remark i b m ≡ m
      go true e = mark_idem i m (t.tells i l ∙ ap tell (sym e))
      go false e = clear_idem i m (t.tells i l ∙ ap tell (sym e))

  pub map-empty : (w : ℕ) → fills none ≡ false → MapOf w (replicate w none) 0
  map-empty w e = record {
    bound = pow_pos w;
    count = length-replicate w none;
    tells = empty_tells w (filled_at (replicate w none)) (λ i l. ap fills (get_or-replicate w i none none l) ∙ e);
  }

  -- the bins settle the map
  pub map_one : (w m n : ℕ) (bins : List A) → MapOf w bins m → MapOf w bins n → m ≡ n
  map_one w m n bins s t = tells_one w m n (filled_at bins) s.bound t.bound s.tells t.tells

  pub map_next : (w m i : ℕ) (bins : List A) → MapOf w bins m → i ≤ w → FirstBin w (filled_at bins) i (first_from w m i)
  map_next w m i bins t l = first_bin w m i (filled_at bins) t.tells l
