-- Swaps for realloc and memalign: a chunk in use is split in two, takes in the free chunk after it (whole, or with a free rest), or grows into
-- the top. PINUSE of its head stays as it was. Assumes nothing.
use Rattle.std.specs.Prelude.{ℕ, ◌+◌, ◌*◌, ◌≤◌, ◌<◌, ◌%◌, ◌≡◌, refl, Bool, true, false, List, [], ◌∷◌, ◌++◌, length, get_or, set}
use Rattle.std.proofs.Common.{ap, ◌∙◌, arith, length-set, get_or-set_same, get_or-set_other}
use Rattle.words.specs.Edition.{Edition, wide, narrow, W}
use Rattle.tiling.specs.Tiling.{Chunk, used, free, end_of, last_use, UsedAt, TopAt, HeadsFrom, end_append, last_append, run_append, run_left, run_right, run_frame_in, bit}
use Rattle.tiling.specs.Steps.{free_words, free-written, free_words_out}
use Rattle.tiling.specs.Swaps.{Swap}

-- a used head of n words with the old head's PINUSE (`set_inuse`)
abbrev pub kept_head : Edition → List ℕ → ℕ → ℕ → ℕ
kept_head e w a n = W e * n + 2 + get_or w (a + 1) 0 % 2

pin : (e : Edition) (w : List ℕ) (a : ℕ) (pu : Bool) (s : ℕ) → UsedAt e w a pu s → get_or w (a + 1) 0 % 2 ≡ bit pu
pin wide w a true s k = omega (arith, k.head)
pin wide w a false s k = omega (arith, k.head)
pin narrow w a true s k = omega (arith, k.head)
pin narrow w a false s k = omega (arith, k.head)

same : (w : List ℕ) (i v : ℕ) → i < length w → get_or (set w i v) i 0 ≡ v
same w i v l = get_or-set_same w i v 0 l

other : (w : List ℕ) (i v k : ℕ) → (k ≡ i → ⊥) → get_or (set w i v) k 0 ≡ get_or w k 0
other w i v k n = get_or-set_other w i k v 0 n

abbrev pub split_used_words : Edition → List ℕ → ℕ → ℕ → ℕ → List ℕ
split_used_words e w a nb r = set (set w (a + 1) (kept_head e w a nb)) (a + nb + 1) (W e * r + 3)

abbrev pub take_next_words : Edition → List ℕ → ℕ → ℕ → List ℕ
take_next_words e w a n = set (set w (a + 1) (kept_head e w a n)) (a + n + 1) (get_or w (a + n + 1) 0 + 1)

abbrev pub grow_rest_words : Edition → List ℕ → ℕ → ℕ → ℕ → List ℕ
grow_rest_words e w a nb r = free_words e (set w (a + 1) (kept_head e w a nb)) (a + nb) r

abbrev pub grow_top_words : Edition → List ℕ → ℕ → ℕ → ℕ → List ℕ
grow_top_words e w a nb r = set (set w (a + 1) (kept_head e w a nb)) (a + nb + 1) (W e * r + 1)

module _ (e : Edition) (w : List ℕ) (a : ℕ) (pu : Bool) (s : ℕ) (k : UsedAt e w a pu s) where
  pub split_used : (nb r : ℕ) → s ≡ nb + r → nb % 2 ≡ 0 → 4 ≤ nb → 4 ≤ r → a + s < length w → Swap e w (split_used_words e w a nb r) a pu (used s ∷ []) (used nb ∷ used r ∷ [])
  split_used nb r q v l lr fit =
      record {
        long = simp length-set;
        lo = λ i z. other x (a + nb + 1) (W e * r + 3) i (λ y. omega arith) ∙ other w (a + 1) (kept_head e w a nb) i (λ y. omega arith);
        hi = λ i z. other x (a + nb + 1) (W e * r + 3) i (λ y. omega arith) ∙ other w (a + 1) (kept_head e w a nb) i (λ y. omega arith);
        run = (
          record { even = v; least = l; head = other x (a + nb + 1) (W e * r + 3) (a + 1) (λ y. omega arith) ∙ same w (a + 1) (kept_head e w a nb) (omega arith) ∙ omega (arith, pin e w a pu s k) },
          (record { even = omega (arith, k.even); least = lr; head = same x (a + nb + 1) (W e * r + 3) (rw length-set (omega arith)) ∙ omega arith }, tt),
        );
        ends = omega arith;
        lasts = refl;
      }
    where
      x : List ℕ
      x = set w (a + 1) (kept_head e w a nb)

  pub take_next : (b n : ℕ) → b % 2 ≡ 0 → UsedAt e w (a + s + b) false n → a + s + b + n < length w
      → Swap e w (take_next_words e w a (s + b)) a pu (used s ∷ free b ∷ used n ∷ []) (used (s + b) ∷ used n ∷ [])
  take_next b n v u fit =
      record {
        long = simp length-set;
        lo = λ i z. other x (a + (s + b) + 1) y i (λ q. omega arith) ∙ other w (a + 1) (kept_head e w a (s + b)) i (λ q. omega arith);
        hi = λ i z. other x (a + (s + b) + 1) y i (λ q. omega (arith, u.least)) ∙ other w (a + 1) (kept_head e w a (s + b)) i (λ q. omega arith);
        run = (
          record { even = omega (arith, k.even); least = omega (arith, k.least); head = other x (a + (s + b) + 1) y (a + 1) (λ q. omega (arith, k.least)) ∙ same w (a + 1) (kept_head e w a (s + b)) (omega arith) ∙ omega (arith, pin e w a pu s k) },
          (record { even = u.even; least = u.least; head = same x (a + (s + b) + 1) y (rw length-set (omega (arith, u.least))) ∙ ap (λ i. get_or w i 0 + 1) at ∙ omega (arith, u.head) }, tt),
        );
        ends = omega arith;
        lasts = refl;
      }
    where
      x : List ℕ
      x = set w (a + 1) (kept_head e w a (s + b))

      y : ℕ
      y = get_or w (a + (s + b) + 1) 0 + 1

      at : a + (s + b) + 1 ≡ a + s + b + 1
      at = omega arith

  pub grow_rest : (b nb r : ℕ) → s + b ≡ nb + r → b % 2 ≡ 0 → nb % 2 ≡ 0 → 4 ≤ nb → 4 ≤ r → a + s + b < length w
      → Swap e w (grow_rest_words e w a nb r) a pu (used s ∷ free b ∷ []) (used nb ∷ free r ∷ [])
  grow_rest b nb r q vb v l lr fit =
      record {
        long = simp length-set;
        lo = λ i z. free_words_out e x (a + nb) r i (λ y. omega arith) (λ y. omega arith) ∙ other w (a + 1) (kept_head e w a nb) i (λ y. omega arith);
        hi = λ i z. free_words_out e x (a + nb) r i (λ y. omega arith) (λ y. omega arith) ∙ other w (a + 1) (kept_head e w a nb) i (λ y. omega (arith, k.least));
        run = (
          record { even = v; least = l; head = free_words_out e x (a + nb) r (a + 1) (λ y. omega arith) (λ y. omega arith) ∙ same w (a + 1) (kept_head e w a nb) (omega arith) ∙ omega (arith, pin e w a pu s k) },
          (free-written e x (a + nb) r (omega (arith, k.even)) lr (rw length-set (omega arith)), tt),
        );
        ends = omega arith;
        lasts = refl;
      }
    where
      x : List ℕ
      x = set w (a + 1) (kept_head e w a nb)

pub grow_top_lem : (e : Edition) (w : List ℕ) (p : ℕ) (pu : Bool) (xs : List Chunk) (s ts nb r : ℕ) → s + ts ≡ nb + r → nb % 2 ≡ 0 → 4 ≤ nb → 1 ≤ r → HeadsFrom e w p pu (xs ++ (used s ∷ [])) ts
    → HeadsFrom e (grow_top_words e w (end_of p xs) nb r) p pu (xs ++ (used nb ∷ [])) r
grow_top_lem e w p pu xs s ts nb r q v l lr h =
    record {
      run =
          run_append e z p pu xs (used nb ∷ [])
          (run_frame_in e w z p pu xs (λ i y u. other x (a + nb + 1) (W e * r + 1) i (λ o. omega arith) ∙ other w (a + 1) (kept_head e w a nb) i (λ o. omega arith)) (run_left e w p pu xs (used s ∷ []) h.run))
          (record { even = v; least = l; head = other x (a + nb + 1) (W e * r + 1) (a + 1) (λ o. omega arith) ∙ same w (a + 1) (kept_head e w a nb) (omega (arith, t.ends)) ∙ omega (arith, pin e w a (last_use pu xs) s k) }, tt);
      top = rw (end_append p xs (used nb ∷ []), last_append pu xs (used nb ∷ [])) (record {
        even = omega (arith, k.even, t.even);
        least = omega (arith, k.even, t.even);
        apart = refl;
        ends = simp length-set (omega (arith, t.ends));
        head = same x (a + nb + 1) (W e * r + 1) (rw length-set (omega (arith, t.ends)));
        foot =
            let g : a + nb + r + 1 ≡ a + s + ts + 1 = omega arith in
            other x (a + nb + 1) (W e * r + 1) (a + nb + r + 1) (λ o. omega arith) ∙ other w (a + 1) (kept_head e w a nb) (a + nb + r + 1) (λ o. omega arith) ∙ ap (λ i. get_or w i 0) g ∙ t.foot;
      });
    }
  where
    a : ℕ
    a = end_of p xs

    x : List ℕ
    x = set w (a + 1) (kept_head e w a nb)

    z : List ℕ
    z = grow_top_words e w a nb r

    k : UsedAt e w a (last_use pu xs) s
    k = (run_right e w p pu xs (used s ∷ []) h.run).0

    t : TopAt e w (a + s) true ts
    t = rw (end_append p xs (used s ∷ []), last_append pu xs (used s ∷ [])) at h.top
