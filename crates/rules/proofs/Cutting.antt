-- A BLOCK CUT IN TWO, of which one part is given back: the tail when realloc or memalign shrinks, the lead when memalign moves on. Cutting is one
-- retiling step, giving back is free's law; together they grant the part that is kept, in the place of the whole. A move is the same: what
-- malloc granted is kept, and the old block is given back. Assumes nothing.
use Rattle.std.specs.Prelude.{◌≡◌, refl, true, [], ◌∷◌, ◌++◌, ◌⊎◌, ℕ, ◌+◌, ◌≤◌, ◌<◌, ◌%◌}
use Rattle.std.proofs.Common.{sym, ◌∙◌, ap, subst, inl, inr, ⊎_elim, arith}
use Rattle.words.specs.Logic.{same?}
use Rattle.words.specs.Edition.{Edition}
use Rattle.tiling.specs.Tiling.{used, size, Starts, Split, starts_split}
use Rattle.rules.specs.Heap.{Heap, heap_chunks}
use Rattle.rules.specs.Binning.{retile}
use Rattle.rules.specs.Free.{give_back}
use Rattle.rules.specs.Tidy.{TidyHeap, starts_right, starts_size, starts_apart'}
use Rattle.rules.specs.Lookup.{split_retile}
use Rattle.rules.specs.Blocks.{Changes, Granted}
use Rattle.rules.specs.Splice.{Around, around, splice_changes}
use Rattle.rules.proofs.FreeLaws.{give_changes}

-- ---- one block is kept, one is given back

-- from h to h₁ the blocks `gone₁` left and `fresh` came; the one at q is given back, and of the new ones that leaves the one at r
pub give_one : (e : Edition) (h h₁ : Heap) (gone gone₁ : ℕ → Type 0) (fresh : ℕ → ℕ → Type 0) (q v r w lo hi : ℕ) → Changes h h₁ gone₁ fresh → Starts 0 h₁.chunks q (used v) → Starts 0 h₁.chunks r (used w)
    → (r ≡ q → ⊥) → lo ≤ w → w < hi → ((x s : ℕ) → fresh x s → (x ≡ q → ⊥) → (x ≡ r) × (s ≡ w))
    → ((x s : ℕ) → Starts 0 h.chunks x (used s) → (gone x → ⊥) → (gone₁ x → ⊥) × (x ≡ q → ⊥) × (x ≡ r → ⊥)) → ((x : ℕ) → (gone₁ x → ⊥) → (x ≡ q → ⊥) → gone x → ⊥)
    → Granted h (give_back e h₁ q) r lo hi gone
give_one e h h₁ gone gone₁ fresh q v r w lo hi c sq sr ne large tight new stays left =
    record {
      words = w;
      block = g.kept r w sr ne;
      large = large;
      tight = tight;
      apart = λ x s st ng z. (stays x s st ng).2 z;
      changes = record {
        tidy = g.tidy;
        total = omega (arith, c.total, g.total);
        kept = λ x s st ng. g.kept x s (c.kept x s st (stays x s st ng).0) (stays x s st ng).1;
        only = λ x s st. ⊎_elim (λ z. absurd z) (λ u. ⊎_elim (λ z. inl (new x s z u.1)) (λ z. inr (z.0, left x z.1 u.1)) (c.only x s u.0)) (g.only x s st);
      };
    }
  where
    g : Changes h₁ (give_back e h₁ q) (λ x. x ≡ q) (λ x s. ⊥)
    g = give_changes e h₁ q v c.tidy sq

-- ---- the block at p

module _ (h : Heap) (t : TidyHeap h) (p s : ℕ) (st : Starts 0 h.chunks p (used s)) where
  -- another block starts nowhere in it
  elsewhere : (x n y : ℕ) → Starts 0 h.chunks x (used n) → (x ≡ p → ⊥) → p ≤ y → y < p + s → x ≡ y → ⊥
  elsewhere x n y sx ne lo hi q =
      ⊎_elim (λ u. ne u.0) (λ u. ⊎_elim (λ i. omega (arith, starts_size true 0 h.chunks x (used n) t.chunks sx)) (λ i. omega arith) u)
      (starts_apart' 0 h.chunks x (used n) p (used s) sx st)

  -- it may be taken as granted anew
  pub as_granted : (lo hi : ℕ) → lo ≤ s → s < hi → Granted h h p lo hi (λ x. x ≡ p)
  as_granted lo hi large tight =
      record {
        words = s;
        block = st;
        large = large;
        tight = tight;
        apart = λ x n sx ne q. ne q;
        changes = record { tidy = t; total = refl; kept = λ x n sx ne. sx; only = λ x n sx. ⊎_elim (λ q. inl (q, one x n sx q)) (λ ne. inr (sx, ne)) (same? x p) };
      }
    where
      one : (x n : ℕ) → Starts 0 h.chunks x (used n) → x ≡ p → n ≡ s
      one x n sx q =
          ⊎_elim (λ u. ap size u.1) (λ u. ⊎_elim (λ i. omega (arith, starts_size true 0 h.chunks x (used n) t.chunks sx)) (λ i. omega (arith, starts_size true 0 h.chunks p (used s) t.chunks st)) u)
          (starts_apart' 0 h.chunks x (used n) p (used s) sx st)

  -- cut into k and r words
  module _ (e : Edition) (k r : ℕ) (sum : k + r ≡ s) (v : k % 2 ≡ 0) (lk : 4 ≤ k) (lr : 4 ≤ r) where
    abbrev pub cut : Heap
    cut = heap_chunks h (retile 0 h.chunks p (used k ∷ used r ∷ []))

    d : Split 0 h.chunks p (used s)
    d = starts_split 0 h.chunks p (used s) st

    retiled : retile 0 h.chunks p (used k ∷ used r ∷ []) ≡ d.before ++ (used k ∷ used r ∷ d.after)
    retiled = split_retile h.chunks p (used s) (used k ∷ used r ∷ []) t.chunks d

    old : Around d.before (used s ∷ []) d.after
    old = around h d.before (used s ∷ []) d.after t d.whole

    halves : Changes h cut (λ x. x ≡ p) (λ x n. ((x ≡ p) × (n ≡ k)) ⊎ ((x ≡ p + k) × (n ≡ r)))
    halves =
        splice_changes h cut d.before (used s ∷ []) (used k ∷ used r ∷ []) d.after t
        (record { was = d.whole; now = retiled; sum = omega arith; fixed = inr refl; tidy = (v, lk, (omega (arith, old.tidy.0), lr, tt)); rest = old.rest; last = old.last; least = t.top_least })
        (λ x. x ≡ p) (λ x q. (s, inl (q ∙ d.place, refl))) (λ x n z. ⊎_elim (λ u. u.0 ∙ sym d.place) (λ u. absurd u) z) (λ x n. ((x ≡ p) × (n ≡ k)) ⊎ ((x ≡ p + k) × (n ≡ r)))
        (λ x n z. ⊎_elim (λ u. inl (u.0 ∙ sym d.place, ap size u.1)) (λ u. ⊎_elim (λ i. inr (i.0 ∙ ap (λ y. y + k) (sym d.place), ap size i.1)) (λ i. absurd i) u) z)

    first : Starts 0 cut.chunks p (used k)
    first = subst (λ c. Starts 0 c p (used k)) (sym retiled) (starts_right 0 d.before (used k ∷ used r ∷ d.after) p (used k) (inl (d.place, refl)))

    second : Starts 0 cut.chunks (p + k) (used r)
    second = subst (λ c. Starts 0 c (p + k) (used r)) (sym retiled) (starts_right 0 d.before (used k ∷ used r ∷ d.after) (p + k) (used r) (inr (inl (ap (λ y. y + k) d.place, refl))))

    other : (x n : ℕ) → Starts 0 h.chunks x (used n) → (x ≡ p → ⊥) → x ≡ p + k → ⊥
    other x n sx ne = elsewhere x n (p + k) sx ne (omega arith) (omega arith)

    -- the tail goes back
    pub keep_first : (lo hi : ℕ) → lo ≤ k → k < hi → Granted h (give_back e cut (p + k)) p lo hi (λ x. x ≡ p)
    keep_first lo hi large tight =
        give_one e h cut (λ x. x ≡ p) (λ x. x ≡ p) (λ x n. ((x ≡ p) × (n ≡ k)) ⊎ ((x ≡ p + k) × (n ≡ r))) (p + k) r p k lo hi halves second first (λ q. omega arith) large tight
        (λ x n z ne. ⊎_elim (λ u. u) (λ u. absurd (ne u.0)) z) (λ x n sx ne. (ne, other x n sx ne, ne)) (λ x ng ne. ng)

    -- the lead goes back
    pub keep_second : (lo hi : ℕ) → lo ≤ r → r < hi → Granted h (give_back e cut p) (p + k) lo hi (λ x. x ≡ p)
    keep_second lo hi large tight =
        give_one e h cut (λ x. x ≡ p) (λ x. x ≡ p) (λ x n. ((x ≡ p) × (n ≡ k)) ⊎ ((x ≡ p + k) × (n ≡ r))) p k (p + k) r lo hi halves first second (λ q. omega arith) large tight
        (λ x n z ne. ⊎_elim (λ u. absurd (ne u.0)) (λ u. u) z) (λ x n sx ne. (ne, ne, other x n sx ne)) (λ x ng ne. ng)
