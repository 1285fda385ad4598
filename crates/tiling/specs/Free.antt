-- The free chunks of a tiling, by counts; and that writes to the links of free chunks leave the heads, the feet and every other chunk's fields.
-- Assumes nothing.
use Rattle.std.specs.Prelude.{ℕ, ◌+◌, ◌≤◌, ◌<◌, ◌≡◌, refl, Bool, true, false, List, [], ◌∷◌, ◌++◌, ◌⊎◌, length, get_or}
use Rattle.std.proofs.Common.{sym, ap, subst, inl, inr, ⊎_elim, arith}
use Rattle.words.specs.Edition.{Edition}
use Rattle.words.specs.Fields.{ind, ind_eq, ind_ne, Write, write_w, Within, writes_spare, within_spares, length-write_w, Spaced, Far}
use Rattle.words.specs.Logic.{same?}
use Rattle.tiling.specs.Tiling.{Chunk, used, free, size, end_of, Run, Heads, Reads, HeadsReads, heads_frame, Starts, starts_in, starts_at_lem, starts_apart, reads_in}

-- how many free chunks start at x: 0 or 1
abbrev pub free_at : ℕ → List Chunk → ℕ → ℕ
free_at p [] x = 0
free_at p (used s ∷ cs) x = free_at (p + s) cs x
free_at p (free s ∷ cs) x = ind x p + free_at (p + s) cs x

pub free_append : (p : ℕ) (xs ys : List Chunk) (x : ℕ) → free_at p (xs ++ ys) x ≡ free_at p xs x + free_at (end_of p xs) ys x
free_append p [] ys x = omega arith
free_append p (used s ∷ xs) ys x = free_append (p + s) xs ys x
free_append p (free s ∷ xs) ys x = omega (arith, free_append (p + s) xs ys x)

pub free_starts : (p : ℕ) (cs : List Chunk) (x : ℕ) → 1 ≤ free_at p cs x → (s : ℕ) × Starts p cs x (free s)
free_starts p [] x h = absurd (omega arith)
free_starts p (used s ∷ cs) x h = let q = free_starts (p + s) cs x h in (q.0, inr q.1)
free_starts p (free s ∷ cs) x h =
    ⊎_elim (λ u. (s, inl (u, refl))) (λ n. let q = free_starts (p + s) cs x (omega (arith, ind_ne x p n)) in (q.0, inr q.1)) (same? x p)

used_free : {A : Type 0} (s t : ℕ) → free s ≡ used t → A
used_free s t q = let z : ◌≡◌ {A = ℕ} 0 1 = cc in absurd (let b : ⊥ = omega arith in b)

pub starts_free : (p : ℕ) (cs : List Chunk) (x s : ℕ) → Starts p cs x (free s) → 1 ≤ free_at p cs x
starts_free p [] x s h = absurd h
starts_free p (used t ∷ cs) x s (inl h) = used_free s t h.1
starts_free p (used t ∷ cs) x s (inr h) = starts_free (p + t) cs x s h
starts_free p (free t ∷ cs) x s (inl h) = omega (arith, ind_eq x p h.0)
starts_free p (free t ∷ cs) x s (inr h) = omega (arith, starts_free (p + t) cs x s h)

module _ (e : Edition) (w : List ℕ) where
  pub free_range : (p : ℕ) (pu : Bool) (cs : List Chunk) (x : ℕ) → Run e w p pu cs → 1 ≤ free_at p cs x → (p ≤ x) × (x + 4 ≤ end_of p cs)
  free_range p pu cs x h u =
      let q = free_starts p cs x u in
      let a = starts_in e w p pu cs x (free q.0) h q.1 in
      let b = starts_at_lem e w p pu cs x (free q.0) h q.1 in
      omega (arith, a, b.1.least)

  pub free_one : (p : ℕ) (pu : Bool) (cs : List Chunk) (x : ℕ) → Run e w p pu cs → free_at p cs x ≤ 1
  free_one p pu [] x h = omega arith
  free_one p pu (used s ∷ cs) x h = free_one (p + s) true cs x h.1
  free_one p pu (free s ∷ cs) x h =
      ⊎_elim
      (λ u. ⊎_elim (λ z. omega (arith, ind_eq x p u))
      (λ z. absurd (let q = free_range (p + s) false cs x h.1 (omega (arith, zero_or z)) in omega (arith, q, h.0.least)))
      (same? (free_at (p + s) cs x) 0))
      (λ n. omega (arith, ind_ne x p n, free_one (p + s) false cs x h.1))
      (same? x p)
    where
      zero_or : (free_at (p + s) cs x ≡ 0 → ⊥) → 1 ≤ free_at (p + s) cs x
      zero_or z = omega arith

  -- the inner words of a free chunk are none that the run rests on
  pub inner_free : (p : ℕ) (pu : Bool) (cs : List Chunk) (q s i : ℕ) → Run e w p pu cs → Starts p cs q (free s)
      → q + 2 ≤ i → i < q + s → Reads p cs i → ⊥
  inner_free p pu [] q s i h t lo hi r = absurd r
  inner_free p pu (free k ∷ cs) q s i h (inl t) lo hi (inl r) = omega arith
  inner_free p pu (free k ∷ cs) q s i h (inl t) lo hi (inr (inl r)) = omega (arith, ap size t.1)
  inner_free p pu (free k ∷ cs) q s i h (inl t) lo hi (inr (inr r)) = omega (arith, ap size t.1, reads_in e w (p + k) false cs i h.1 r)
  inner_free p pu (free k ∷ cs) q s i h (inr t) lo hi (inl r) = omega (arith, starts_in e w (p + k) false cs q (free s) h.1 t)
  inner_free p pu (free k ∷ cs) q s i h (inr t) lo hi (inr (inl r)) = omega (arith, starts_in e w (p + k) false cs q (free s) h.1 t)
  inner_free p pu (free k ∷ cs) q s i h (inr t) lo hi (inr (inr r)) = inner_free (p + k) false cs q s i h.1 t lo hi r
  inner_free p pu (used k ∷ cs) q s i h (inl t) lo hi r = used_free s k t.1
  inner_free p pu (used k ∷ cs) q s i h (inr t) lo hi (inl r) = omega (arith, starts_in e w (p + k) true cs q (free s) h.1 t)
  inner_free p pu (used k ∷ cs) q s i h (inr t) lo hi (inr r) = inner_free (p + k) true cs q s i h.1 t lo hi r

-- x is a free chunk with room for d fields
abbrev pub Roomy : ℕ → List Chunk → ℕ → Type 0
Roomy d cs x = (s : ℕ) × Starts 0 cs x (free s) × (d ≤ s)

module _ (e : Edition) (w : List ℕ) (cs : List Chunk) (ts : ℕ) (h : Heads e w cs ts) where
  pub roomy_spaced : (d : ℕ) → Spaced d (Roomy d cs) (length w)
  roomy_spaced d =
      record {
        apart = λ x y a b n. far x y a b n (starts_apart e w 0 true cs x (free a.0) y (free b.0) h.run a.1 b.1);
        inside = λ x a. omega (arith, starts_in e w 0 true cs x (free a.0) h.run a.1, a.2, h.top.ends);
      }
    where
      far : (x y : ℕ) (a : Roomy d cs x) (b : Roomy d cs y) → (x ≡ y → ⊥) → ((x ≡ y) × (free a.0 ≡ free b.0)) ⊎ ((x + a.0 ≤ y) ⊎ (y + b.0 ≤ x)) → Far d x y
      far x y a b n (inl q) = absurd (n q.0)
      far x y a b n (inr (inl q)) = inl (omega (arith, a.2))
      far x y a b n (inr (inr q)) = inr (omega (arith, b.2))

  -- writes to the links of free chunks leave the tiling
  pub heads_writes : (d : ℕ) (us : List Write) → Within d (Roomy d cs) us → Heads e (write_w w us) cs ts
  heads_writes d us ok =
      heads_frame e w (write_w w us) 0 true cs ts (length-write_w w us) (λ i r. writes_spare w us i (within_spares d (Roomy d cs) us i ok (off i r))) h
    where
      off : (i : ℕ) → HeadsReads 0 cs ts i → (p k : ℕ) → Roomy d cs p → 2 ≤ k → k < d → i ≡ p + k → ⊥
      off i (inl r) p k c lo hi q = inner_free e w 0 true cs p c.0 i h.run c.1 (omega arith) (omega (arith, c.2)) r
      off i (inr (inl r)) p k c lo hi q = omega (arith, starts_in e w 0 true cs p (free c.0) h.run c.1, c.2)
      off i (inr (inr r)) p k c lo hi q = omega (arith, starts_in e w 0 true cs p (free c.0) h.run c.1, c.2)

  -- and the words of every other free chunk
  pub other_words : (d : ℕ) (D : ℕ → Type 0) (us : List Write) → ((x : ℕ) → D x → Roomy d cs x) → Within d D us
      → (x s j : ℕ) → Starts 0 cs x (free s) → (D x → ⊥) → j < s → get_or (write_w w us) (x + j) 0 ≡ get_or w (x + j) 0
  other_words d D us g ok x s j st n l = writes_spare w us (x + j) (within_spares d D us (x + j) ok off)
    where
      off : (p k : ℕ) → D p → 2 ≤ k → k < d → x + j ≡ p + k → ⊥
      off p k c lo hi q =
          let b = g p c in
          ⊎_elim (λ z. n (subst D (sym z.0) c)) (λ z. ⊎_elim (λ y. omega (arith, b.2)) (λ y. omega (arith, b.2)) z)
          (starts_apart e w 0 true cs x (free s) p (free b.0) h.run st b.1)
