-- FREE: the block at p leaves, every other block in use stays, nothing appears, the heap stays tidy and the total stays. Whatever it merges
-- with, a free chunk before, one after, the top, it is one retiling step: the block and its free neighbours give way to one free chunk, or to
-- nothing at the top. By cases on what stands before it and after it. Assumes nothing.
use Rattle.std.specs.Prelude.{◌≡◌, refl, Bool, true, false, List, [], ◌∷◌, ◌++◌, ℕ, ◌+◌, ◌-◌, ◌≤◌, ◌%◌, eqb}
use Rattle.std.proofs.Common.{sym, ◌∙◌, ap, subst, append-nil, append_assoc, inl, inr, ⊎_elim, arith, eqb-true}
use Rattle.std.proofs.Math.Option.{none, some}
use Rattle.std.proofs.lemmas.Bool.{eqb-false}
use Rattle.words.specs.Logic.{pick, pick_case}
use Rattle.words.specs.Edition.{Edition}
use Rattle.tiling.specs.Tiling.{Chunk, used, free, end_of, last_use, total, end_total, end_append, Starts}
use Rattle.rules.specs.Heap.{Heap, heap_dv, heap_chunks, heap_tiles}
use Rattle.rules.specs.Binning.{is_dv, unbin}
use Rattle.rules.specs.Free.{Found, away, forward, give_found, give_maybe, give_back}
use Rattle.rules.specs.Tidy.{Tidy, TidyHeap, differ, total_even, all_free, starts_left, starts_parts, starts_in', starts_size}
use Rattle.rules.specs.Lookup.{Block, block, front_plain, front_free}
use Rattle.rules.specs.Blocks.{Changes}
use Rattle.rules.specs.Splice.{Around, around, splice_changes}
use Rattle.rules.specs.Leaves.{away_leaves, unbin_leaves}

-- the w words of `mid`, behind xs, are let go: the block at p, the only one in use among them
record Given (xs mid : List Chunk) (p w : ℕ) : Type 0 where
  first : last_use true xs ≡ true
  sum : total mid ≡ w
  words : ℕ
  there : Starts (end_of 0 xs) mid p (used words)
  leaves : (x s : ℕ) → Starts (end_of 0 xs) mid x (used s) → x ≡ p

-- with the free chunk after them
and_next : (xs mid : List Chunk) (p w b : ℕ) → Given xs mid p w → Given xs (mid ++ (free b ∷ [])) p (w + b)
and_next xs mid p w b g =
    record {
      first = g.first;
      sum = omega (arith, g.sum, end_total 0 (mid ++ (free b ∷ [])), end_append 0 mid (free b ∷ []), end_total 0 mid);
      words = g.words;
      there = starts_left a mid (free b ∷ []) p (used g.words) g.there;
      leaves = λ x s st. ⊎_elim (g.leaves x s) (λ u. absurd (all_free (end_of a mid) (free b ∷ []) x s tt u)) (starts_parts a mid (free b ∷ []) x (used s) st);
    }
  where
    a : ℕ
    a = end_of 0 xs

module _ (h : Heap) (t : TidyHeap h) (xs mid : List Chunk) (p w : ℕ) (g : Given xs mid p w) (ys : List Chunk) (was : h.chunks ≡ xs ++ (mid ++ ys)) where
  old : Around xs mid ys
  old = around h xs mid ys t was

  was_there : (x : ℕ) → x ≡ p → (s : ℕ) × Starts (end_of 0 xs) mid x (used s)
  was_there x q = (g.words, subst (λ y. Starts (end_of 0 xs) mid y (used g.words)) (sym q) g.there)

  size_of : (w % 2 ≡ 0) × (4 ≤ w)
  size_of =
      let a = end_of 0 xs in
      omega (arith, g.sum, total_even (last_use true xs) mid old.tidy, end_total a mid, starts_in' a mid p (used g.words) g.there, starts_size (last_use true xs) a mid p (used g.words) old.tidy g.there)

  -- into one free chunk
  to_free : (h' : Heap) → h'.chunks ≡ xs ++ (free w ∷ ys) → h'.top ≡ h.top → Tidy false ys → last_use false ys ≡ true → Changes h h' (λ x. x ≡ p) (λ x s. ⊥)
  to_free h' now top rest last =
      splice_changes h h' xs mid (free w ∷ []) ys t
      (record { was = was; now = now; sum = omega (arith, g.sum); fixed = inr (sym top); tidy = (g.first, size_of.0, size_of.1, tt); rest = rest; last = last; least = omega (arith, t.top_least) })
      (λ x. x ≡ p) was_there g.leaves (λ x s. ⊥) (λ x s z. all_free (end_of 0 xs) (free w ∷ []) x s tt z)

module _ (e : Edition) (mine : Bool) (h : Heap) (t : TidyHeap h) (xs mid : List Chunk) (p w : ℕ) (g : Given xs mid p w) where
  -- "merge forward, then top, `dv` or a bin"; k is the heap with what is let go out of its bin
  forward_changes : (k : Heap) (a : ℕ) (ys : List Chunk) → k.top ≡ h.top → h.chunks ≡ xs ++ (mid ++ ys) → Changes h (forward e mine k xs a w ys) (λ x. x ≡ p) (λ x s. ⊥)
  forward_changes k a [] same q =
      splice_changes h (heap_tiles k xs (w + k.top)) xs mid [] [] t
      (record { was = q; now = sym (append-nil xs); sum = omega (arith, g.sum, same); fixed = inl refl; tidy = tt; rest = tt; last = g.first; least = omega (arith, (size_of h t xs mid p w g [] q).1) })
      (λ x. x ≡ p) (was_there h t xs mid p w g [] q) g.leaves (λ x s. ⊥) (λ x s z. z)
  forward_changes k a (used n ∷ ys) same q =
      let l = away_leaves e mine (heap_chunks k (xs ++ (free w ∷ used n ∷ ys))) a w in
      let o = old h t xs mid p w g (used n ∷ ys) q in
      to_free h t xs mid p w g (used n ∷ ys) q (away e mine (heap_chunks k (xs ++ (free w ∷ used n ∷ ys))) a w) l.0 (l.1 ∙ same) o.rest o.last
  forward_changes k a (free b ∷ ys) same q =
      pick_case (λ z. Changes h z (λ x. x ≡ p) (λ x s. ⊥)) (is_dv k (a + w))
      (λ _. into (heap_dv (heap_chunks k cs) (some a)) refl same)
      (λ _. let l = away_leaves e mine (heap_chunks (unbin e k (a + w) b) cs) a (w + b) in
      into (away e mine (heap_chunks (unbin e k (a + w) b) cs) a (w + b)) l.0 (l.1 ∙ (unbin_leaves e k (a + w) b).2 ∙ same))
    where
      cs : List Chunk
      cs = xs ++ (free (w + b) ∷ ys)

      into : (h' : Heap) → h'.chunks ≡ cs → h'.top ≡ h.top → Changes h h' (λ x. x ≡ p) (λ x s. ⊥)
      into h' now top =
          let q' = q ∙ ap (λ z. xs ++ z) (sym (append_assoc mid (free b ∷ []) ys)) in
          let o = old h t xs mid p w g (free b ∷ ys) q in
          to_free h t xs (mid ++ (free b ∷ [])) p (w + b) (and_next xs mid p w b g) ys q' h' now top o.rest.3 o.last

-- "merge back": with the free chunk before, or without
give_found_lem : (e : Edition) (h : Heap) (p s : ℕ) → TidyHeap h → (b : Block h.chunks p s) → Changes h (give_found e h b.f p) (λ x. x ≡ p) (λ x t. ⊥)
give_found_lem e h p s t b =
    pick_case (λ z. Changes h z (λ x. x ≡ p) (λ x n. ⊥)) (eqb f.back 0) (λ z. plain (eqb-true f.back 0 z)) (λ z. merged (eqb-false f.back 0 z))
  where
    f : Found
    f = b.f

    plain : f.back ≡ 0 → Changes h (forward e false h f.before p f.words f.after) (λ x. x ≡ p) (λ x n. ⊥)
    plain z =
        forward_changes e false h t f.before (used s ∷ []) p f.words
        (record {
          first = b.before;
          sum = omega (arith, b.words);
          words = s;
          there = inl (b.place ∙ ap (end_of 0) (front_plain f z), refl);
          leaves = λ x n st. ⊎_elim (λ u. u.0 ∙ sym (b.place ∙ ap (end_of 0) (front_plain f z))) (λ u. absurd u) st;
        })
        h p f.after refl (b.whole ∙ ap (λ c. c ++ (used s ∷ f.after)) (front_plain f z))

    merged : (f.back ≡ 0 → ⊥)
        → Changes h (pick (is_dv h (p - f.back)) (forward e true (heap_dv h none) f.before (p - f.back) (f.back + f.words) f.after)
        (forward e false (unbin e h (p - f.back) f.back) f.before (p - f.back) (f.back + f.words) f.after)) (λ x. x ≡ p) (λ x n. ⊥)
    merged z =
        pick_case (λ k. Changes h k (λ x. x ≡ p) (λ x n. ⊥)) (is_dv h (p - f.back))
        (λ _. forward_changes e true h t f.before mid p (f.back + f.words) given (heap_dv h none) (p - f.back) f.after refl whole)
        (λ _. forward_changes e false h t f.before mid p (f.back + f.words) given (unbin e h (p - f.back) f.back) (p - f.back) f.after (unbin_leaves e h (p - f.back) f.back).2 whole)
      where
        mid : List Chunk
        mid = free f.back ∷ used s ∷ []

        whole : h.chunks ≡ f.before ++ (mid ++ f.after)
        whole = b.whole ∙ ap (λ c. c ++ (used s ∷ f.after)) (front_free f z) ∙ append_assoc f.before (free f.back ∷ []) (used s ∷ f.after)

        given : Given f.before mid p (f.back + f.words)
        given =
            record {
              first = b.before;
              sum = omega (arith, b.words);
              words = s;
              there = inr (inl (b.back z, refl));
              leaves = λ x n st. ⊎_elim (λ u. differ n f.back u.1) (λ u. ⊎_elim (λ v. v.0 ∙ sym (b.back z)) (λ v. absurd v) u) st;
            }

pub give_changes : (e : Edition) (h : Heap) (p s : ℕ) → TidyHeap h → Starts 0 h.chunks p (used s) → Changes h (give_back e h p) (λ x. x ≡ p) (λ x t. ⊥)
give_changes e h p s t st =
    let b = block h.chunks p s t.chunks st in
    subst (λ z. Changes h (give_maybe e h z p) (λ x. x ≡ p) (λ x n. ⊥)) (sym b.finds) (give_found_lem e h p s t b)
