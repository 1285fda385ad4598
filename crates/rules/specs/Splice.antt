-- ONE LAW OF RETILING: between the chunks xs and ys the chunks `mid` give way to `new` of the same total, or, if ys is empty, the top takes or
-- gives the difference. Every call's change of the chunks is one such step or two. What lies outside stays at its place, so the blocks that
-- leave are those of `mid`, and those that come are those of `new`. Assumes nothing.
use Rattle.std.specs.Prelude.{◌≡◌, refl, true, false, List, [], ◌∷◌, ◌++◌, ◌⊎◌, ℕ, ◌+◌, ◌-◌, ◌≤◌, ◌<◌, ◌%◌}
use Rattle.std.proofs.Common.{sym, ◌∙◌, ap, subst, inl, inr, ⊎_elim, arith}
use Rattle.tiling.specs.Tiling.{Chunk, used, free, size, end_of, last_use, total, end_total, end_append, last_append, Starts}
use Rattle.rules.specs.Heap.{Heap}
use Rattle.rules.specs.Tidy.{Tidy, TidyHeap, tidy_append, tidy_left, tidy_right, tidy_true, last_true, total_even, AllFree, all_free, starts_left, starts_right, starts_parts, starts_in', starts_size}
use Rattle.rules.specs.Blocks.{Changes, Granted}

-- the step, and that what it leaves is tidy
pub record Spliced (h h' : Heap) (xs mid new ys : List Chunk) : Type 0 where
  pub was : h.chunks ≡ xs ++ (mid ++ ys)
  pub now : h'.chunks ≡ xs ++ (new ++ ys)
  pub sum : total mid + h.top ≡ total new + h'.top
  pub fixed : (ys ≡ []) ⊎ (h.top ≡ h'.top)
  pub tidy : Tidy (last_use true xs) new
  pub rest : Tidy (last_use (last_use true xs) new) ys
  pub last : last_use (last_use (last_use true xs) new) ys ≡ true
  pub least : 2 ≤ h'.top

-- what was tidy around the place of the step
pub record Around (xs mid ys : List Chunk) : Type 0 where
  pub before : Tidy true xs
  pub tidy : Tidy (last_use true xs) mid
  pub rest : Tidy (last_use (last_use true xs) mid) ys
  pub last : last_use (last_use (last_use true xs) mid) ys ≡ true

pub around : (h : Heap) (xs mid ys : List Chunk) → TidyHeap h → h.chunks ≡ xs ++ (mid ++ ys) → Around xs mid ys
around h xs mid ys t q =
    let all : Tidy true (xs ++ (mid ++ ys)) = subst (Tidy true) q t.chunks in
    let right = tidy_right true xs (mid ++ ys) all in
    record {
      before = tidy_left true xs (mid ++ ys) all;
      tidy = tidy_left (last_use true xs) mid ys right;
      rest = tidy_right (last_use true xs) mid ys right;
      last = sym (ap (last_use true) q ∙ last_append true xs (mid ++ ys) ∙ last_append (last_use true xs) mid ys) ∙ t.last;
    }

-- a list that is empty, or starts at the same place
shift : (ys : List Chunk) (m n x : ℕ) (c : Chunk) → (ys ≡ []) ⊎ (m ≡ n) → Starts m ys x c → Starts n ys x c
shift ys m n x c (inl q) st = absurd (subst (λ z. Starts m z x c) q st)
shift ys m n x c (inr q) st = subst (λ z. Starts z ys x c) q st

module _ (h h' : Heap) (xs mid new ys : List Chunk) (t : TidyHeap h) (sp : Spliced h h' xs mid new ys) where
  abbrev a : ℕ
  a = end_of 0 xs

  old : Around xs mid ys
  old = around h xs mid ys t sp.was

  ends : (ys ≡ []) ⊎ (end_of a mid ≡ end_of a new)
  ends = ⊎_elim inl (λ q. inr (omega (arith, sp.sum, end_total a mid, end_total a new))) sp.fixed

  tidy_heap : TidyHeap h'
  tidy_heap =
      record {
        chunks = subst (Tidy true) (sym sp.now) (tidy_append true xs (new ++ ys) old.before (tidy_append (last_use true xs) new ys sp.tidy sp.rest));
        last = ap (last_use true) sp.now ∙ last_append true xs (new ++ ys) ∙ last_append (last_use true xs) new ys ∙ sp.last;
        top_even = omega (arith, sp.sum, t.top_even, total_even (last_use true xs) mid old.tidy, total_even (last_use true xs) new sp.tidy);
        top_least = sp.least;
      }

  ended : (zs : List Chunk) → end_of 0 (xs ++ (zs ++ ys)) ≡ total xs + total zs + total ys
  ended zs = omega (arith, end_append 0 xs (zs ++ ys), end_append a zs ys, end_total 0 xs, end_total a zs, end_total (end_of a zs) ys)

  module _ (gone : ℕ → Type 0) (was_there : (x : ℕ) → gone x → (s : ℕ) × Starts a mid x (used s)) (leaves : (x s : ℕ) → Starts a mid x (used s) → gone x) where
    kept : (x s : ℕ) → Starts 0 (xs ++ (mid ++ ys)) x (used s) → (gone x → ⊥) → Starts 0 (xs ++ (new ++ ys)) x (used s)
    kept x s st ng =
        ⊎_elim (λ u. starts_left 0 xs (new ++ ys) x (used s) u)
        (λ u. ⊎_elim (λ v. absurd (ng (leaves x s v)))
        (λ v. starts_right 0 xs (new ++ ys) x (used s) (starts_right a new ys x (used s) (shift ys (end_of a mid) (end_of a new) x (used s) ends v)))
        (starts_parts a mid ys x (used s) u))
        (starts_parts 0 xs (mid ++ ys) x (used s) st)

    before_stays : (x s : ℕ) → Starts 0 xs x (used s) → gone x → ⊥
    before_stays x s st g =
        let m = was_there x g in
        omega (arith, starts_in' 0 xs x (used s) st, starts_size true 0 xs x (used s) old.before st, starts_in' a mid x (used m.0) m.1)

    after_stays : (x s : ℕ) → Starts (end_of a mid) ys x (used s) → gone x → ⊥
    after_stays x s st g =
        let m = was_there x g in
        omega (arith, starts_in' (end_of a mid) ys x (used s) st, starts_in' a mid x (used m.0) m.1, starts_size (last_use true xs) a mid x (used m.0) old.tidy m.1)

    only : (x s : ℕ) → Starts 0 (xs ++ (new ++ ys)) x (used s) → Starts a new x (used s) ⊎ (Starts 0 (xs ++ (mid ++ ys)) x (used s) × (gone x → ⊥))
    only x s st =
        ⊎_elim (λ u. inr (starts_left 0 xs (mid ++ ys) x (used s) u, before_stays x s u))
        (λ u. ⊎_elim inl (λ v. inr (outside (shift ys (end_of a new) (end_of a mid) x (used s) (⊎_elim inl (λ z. inr (sym z)) ends) v)))
        (starts_parts a new ys x (used s) u))
        (starts_parts 0 xs (new ++ ys) x (used s) st)
      where
        outside : Starts (end_of a mid) ys x (used s) → Starts 0 (xs ++ (mid ++ ys)) x (used s) × (gone x → ⊥)
        outside v = (starts_right 0 xs (mid ++ ys) x (used s) (starts_right a mid ys x (used s) v), after_stays x s v)

    pub splice_changes : (fresh : ℕ → ℕ → Type 0) → ((x s : ℕ) → Starts a new x (used s) → fresh x s) → Changes h h' gone fresh
    splice_changes fresh comes =
        record {
          tidy = tidy_heap;
          total = omega (arith, ap (end_of 0) sp.was, ap (end_of 0) sp.now, ended mid, ended new, sp.sum);
          kept = λ x s st ng. subst (λ z. Starts 0 z x (used s)) (sym sp.now) (kept x s (subst (λ z. Starts 0 z x (used s)) sp.was st) ng);
          only = λ x s st. subst (λ z. fresh x s ⊎ (Starts 0 z x (used s) × (gone x → ⊥))) (sym sp.was) (⊎_elim (λ u. inl (comes x s u)) inr (only x s (subst (λ z. Starts 0 z x (used s)) sp.now st)));
        }

-- a step whose new chunks are a block of w words and free ones grants that block
pub splice_grants : (h h' : Heap) (xs mid : List Chunk) (w : ℕ) (rest ys : List Chunk) (t : TidyHeap h) (sp : Spliced h h' xs mid (used w ∷ rest) ys) (p : ℕ) → p ≡ end_of 0 xs → AllFree rest
    → (gone : ℕ → Type 0) → ((x : ℕ) → gone x → (s : ℕ) × Starts (end_of 0 xs) mid x (used s)) → ((x s : ℕ) → Starts (end_of 0 xs) mid x (used s) → gone x)
    → (lo hi : ℕ) → lo ≤ w → w < hi → Granted h h' p lo hi gone
splice_grants h h' xs mid w rest ys t sp p place none-used gone was_there leaves lo hi large tight =
    record {
      words = w;
      block = subst (λ c. Starts 0 c p (used w)) (sym sp.now) (starts_right 0 xs (used w ∷ (rest ++ ys)) p (used w) (inl (place, refl)));
      large = large;
      tight = tight;
      apart = λ x s st ng z. ⊎_elim (λ u. omega (arith, starts_in' 0 xs x (used s) u, starts_size true 0 xs x (used s) o.before u))
          (λ u. ⊎_elim (λ v. ng (leaves x s v)) (λ v. behind x s v z) (starts_parts a mid ys x (used s) u))
          (starts_parts 0 xs (mid ++ ys) x (used s) (subst (λ c. Starts 0 c x (used s)) sp.was st));
      changes = splice_changes h h' xs mid (used w ∷ rest) ys t sp gone was_there leaves (λ x s. (x ≡ p) × (s ≡ w))
          (λ x s st. ⊎_elim (λ u. (u.0 ∙ sym place, ap size u.1)) (λ u. absurd (all_free (a + w) rest x s none-used u)) st);
    }
  where
    a : ℕ
    a = end_of 0 xs

    o : Around xs mid ys
    o = around h xs mid ys t sp.was

    -- what stands behind does not start at a: the list is empty, or `mid` is not
    behind : (x s : ℕ) → Starts (end_of a mid) ys x (used s) → x ≡ p → ⊥
    behind x s st z =
        ⊎_elim (λ q. subst (λ c. Starts (end_of a mid) c x (used s)) q st)
        (λ q. omega (arith, q, place, sp.sum, sp.tidy.1, end_total a mid, starts_in' (end_of a mid) ys x (used s) st)) sp.fixed

-- ---- a stretch that ends in a free chunk serves a need

module _ (h : Heap) (t : TidyHeap h) (xs mid ys : List Chunk) (was : h.chunks ≡ xs ++ (mid ++ ys)) (p n : ℕ) (place : p ≡ end_of 0 xs) (sum : total mid ≡ n) (open-end : last_use (last_use true xs) mid ≡ false)
    (gone : ℕ → Type 0) (was_there : (x : ℕ) → gone x → (s : ℕ) × Starts (end_of 0 xs) mid x (used s)) (leaves : (x s : ℕ) → Starts (end_of 0 xs) mid x (used s) → gone x) where
  o : Around xs mid ys
  o = around h xs mid ys t was

  -- with a free rest
  pub serve-part : (h' : Heap) (nb : ℕ) → nb % 2 ≡ 0 → 4 ≤ nb → 4 ≤ n - nb → h'.chunks ≡ xs ++ (used nb ∷ free (n - nb) ∷ ys) → h'.top ≡ h.top → Granted h h' p nb (nb + 4) gone
  serve-part h' nb v l big now top =
      splice_grants h h' xs mid nb (free (n - nb) ∷ []) ys t
      (record {
        was = was;
        now = now;
        sum = omega arith;
        fixed = inr (sym top);
        tidy = (v, l, (refl, omega (arith, total_even (last_use true xs) mid o.tidy), big, tt));
        rest = subst (λ b. Tidy b ys) open-end o.rest;
        last = subst (λ b. last_use b ys ≡ true) open-end o.last;
        least = omega (arith, t.top_least);
      })
      p place tt gone was_there leaves nb (nb + 4) (omega arith) (omega arith)

  -- as a whole
  pub serve-whole : (h' : Heap) (lo hi : ℕ) → 4 ≤ n → lo ≤ n → n < hi → h'.chunks ≡ xs ++ (used n ∷ ys) → h'.top ≡ h.top → Granted h h' p lo hi gone
  serve-whole h' lo hi l large tight now top =
      splice_grants h h' xs mid n [] ys t
      (record {
        was = was;
        now = now;
        sum = omega arith;
        fixed = inr (sym top);
        tidy = (omega (arith, total_even (last_use true xs) mid o.tidy), l, tt);
        rest = tidy_true (last_use (last_use true xs) mid) ys o.rest;
        last = last_true (last_use (last_use true xs) mid) ys o.last;
        least = omega (arith, t.top_least);
      })
      p place tt gone was_there leaves lo hi large tight
