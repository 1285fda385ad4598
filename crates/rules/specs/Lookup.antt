-- WHAT THE RULES' LOOKUPS BY PLACE GIVE on a tidy list of chunks: no two chunks start at one place, since every size is at least 4. A lookup at
-- the end of xs finds what stands after xs, and `find` a used chunk, with the free one just before it or none. `Block` says all of that of
-- the chunk in use at p. Assumes nothing.
use Rattle.std.specs.Prelude.{◌≡◌, refl, Bool, true, false, List, [], ◌∷◌, ◌++◌, ℕ, ◌+◌, eqb}
use Rattle.std.proofs.Common.{sym, ◌∙◌, ap, subst, append_assoc, arith, eq-eqb, ne_eqb}
use Rattle.std.proofs.Math.Option.{some}
use Rattle.words.specs.Logic.{false-true}
use Rattle.words.specs.Fields.{self}
use Rattle.tiling.specs.Tiling.{Chunk, used, free, size, in_use, end_of, last_use, end_ge, end_append, Starts, Split, starts_split}
use Rattle.rules.specs.Binning.{size_at, retile}
use Rattle.rules.specs.Free.{Found, found, find, behind, behind_free}
use Rattle.rules.specs.Realloc.{front}
use Rattle.rules.specs.Tidy.{Tidy, tidy_head, tidy_right}

-- ---- by place

later : (a : ℕ) (pu : Bool) (x : Chunk) (xs zs : List Chunk) → Tidy pu (x ∷ (xs ++ zs)) → eqb (end_of (a + size x) xs) a ≡ false
later a pu x xs zs t = ne_eqb (end_of (a + size x) xs) a (λ z. omega (arith, end_ge (a + size x) xs, (tidy_head pu x (xs ++ zs) t).1))

pub retile_at : (a : ℕ) (pu : Bool) (xs : List Chunk) (c : Chunk) (ys new : List Chunk) → Tidy pu (xs ++ (c ∷ ys)) → retile a (xs ++ (c ∷ ys)) (end_of a xs) new ≡ xs ++ (new ++ ys)
retile_at a pu [] c ys new t = rw (self a)
retile_at a pu (x ∷ xs) c ys new t = rw (later a pu x xs (c ∷ ys) t) (ap (λ z. x ∷ z) (retile_at (a + size x) (in_use x) xs c ys new (tidy_head pu x (xs ++ (c ∷ ys)) t).2))

pub size_at_lem : (a : ℕ) (pu : Bool) (xs : List Chunk) (c : Chunk) (ys : List Chunk) → Tidy pu (xs ++ (c ∷ ys)) → size_at a (xs ++ (c ∷ ys)) (end_of a xs) ≡ size c
size_at_lem a pu [] c ys t = rw (self a)
size_at_lem a pu (x ∷ xs) c ys t = rw (later a pu x xs (c ∷ ys) t) (size_at_lem (a + size x) (in_use x) xs c ys (tidy_head pu x (xs ++ (c ∷ ys)) t).2)

-- a used chunk after one in use, or first
pub find_plain : (a : ℕ) (pu : Bool) (xs : List Chunk) (s : ℕ) (ys : List Chunk) → Tidy pu (xs ++ (used s ∷ ys)) → last_use true xs ≡ true
    → find a (xs ++ (used s ∷ ys)) (end_of a xs) ≡ some (found xs 0 s ys)
find_plain a pu [] s ys t l = rw (self a)
find_plain a pu (used n ∷ xs) s ys t l = rw (later a pu (used n) xs (used s ∷ ys) t) (ap (behind (used n)) (find_plain (a + n) true xs s ys t.2 l))
find_plain a pu (free n ∷ []) s ys t l = false-true l
find_plain a pu (free n ∷ x ∷ xs) s ys t l = ap (behind_free n) (find_plain (a + n) false (x ∷ xs) s ys t.3 l)

-- a used chunk after a free one
pub find_back : (a : ℕ) (pu : Bool) (xs : List Chunk) (b s : ℕ) (ys : List Chunk) → Tidy pu (xs ++ (free b ∷ used s ∷ ys))
    → find a (xs ++ (free b ∷ used s ∷ ys)) (end_of a xs + b) ≡ some (found xs b s ys)
find_back a pu [] b s ys t = rw (self (a + b))
find_back a pu (used n ∷ xs) b s ys t =
    rw (ne_eqb (end_of (a + n) xs + b) a (λ z. omega (arith, end_ge (a + n) xs, t.1))) (ap (behind (used n)) (find_back (a + n) true xs b s ys t.2))
find_back a pu (free n ∷ []) b s ys t = false-true t.3.0
find_back a pu (free n ∷ x ∷ xs) b s ys t = ap (behind_free n) (find_back (a + n) false (x ∷ xs) b s ys t.3)

-- ---- by the chunk that starts there

pub split_retile : (cs : List Chunk) (p : ℕ) (c : Chunk) (new : List Chunk) → Tidy true cs → (k : Split 0 cs p c) → retile 0 cs p new ≡ k.before ++ (new ++ k.after)
split_retile cs p c new t k =
    ap (λ z. retile 0 z p new) k.whole ∙ ap (λ q. retile 0 (k.before ++ (c ∷ k.after)) q new) k.place
    ∙ retile_at 0 true k.before c k.after new (subst (Tidy true) k.whole t)

pub split_size : (cs : List Chunk) (p : ℕ) (c : Chunk) → Tidy true cs → Split 0 cs p c → size_at 0 cs p ≡ size c
split_size cs p c t k =
    ap (λ z. size_at 0 z p) k.whole ∙ ap (size_at 0 (k.before ++ (c ∷ k.after))) k.place ∙ size_at_lem 0 true k.before c k.after (subst (Tidy true) k.whole t)

-- ---- a block in use

-- the chunk in use at p, of s words: what `find` gives, and what stands around it
pub record Block (cs : List Chunk) (p s : ℕ) : Type 0 where
  pub f : Found
  pub finds : find 0 cs p ≡ some f
  pub words : f.words ≡ s
  pub whole : cs ≡ front f ++ (used s ∷ f.after)
  pub place : p ≡ end_of 0 (front f)
  pub back : (f.back ≡ 0 → ⊥) → p ≡ end_of 0 f.before + f.back
  pub before : last_use true f.before ≡ true

-- the front of a find: nothing free before it, or b words
pub front_plain : (f : Found) → f.back ≡ 0 → front f ≡ f.before
front_plain f z = rw (eq-eqb f.back 0 z)

pub front_free : (f : Found) → (f.back ≡ 0 → ⊥) → front f ≡ f.before ++ (free f.back ∷ [])
front_free f z = rw (ne_eqb f.back 0 z)

record LastFree (xs : List Chunk) : Type 0 where
  before : List Chunk
  words : ℕ
  whole : xs ≡ before ++ (free words ∷ [])

after_one : (x : Chunk) (xs : List Chunk) → LastFree xs → LastFree (x ∷ xs)
after_one x xs k = record { before = x ∷ k.before; words = k.words; whole = ap (λ z. x ∷ z) k.whole }

last_free : (xs : List Chunk) → last_use true xs ≡ false → LastFree xs
last_free [] q = false-true (sym q)
last_free (used s ∷ xs) q = after_one (used s) xs (last_free xs q)
last_free (free s ∷ []) q = record { before = []; words = s; whole = refl }
last_free (free s ∷ x ∷ xs) q = after_one (free s) (x ∷ xs) (last_free (x ∷ xs) q)

pub block : (cs : List Chunk) (p s : ℕ) → Tidy true cs → Starts 0 cs p (used s) → Block cs p s
block cs p s t st = go (starts_split 0 cs p (used s) st)
  where
    go : Split 0 cs p (used s) → Block cs p s
    go k = cases (last_use true k.before) refl
      where
        cases : (b : Bool) → last_use true k.before ≡ b → Block cs p s
        cases true u =
            record {
              f = found k.before 0 s k.after;
              finds = ap (λ z. find 0 z p) k.whole ∙ ap (find 0 (k.before ++ (used s ∷ k.after))) k.place ∙ find_plain 0 true k.before s k.after (subst (Tidy true) k.whole t) u;
              words = refl;
              whole = k.whole;
              place = k.place;
              back = λ z. absurd (z refl);
              before = u;
            }
        cases false u = behind-free (last_free k.before u)
          where
            behind-free : LastFree k.before → Block cs p s
            behind-free g =
                let eq : cs ≡ g.before ++ (free g.words ∷ used s ∷ k.after) = k.whole ∙ ap (λ z. z ++ (used s ∷ k.after)) g.whole ∙ append_assoc g.before (free g.words ∷ []) (used s ∷ k.after) in
                let at : p ≡ end_of 0 g.before + g.words = k.place ∙ ap (end_of 0) g.whole ∙ end_append 0 g.before (free g.words ∷ []) in
                let tidy : Tidy true (g.before ++ (free g.words ∷ used s ∷ k.after)) = subst (Tidy true) eq t in
                let right = tidy_right true g.before (free g.words ∷ used s ∷ k.after) tidy in
                let fr = front_free (found g.before g.words s k.after) (λ z. omega (arith, right.2)) in
                record {
                  f = found g.before g.words s k.after;
                  finds = ap (λ z. find 0 z p) eq ∙ ap (find 0 (g.before ++ (free g.words ∷ used s ∷ k.after))) at ∙ find_back 0 true g.before g.words s k.after tidy;
                  words = refl;
                  whole = k.whole ∙ ap (λ z. z ++ (used s ∷ k.after)) (g.whole ∙ sym fr);
                  place = k.place ∙ ap (end_of 0) (g.whole ∙ sym fr);
                  back = λ _. at;
                  before = right.0;
                }
