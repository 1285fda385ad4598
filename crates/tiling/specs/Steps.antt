-- The writes of heads and feet, named; the law by which any of them is a step of the tiling (`heads_replace`: the chunks before and behind keep
-- their place, the middle is told anew; the steps themselves are in `Swaps` and `Regrow`); a need from the top; set-up; the free chunk before.
-- Assumes nothing.
use Rattle.std.specs.Prelude.{ℕ, ◌+◌, ◌-◌, ◌*◌, ◌≤◌, ◌<◌, ◌%◌, ◌≡◌, refl, Bool, true, false, List, [], ◌∷◌, ◌++◌, length, get_or, set}
use Rattle.std.proofs.Common.{sym, ap, ◌∙◌, arith, length-set, get_or-set_same, get_or-set_other}
use Rattle.words.specs.Logic.{false-true}
use Rattle.words.specs.Edition.{Edition, W}
use Rattle.tiling.specs.Tiling.{Chunk, used, free, size, in_use, end_of, last_use, FreeAt, Run, HeadsFrom, Heads, end_ge, end_append, last_append, run_append, run_left, run_right, run_frame_in}

-- ---- one law for every step

-- The chunks xs, then mid, then ys; v differs from w only behind the start of mid and not behind its end. If v has the run mid' there, with the same end and the same
-- use before it, then v has the chunks xs, mid', ys.
pub heads_replace : (e : Edition) (w v : List ℕ) (p : ℕ) (pu : Bool) (xs mid new ys : List Chunk) (ts : ℕ)
    → length v ≡ length w
    → ((i : ℕ) → i ≤ end_of p xs → get_or v i 0 ≡ get_or w i 0)
    → ((i : ℕ) → end_of (end_of p xs) mid < i → get_or v i 0 ≡ get_or w i 0)
    → Run e v (end_of p xs) (last_use pu xs) new
    → end_of (end_of p xs) new ≡ end_of (end_of p xs) mid
    → last_use (last_use pu xs) new ≡ last_use (last_use pu xs) mid
    → HeadsFrom e w p pu (xs ++ (mid ++ ys)) ts → HeadsFrom e v p pu (xs ++ (new ++ ys)) ts
heads_replace e w v p pu xs mid new ys ts l lo hi r q u h =
    record {
      run =
          run_append e v p pu xs (new ++ ys)
          (run_frame_in e w v p pu xs (λ i a b. lo i b) (run_left e w p pu xs (mid ++ ys) h.run))
          (run_append e v a b new ys r (rw (q, u) (run_frame_in e w v m c ys (λ i x y. hi i x) tail)));
      top = rw (ends, lasts) (record {
        even = h.top.even;
        least = h.top.least;
        apart = h.top.apart;
        ends = h.top.ends ∙ sym l;
        head = hi _ (omega (arith, later)) ∙ h.top.head;
        foot = hi _ (omega (arith, later)) ∙ h.top.foot;
      });
    }
  where
    a : ℕ
    a = end_of p xs

    b : Bool
    b = last_use pu xs

    m : ℕ
    m = end_of a mid

    c : Bool
    c = last_use b mid

    tail : Run e w m c ys
    tail = run_right e w a b mid ys (run_right e w p pu xs (mid ++ ys) h.run)

    ends : end_of p (xs ++ (new ++ ys)) ≡ end_of p (xs ++ (mid ++ ys))
    ends = end_append p xs (new ++ ys) ∙ end_append a new ys ∙ ap (λ (x : ℕ). end_of x ys) q ∙ sym (end_append p xs (mid ++ ys) ∙ end_append a mid ys)

    lasts : last_use pu (xs ++ (new ++ ys)) ≡ last_use pu (xs ++ (mid ++ ys))
    lasts = last_append pu xs (new ++ ys) ∙ last_append b new ys ∙ ap (λ (x : Bool). last_use x ys) u ∙ sym (last_append pu xs (mid ++ ys) ∙ last_append b mid ys)

    later : m ≤ end_of p (xs ++ (mid ++ ys))
    later = rw (end_append p xs (mid ++ ys), end_append a mid ys) (end_ge m ys)

-- ---- reading what was written

same : (w : List ℕ) (i v : ℕ) → i < length w → get_or (set w i v) i 0 ≡ v
same w i v l = get_or-set_same w i v 0 l

other : (w : List ℕ) (i v k : ℕ) → (k ≡ i → ⊥) → get_or (set w i v) k 0 ≡ get_or w k 0
other w i v k n = get_or-set_other w i k v 0 n

-- the words behind the middle: a foot and a top follow
pub room : (e : Edition) (w : List ℕ) (p : ℕ) (pu : Bool) (xs mid ys : List Chunk) (ts : ℕ) → HeadsFrom e w p pu (xs ++ (mid ++ ys)) ts
    → end_of (end_of p xs) mid + 12 ≤ length w
room e w p pu xs mid ys ts h =
    let q : end_of p (xs ++ (mid ++ ys)) ≡ end_of (end_of (end_of p xs) mid) ys = end_append p xs (mid ++ ys) ∙ end_append (end_of p xs) mid ys in
    omega (arith, q, end_ge (end_of (end_of p xs) mid) ys, h.top.ends, h.top.least)

-- the middle's own run
pub middle : (e : Edition) (w : List ℕ) (p : ℕ) (pu : Bool) (xs mid ys : List Chunk) (ts : ℕ) → HeadsFrom e w p pu (xs ++ (mid ++ ys)) ts
    → Run e w (end_of p xs) (last_use pu xs) mid
middle e w p pu xs mid ys ts h = run_left e w (end_of p xs) (last_use pu xs) mid ys (run_right e w p pu xs (mid ++ ys) h.run)

-- ---- a free chunk is written: its head and its foot (`set_size_and_pinuse_of_free_chunk`)

abbrev pub free_words : Edition → List ℕ → ℕ → ℕ → List ℕ
free_words e w p n = set (set w (p + 1) (W e * n + 1)) (p + n) (W e * n)

pub free-written : (e : Edition) (w : List ℕ) (p n : ℕ) → n % 2 ≡ 0 → 4 ≤ n → p + n < length w → FreeAt e (free_words e w p n) p true n
free-written e w p n v l r =
    record {
      even = v;
      least = l;
      apart = refl;
      head = other (set w (p + 1) (W e * n + 1)) (p + n) (W e * n) (p + 1) (omega arith) ∙ same w (p + 1) (W e * n + 1) (omega arith);
      foot = same (set w (p + 1) (W e * n + 1)) (p + n) (W e * n) (rw length-set r);
    }

pub free_words_out : (e : Edition) (w : List ℕ) (p n i : ℕ) → (i ≡ p + 1 → ⊥) → (i ≡ p + n → ⊥) → get_or (free_words e w p n) i 0 ≡ get_or w i 0
free_words_out e w p n i a b = other (set w (p + 1) (W e * n + 1)) (p + n) (W e * n) i b ∙ other w (p + 1) (W e * n + 1) i a

-- a free chunk is split: the first nb words are in use now, the rest is free
abbrev pub split_words : Edition → List ℕ → ℕ → ℕ → ℕ → List ℕ
split_words e w p nb r = free_words e (set w (p + 1) (W e * nb + 3)) (p + nb) r

-- a free chunk before one in use is taken whole: its head gets CINUSE, the next head PINUSE
abbrev pub take_words : Edition → List ℕ → ℕ → ℕ → List ℕ
take_words e w p s = set (set w (p + 1) (W e * s + 3)) (p + s + 1) (get_or w (p + s + 1) 0 + 1)

-- a chunk in use before one in use becomes free: its head and its foot, and the next head loses PINUSE
abbrev pub give_words : Edition → List ℕ → ℕ → ℕ → List ℕ
give_words e w p s = set (free_words e w p s) (p + s + 1) (get_or w (p + s + 1) 0 - 1)

-- nb words of the top are taken; and a chunk in use before the top goes back to it
abbrev pub top_words : Edition → List ℕ → ℕ → ℕ → ℕ → List ℕ
top_words e w p nb r = set (set w (p + nb + 1) (W e * r + 1)) (p + 1) (W e * nb + 3)

abbrev pub into_top_words : Edition → List ℕ → ℕ → ℕ → List ℕ
into_top_words e w p n = set w (p + 1) (W e * n + 1)

module _ (e : Edition) (w : List ℕ) (p : ℕ) (pu : Bool) (xs : List Chunk) where
  pub take_top : (nb r : ℕ) → nb % 2 ≡ 0 → 4 ≤ nb → r % 2 ≡ 0 → 2 ≤ r → HeadsFrom e w p pu xs (nb + r)
      → HeadsFrom e (top_words e w (end_of p xs) nb r) p pu (xs ++ (used nb ∷ [])) r
  take_top nb r vn ln vr lr h =
      record {
        run =
            run_append e v p pu xs (used nb ∷ [])
            (run_frame_in e w v p pu xs (λ i a b. other u (q + 1) (W e * nb + 3) i (λ z. omega arith) ∙ other w (q + nb + 1) (W e * r + 1) i (λ z. omega arith)) h.run)
            (rw h.top.apart (record { even = vn; least = ln; head = same u (q + 1) (W e * nb + 3) (rw length-set (omega (arith, h.top.ends))) ∙ omega arith }, tt));
        top = rw (end_append p xs (used nb ∷ []), last_append pu xs (used nb ∷ [])) (record {
          even = vr;
          least = lr;
          apart = refl;
          ends = simp length-set (omega (arith, h.top.ends));
          head = other u (q + 1) (W e * nb + 3) (q + nb + 1) (λ z. omega arith) ∙ same w (q + nb + 1) (W e * r + 1) (omega (arith, h.top.ends));
          foot =
              let z : q + nb + r + 1 ≡ q + (nb + r) + 1 = omega arith in
              other u (q + 1) (W e * nb + 3) (q + nb + r + 1) (λ z. omega arith) ∙ other w (q + nb + 1) (W e * r + 1) (q + nb + r + 1) (λ z. omega arith) ∙ rw z h.top.foot;
        });
      }
    where
      q : ℕ
      q = end_of p xs

      u : List ℕ
      u = set w (q + nb + 1) (W e * r + 1)

      v : List ℕ
      v = top_words e w q nb r

-- ---- set-up: the top's head and the foot word

abbrev pub fresh_words : Edition → List ℕ → List ℕ
fresh_words e w = set (set w 1 (W e * (length w - 10) + 1)) (length w - 9) (W e * 10)

pub fresh : (e : Edition) (w : List ℕ) → length w % 2 ≡ 0 → 16 ≤ length w → Heads e (fresh_words e w) [] (length w - 10)
fresh e w v l =
    record {
      run = tt;
      top = record {
        even = omega arith;
        least = omega arith;
        apart = refl;
        ends = simp length-set (omega arith);
        head = other u n (W e * 10) 1 (λ z. omega arith) ∙ same w 1 (W e * (length w - 10) + 1) (omega arith);
        foot = let z : 0 + (length w - 10) + 1 ≡ n = omega arith in rw z (same u n (W e * 10) (simp length-set (omega arith)));
      };
    }
  where
    u : List ℕ
    u = set w 1 (W e * (length w - 10) + 1)

    n : ℕ
    n = length w - 9

-- ---- the chunk before: where PINUSE is clear, it is free, and word 0 has its size

pub record PrevFree (e : Edition) (w : List ℕ) (p : ℕ) (xs : List Chunk) : Type 0 where
  pub before : List Chunk
  pub words : ℕ
  pub whole : xs ≡ before ++ (free words ∷ [])
  pub foot : get_or w (end_of p xs) 0 ≡ W e * words

prev : (e : Edition) (w : List ℕ) (p : ℕ) (pu : Bool) (x : Chunk) (xs : List Chunk) → Run e w p pu (x ∷ xs) → last_use pu (x ∷ xs) ≡ false
    → PrevFree e w p (x ∷ xs)
prev e w p pu (used s) [] h q = false-true (sym q)
prev e w p pu (free s) [] h q = record { before = []; words = s; whole = refl; foot = h.0.foot }
prev e w p pu x (y ∷ xs) h q =
    let r : PrevFree e w (p + size x) (y ∷ xs) = prev e w (p + size x) (in_use x) y xs h.1 q in
    record { before = x ∷ r.before; words = r.words; whole = ap (λ (l : List Chunk). x ∷ l) r.whole; foot = r.foot }

pub prev_free : (e : Edition) (w : List ℕ) (p : ℕ) (xs : List Chunk) → Run e w p true xs → last_use true xs ≡ false → PrevFree e w p xs
prev_free e w p [] h q = false-true (sym q)
prev_free e w p (x ∷ xs) h q = prev e w p true x xs h q
