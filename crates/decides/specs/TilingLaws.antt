-- The walk of the heads: `chunk_at` finds a chunk exactly where one stands that ends before the top, `walk_heads` says yes exactly when chunks tile
-- the arena up to the top with the last of them in use, and then has marked the free ones; `top_ok` says yes exactly when the top stands there.
-- A head is a number of any size: what it says is its quotient and its rest by 2 words, and the rest is the flags. One equation gives the
-- walk's answer for a run; the marks follow from the run alone. Both editions. Assumes nothing.
use Rattle.std.specs.Prelude.{◌≡◌, Bool, false, ◌&&◌, List, [], ◌∷◌, ℕ, zero, suc, ◌+◌, ◌-◌, ◌*◌, ◌/◌, ◌%◌, ◌≤◌, ◌<◌, ltb}
use Rattle.std.proofs.Math.Path.{refl, sym, ap}
use Rattle.std.proofs.Common.{◌∙◌, subst, mul-add, arith}
use Rattle.std.proofs.Math.Bool.{true}
use Rattle.std.proofs.Math.Dec.{eqb, leb}
use Rattle.std.proofs.Math.ListN.{length, get_or}
use borrow.Author.Tests.{eqb-true, eqb-false, eq-eqb, ne_eqb, leb-true, le-leb, ltb-false, lt-ltb, le-ltb}
use Rattle.words.specs.Logic.{pick, pick_case, false-true}
use Rattle.words.specs.Edition.{Edition, wide, narrow, W, enc, flags_of}
use Rattle.words.specs.Fields.{ind, ind_ne}
use Rattle.tiling.specs.Tiling.{Chunk, used, free, size, in_use, bit, bit_below, end_of, last_use, ChunkAt, TopAt, Run, end_ge, least_of, head_of}
use Rattle.tiling.specs.Free.{free_at}
use Rattle.chunk.specs.Bytes.{word}
use Rattle.chunk.specs.Plain.{word_plain}
use Rattle.chunk.specs.Held.{leb_bytes, ltb_bytes}
use Rattle.marks.specs.Marks.{Checked, yes, set_mark}
use Rattle.tiles.specs.TilesBytes.{head_is, top_ok, Step, step, used_flags, room_for, chunk_at, walk_heads}
use Rattle.decides.specs.MarksLaws.{in_set, Sized, and_left, and_right, and_both, sized_set, set_there}

-- ---- what a head says, of any size

-- its size: 2 words for each 2 * W of it, so it is even
abbrev size_in : Edition → ℕ → ℕ
size_in e h = 2 * (h / (2 * W e))

head_parts : (e : Edition) (h : ℕ) → (h - flags_of e h ≡ enc e (size_in e h)) × (h ≡ enc e (size_in e h) + flags_of e h)
head_parts wide h = omega arith
head_parts narrow h = omega arith

size_even : (e : Edition) (h : ℕ) → size_in e h % 2 ≡ 0
size_even e h = omega arith

head_says : (e : Edition) (h s f : ℕ) → s % 2 ≡ 0 → f < 4 → h ≡ W e * s + f → (size_in e h ≡ s) × (flags_of e h ≡ f)
head_says wide h s f v l q = omega arith
head_says narrow h s f v l q = omega arith

-- ---- sums of bytes are sums of words

pub sum_bytes : (e : Edition) (p s : ℕ) → enc e p + enc e s ≡ enc e (p + s)
sum_bytes e p s = sym (mul-add (W e) p s)

bytes_pos : (e : Edition) (s : ℕ) → 4 ≤ s → enc e s ≡ 0 → ⊥
bytes_pos wide s l q = omega arith
bytes_pos narrow s l q = omega arith

foot_plain : (e : Edition) (w : List ℕ) (p s : ℕ) → word e w (enc e p + enc e s) 0 ≡ get_or w (p + s) 0
foot_plain e w p s = ap (λ c. word e w c 0) (sum_bytes e p s) ∙ word_plain e w (p + s) 0 ∙ ap (λ i. get_or w i 0) (let z : p + s + 0 ≡ p + s = omega arith in z)

room_plain : (e : Edition) (p s t : ℕ) → room_for e (enc e p) (enc e s) (enc e t) ≡ (leb 4 s && leb (p + s) t)
room_plain e p s t =
    ap (λ c. leb c (enc e s) && leb (enc e p + enc e s) (enc e t)) (four e) ∙ ap (λ b. b && leb (enc e p + enc e s) (enc e t)) (leb_bytes e 4 s)
    ∙ ap (λ c. leb 4 s && leb c (enc e t)) (sum_bytes e p s) ∙ ap (λ b. leb 4 s && b) (leb_bytes e (p + s) t)
  where
    four : (e : Edition) → 4 * W e ≡ W e * 4
    four wide = refl
    four narrow = refl

-- ---- one chunk

-- the walk's step, in words: h is the head, s its size
step_of : Edition → List ℕ → ℕ → Bool → ℕ → ℕ → ℕ → Step
step_of e w p pu t h s =
    pick (leb 4 s && leb (p + s) t)
    (pick (eqb (flags_of e h) (used_flags pu)) (step (enc e s) true) (pick (pu && eqb (flags_of e h) 1 && eqb (get_or w (p + s) 0) (enc e s)) (step (enc e s) false) (step 0 true)))
    (step 0 true)

chunk_plain : (e : Edition) (w : List ℕ) (p : ℕ) (pu : Bool) (t : ℕ) → chunk_at e w (enc e p) pu (enc e t) ≡ step_of e w p pu t (head_of w p) (size_in e (head_of w p))
unfolding chunk_at step_of
chunk_plain e w p pu t = rw (word_plain e w p 1, (head_parts e (head_of w p)).0, room_plain e p (size_in e (head_of w p)) t, foot_plain e w p (size_in e (head_of w p))) refl

-- what a step that found a chunk says of it
abbrev pub Found : Edition → List ℕ → ℕ → Bool → ℕ → Step → Type 0
Found e w p pu t st = (c : Chunk) × ChunkAt e w p pu c × (st ≡ step (enc e (size c)) (in_use c)) × (p + size c ≤ t)

used_flags_lem : (pu : Bool) → used_flags pu ≡ 2 + bit pu
used_flags_lem true = refl
used_flags_lem false = refl

module _ (e : Edition) (w : List ℕ) (p : ℕ) (pu : Bool) (t : ℕ) where
  step_yes : ((step_of e w p pu t (head_of w p) (size_in e (head_of w p))).size ≡ 0 → ⊥) → Found e w p pu t (step_of e w p pu t (head_of w p) (size_in e (head_of w p)))
  unfolding step_of
  step_yes =
      let h = head_of w p in
      let s = size_in e h in
      let f = flags_of e h in
      let d = eqb (get_or w (p + s) 0) (enc e s) in
      pick_case (λ st. (st.size ≡ 0 → ⊥) → Found e w p pu t st) (leb 4 s && leb (p + s) t)
      (λ a. pick_case (λ st. (st.size ≡ 0 → ⊥) → Found e w p pu t st) (eqb f (used_flags pu))
      (λ b _. (
        used s,
        record { even = size_even e h; least = leb-true 4 s (and_left (leb 4 s) (leb (p + s) t) a); head = omega (arith, (head_parts e h).1, eqb-true f (used_flags pu) b, used_flags_lem pu) },
        refl,
        leb-true (p + s) t (and_right (leb 4 s) (leb (p + s) t) a),
      ))
      (λ _. pick_case (λ st. (st.size ≡ 0 → ⊥) → Found e w p pu t st) (pu && eqb f 1 && d)
      (λ b _. (
        free s,
        record {
          even = size_even e h;
          least = leb-true 4 s (and_left (leb 4 s) (leb (p + s) t) a);
          apart = and_left pu (eqb f 1) (and_left (pu && eqb f 1) d b);
          head = omega (arith, (head_parts e h).1, eqb-true f 1 (and_right pu (eqb f 1) (and_left (pu && eqb f 1) d b)));
          foot = eqb-true (get_or w (p + s) 0) (enc e s) (and_right (pu && eqb f 1) d b);
        },
        refl,
        leb-true (p + s) t (and_right (leb 4 s) (leb (p + s) t) a),
      ))
      (λ _ n. absurd (n refl))))
      (λ _ n. absurd (n refl))

  step_used : (h s : ℕ) → 4 ≤ s → p + s ≤ t → flags_of e h ≡ 2 + bit pu → step_of e w p pu t h s ≡ step (enc e s) true
  unfolding step_of
  step_used h s l k q = rw (and_both (leb 4 s) (leb (p + s) t) (le-leb 4 s l) (le-leb (p + s) t k), eq-eqb (flags_of e h) (used_flags pu) (q ∙ sym (used_flags_lem pu))) refl

  step_free : (h s : ℕ) → 4 ≤ s → p + s ≤ t → flags_of e h ≡ 1 → pu ≡ true → get_or w (p + s) 0 ≡ enc e s → step_of e w p pu t h s ≡ step (enc e s) false
  unfolding step_of
  step_free h s l k q a b =
      rw (
        and_both (leb 4 s) (leb (p + s) t) (le-leb 4 s l) (le-leb (p + s) t k),
        ne_eqb (flags_of e h) (used_flags pu) (λ z. omega (arith, q, used_flags_lem pu)),
        and_both _ _ (and_both pu (eqb (flags_of e h) 1) a (eq-eqb (flags_of e h) 1 q)) (eq-eqb (get_or w (p + s) 0) (enc e s) b),
      ) refl

  -- where it answers a size, a chunk of that size stands
  pub chunk_yes : ((chunk_at e w (enc e p) pu (enc e t)).size ≡ 0 → ⊥) → Found e w p pu t (chunk_at e w (enc e p) pu (enc e t))
  chunk_yes n = subst (λ st. (st.size ≡ 0 → ⊥) → Found e w p pu t st) (sym (chunk_plain e w p pu t)) step_yes n

  -- where a chunk stands, it answers its size, which is not 0
  pub chunk_there : (c : Chunk) → ChunkAt e w p pu c → p + size c ≤ t → chunk_at e w (enc e p) pu (enc e t) ≡ step (enc e (size c)) (in_use c)
  chunk_there (used s) a l =
      let d = head_says e (head_of w p) s (2 + bit pu) a.even (omega (arith, bit_below pu)) (omega (arith, a.head)) in
      chunk_plain e w p pu t ∙ ap (step_of e w p pu t (head_of w p)) d.0 ∙ step_used (head_of w p) s a.least l d.1
  chunk_there (free s) a l =
      let d = head_says e (head_of w p) s 1 a.even (omega arith) a.head in
      chunk_plain e w p pu t ∙ ap (step_of e w p pu t (head_of w p)) d.0 ∙ step_free (head_of w p) s a.least l d.1 a.apart a.foot

  -- so where it answers 0, no chunk stands
  pub chunk_no : (chunk_at e w (enc e p) pu (enc e t)).size ≡ 0 → (c : Chunk) → ChunkAt e w p pu c → p + size c ≤ t → ⊥
  chunk_no z c a l = bytes_pos e (size c) (least_of e w p pu c a) (ap (λ (st : Step). st.size) (sym (chunk_there c a l)) ∙ z)

-- ---- the walk

-- the marks that the walk of a run leaves
abbrev pub marked : Edition → ℕ → List Chunk → List ℕ → List ℕ
marked e p [] m = m
marked e p (used s ∷ cs) m = marked e (p + s) cs m
marked e p (free s ∷ cs) m = marked e (p + s) cs (set_mark e m (enc e p))

-- the next turn, once the chunk is known
next_turn : (e : Edition) (w : List ℕ) (t k p : ℕ) (m : List ℕ) (st : Step) (c : Chunk) → st ≡ step (enc e (size c)) (in_use c)
    → walk_heads e w t k (enc e p + st.size) st.used (pick st.used m (set_mark e m (enc e p))) ≡ walk_heads e w t k (enc e (p + size c)) (in_use c) (pick (in_use c) m (set_mark e m (enc e p)))
next_turn e w t k p m st c q =
    ap (λ (v : Step). walk_heads e w t k (enc e p + v.size) v.used (pick v.used m (set_mark e m (enc e p)))) q
    ∙ ap (λ o. walk_heads e w t k o (in_use c) (pick (in_use c) m (set_mark e m (enc e p)))) (sum_bytes e p (size c))

-- chunks tile p to t, and the last of them is in use
abbrev pub Tiles : Edition → List ℕ → ℕ → Bool → ℕ → List Chunk → Type 0
Tiles e w p pu t cs = Run e w p pu cs × (end_of p cs ≡ t) × (last_use pu cs ≡ true)

pub walk_yes : (e : Edition) (w : List ℕ) (t k p : ℕ) (pu : Bool) (m : List ℕ) → p ≤ t → (walk_heads e w (enc e t) k (enc e p) pu m).ok ≡ true → (cs : List Chunk) × Tiles e w p pu t cs
unfolding walk_heads
walk_yes e w t zero p pu m l h = false-true h
walk_yes e w t (suc k) p pu m l h =
    let st = chunk_at e w (enc e p) pu (enc e t) in
    pick_case (λ (r : Checked). r.ok ≡ true → (cs : List Chunk) × Tiles e w p pu t cs) (ltb (enc e p) (enc e t))
    (λ _. pick_case (λ (r : Checked). r.ok ≡ true → (cs : List Chunk) × Tiles e w p pu t cs) (eqb st.size 0)
    (λ _ z. false-true z)
    (λ n g.
    let f = chunk_yes e w p pu t (eqb-false st.size 0 n) in
    let c = f.0 in
    let r = walk_yes e w t k (p + size c) (in_use c) (pick (in_use c) m (set_mark e m (enc e p))) f.3 (ap (λ (z : Checked). z.ok) (sym (next_turn e w (enc e t) k p m st c f.2)) ∙ g) in
    (c ∷ r.0, ((f.1, r.1.0), r.1.1, r.1.2))))
    (λ n g. ([], (tt, omega (arith, l, ends n), g)))
    h
  where
    ends : ltb (enc e p) (enc e t) ≡ false → t ≤ p
    ends n = ltb-false p t (sym (ltb_bytes e p t) ∙ n)

pub walk_there : (e : Edition) (w : List ℕ) (t k p : ℕ) (pu : Bool) (m : List ℕ) (cs : List Chunk) → Tiles e w p pu t cs → t < p + 4 * k → walk_heads e w (enc e t) k (enc e p) pu m ≡ yes (marked e p cs m)
unfolding walk_heads
walk_there e w t zero p pu m cs h l = absurd (let z : ⊥ = omega (arith, h.1, end_ge p cs) in z)
walk_there e w t (suc k) p pu m [] h l = rw (ltb_bytes e p t ∙ le-ltb p t (omega (arith, h.1)), h.2) refl
walk_there e w t (suc k) p pu m (c ∷ cs) h l =
    let st = chunk_at e w (enc e p) pu (enc e t) in
    let a = least_of e w p pu c h.0.0 in
    let b = end_ge (p + size c) cs in
    let q : st ≡ step (enc e (size c)) (in_use c) = chunk_there e w p pu t c h.0.0 (omega (arith, b, h.1)) in
    rw (ltb_bytes e p t ∙ lt-ltb p t (omega (arith, a, b, h.1)), ne_eqb st.size 0 (λ z. bytes_pos e (size c) a (ap (λ (v : Step). v.size) (sym q) ∙ z)))
    (next_turn e w (enc e t) k p m st c q ∙ walk_there e w t k (p + size c) (in_use c) (pick (in_use c) m (set_mark e m (enc e p))) cs (h.0.1, h.1, h.2) (omega (arith, a, l)) ∙ go c)
  where
    go : (c : Chunk) → yes (marked e (p + size c) cs (pick (in_use c) m (set_mark e m (enc e p)))) ≡ yes (marked e p (c ∷ cs) m)
    go (used s) = refl
    go (free s) = refl

-- the marks of a run: its free chunks have joined the set, if none of its places was there
pub marks_run : (e : Edition) (w : List ℕ) (p : ℕ) (pu : Bool) (cs : List Chunk) (m : List ℕ) → Run e w p pu cs → p % 2 ≡ 0 → end_of p cs ≤ 8192 → Sized m → ((y : ℕ) → p ≤ y → in_set e m y ≡ 0)
    → Sized (marked e p cs m) × ((y : ℕ) → in_set e (marked e p cs m) y ≡ in_set e m y + free_at p cs y)
marks_run e w p pu [] m h v l s n = (s, (λ y. omega arith))
marks_run e w p pu (used k ∷ cs) m h v l s n = marks_run e w (p + k) true cs m h.1 (omega (arith, v, h.0.even)) l s (λ y b. n y (omega arith))
marks_run e w p pu (free k ∷ cs) m h v l s n =
    let a : (y : ℕ) → in_set e (set_mark e m (enc e p)) y ≡ in_set e m y + ind y p = λ y. set_there e m p s v (omega (arith, h.0.least, end_ge (p + k) cs, l)) y (n p (omega arith)) in
    let b = marks_run e w (p + k) false cs (set_mark e m (enc e p)) h.1 (omega (arith, v, h.0.even)) l (sized_set e m (enc e p) s)
    (λ y g. omega (arith, a y, n y (omega arith), ind_ne y p (λ z. omega (arith, h.0.least)))) in
    (b.0, (λ y. omega (arith, b.1 y, a y)))

-- so the walk of a run: yes, and its free chunks have joined
pub walk_marks : (e : Edition) (w : List ℕ) (t k p : ℕ) (pu : Bool) (m : List ℕ) (cs : List Chunk) → Tiles e w p pu t cs → t < p + 4 * k → t ≤ 8192 → p % 2 ≡ 0 → Sized m → ((y : ℕ) → p ≤ y → in_set e m y ≡ 0)
    → let r = walk_heads e w (enc e t) k (enc e p) pu m in (r.ok ≡ true) × Sized r.marks × ((y : ℕ) → in_set e r.marks y ≡ in_set e m y + free_at p cs y)
walk_marks e w t k p pu m cs h l b v s n =
    let a = marks_run e w p pu cs m h.0 v (omega (arith, h.1, b)) s n in
    subst (λ (r : Checked). (r.ok ≡ true) × Sized r.marks × ((y : ℕ) → in_set e r.marks y ≡ in_set e m y + free_at p cs y)) (sym (walk_there e w t k p pu m cs h l)) (refl, a.0, a.1)

-- ---- the top

-- an even number of words, by its bytes
whole : (e : Edition) (c : ℕ) → c % (2 * W e) ≡ 0 → (x : ℕ) × (c ≡ enc e x) × (x % 2 ≡ 0)
whole e c q = (size_in e c, omega (arith, (head_parts e c).1, q), size_even e c)

-- the top's size is what the record's numbers leave of the arena
rest_is : (e : Edition) (t n ts : ℕ) → enc e t + 12 * W e ≤ W e * n → enc e t + ts + 10 * W e ≡ W e * n → (ts ≡ enc e (n - t - 10)) × (t + 12 ≤ n)
rest_is wide t n ts l q = omega arith
rest_is narrow t n ts l q = omega arith

top_room : (e : Edition) (t ts n : ℕ) → t + ts + 10 ≡ n → 2 ≤ ts → (enc e t + 12 * W e ≤ W e * n) × (enc e t + enc e ts + 10 * W e ≡ W e * n)
top_room wide t ts n q l = omega arith
top_room narrow t ts n q l = omega arith

granular : (e : Edition) (t : ℕ) → t % 2 ≡ 0 → enc e t % (2 * W e) ≡ 0
granular wide t v = omega arith
granular narrow t v = omega arith

ten : (e : Edition) → 10 * W e ≡ W e * 10
ten wide = refl
ten narrow = refl

foot_at : (e : Edition) (w : List ℕ) (t ts : ℕ) → word e w (enc e t + enc e ts) 1 ≡ get_or w (t + ts + 1) 0
foot_at e w t ts = ap (λ c. word e w c 1) (sum_bytes e t ts) ∙ word_plain e w (t + ts) 1

module _ (e : Edition) (r w : List ℕ) (v : length w % 2 ≡ 0) where
  pub top_yes : top_ok e r w (W e * length w) ≡ true → (t : ℕ) × (ts : ℕ) × (get_or r 4 0 ≡ enc e t) × (get_or r 5 0 ≡ enc e ts) × TopAt e w t true ts
  unfolding top_ok
  top_yes h =
      let len = W e * length w in
      let top = get_or r 4 0 in
      let n = get_or r 5 0 in
      let a = eqb (top % (2 * W e)) 0 in
      let b = leb (top + 12 * W e) len in
      let c = eqb (top + n + 10 * W e) len in
      let d = head_is e w top n in
      let f = eqb (word e w (top + n) 1) (10 * W e) in
      let h₁ = and_left (a && b && c && d) f h in
      let h₂ = and_left (a && b && c) d h₁ in
      let h₃ = and_left (a && b) c h₂ in
      let x = whole e top (eqb-true (top % (2 * W e)) 0 (and_left a b h₃)) in
      go x.0 top n x.1 x.2 (leb-true (top + 12 * W e) len (and_right a b h₃)) (eqb-true (top + n + 10 * W e) len (and_right (a && b) c h₂))
      (eqb-true (word e w top 1) (n + 1) (and_right (a && b && c) d h₁)) (eqb-true (word e w (top + n) 1) (10 * W e) (and_right (a && b && c && d) f h))
    where
      go : (t top n : ℕ) → top ≡ enc e t → t % 2 ≡ 0 → top + 12 * W e ≤ W e * length w → top + n + 10 * W e ≡ W e * length w → word e w top 1 ≡ n + 1 → word e w (top + n) 1 ≡ 10 * W e
          → (t : ℕ) × (ts : ℕ) × (top ≡ enc e t) × (n ≡ enc e ts) × TopAt e w t true ts
      go t top n q u l k hd ft =
          let ts = length w - t - 10 in
          let s : (n ≡ enc e ts) × (t + 12 ≤ length w) = rest_is e t (length w) n (omega (arith, q, l)) (omega (arith, q, k)) in (
            t,
            ts,
            q,
            s.0,
            record {
              even = omega (arith, v, u, s.1);
              least = omega (arith, s.1);
              apart = refl;
              ends = omega (arith, s.1);
              head = sym (word_plain e w t 1) ∙ ap (λ c. word e w c 1) (sym q) ∙ omega (arith, hd, s.0);
              foot = sym (foot_at e w t ts) ∙ ap (λ c. word e w (c + enc e ts) 1) (sym q) ∙ ap (λ c. word e w (top + c) 1) (sym s.0) ∙ ft ∙ ten e;
            },
          )

  pub top_there : (t : ℕ) (pu : Bool) (ts : ℕ) → get_or r 4 0 ≡ enc e t → get_or r 5 0 ≡ enc e ts → TopAt e w t pu ts → top_ok e r w (W e * length w) ≡ true
  unfolding top_ok
  top_there t pu ts q s k =
      let len = W e * length w in
      let a = top_room e t ts (length w) k.ends k.least in
      rw (q, s) (and_both _ _ (and_both _ _ (and_both _ _ (and_both _ _ (eq-eqb (enc e t % (2 * W e)) 0 (granular e t (omega (arith, v, k.even, k.ends))))
      (le-leb (enc e t + 12 * W e) len a.0)) (eq-eqb (enc e t + enc e ts + 10 * W e) len a.1))
      (eq-eqb (word e w (enc e t) 1) (enc e ts + 1) (word_plain e w t 1 ∙ k.head))) (eq-eqb (word e w (enc e t + enc e ts) 1) (10 * W e) (foot_at e w t ts ∙ k.foot ∙ sym (ten e))))
