-- THE SET IS THE LIVE BLOCKS. Made of a heap that is held, it has just the offsets of the blocks in use; and after any call, updated by the
-- call's answer alone, it has just those of the heap that the call leaves. So its test is `live_b`, at every offset, call after call. The
-- walk by induction on the chunks; a call by the ledger's law of one call (`call_tells`). Both editions. Assumes nothing.
use Rattle.std.specs.Prelude.{◌≡◌, Bool, false, ◌↔◌, ◌⊎◌, ℕ, zero, suc, ◌+◌, ◌*◌, ◌/◌, ◌%◌, ◌≤◌, ◌<◌, length, get_or}
use Rattle.std.proofs.Math.Path.{refl, subst}
use Rattle.std.proofs.Common.{sym, ◌∙◌, ap, inl, ⊎_elim, le-leb, eq-eqb, lt-ltb}
use Rattle.std.proofs.Math.Bool.{true}
use mathlib.Core.List.{List, [], ◌∷◌}
use Rattle.std.proofs.Math.Logic.{inr}
use native.Mathlib.Omega.{arith}
use Rattle.std.proofs.lemmas.Bool.{lt-leb}
use Rattle.words.specs.Logic.{pick, decides_iff}
use Rattle.words.specs.Edition.{Edition, wide, narrow, W, enc}
use Rattle.tiling.specs.Tiling.{Chunk, used, free, size, in_use, end_of, ChunkAt, Run, Starts, end_ge, even_of, least_of, starts_even}
use Rattle.rules.specs.Heap.{Heap}
use Rattle.rules.specs.Calls.{Call, Malloc, Free, Realloc, Memalign, Usable, Answer, granted, done, bytes, refused, answer_to, block_of}
use Rattle.rules.specs.Tidy.{starts_in'}
use Rattle.chunk.specs.Bytes.{wrap, cinuse_b}
use Rattle.chunk.specs.Held.{Held, top_at_lem}
use Rattle.marks.specs.Marks.{turns, holdable, has_mark, set_mark, no_marks}
use Rattle.sound.specs.SoundBytes.{live_b}
use Rattle.decides.specs.MarksLaws.{and_both, sized_set, sized_drop, sized_none, in_place, none_in, in_set}
use Rattle.decides.specs.LiveLaws.{Live, live_decides, chunk_size, chunk_use}
use Rattle.calls.specs.CallBytes.{core_call}
use Rattle.calls.proofs.CallObeys.{call_obeys}
use Rattle.calls.specs.InUse.{Gone, Next}
use Rattle.calls.proofs.InUse.{call_tells}
use Rattle.live.specs.LiveBytes.{noted, live_from, live_set, without, follow}
use Rattle.live.specs.SetLaws.{In, set_in, drop_in}
use Rattle.live.specs.LiveSet.{Has, LiveIn, Lives}

has_same : (e : Edition) (m : List ℕ) (P Q : ℕ → Type 0) → ((off : ℕ) → P off ↔ Q off) → Has e m P → Has e m Q
has_same e m P Q f h = record { sized = h.sized; just = λ off. ((λ i. (f off).0 ((h.just off).0 i)), (λ q. (h.just off).1 ((f off).1 q))) }

-- ---- numbers

block_low : (e : Edition) (p : ℕ) → p % 2 ≡ 0 → p + 2 < 8192 → holdable e (block_of e p) ≡ true
unfolding holdable
block_low wide p v l = and_both _ _ (eq-eqb (8 * (p + 2) % 16) 0 (omega arith)) (lt-ltb (8 * (p + 2) / 16) 4096 (omega arith))
block_low narrow p v l = and_both _ _ (eq-eqb (4 * (p + 2) % 8) 0 (omega arith)) (lt-ltb (4 * (p + 2) / 8) 4096 (omega arith))

block_plain : (e : Edition) (p : ℕ) → p < 8192 → wrap e (enc e p + 2 * W e) ≡ block_of e p
block_plain wide p l = omega arith
block_plain narrow p l = omega arith

next_plain : (e : Edition) (p s : ℕ) → p + s ≤ 8192 → wrap e (enc e p + enc e s) ≡ enc e (p + s)
next_plain wide p s l = omega arith
next_plain narrow p s l = omega arith

bytes_lt : (e : Edition) (a b : ℕ) → a < b → enc e a < enc e b
bytes_lt wide a b l = omega arith
bytes_lt narrow a b l = omega arith

-- ---- one chunk of the walk

-- its block enters where it is in use
abbrev Here : Edition → ℕ → Chunk → ℕ → Type 0
Here e p (used s) off = off ≡ block_of e p
Here e p (free s) off = ⊥

noted_used : (e : Edition) (w : List ℕ) (p : ℕ) (m : List ℕ) → p < 8192 → cinuse_b e w (enc e p) ≡ true
    → noted e w (enc e p) m ≡ set_mark e m (block_of e p)
unfolding noted
noted_used e w p m l q = rw (q, block_plain e p l) refl

noted-free : (e : Edition) (w : List ℕ) (p : ℕ) (m : List ℕ) → cinuse_b e w (enc e p) ≡ false → noted e w (enc e p) m ≡ m
unfolding noted
noted-free e w p m q = rw q refl

noted_has : (e : Edition) (w : List ℕ) (p : ℕ) (pu : Bool) (c : Chunk) (m : List ℕ) (P : ℕ → Type 0) → ChunkAt e w p pu c → p % 2 ≡ 0
    → p + 2 < 8192 → Has e m P
    → Has e (noted e w (enc e p) m) (λ off. P off ⊎ Here e p c off)
noted_has e w p pu (used s) m P a v l h =
    subst (λ k. Has e k (λ off. P off ⊎ (off ≡ block_of e p))) (sym (noted_used e w p m (omega arith) (chunk_use e w p pu (used s) a)))
    (record {
      sized = sized_set e m (block_of e p) h.sized;
      just = λ off. let i = set_in e m h.sized (block_of e p) (block_low e p v l) off in (
        (λ u. ⊎_elim (λ k. inl ((h.just off).0 k)) (λ q. inr q) (i.0 u)),
        (λ u. i.1 (⊎_elim (λ k. inl ((h.just off).1 k)) (λ q. inr q) u)),
      );
    })
noted_has e w p pu (free s) m P a v l h =
    subst (λ k. Has e k (λ off. P off ⊎ ⊥)) (sym (noted-free e w p m (chunk_use e w p pu (free s) a)))
    (record { sized = h.sized; just = λ off. ((λ u. inl ((h.just off).0 u)), (λ u. (h.just off).1 (⊎_elim (λ k. k) (λ z. absurd z) u))) })

-- ---- the walk

here_live : (e : Edition) (p : ℕ) (c : Chunk) (cs : List Chunk) (off : ℕ) → Here e p c off ⊎ LiveIn e (p + size c) cs off
    → LiveIn e p (c ∷ cs) off
here_live e p (used s) cs off (inl q) = (p, s, inl (refl, refl), q)
here_live e p (free s) cs off (inl q) = absurd q
here_live e p c cs off (inr u) = (u.0, u.1, inr u.2, u.3)

live_here : (e : Edition) (p : ℕ) (c : Chunk) (cs : List Chunk) (off : ℕ) → LiveIn e p (c ∷ cs) off
    → Here e p c off ⊎ LiveIn e (p + size c) cs off
live_here e p c cs off u = go c u.2
  where
    go : (c : Chunk) → Starts p (c ∷ cs) u.0 (used u.1) → Here e p c off ⊎ LiveIn e (p + size c) cs off
    go (used s) (inl st) = inl (u.3 ∙ ap (block_of e) st.0)
    go (free s) (inl st) = let z : ◌≡◌ {A = ℕ} 0 1 = cc st.1 in absurd (let b : ⊥ = omega arith in b)
    go c (inr st) = inr (u.0, u.1, st, u.3)

walk_has : (e : Edition) (w : List ℕ) (k p : ℕ) (pu : Bool) (cs : List Chunk) (m : List ℕ) (P : ℕ → Type 0) → Run e w p pu cs → p % 2 ≡ 0
    → end_of p cs + 2 < 8192 → end_of p cs < p + 4 * k
    → Has e m P → Has e (live_from e w (enc e (end_of p cs)) k (enc e p) m) (λ off. P off ⊎ LiveIn e p cs off)
unfolding live_from
walk_has e w zero p pu cs m P run v l f h = absurd (let z : ⊥ = omega (arith, end_ge p cs) in z)
walk_has e w (suc k) p pu [] m P run v l f h =
    rw (le-leb (enc e p) (enc e p) (omega arith))
    (has_same e m P (λ off. P off ⊎ LiveIn e p [] off) (λ off. ((λ u. inl u), (λ u. ⊎_elim (λ z. z) (λ z. absurd z.2) u))) h)
walk_has e w (suc k) p pu (c ∷ cs) m P run v l f h =
    let least = least_of e w p pu c run.0 in
    let g = end_ge (p + size c) cs in
    let even : (p + size c) % 2 ≡ 0 = omega (arith, even_of e w p pu c run.0) in
    let n = noted_has e w p pu c m P run.0 v (omega (arith, g, least)) h in
    let r = walk_has e w k (p + size c) (in_use c) cs (noted e w (enc e p) m) (λ off. P off ⊎ Here e p c off) run.1 even l
    (omega (arith, f, least)) n in
    rw (
      lt-leb (enc e (end_of (p + size c) cs)) (enc e p) (bytes_lt e p (end_of (p + size c) cs) (omega (arith, g, least))),
      chunk_size e w p pu c run.0,
      next_plain e p (size c) (omega (arith, g)),
    )
    (has_same e _ _ (λ off. P off ⊎ LiveIn e p (c ∷ cs) off) (λ off. (
      ⊎_elim (⊎_elim (λ z. inl z) (λ z. inr (here_live e p c cs off (inl z)))) (λ z. inr (here_live e p c cs off (inr z))),
      ⊎_elim (λ z. inl (inl z)) (λ z. ⊎_elim (λ y. inl (inr y)) (λ y. inr y) (live_here e p c cs off z)),
    )) r)

none_has : (e : Edition) → Has e no_marks (λ off. ⊥)
none_has e = record { sized = sized_none; just = λ off. ((λ i. out off i), (λ z. absurd z)) }
  where
    out : (off : ℕ) → In e no_marks off → ⊥
    out off i =
        let x = in_place e no_marks off i in
        let one : in_set e no_marks x.0 ≡ 1 = ap (λ b. pick b 1 0) (ap (has_mark e no_marks) (sym x.1) ∙ i) in
        omega (arith, one, none_in e x.0)

-- ---- the answers

without_next : (e : Edition) (m : List ℕ) (P : ℕ → Type 0) → Has e m P → (c : Call)
    → Has e (without e m c) (λ off. P off × (Gone c off → ⊥))
without_next e m P h (Malloc n) = has_same e m P (λ off. P off × (⊥ → ⊥)) (λ off. ((λ u. (u, λ z. z)), (λ u. u.0))) h
without_next e m P h (Memalign al n) = has_same e m P (λ off. P off × (⊥ → ⊥)) (λ off. ((λ u. (u, λ z. z)), (λ u. u.0))) h
without_next e m P h (Usable b) = has_same e m P (λ off. P off × (⊥ → ⊥)) (λ off. ((λ u. (u, λ z. z)), (λ u. u.0))) h
without_next e m P h (Free b) =
    record {
      sized = sized_drop e m b h.sized;
      just = λ off. let d = drop_in e m h.sized b off in
          ((λ i. let u = d.0 i in ((h.just off).0 u.0, u.1)), (λ u. d.1 ((h.just off).1 u.0, u.1)));
    }
without_next e m P h (Realloc b n) =
    record {
      sized = sized_drop e m b h.sized;
      just = λ off. let d = drop_in e m h.sized b off in
          ((λ i. let u = d.0 i in ((h.just off).0 u.0, u.1)), (λ u. d.1 ((h.just off).1 u.0, u.1)));
    }

-- the set that follows an answer has just the ledger's blocks
abbrev Fit : Edition → Answer → Type 0
Fit e (granted b) = holdable e b ≡ true
Fit e done = Unit {0}
Fit e (bytes n) = Unit {0}
Fit e (refused why) = Unit {0}

follow_next : (e : Edition) (m : List ℕ) (P : ℕ → Type 0) → Has e m P → (c : Call) (a : Answer) → Fit e a
    → Has e (follow e m c a) (Next P c a)
follow_next e m P h c (granted b) f =
    let k = without_next e m P h c in
    record {
      sized = sized_set e (without e m c) b k.sized;
      just = λ off. let i = set_in e (without e m c) k.sized b f off in (
        (λ u. ⊎_elim (λ y. inl ((k.just off).0 y)) (λ q. inr q) (i.0 u)),
        (λ u. i.1 (⊎_elim (λ y. inl ((k.just off).1 y)) (λ q. inr q) u)),
      );
    }
follow_next e m P h c done f = without_next e m P h c
follow_next e m P h c (bytes n) f = h
follow_next e m P h c (refused why) f = h

-- ---- a heap that is held

same_bool : (a b : Bool) (P : Type 0) → ((a ≡ true) ↔ P) → (b ≡ true → P) × (P → b ≡ true) → a ≡ b
same_bool true b P f g = sym (g.1 (f.0 refl))
same_bool false true P f g = f.1 (g.0 refl)
same_bool false false P f g = refl

module _ (e : Edition) (r w : List ℕ) (h : Heap) (n : Held e r w h []) where
  low_end : end_of 0 h.chunks + 2 < 8192
  low_end = omega (arith, n.near.heads.top.ends, n.near.most)

  -- every live block has a place in the set
  live_holdable : (off : ℕ) → Live e h.chunks off → holdable e off ≡ true
  live_holdable off u =
      subst (λ z. holdable e z ≡ true) (sym u.3)
      (block_low e u.0 (starts_even e w 0 true h.chunks u.0 (used u.1) n.near.heads.run refl u.2)
      (omega (arith, starts_in' 0 h.chunks u.0 (used u.1) u.2, low_end)))

  -- the set that the walk makes
  pub made_lives : Lives e (live_set e w (get_or r 4 0)) h
  unfolding live_set
  made_lives =
      subst (λ (z : ℕ). Lives e (live_from e w z turns 0 no_marks) h) (sym (top_at_lem e r w h [] n))
      (subst (λ (z : ℕ). Lives e (live_from e w (enc e (end_of 0 h.chunks)) turns z no_marks) h) (let z : enc e 0 ≡ 0 = omega arith in z)
      (has_same e _ (λ off. ⊥ ⊎ LiveIn e 0 h.chunks off) (Live e h.chunks) (λ off. (⊎_elim (λ z. absurd z) (λ z. z), (λ z. inr z)))
      (walk_has e w turns 0 true h.chunks no_marks (λ off. ⊥) n.near.heads.run refl low_end (omega (arith, low_end)) (none_has e))))

  -- "liveness in constant time": its test is the check's
  pub says_live : (m : List ℕ) → Lives e m h → (off : ℕ) → has_mark e m off ≡ live_b e w (get_or r 4 0) off
  says_live m k off =
      same_bool (has_mark e m off) (live_b e w (get_or r 4 0) off) (Live e h.chunks off) (k.just off)
      (decides_iff _ (Live e h.chunks off) (live_decides e r w h n off))

-- after a call it has just the blocks of the heap that the call leaves
pub call_lives : (e : Edition) (r w : List ℕ) (h : Heap) → Held e r w h [] → (m : List ℕ) → Lives e m h → (c : Call)
    → Lives e (follow e m c (core_call e r w c).answer) (answer_to e (length w) h c).heap
call_lives e r w h n m k c =
    let o = answer_to e (length w) h c in
    let f = call_obeys e r w h n c in
    let t = core_call e r w c in
    subst (λ a. Lives e (follow e m c a) o.heap) (sym f.answer)
    (has_same e (follow e m c o.answer) (Next (Live e h.chunks) c o.answer) (Live e o.heap.chunks)
    (λ off. let u = call_tells e r w h n c off in (u.1, u.0))
    (follow_next e m (Live e h.chunks) k c o.answer
    (fit o.answer (λ b. live_holdable e t.image t.words o.heap f.held b) (call_tells e r w h n c))))
  where
    fit : (a : Answer) → ((b : ℕ) → Live e (answer_to e (length w) h c).heap.chunks b → holdable e b ≡ true)
        → ((off : ℕ) → Live e (answer_to e (length w) h c).heap.chunks off ↔ Next (Live e h.chunks) c a off) → Fit e a
    fit (granted b) l u = l b ((u b).1 (inr refl))
    fit done l u = tt
    fit (bytes x) l u = tt
    fit (refused why) l u = tt
