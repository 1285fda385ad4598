-- Liveness is exact: in a heap that is held, `live_b` says of every offset just what the rule of the calls says, whether a chunk in use starts 2
-- words before it; and `usable_b` gives its owner's bytes. One equation of Bools by induction on the chunks: the walk compares bytes, the rule
-- compares offsets of blocks, and nothing lives before the first chunk or from the top on. For every offset, also one that is no multiple of a
-- word. Both editions. Assumes nothing.
use Rattle.std.specs.Prelude.{◌≡◌, refl, Bool, false, List, [], ◌∷◌, ℕ, zero, suc, ◌+◌, ◌-◌, ◌*◌, ◌≤◌, ◌<◌, eqb, leb, get_or}
use Rattle.std.proofs.Common.{sym, ◌∙◌, inl, inr, ⊎_elim, eqb-true, eq-eqb, ne_eqb, leb-false, le-leb, lt-ltb, le-ltb}
use Rattle.std.proofs.Math.Path.{ap}
use Rattle.std.proofs.Math.Bool.{true}
use Rattle.std.proofs.Math.Option.{Option, none, some}
use native.Mathlib.Omega.{arith}
use Rattle.std.proofs.lemmas.Bool.{eqb-false, lt-leb}
use Rattle.words.specs.Logic.{pick, pick_case, Decides, lt_or_le}
use Rattle.words.specs.Edition.{Edition, wide, narrow, W, enc}
use Rattle.tiling.specs.Tiling.{Chunk, used, free, size, in_use, end_of, ChunkAt, Run, end_ge, least_of, Starts, starts_at_lem}
use Rattle.rules.specs.Heap.{Heap}
use Rattle.rules.specs.Calls.{block_of, live_size}
use Rattle.rules.specs.Tidy.{Tidy, starts_in'}
use Rattle.rules.proofs.ReallocLaws.{some_none}
use Rattle.holds.specs.Lookup.{run_tidy}
use Rattle.chunk.specs.Bytes.{size_b, cinuse_b}
use Rattle.chunk.specs.Plain.{size_plain, cinuse_plain}
use Rattle.chunk.specs.Held.{Held, top_at_lem}
use Rattle.marks.specs.Marks.{turns}
use Rattle.sound.specs.SoundBytes.{starts_at, live_b, usable_b}
use Rattle.decides.specs.TilingLaws.{sum_bytes}

-- ---- the rule's answer, and the blocks

abbrev pub is_some : Option ℕ → Bool
is_some none = false
is_some (some s) = true

-- a live block starts at this offset
abbrev pub Live : Edition → List Chunk → ℕ → Type 0
Live e cs off = (p : ℕ) × (s : ℕ) × Starts 0 cs p (used s) × (off ≡ block_of e p)

-- blocks stand as their chunks do
block_lt : (e : Edition) (a b : ℕ) → a < b → block_of e a < block_of e b
block_lt wide a b l = omega arith
block_lt narrow a b l = omega arith

block_le : (e : Edition) (a b : ℕ) → a ≤ b → block_of e a ≤ block_of e b
block_le wide a b l = omega arith
block_le narrow a b l = omega arith

block_is : (e : Edition) (p : ℕ) → block_of e p ≡ enc e p + 2 * W e
block_is wide p = omega arith
block_is narrow p = omega arith

-- what the rule finds is a block, of that size
pub live_starts : (e : Edition) (a : ℕ) (cs : List Chunk) (off s : ℕ) → live_size e a cs off ≡ some s → (p : ℕ) × Starts a cs p (used s) × (off ≡ block_of e p)
live_starts e a [] off s q = some_none (sym q)
live_starts e a (free n ∷ cs) off s q = let r = live_starts e (a + n) cs off s q in (r.0, inr r.1, r.2)
live_starts e a (used n ∷ cs) off s q =
    pick_case (λ o. o ≡ some s → (p : ℕ) × Starts a (used n ∷ cs) p (used s) × (off ≡ block_of e p)) (eqb off (block_of e a))
    (λ z u. (a, inl (refl, (let v : used s ≡ used n = cc in v)), eqb-true off (block_of e a) z))
    (λ z u. let r = live_starts e (a + n) cs off s u in (r.0, inr r.1, r.2))
    q

-- and it finds every block
pub starts_live : (e : Edition) (pu : Bool) (a : ℕ) (cs : List Chunk) (p s : ℕ) → Tidy pu cs → Starts a cs p (used s) → live_size e a cs (block_of e p) ≡ some s
starts_live e pu a [] p s t st = absurd st
starts_live e pu a (free n ∷ cs) p s t (inl st) = let z : ◌≡◌ {A = ℕ} 0 1 = cc st.1 in absurd (let b : ⊥ = omega arith in b)
starts_live e pu a (free n ∷ cs) p s t (inr st) = starts_live e false (a + n) cs p s t.3 st
starts_live e pu a (used n ∷ cs) p s t (inl st) = rw (eq-eqb (block_of e p) (block_of e a) (ap (block_of e) st.0)) (let z : some n ≡ some s = cc st.1 in z)
starts_live e pu a (used n ∷ cs) p s t (inr st) =
    rw (ne_eqb (block_of e p) (block_of e a) (λ z. omega (arith, block_lt e a p (omega (arith, t.1, starts_in' (a + n) cs p (used s) st))))) (starts_live e true (a + n) cs p s t.2 st)

-- nothing lives before the first chunk, nor from the end on
before_none : (e : Edition) (a : ℕ) (cs : List Chunk) (off : ℕ) → off < block_of e a → live_size e a cs off ≡ none
before_none e a [] off l = refl
before_none e a (free n ∷ cs) off l = before_none e (a + n) cs off (omega (arith, l, block_le e a (a + n) (omega arith)))
before_none e a (used n ∷ cs) off l = rw (ne_eqb off (block_of e a) (λ z. omega arith)) (before_none e (a + n) cs off (omega (arith, l, block_le e a (a + n) (omega arith))))

behind_none : (e : Edition) (pu : Bool) (a : ℕ) (cs : List Chunk) (off : ℕ) → Tidy pu cs → block_of e (end_of a cs) ≤ off → live_size e a cs off ≡ none
behind_none e pu a [] off t l = refl
behind_none e pu a (free n ∷ cs) off t l = behind_none e false (a + n) cs off t.3 l
behind_none e pu a (used n ∷ cs) off t l =
    rw (ne_eqb off (block_of e a) (λ z. omega (arith, l, block_lt e a (end_of (a + n) cs) (omega (arith, t.1, end_ge (a + n) cs))))) (behind_none e true (a + n) cs off t.2 l)

-- ---- what the heads say

pub chunk_size : (e : Edition) (w : List ℕ) (p : ℕ) (pu : Bool) (c : Chunk) → ChunkAt e w p pu c → size_b e w (enc e p) ≡ enc e (size c)
chunk_size e w p true (used s) a = size_plain e w p s 3 (omega (arith, a.head)) a.even (omega arith)
chunk_size e w p false (used s) a = size_plain e w p s 2 (omega (arith, a.head)) a.even (omega arith)
chunk_size e w p pu (free s) a = size_plain e w p s 1 a.head a.even (omega arith)

pub chunk_use : (e : Edition) (w : List ℕ) (p : ℕ) (pu : Bool) (c : Chunk) → ChunkAt e w p pu c → cinuse_b e w (enc e p) ≡ in_use c
chunk_use e w p true (used s) a = cinuse_plain e w p s 3 (omega (arith, a.head)) a.even (omega arith)
chunk_use e w p false (used s) a = cinuse_plain e w p s 2 (omega (arith, a.head)) a.even (omega arith)
chunk_use e w p pu (free s) a = cinuse_plain e w p s 1 a.head a.even (omega arith)

-- ---- the walk

-- the rule's answer at the chunk itself, and at another place
here_is : (e : Edition) (p : ℕ) (c : Chunk) (cs : List Chunk) → 4 ≤ size c → is_some (live_size e p (c ∷ cs) (enc e p + 2 * W e)) ≡ in_use c
here_is e p (used s) cs l = rw (eq-eqb (enc e p + 2 * W e) (block_of e p) (sym (block_is e p))) refl
here_is e p (free s) cs l = rw (before_none e (p + s) cs (enc e p + 2 * W e) (omega (arith, block_is e p, block_lt e p (p + s) (omega arith)))) refl

past_is : (e : Edition) (p : ℕ) (c : Chunk) (cs : List Chunk) (o : ℕ) → (enc e p ≡ o → ⊥) → live_size e p (c ∷ cs) (o + 2 * W e) ≡ live_size e (p + size c) cs (o + 2 * W e)
past_is e p (free s) cs o n = refl
past_is e p (used s) cs o n = rw (ne_eqb (o + 2 * W e) (block_of e p) (λ z. n (omega (arith, z, block_is e p)))) refl

starts_is : (e : Edition) (w : List ℕ) (k p : ℕ) (pu : Bool) (cs : List Chunk) (o : ℕ) → Run e w p pu cs → o < enc e (end_of p cs) → end_of p cs < p + 4 * k
    → starts_at e w k (enc e p) o ≡ is_some (live_size e p cs (o + 2 * W e))
unfolding starts_at
starts_is e w zero p pu cs o h l f = absurd (let z : ⊥ = omega (arith, end_ge p cs) in z)
starts_is e w (suc k) p pu [] o h l f = rw (ne_eqb (enc e p) o (λ z. omega arith), lt-leb (enc e p + size_b e w (enc e p)) o (omega arith)) refl
starts_is e w (suc k) p pu (c ∷ cs) o h l f =
    pick_case (λ (b : Bool). b ≡ is_some (live_size e p (c ∷ cs) (o + 2 * W e))) (eqb (enc e p) o)
    (λ z. chunk_use e w p pu c h.0 ∙ sym (here_is e p c cs least) ∙ ap (λ x. is_some (live_size e p (c ∷ cs) (x + 2 * W e))) (eqb-true (enc e p) o z))
    (λ z. tail (starts_is e w k (p + size c) (in_use c) cs o h.1 l (omega (arith, f, least))) ∙ ap is_some (sym (past_is e p c cs o (eqb-false (enc e p) o z))))
  where
    least : 4 ≤ size c
    least = least_of e w p pu c h.0

    next : enc e p + size_b e w (enc e p) ≡ enc e (p + size c)
    next = ap (λ n. enc e p + n) (chunk_size e w p pu c h.0) ∙ sum_bytes e p (size c)

    tail : starts_at e w k (enc e (p + size c)) o ≡ is_some (live_size e (p + size c) cs (o + 2 * W e))
        → pick (leb (enc e p + size_b e w (enc e p)) o) (starts_at e w k (enc e p + size_b e w (enc e p)) o) false ≡ is_some (live_size e (p + size c) cs (o + 2 * W e))
    tail r = rw next (pick_case (λ (b : Bool). b ≡ is_some (live_size e (p + size c) cs (o + 2 * W e))) (leb (enc e (p + size c)) o)
        (λ z. r)
        (λ z. ap is_some (sym (before_none e (p + size c) cs (o + 2 * W e) (omega (arith, leb-false (enc e (p + size c)) o z, block_is e (p + size c)))))))

-- ---- the answers

live_at : (e : Edition) (w : List ℕ) (cs : List Chunk) (top off : ℕ) → Run e w 0 true cs → end_of 0 cs ≤ 8192 → top ≡ enc e (end_of 0 cs) → live_b e w top off ≡ is_some (live_size e 0 cs off)
unfolding live_b
live_at e w cs top off run m q =
    let o = off - 2 * W e in
    ⊎_elim
    (λ l. rw (lt-leb (2 * W e) off l) (ap is_some (sym (before_none e 0 cs off (omega (arith, l, block_is e 0))))))
    (λ g. rw (le-leb (2 * W e) off g) (⊎_elim
    (λ l. rw (lt-ltb o top l)
    (ap (λ z. starts_at e w turns z o) (let z : 0 ≡ enc e 0 = omega arith in z) ∙ starts_is e w turns 0 true cs o run (omega (arith, l, q)) (omega arith)
    ∙ ap (λ x. is_some (live_size e 0 cs x)) (let z : o + 2 * W e ≡ off = omega (arith, g) in z)))
    (λ l. rw (le-ltb o top l) (ap is_some (sym (behind_none e true 0 cs off (run_tidy e w 0 true cs run) (omega (arith, g, l, q, block_is e (end_of 0 cs)))))))
    (lt_or_le o top)))
    (lt_or_le off (2 * W e))

module _ (e : Edition) (r w : List ℕ) (h : Heap) (n : Held e r w h []) (off : ℕ) where
  -- the check's answer is the rule's
  pub live_is : live_b e w (get_or r 4 0) off ≡ is_some (live_size e 0 h.chunks off)
  live_is = live_at e w h.chunks (get_or r 4 0) off n.near.heads.run (omega (arith, n.near.heads.top.ends, n.near.most)) (top_at_lem e r w h [] n)

  pub live_decides : Decides (live_b e w (get_or r 4 0) off) (Live e h.chunks off)
  live_decides = rw live_is (go (live_size e 0 h.chunks off) refl)
    where
      go : (o : Option ℕ) → live_size e 0 h.chunks off ≡ o → Decides (is_some o) (Live e h.chunks off)
      go (some s) q = let a = live_starts e 0 h.chunks off s q in (a.0, s, a.1, a.2)
      go none q = λ b. some_none (sym (starts_live e true 0 h.chunks b.0 b.1 (run_tidy e w 0 true h.chunks n.near.heads.run) b.2) ∙ ap (live_size e 0 h.chunks) (sym b.3) ∙ q)

  -- a live block's bytes
  pub usable_is : (s : ℕ) → live_size e 0 h.chunks off ≡ some s → usable_b e w off ≡ W e * (s - 1)
  unfolding usable_b
  usable_is s q =
      let a = live_starts e 0 h.chunks off s q in
      let p = a.0 in
      let c = starts_at_lem e w 0 true h.chunks p (used s) n.near.heads.run a.1 in
      rw (le-ltb off (2 * W e) (omega (arith, a.2, block_is e p)))
      (ap (λ o. size_b e w o - W e) (let z : off - 2 * W e ≡ enc e p = omega (arith, a.2, block_is e p) in z)
      ∙ ap (λ b. b - W e) (chunk_size e w p c.0 (used s) c.1) ∙ bytes e)
    where
      bytes : (e : Edition) → enc e s - W e ≡ W e * (s - 1)
      bytes wide = omega arith
      bytes narrow = omega arith
