-- DEMAND 3 IS KEPT: after any history the record and the arena hold the rules' heap; a live block is a chunk in use of that heap, and what
-- `calls` shows of
-- chunks in use over whole histories is said of blocks here. Assumes nothing.
use Rattle.std.specs.Prelude.{◌≡◌, refl, true, List, [], ◌∷◌, ◌↔◌, ◌⊎◌, ℕ, ◌+◌, ◌-◌, ◌*◌, ◌≤◌, ◌<◌, length, get_or, set}
use Rattle.std.proofs.Common.{sym, ◌∙◌, ap, subst, inl, inr, ⊎_elim, arith, lt-ltb, length-set, get_or-set_same}
use Rattle.std.proofs.Math.Option.{Option, none, some}
use Rattle.words.specs.Edition.{wide}
use Rattle.tiling.specs.Tiling.{Chunk, used, free, Starts}
use Rattle.rules.specs.Heap.{Heap, fresh_heap}
use Rattle.rules.specs.Tidy.{starts_in'}
use Rattle.rules.specs.Calls.{Call, Usable, Answer, bytes, block_of, live_size, usable_call, answer_to}
use Rattle.holds.specs.Holds.{fresh_control}
use Rattle.holds.specs.Unique.{NoneInUse}
use Rattle.holds.specs.Lookup.{heads_tidy}
use Rattle.sound.specs.SoundBytes.{usable_b}
use Rattle.decides.specs.LiveLaws.{is_some, Live, live_starts, starts_live}
use Rattle.calls.specs.CallBytes.{refusal}
use Rattle.calls.specs.ByValue.{call_a}
use Rattle.calls.proofs.Histories as H
use Rattle.calls.specs.Histories as H-defs
use Rattle.calls.specs.Rebuilds.{remade}
use Rattle.calls.specs.Histories.{Box, box, Event, asks, writes, rebuilds, write_b, asked, remade_box, after, answers}
use Rattle.calls.specs.Histories.{heap_after, HeldIn, set_up_on}
use Rattle.calls.proofs.Histories.{calls-held, write_held, remade-held, live_in, usable_in, word_of, from_set_up}
use Rattle.calls.proofs.InUse as use-of
use Rattle.calls.specs.InUse.{Ledger}
use Rattle.calls.specs.Kept.{Unmoved, Unwritten, Kept}
use Rattle.calls.proofs.Kept.{blocks_apart, kept}
use Rattle.promises.specs.Promises.{Allowed, LiveAt, then, NoneUnsound}
use Rattle.promises.proofs.RowLaws.{Row, third, fourth, fifth, sixth, served, row_of}
use Rattle.promises.proofs.GrantedBy.{value}

-- ---- a live block is a chunk in use

-- the block at the offset, of n bytes, is the chunk of `words` words at `at`
pub record Block (h : Heap) (off n : ℕ) : Type 0 where
  pub at : ℕ
  pub words : ℕ
  pub starts : Starts 0 h.chunks at (used words)
  pub place : off ≡ block_of wide at
  pub long : n ≡ 8 * (words - 1)

module _ (s : Box) (h : Heap) (n : HeldIn wide s h) where
  told : (off : ℕ) → (call_a wide s.control s.words (Usable off)).answer ≡ (usable_call wide h
      (live_size wide 0 h.chunks off) off).answer
  told off = (calls-held wide s h n (Usable off)).answer

  pub block_of_lem : (off k : ℕ) → LiveAt s off k → Block h off k
  block_of_lem off k q = go (live_size wide 0 h.chunks off) refl (sym (told off) ∙ q)
    where
      go : (z : Option ℕ) → live_size wide 0 h.chunks off ≡ z → (usable_call wide h z off).answer ≡ bytes k → Block h off k
      go none u y = absurd (let v : 5 ≡ 0 = ap refusal y in let z : ⊥ = omega (arith, v) in z)
      go (some t) u y =
          let a = live_starts wide 0
          h.chunks off t u in record { at = a.0; words = t; starts = a.1; place = a.2; long = sym (ap value y) }

  pub live_at : (x t : ℕ) → Starts 0 h.chunks x (used t) → LiveAt s (block_of wide x) (8 * (t - 1))
  live_at x t st = told (block_of wide x)
      ∙ ap (λ z. (usable_call wide h z (block_of wide x)).answer)
      (starts_live wide true 0 h.chunks x t (heads_tidy wide s.words h n.heads).chunks st)

  -- the block at a place that is known
  pub block_at : (x k : ℕ) → LiveAt s (block_of wide x) k → (t : ℕ) × Starts 0 h.chunks x (used t) × (k ≡ 8 * (t - 1))
  block_at x k q =
      let b = block_of_lem (block_of wide x) k q in
      let z : b.at ≡ x = omega (arith, b.place) in
      (b.words, subst (λ (y : ℕ). Starts 0 h.chunks y (used b.words)) z b.starts, b.long)

  live_is : (off : ℕ) → ((k : ℕ) × LiveAt s off k) ↔ Live wide h.chunks off
  live_is off = (
    λ u. let b = block_of_lem off u.0 u.1 in (b.at, b.words, b.starts, b.place),
    λ u. (8 * (u.1 - 1), subst (λ (y : ℕ). LiveAt s y (8 * (u.1 - 1))) (sym u.3) (live_at u.0 u.1 u.2)),
  )

  none_live : ((off k : ℕ) → LiveAt s off k → ⊥) → NoneInUse h.chunks
  none_live f = go 0 h.chunks (λ x t st. f (block_of wide x) (8 * (t - 1)) (live_at x t st))
    where
      go : (a : ℕ) (cs : List Chunk) → ((x t : ℕ) → Starts a cs x (used t) → ⊥) → NoneInUse cs
      go a [] g = tt
      go a (used t ∷ cs) g = g a t (inl (refl, refl))
      go a (free t ∷ cs) g = go (a + t) cs (λ x u st. g x u (inr st))

-- ---- no call is refused as unsound

late : (m : ℕ) (h : Heap) (k : Call) (n : ℕ) → Row m h k n → (n ≡ 1 → ⊥) × (n ≡ 2 → ⊥)
late m h k n (third a) = ((λ q. omega (arith, q)), (λ q. omega (arith, q)))
late m h k n (fourth a b) = ((λ q. omega (arith, q)), (λ q. omega (arith, q)))
late m h k n (fifth a b c) = ((λ q. omega (arith, q)), (λ q. omega (arith, q)))
late m h k n (sixth a b c d) = ((λ q. omega (arith, q)), (λ q. omega (arith, q)))
late m h k n (served a b c d) = ((λ q. omega (arith, q)), (λ q. omega (arith, q)))

pub none_unsound : (s : Box) (h : Heap) → HeldIn wide s h → (es : List Event) → NoneUnsound (answers wide s es)
none_unsound s h n [] = tt
none_unsound s h n (asks k ∷ es) =
    let f = calls-held wide s h n k in
    let r = late (length s.words) h k (refusal (answer_to wide (length s.words) h k).answer) (row_of s.control s.words h n k) in
    let q = subst (λ (a : Answer). (refusal a ≡ 1 → ⊥) × (refusal a ≡ 2 → ⊥)) (sym f.answer) r in
    (q.0, q.1, none_unsound (asked wide s k) (answer_to wide (length s.words) h k).heap f.held es)
none_unsound s h n (writes off i v ∷ es) =
    none_unsound (box s.control (write_b wide s off i v)) h (write_held wide s h n off i v).held es
none_unsound s h n (rebuilds ∷ es) =
    let f = remade-held wide s h n in
    let q = subst (λ (a : Answer). (refusal a ≡ 1 → ⊥) × (refusal a ≡ 2 → ⊥)) (sym f.answer)
    ((λ y. omega (arith, y)), (λ y. omega (arith, y))) in
    (q.0, q.1, none_unsound (remade_box wide s) (remade wide h) f.held es)

-- ---- from one granted set-up

module _ (w : List ℕ) (a : Allowed (length w)) where
  -- the heap that is held after es
  abbrev pub heap : List Event → Heap
  heap es = heap_after wide (length (set_up_on wide w).words) (fresh_heap (length w)) es

  goes : (es : List Event) → H-defs.Goes wide (set_up_on wide w) (fresh_heap (length w)) es
  goes es = from_set_up wide w a.0 a.1 a.2 es

  pub held : (es : List Event) → HeldIn wide (then w es) (heap es)
  held es = (goes es).held

  pub count : (es : List Event) → length (then w es).words ≡ length w
  count es = (goes es).count ∙ simp length-set refl

  pub in_use : (es : List Event) (off : ℕ)
      → ((n : ℕ) × LiveAt (then w es) off n) ↔ Ledger (λ o. ⊥) es (answers wide (set_up_on wide w) es) off
  in_use es off =
      let u = live_is (then w es) (heap es) (held es) off in
      let v = use-of.in_use wide w a.0 a.1 a.2 es off in ((λ z. v.0 (u.0 z)), (λ z. u.1 (v.1 z)))

  pub apart : (es : List Event) (off n off' n' : ℕ) → LiveAt (then w es) off n → LiveAt (then w es) off' n' → (off ≡ off' → ⊥)
      → (off + n ≤ off') ⊎ (off' + n' ≤ off)
  apart es off n off' n' p q ne =
      let b = block_of_lem (then w es) (heap es) (held es) off n p in
      let c = block_of_lem (then w es) (heap es) (held es) off' n' q in
      ⊎_elim (λ u. inl (omega (arith, u, b.place, b.long, c.place))) (λ u. inr (omega (arith, u, b.place, c.long, c.place)))
      (blocks_apart (heap es) b.at b.words c.at c.words b.starts c.starts
      (λ z. ne (b.place ∙ ap (block_of wide) z ∙ sym c.place)))

  pub inside : (es : List Event) (off n : ℕ) → LiveAt (then w es) off n → off + n ≤ 8 * length w
  inside es off n p =
      let b = block_of_lem (then w es) (heap es) (held es) off n p in
      omega (
        arith,
        b.place,
        b.long,
        starts_in' 0 (heap es).chunks b.at (used b.words)
            b.starts,
        (held es).heads.top.ends,
        count es,
      )

  -- what `calls` shows of the block at x over fs
  over : (es fs : List Event) (x n : ℕ) (p : LiveAt (then w es) (block_of wide x) n) → Unmoved wide (then w es) fs x
      → Kept wide (then w es) (heap es) x (block_at (then w es) (heap es) (held es) x n p).0 fs
  over es fs x n p u = let b =
      block_at (then w es) (heap es) (held es) x n p in kept wide (then w es) (heap es) (held es) x b.0 b.1 fs u

  pub stays : (es fs : List Event) (x n : ℕ) → LiveAt (then w es) (block_of wide x) n → Unmoved wide (then w es) fs x
      → LiveAt (after wide (then w es) fs) (block_of wide x) n
  stays es fs x n p u =
      let b = block_at (then w es) (heap es) (held es) x n p in
      let g = H.goes wide (then w es) (heap es) (held es) fs in
      subst (LiveAt (after wide (then w es) fs) (block_of wide x)) (sym b.2)
      (live_at (after wide (then w es) fs) (heap_after wide (length (then w es).words) (heap es) fs) g.held x b.0
      (over es fs x n p u).stays)

  pub keeps : (es fs : List Event) (x n i : ℕ) → LiveAt (then w es) (block_of wide x) n → 8 * i < n → Unmoved wide (then w es) fs x
      → Unwritten wide fs x i
      → get_or (after wide (then w es) fs).words (x + 2 + i) 0 ≡ get_or (then w es).words (x + 2 + i) 0
  keeps es fs x n i p l u v =
      (over es fs x n p u).word i (omega (arith, l, (block_at (then w es) (heap es) (held es) x n p).2)) v

  pub reads_back : (es : List Event) (x n i v : ℕ) → LiveAt (then w es) (block_of wide x) n → 8 * i < n
      → get_or (after wide (then w es) (writes (block_of wide x) i v ∷ [])).words (x + 2 + i) 0 ≡ v
  reads_back es x n i v p l =
      let b = block_at (then w es) (heap es) (held es) x n p in
      let s = then w es in
      let h = heap es in
      let off = block_of wide x in
      let z = starts_live wide true 0 h.chunks x b.0 (heads_tidy wide s.words h (held es).heads).chunks b.1 in
      let m = live_in wide s h (held es) off ∙ ap is_some z in
      let k = usable_in wide s h (held es) off b.0 z in
      let y : write_b wide s off i v ≡ set s.words (x + 2 + i) v =
      rw (
        m,
        lt-ltb (8 * i) (usable_b wide s.words off)
            (subst (λ (q : ℕ). 8 * i < q) (sym k) (subst (λ (q : ℕ). 8 * i < q) b.2 l)),
        word_of wide x,
      ) refl in
      ap (λ q. get_or q (x + 2 + i) 0) y
      ∙ get_or-set_same s.words (x + 2 + i) v 0
      (omega (arith, l, b.2, starts_in' 0 h.chunks x (used b.0) b.1, (held es).heads.top.ends))

  pub fresh_record : (es : List Event) → ((off n : ℕ) → LiveAt (then w es) off n → ⊥) → (then w es).control ≡ fresh_control wide (length w)
  fresh_record es f = H.fresh_record wide w a.0 a.1 a.2 es (none_live (then w es) (heap es) (held es) f)

  pub fresh-answers : (v : List ℕ) (es fs : List Event) → length v ≡ length w → ((off n : ℕ) → LiveAt (then w es) off n → ⊥)
      → answers wide (then w es) fs ≡ answers wide (set_up_on wide v) fs
  fresh-answers v es fs q f = H.fresh-answers wide w a.0 a.1 a.2 es (none_live (then w es) (heap es) (held es) f) v q fs
