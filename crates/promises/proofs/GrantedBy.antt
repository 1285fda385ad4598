-- WHAT A GRANTED CALL WAS GRANTED BY: on a held heap a grant is the rule's, at the rule's place, and the heap after it is the rule's. One
-- record a call,
-- so that every statement about grants starts from it. Assumes nothing.
use Rattle.std.specs.Prelude.{◌≡◌, refl, Bool, true, false, List, [], ℕ, ◌*◌, ◌/◌, ◌≤◌, ltb, length}
use Rattle.std.proofs.Common.{sym, ◌∙◌, ap, arith, ltb-false}
use Rattle.std.proofs.Math.Option.{Option, none, some}
use Rattle.words.specs.Logic.{pick}
use Rattle.words.specs.Edition.{wide}
use Rattle.index.specs.Sizes.{need_words}
use Rattle.tiling.specs.Tiling.{used, Starts}
use Rattle.rules.specs.Heap.{Heap}
use Rattle.rules.specs.Malloc.{Grant, malloc}
use Rattle.rules.specs.Realloc.{realloc}
use Rattle.rules.specs.Memalign.{memalign}
use Rattle.rules.specs.Source.{Source}
use Rattle.rules.specs.Tidy.{TidyHeap}
use Rattle.rules.specs.Calls.{Call, Malloc, Free, Realloc, Memalign, Usable, Answer, granted, done, bytes, refused, bad_alignment, too_many}
use Rattle.rules.specs.Calls.{not_live, no_room}
use Rattle.rules.specs.Calls.{Outcome, refuse, is_in, alignments, block_of, live_size, grant_or6, moved_or6, free_call, realloc_call, usable_call}
use Rattle.rules.specs.Calls.{answer_to}
use Rattle.holds.specs.Holds.{Control, Holds}
use Rattle.holds.specs.Lookup.{heads_tidy}
use Rattle.holds.specs.Ops.{state}
use Rattle.holds.specs.MallocSource.{malloc_source}
use Rattle.chunk.specs.Held.{Held}
use Rattle.decides.specs.LiveLaws.{live_starts}
use Rattle.calls.specs.CallBytes.{refusal}
use Rattle.calls.specs.Record.{image}
use Rattle.calls.specs.RecordLaws.{held-image}
use Rattle.calls.specs.CallObeys.{Good}
use Rattle.calls.proofs.CallObeys.{one_of, goods, even, least, low}
use Rattle.calls.specs.Histories.{box}
use Rattle.calls.proofs.Histories.{calls-held}
use Rattle.promises.specs.Promises.{says}
use Rattle.promises.proofs.RowLaws.{place_is}

-- the number that an answer carries
abbrev pub value : Answer → ℕ
value (granted b) = b
value done = 0
value (bytes n) = n
value (refused why) = 0

pub granted_refused : {A : Type 0} {b : ℕ} (a : Answer) → (refusal a ≡ 0 → ⊥) → a ≡ granted b → A
granted_refused a f q = absurd (f (ap refusal q))

-- an answer that is no grant
abbrev is_grant : Answer → ℕ
is_grant (granted b) = 1
is_grant done = 0
is_grant (bytes n) = 0
is_grant (refused why) = 0

pub not_granted : {A : Type 0} {b : ℕ} (a : Answer) → is_grant a ≡ 0 → a ≡ granted b → A
not_granted a z q = absurd (let y : ⊥ = omega (arith, sym z ∙ ap is_grant q) in y)

module _ (c : Control) (w : List ℕ) (h : Heap) (n : Holds wide c w h) where
  pub answer : (k : Call) → says c w k ≡ (answer_to wide (length w) h k).answer
  answer k = (calls-held wide (box c w) h n k).answer

  pub held : Held wide (image c) w h []
  held = held-image wide c w h [] n

  pub tidy : TidyHeap h
  tidy = heads_tidy wide w h n.heads

  -- ---- what a granted call was granted by

  -- the rule's grant, of a call that was granted
  pub record By (k : Call) (off : ℕ) (o : Option Grant) : Type 0 where
    pub grant : Grant
    pub is : o ≡ some grant
    pub place : off ≡ block_of wide grant.place
    pub heap : (answer_to wide (length w) h k).heap ≡ grant.heap

  by_grant : (k : Call) (off : ℕ) (o : Option Grant) → (answer_to wide (length w) h k).heap ≡ (grant_or6 wide h o).heap
      → (grant_or6 wide h o).answer ≡ granted off → By k off o
  by_grant k off none q u = granted_refused (refused no_room) (λ v. let b : ⊥ = omega (arith, v) in b) u
  by_grant k off (some g) q u = record { grant = g; is = refl; place = sym (ap value u); heap = q }

  -- unless it asks for too many bytes
  few : (k : Call) (x off : ℕ) (A : Type 0) (o : Outcome) → answer_to wide (length w) h k ≡ pick (ltb (8 * length w) x) (refuse h too_many) o
      → (x ≤ 8 * length w → answer_to wide (length w) h k ≡ o → o.answer ≡ granted off → A)
      → (answer_to wide (length w) h k).answer ≡ granted off → A
  few k x off A o q f = go (ltb (8 * length w) x) refl q
    where
      go : (b : Bool) → ltb (8 * length w) x ≡ b → answer_to wide (length w) h k ≡ pick b (refuse h too_many) o
          → (answer_to wide (length w) h k).answer ≡ granted off → A
      go true z r u = granted_refused (refused too_many) (λ v. let b : ⊥ = omega (arith, v) in b)
          (sym (ap (λ (t : Outcome). t.answer) r) ∙ u)
      go false z r u = f (ltb-false (8 * length w) x z) r (sym (ap (λ (t : Outcome). t.answer) r) ∙ u)

  pub by_malloc : (x off : ℕ) → says c w (Malloc x) ≡ granted off → (x ≤ 8 * length w) × By (Malloc x) off (malloc wide h (need_words 8 x))
  by_malloc x off u =
      few (Malloc x) x off _ (grant_or6 wide h (malloc wide h (need_words 8 x))) refl
      (λ l q v. (l, by_grant (Malloc x) off (malloc wide h (need_words 8 x)) (ap (λ (t : Outcome). t.heap) q) v))
      (sym (answer (Malloc x)) ∙ u)

  -- of a resize: the block, too
  pub record Resized (b x off : ℕ) : Type 0 where
    pub fits : x ≤ 8 * length w
    pub at : ℕ
    pub words : ℕ
    pub starts : Starts 0 h.chunks at (used words)
    pub block : b ≡ block_of wide at
    pub lives : live_size wide 0 h.chunks b ≡ some words
    pub by : By (Realloc b x) off (realloc wide h at (need_words 8 x))
    pub outcome : answer_to wide (length w) h (Realloc b x) ≡ moved_or6 wide h at words (realloc wide h at (need_words 8 x))

  pub by_realloc : (b x off : ℕ) → says c w (Realloc b x) ≡ granted off → Resized b x off
  by_realloc b x off u =
      few (Realloc b x) x off _ (realloc_call wide h (live_size wide 0 h.chunks b) b x) refl
      (λ l q v. live l q (live_size wide 0 h.chunks b) refl v) (sym (answer (Realloc b x)) ∙ u)
    where
      nb : ℕ
      nb = need_words 8 x

      grants : (p s : ℕ) (o : Option Grant) → answer_to wide (length w) h (Realloc b x) ≡ moved_or6 wide h p s o
          → (moved_or6 wide h p s o).answer ≡ granted off → By (Realloc b x) off o
      grants p s none q v = granted_refused (refused no_room) (λ y. let z : ⊥ = omega (arith, y) in z) v
      grants p s (some g) q v = record { grant = g; is = refl; place = sym (ap value v); heap = ap (λ (t : Outcome). t.heap) q }

      live : x ≤ 8 * length w → answer_to wide (length w) h (Realloc b x) ≡ realloc_call wide h (live_size wide 0 h.chunks b) b x
          → (o : Option ℕ) → live_size wide 0 h.chunks b ≡ o
          → (realloc_call wide h (live_size wide 0 h.chunks b) b x).answer ≡ granted off → Resized b x off
      live l q none z v =
          granted_refused (refused (not_live b)) (λ y. let a : ⊥ = omega (arith, y) in a)
          (sym (ap (λ o. (realloc_call wide h o b x).answer) z) ∙ v)
      live l q (some s) z v =
          let a = live_starts wide 0 h.chunks b s z in
          let r : realloc_call wide h (live_size wide 0 h.chunks b) b x ≡ moved_or6 wide h a.0 s (realloc wide h a.0 nb) =
          ap (λ o. realloc_call wide h o b x) z
          ∙ ap (λ p. moved_or6 wide h p s (realloc wide h p nb)) (place_is c w h n b x s a.0 a.2 a.1) in
          record {
            fits = l;
            at = a.0;
            words = s;
            starts = a.1;
            block = a.2;
            lives = z;
            by = grants a.0 s (realloc wide h a.0 nb) (q ∙ r) (sym (ap (λ (t : Outcome). t.answer) r) ∙ v);
            outcome = q ∙ r;
          }

  -- of memalign: its alignment, too
  pub record Aligned (al x off : ℕ) : Type 0 where
    pub fits : x ≤ 8 * length w
    pub good : Good wide al
    pub by : By (Memalign al x) off (memalign wide h (al / 8) (need_words 8 x))

  pub by_memalign : (al x off : ℕ) → says c w (Memalign al x) ≡ granted off → Aligned al x off
  by_memalign al x off u = go (is_in al (alignments wide)) refl refl
    where
      nb : ℕ
      nb = need_words 8 x

      go : (b : Bool) → is_in al (alignments wide) ≡ b
          → answer_to wide (length w) h (Memalign al x) ≡ pick b
          (pick (ltb (8 * length w) x) (refuse h too_many) (grant_or6 wide h (memalign wide h (al / 8) nb))) (refuse h bad_alignment)
          → Aligned al x off
      go true z q =
          few (Memalign al x) x off _ (grant_or6 wide h (memalign wide h (al / 8) nb)) q
          (λ l r v. record {
            fits = l;
            good = one_of (Good wide) al (alignments wide) z (goods wide);
            by =
                by_grant (Memalign al x) off (memalign wide h (al / 8) nb) (ap (λ (t : Outcome). t.heap) r) v;
          })
          (sym (answer (Memalign al x)) ∙ u)
      go false z q =
          granted_refused (refused bad_alignment) (λ y. let a : ⊥ = omega (arith, y) in a)
          (sym (ap (λ (t : Outcome). t.answer) q) ∙ sym (answer (Memalign al x)) ∙ u)

  -- free and usable grant nothing
  pub free_none : {A : Type 0} (b off : ℕ) → says c w (Free b) ≡ granted off → A
  free_none b off u = not_granted (answer_to wide (length w) h (Free b)).answer (go (live_size wide 0 h.chunks b))
      (sym (answer (Free b)) ∙ u)
    where
      go : (o : Option ℕ) → is_grant (free_call wide h o b).answer ≡ 0
      go none = refl
      go (some s) = refl

  pub usable_none : {A : Type 0} (b off : ℕ) → says c w (Usable b) ≡ granted off → A
  usable_none b off u = not_granted (answer_to wide (length w) h (Usable b)).answer (go (live_size wide 0 h.chunks b))
      (sym (answer (Usable b)) ∙ u)
    where
      go : (o : Option ℕ) → is_grant (usable_call wide h o b).answer ≡ 0
      go none = refl
      go (some s) = refl

  -- where malloc's answer comes from
  pub source : (x : ℕ) → x ≤ 8 * length w → Source wide h (need_words 8 x) (malloc wide h (need_words 8 x))
  source x l = malloc_source wide (state c w) h n (need_words 8 x) (even wide (image c) w h held x l) (least wide (image c) w h held x l)
      (low wide (image c) w h held x l)
