-- THE BATCH IS THE SAME CALLS MADE ONE AT A TIME. (1) The code's fold, with liveness by the set, is the fold of the calls without the
-- check: on a sound pair the set is the live blocks, call after call. (2) That fold is the fold of the calls with the check, each given
-- what the one before left: none of them is refused as unsound. A whole that is refused changes nothing; words past the last answer stay.
-- One simulation law of the fold serves (1) and (2). For all inputs. Assumes nothing.
use Rattle.std.specs.Prelude.{◌≡◌, Bool, List, [], eqb, length, get_or, set}
use Rattle.std.proofs.Math.Path.{refl, ap, subst}
use Rattle.std.proofs.Common.{sym, ◌∙◌, arith}
use Rattle.std.proofs.Math.Bool.{true, false}
use Prim.Native.Nat.{ℕ, zero, suc, ◌+◌, ◌*◌, ◌/◌, ◌≤◌}
use Rattle.std.proofs.Math.ListN.{length-set}
use Rattle.std.proofs.Math.Seq.{get_or-set_other}
use Rattle.words.specs.Logic.{pick, pick_case, by, decided_yes}
use Rattle.words.specs.Edition.{Edition}
use Rattle.rules.specs.Heap.{Heap}
use Rattle.rules.specs.Calls.{Call, Malloc, Free, Realloc, Memalign, Usable, answer_to, allowed_count}
use Rattle.holds.specs.Holds.{Sound}
use Rattle.chunk.specs.Image.{decode}
use Rattle.chunk.specs.Held.{Held}
use Rattle.chunk.specs.Bytes.{Store, store}
use Rattle.marks.specs.Marks.{has_mark}
use Rattle.sound.specs.SoundBytes.{sound_b, live_b}
use Rattle.decides.specs.SoundLaws.{sound_decides}
use Rattle.calls.specs.CallBytes.{Told, core_call}
use Rattle.calls.proofs.CallObeys.{call_obeys}
use Rattle.live.specs.LiveBytes.{live_set}
use Rattle.live.proofs.LiveSet.{made_lives, says_live, call_lives}
use Rattle.batch.specs.BatchBytes.{Said, by_kind, call_at, step_at, write_at, Ran, runs, lists_fit, Batched, batched, guarded, refused_b}
use Rattle.batch.specs.BatchBytes.{made, ends_in, batch_b, Kept, kept, set_call, keeps, marked, ends_kept, batch_m}
use Rattle.batch.specs.BatchLaws.{Follows, InStep, Like}

-- ---- two ways of making the calls, in step

module _ {S T : Type 0} (f : S → Call → Said S) (g : T → Call → Said T) (R : S → T → Type 0)
    (like : (s : S) (t : T) → R s t → (c : Call) → Like R (f s c) (g t c)) where
  kind_like : (s : S) (t : T) → R s t → (kind x y : ℕ) → Like R (by_kind f s kind x y) (by_kind g t kind x y)
  unfolding by_kind
  kind_like s t q kind x y =
      two (eqb kind 0) (like s t q (Malloc x))
      (two (eqb kind 1) (like s t q (Free x))
      (two (eqb kind 2) (like s t q (Realloc x y))
      (two (eqb kind 3) (like s t q (Memalign x y)) (record { refusal = refl; offset = refl; left = q }))))
    where
      two : (b : Bool) {a a' : Said S} {d d' : Said T} → Like R a d → Like R a' d' → Like R (pick b a a') (pick b d d')
      two true u v = u
      two false u v = v

  call_like : (s : S) (t : T) → R s t → (cs : List ℕ) (i : ℕ) → Like R (call_at f s cs i) (call_at g t cs i)
  unfolding call_at
  call_like s t q cs i = kind_like s t q (get_or cs (3 * i) 0) (get_or cs (3 * i + 1) 0) (get_or cs (3 * i + 2) 0)

  pub in_step : (s : S) (t : T) → R s t → (cs xs : List ℕ) (i n : ℕ) → InStep R (runs f s cs xs i n) (runs g t cs xs i n)
  unfolding runs step_at
  in_step s t q cs xs i zero = record { answers = refl; left = q }
  in_step s t q cs xs i (suc n) =
      let a = call_at f s cs i in
      let b = call_at g t cs i in
      let k = call_like s t q cs i in
      let same : write_at xs i a.refusal a.offset
      ≡ write_at xs i b.refusal b.offset =
      ap (λ z. write_at xs i z a.offset) k.refusal ∙ ap (write_at xs i b.refusal) k.offset in
      subst (λ z. InStep R (runs f a.left cs (write_at xs i a.refusal a.offset) (i + 1) n) (runs g b.left cs z (i + 1) n)) same
      (in_step a.left b.left k.left cs (write_at xs i a.refusal a.offset) (i + 1) n)

-- ---- the answers' list

module _ {S : Type 0} (f : S → Call → Said S) where
  pub answers_long : (s : S) (cs xs : List ℕ) (i n : ℕ) → length (runs f s cs xs i n).answers ≡ length xs
  unfolding runs step_at
  answers_long s cs xs i zero = refl
  answers_long s cs xs i (suc n) =
      let a = call_at f s cs i in
      answers_long a.left cs (write_at xs i a.refusal a.offset) (i + 1) n
      ∙ length-set (set xs (2 * i) a.refusal) (2 * i + 1) a.offset ∙ length-set xs (2 * i) a.refusal

  -- "words past the last answer stay"
  pub past_last : (s : S) (cs xs : List ℕ) (i n k : ℕ) → 2 * (i + n) ≤ k → get_or (runs f s cs xs i n).answers k 0 ≡ get_or xs k 0
  unfolding runs step_at
  past_last s cs xs i zero k l = refl
  past_last s cs xs i (suc n) k l =
      let a = call_at f s cs i in
      past_last a.left cs (write_at xs i a.refusal a.offset) (i + 1) n k (omega arith)
      ∙ get_or-set_other (set xs (2 * i) a.refusal) (2 * i + 1) k a.offset 0 (λ z. omega arith)
      ∙ get_or-set_other xs (2 * i) k a.refusal 0 (λ z. omega arith)

-- ---- (1) the set

set_core : (e : Edition) (r w m : List ℕ) → ((off : ℕ) → has_mark e m off ≡ live_b e w (get_or r 4 0) off) → (c : Call)
    → set_call e r w m c ≡ core_call e r w c
set_core e r w m f (Malloc n) = refl
set_core e r w m f (Free off) = rw (f off) refl
set_core e r w m f (Realloc off n) = rw (f off) refl
set_core e r w m f (Memalign al n) = refl
set_core e r w m f (Usable off) = rw (f off) refl

module _ (e : Edition) where
  pub set_like : (s : Kept) (t : Store) → Follows e s t → (c : Call) → Like (Follows e) (marked e s c) (made e t c)
  unfolding marked
  set_like s t q c =
      let same : set_call e s.image s.words s.marks c ≡ core_call e t.image t.words c =
      ap (λ r. set_call e r s.words s.marks c) q.image ∙ ap (λ w. set_call e t.image w s.marks c) q.words
      ∙ set_core e t.image t.words s.marks (says_live e t.image t.words q.heap q.held s.marks q.lives) c in
      let o = call_obeys e t.image t.words q.heap q.held c in
      subst (λ (z : Told). Like (Follows e) (keeps e s.marks c z) (made e t c)) (sym same)
      (record {
        refusal = refl;
        offset = refl;
        left =
            record {
              heap = (answer_to e (length t.words)
                  q.heap c).heap;
              image = refl;
              words = refl;
              held = o.held;
              lives = call_lives e t.image t.words q.heap
                  q.held s.marks q.lives c;
            };
      })

-- what the check has let through
pub sound_held : (e : Edition) (r w : List ℕ) → length r ≡ 72 → sound_b e r w ≡ true → (h : Heap) × Held e r w h []
sound_held e r w l q =
    let s = decided_yes (sound_b e r w) (Sound e (decode r) w) (sound_decides e r w l) q in (s.0, record { image = l; near = s.1 })

-- guarded twice by the same tests
pub guard_same : {A : Type 0} (e : Edition) (r w cs xs : List ℕ) (telling : ℕ → A) (a b : A) → (sound_b e r w ≡ true → a ≡ b)
    → guarded e r w cs xs telling a ≡ guarded e r w cs xs telling b
guard_same e r w cs xs telling a b f =
    by (λ (z : Bool). sound_b e r w ≡ z → guarded e r w cs xs telling a ≡ guarded e r w cs xs telling b) (sound_b e r w)
    (λ _ q. ap (guarded e r w cs xs telling) (f q)) (λ _ q. rw q refl) refl

-- the code's batch is the batch, whatever it is given
pub set_batch : (e : Edition) (r w cs xs : List ℕ) → length r ≡ 72 → batch_m e r w cs xs ≡ batch_b e r w cs xs
unfolding batch_m batch_b
set_batch e r w cs xs l =
    guard_same e r w cs xs (refused_b r w xs) (ends_kept (runs (marked e) (kept r w (live_set e w (get_or r 4 0))) cs xs 0 (length cs / 3)))
    (ends_in (runs (made e) (store r w) cs xs 0 (length cs / 3)))
    (λ q. let k = sound_held e r w l q in
    ending (in_step (marked e) (made e) (Follows e) (set_like e) (kept r w (live_set e w (get_or r 4 0))) (store r w)
    (record { heap = k.0; image = refl; words = refl; held = k.1; lives = made_lives e r w k.0 k.1 }) cs xs 0 (length cs / 3)))
  where
    ending : {x : Ran Kept} {y : Ran Store} → InStep (Follows e) x y → ends_kept x ≡ ends_in y
    ending {x = x} {y = y} s =
        ap (λ z. batched 0 z x.left.words x.answers) s.left.image
        ∙ ap (λ z. batched 0 y.left.image z x.answers) s.left.words
        ∙ ap (batched 0 y.left.image y.left.words) s.answers

-- "refuses the batch .. and nothing changes"
pub refused_still : (e : Edition) (r w cs xs : List ℕ) → let b = batch_b e r w cs xs in (b.refusal ≡ 0 → ⊥)
    → (b.image ≡ r) × (b.words ≡ w) × (b.answers ≡ xs)
unfolding batch_b
refused_still e r w cs xs =
    pick_case Still (allowed_count (length w))
    (λ _. pick_case Still (sound_b e r w)
    (λ _. pick_case Still (lists_fit (length cs) (length xs)) (λ _ n. absurd (n refl)) (λ _ n. (refl, refl, refl)))
    (λ _ n. (refl, refl, refl)))
    (λ _ n. (refl, refl, refl))
  where
    Still : Batched → Type 0
    Still b = (b.refusal ≡ 0 → ⊥) → (b.image ≡ r) × (b.words ≡ w) × (b.answers ≡ xs)
