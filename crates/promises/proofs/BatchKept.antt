-- REQUEST (xi) IS KEPT. The rows by the three tests in their order; what is left and answered by `one_by_one_lem` (`batch`) and induction over
-- the list, in step with the history of its calls; the rest from these. Assumes nothing.
use Rattle.std.specs.Prelude.{◌≡◌, Bool, ◌&&◌, List, [], ◌∷◌, ◌++◌, ◌↔◌, ◌⊎◌, eqb, leb, length, set, Result, Ok, Err, ⊤}
use Rattle.std.proofs.Math.Path.{refl, sym, ap}
use Rattle.std.proofs.Common.{◌∙◌, subst, inl, inr, ⊎_elim, arith, length-set, get_or-set_same, eqb-true, leb-true, leb-false, ne_eqb}
use Rattle.std.proofs.Math.Bool.{true, false}
use Rattle.std.proofs.Math.Option.{Option, none, some}
use Prim.Native.Nat.{ℕ, zero, suc, ◌+◌, ◌*◌, ◌/◌, ◌%◌, ◌≤◌, ◌<◌}
use Rattle.std.proofs.Math.ListN.{get_or}
use Rattle.std.proofs.Math.Seq.{get_or-set_other}
use Rattle.std.proofs.lemmas.Bool.{eqb-false}
use Rattle.words.specs.Logic.{pick, pick_case, same?, false-true}
use Rattle.words.specs.Edition.{wide}
use Rattle.rules.specs.Heap.{Heap}
use Rattle.rules.specs.Calls.{Call, Malloc, Free, Realloc, Memalign, Answer, granted, done, bytes, refused, answer_to, allowed_count}
use Rattle.holds.specs.Holds.{Control, Holds, Sound}
use Rattle.holds.specs.Governed.{governed_frame}
use Rattle.chunk.specs.Bytes.{Store, store}
use Rattle.sound.specs.SoundBytes.{sound_b, live_b}
use Rattle.decides.specs.SoundLaws.{sound_yes, sound_there}
use Rattle.calls.specs.CallBytes.{Told, refusal, call_b}
use Rattle.calls.specs.Record.{image}
use Rattle.calls.specs.RecordLaws.{image-length, sound_image}
use Rattle.calls.specs.ByValue.{call_a}
use Rattle.calls.specs.Histories.{Box, box, Event, asks, writes, rebuilds, write_b, asked, remade_box, after, set_up_on, HeldIn}
use Rattle.calls.proofs.Histories.{calls-held, goes, from_set_up}
use Rattle.arena.specs.Record.{numbers}
use Rattle.arena.specs.declared.control.Control as arena
use Rattle.batch.specs.Whole.{whole_number}
use Rattle.batch.specs.declared.whole.Whole.{Whole}
use Rattle.batch.specs.declared.whole.WholeRefusal.{WholeRefusal}
use Rattle.batch.specs.declared.whole.WholeRefusal.TheVariants.{BadCount, Unsound, ListsDoNotFit}
use Rattle.batch.specs.BatchBytes.{Said, said, by_kind, call_at, write_at, step_at, Ran, runs, lists_fit, made, Ended, ended, ends_as, batch_a}
use Rattle.batch.specs.BatchBytes.{alone, ends_alone, one_by_one}
use Rattle.batch.specs.BatchBytes as code
use Rattle.batch.proofs.BatchLaws as laws
use Rattle.batch.specs.BatchLaws as laws-defs
use Rattle.batch.proofs.OneByOne.{one_by_one_lem}
use Rattle.promises.specs.Requests.{call_of, listed, before, schedule, placed, refusal_of, offset_of, Batch}
use Rattle.promises.proofs.SettledKept as settling
use Rattle.promises.specs.Promises.{Allowed, Agree}
use Rattle.promises.proofs.AnyInputKept.{allowed, not_allowed}

-- ---- the rows of the whole

-- the number, by the count, the check and the lists
abbrev code_of : Bool → Bool → Bool → ℕ
code_of a s l = pick a (pick s (pick l 0 8) 2) 1

is_1 : (a s l : Bool) → code_of a s l ≡ 1 ↔ a ≡ false
is_1 true true true = ((λ z. absurd (let b : ⊥ = omega (arith, z) in b)), (λ z. false-true (sym z)))
is_1 true true false = ((λ z. absurd (let b : ⊥ = omega (arith, z) in b)), (λ z. false-true (sym z)))
is_1 true false l = ((λ z. absurd (let b : ⊥ = omega (arith, z) in b)), (λ z. false-true (sym z)))
is_1 false s l = ((λ z. refl), (λ z. refl))

is_2 : (a s l : Bool) → code_of a s l ≡ 2 ↔ (a ≡ true) × (s ≡ false)
is_2 true true true = ((λ z. absurd (let b : ⊥ = omega (arith, z) in b)), (λ z. false-true (sym z.1)))
is_2 true true false = ((λ z. absurd (let b : ⊥ = omega (arith, z) in b)), (λ z. false-true (sym z.1)))
is_2 true false l = ((λ z. (refl, refl)), (λ z. refl))
is_2 false s l = ((λ z. absurd (let b : ⊥ = omega (arith, z) in b)), (λ z. false-true z.0))

is_8 : (a s l : Bool) → code_of a s l ≡ 8 ↔ (a ≡ true) × (s ≡ true) × (l ≡ false)
is_8 true true true = ((λ z. absurd (let b : ⊥ = omega (arith, z) in b)), (λ z. false-true (sym z.2)))
is_8 true true false = ((λ z. (refl, refl, refl)), (λ z. refl))
is_8 true false l = ((λ z. absurd (let b : ⊥ = omega (arith, z) in b)), (λ z. false-true z.1))
is_8 false s l = ((λ z. absurd (let b : ⊥ = omega (arith, z) in b)), (λ z. false-true z.0))

is_0 : (a s l : Bool) → code_of a s l ≡ 0 ↔ (a ≡ true) × (s ≡ true) × (l ≡ true)
is_0 true true true = ((λ z. (refl, refl, refl)), (λ z. refl))
is_0 true true false = ((λ z. absurd (let b : ⊥ = omega (arith, z) in b)), (λ z. false-true z.2))
is_0 true false l = ((λ z. absurd (let b : ⊥ = omega (arith, z) in b)), (λ z. false-true z.1))
is_0 false s l = ((λ z. absurd (let b : ⊥ = omega (arith, z) in b)), (λ z. false-true z.0))

-- two Bools that are not both, one that is not the other
not_both : (a : Bool) → (a ≡ true → ⊥) → a ≡ false
not_both true f = absurd (f refl)
not_both false f = refl

clash : {A : Type 0} {a : Bool} → a ≡ true → a ≡ false → A
clash p q = false-true (sym q ∙ p)

-- the lists' lengths
lists_short : (m n : ℕ) → lists_fit m n ≡ false ↔ (m % 3 ≡ 0 → ⊥) ⊎ (n < 2 * (m / 3))
unfolding lists_fit
lists_short m n = pick-three (eqb (m % 3) 0) (leb (2 * (m / 3)) n) refl refl
  where
    pick-three : (a b : Bool) → eqb (m % 3) 0 ≡ a → leb (2 * (m / 3)) n ≡ b → (a && b) ≡ false ↔ (m % 3 ≡ 0 → ⊥) ⊎ (n < 2 * (m / 3))
    pick-three true true p q = (
      (λ z. false-true (sym z)),
      ⊎_elim (λ f. absurd (f (eqb-true (m % 3) 0 p)))
          (λ l. absurd (let z : ⊥ = omega (arith, l, leb-true (2 * (m / 3)) n q) in z)),
    )
    pick-three true false p q = ((λ z. inr (leb-false (2 * (m / 3)) n q)), (λ z. refl))
    pick-three false b p q = ((λ z. inl (eqb-false (m % 3) 0 p)), (λ z. refl))

lists_fit_lem : (m n : ℕ) → lists_fit m n ≡ true ↔ (m % 3 ≡ 0) × (2 * (m / 3) ≤ n)
unfolding lists_fit
lists_fit_lem m n = pick-three (eqb (m % 3) 0) (leb (2 * (m / 3)) n) refl refl
  where
    pick-three : (a b : Bool) → eqb (m % 3) 0 ≡ a → leb (2 * (m / 3)) n ≡ b → (a && b) ≡ true ↔ (m % 3 ≡ 0) × (2 * (m / 3) ≤ n)
    pick-three true true p q = ((λ z. (eqb-true (m % 3) 0 p, leb-true (2 * (m / 3)) n q)), (λ z. refl))
    pick-three true false p q = ((λ z. false-true z), (λ z. absurd (let y : ⊥ = omega (arith, z.1, leb-false (2 * (m / 3)) n q) in y)))
    pick-three false b p q = ((λ z. false-true z), (λ z. absurd (eqb-false (m % 3) 0 p z.0)))

module _ (c : Control) (w cs xs : List ℕ) where
  abbrev fit : Bool
  fit = lists_fit (length cs) (length xs)

  number : (batch_a wide c w cs xs).refusal ≡ code_of (allowed_count (length w)) (sound_b wide (image c) w) fit
  unfolding batch_a
  number =
      three (ends_as (runs (made wide) (store (image c) w) cs xs 0 (length cs / 3))) refl (allowed_count (length w))
      (sound_b wide (image c) w) fit
    where
      three : (b : Ended) → b.refusal ≡ 0 → (a s l : Bool)
          → (pick a (pick s (pick l b (ended 8 c w xs)) (ended 2 c w xs)) (ended 1 c w xs)).refusal ≡ code_of a s l
      three b q true true true = q
      three b q true true false = refl
      three b q true false l = refl
      three b q false s l = refl

  row_1 : (batch_a wide c w cs xs).refusal ≡ 1 ↔ (Allowed (length w) → ⊥)
  row_1 =
      let u = is_1 (allowed_count (length w)) (sound_b wide (image c) w) fit in
      let a = not_allowed (length w) in ((λ q. a.0 (u.0 (sym number ∙ q))), (λ f. number ∙ u.1 (a.1 f)))

  -- what is sound has an allowed count
  counted : (h : Heap) → Holds wide c w h → allowed_count (length w) ≡ true
  counted h n = (allowed (length w)).1 (n.even, n.least, n.most)

  yes : sound_b wide (image c) w ≡ true → Sound wide c w
  yes q = (sound_image wide c w).0 (sound_yes wide (image c) w (image-length c) q)

  there : Sound wide c w → sound_b wide (image c) w ≡ true
  there s = sound_there wide (image c) w (image-length c) ((sound_image wide c w).1 s)

  row_2 : (batch_a wide c w cs xs).refusal ≡ 2 ↔ Allowed (length w) × (Sound wide c w → ⊥)
  row_2 =
      let u = is_2 (allowed_count (length w)) (sound_b wide (image c) w) fit in
      let a = allowed (length w) in (
        (λ q. let z = u.0 (sym number ∙ q) in (a.0 z.0, λ s. clash (there s) z.1)),
        (λ z. number ∙ u.1 (a.1 z.0, not_both (sound_b wide (image c) w) (λ q. z.1 (yes q)))),
      )

  row_8 : (batch_a wide c w cs xs).refusal ≡ 8 ↔ Sound wide c w × ((length cs % 3 ≡ 0 → ⊥) ⊎ (length xs < 2 * (length cs / 3)))
  row_8 =
      let u = is_8 (allowed_count (length w)) (sound_b wide (image c) w) fit in
      let v = lists_short (length cs) (length xs) in (
        (λ q. let z = u.0 (sym number ∙ q) in (yes z.1, v.0 z.2)),
        (λ z. number ∙ u.1 (counted z.0.0 z.0.1, there z.0, v.1 z.1)),
      )

  row_0 : (batch_a wide c w cs xs).refusal ≡ 0 ↔ Sound wide c w × (length cs % 3 ≡ 0) × (2 * (length cs / 3) ≤ length xs)
  row_0 =
      let u = is_0 (allowed_count (length w)) (sound_b wide (image c) w) fit in
      let v = lists_fit_lem (length cs) (length xs) in (
        (λ q. let z = u.0 (sym number ∙ q) in (yes z.1, (v.0 z.2).0, (v.0 z.2).1)),
        (λ z. number ∙ u.1 (counted z.0.0 z.0.1, there z.0, v.1 (z.1, z.2))),
      )

  abbrev Quiet : Ended → Type 0
  Quiet b = (b.refusal ≡ 0 → ⊥) → (b.control ≡ c) × (b.words ≡ w) × (b.answers ≡ xs)

  unchanged : ((batch_a wide c w cs xs).refusal ≡ 0 → ⊥)
      → ((batch_a wide c w cs xs).control ≡ c) × ((batch_a wide c w cs xs).words ≡ w) × ((batch_a wide c w cs xs).answers ≡ xs)
  unfolding batch_a
  unchanged =
      pick_case Quiet (allowed_count (length w))
      (λ _. pick_case Quiet (sound_b wide (image c) w) (λ _. pick_case Quiet fit (λ _ n. absurd (n refl)) (λ _ n. (refl, refl, refl)))
      (λ _ n. (refl, refl, refl)))
      (λ _ n. (refl, refl, refl))

  -- ---- the list for the answers

  abbrev Listed : (List ℕ → Type 0) → Ended → Type 0
  Listed P b = P b.answers

  of_answers : (P : List ℕ → Type 0) → P xs → P (runs (made wide) (store (image c) w) cs xs 0 (length cs / 3)).answers
      → P (batch_a wide c w cs xs).answers
  unfolding batch_a
  of_answers P p q =
      pick_case (Listed P) (allowed_count (length w))
      (λ _. pick_case (Listed P) (sound_b wide (image c) w) (λ _. pick_case (Listed P) fit (λ _. q) (λ _. p)) (λ _. p)) (λ _. p)

  long : length (batch_a wide c w cs xs).answers ≡ length xs
  long = of_answers (λ ys. length ys ≡ length xs) refl (laws.answers_long (made wide) (store (image c) w) cs xs 0 (length cs / 3))

  past_last : (k : ℕ) → 2 * (length cs / 3) ≤ k → get_or (batch_a wide c w cs xs).answers k 0 ≡ get_or xs k 0
  past_last k l =
      of_answers (λ ys. get_or ys k 0 ≡ get_or xs k 0) refl
      (laws.past_last (made wide) (store (image c) w) cs xs 0 (length cs / 3) k (omega (arith, l)))

  -- a whole that runs is its calls, one at a time
  ran : (batch_a wide c w cs xs).refusal ≡ 0
      → batch_a wide c w cs xs ≡ ends_alone (runs (alone wide) (box c w) cs xs 0 (length cs / 3))
  unfolding one_by_one
  ran q =
      let z = (is_0 (allowed_count (length w)) (sound_b wide (image c) w) fit).0 (sym number ∙ q) in
      one_by_one_lem wide c w cs xs ∙ rw (z.0, z.1, z.2) refl

-- ---- one of the list

abbrev line_by : {S : Type 0} → (S → Call → Said S) → S → Option Call → Said S
line_by f s none = said 9 0 s
line_by f s (some k) = f s k

module _ {S : Type 0} (f : S → Call → Said S) where
  two : (s : S) (b : Bool) {x y : Said S} (p q : Option Call) → x ≡ line_by f s p → y ≡ line_by f s q → pick b x y ≡ line_by f s (pick b p q)
  two s true p q u v = u
  two s false p q u v = v

  call_is : (s : S) (cs : List ℕ) (i : ℕ) → call_at f s cs i ≡ line_by f s (listed cs i)
  unfolding call_at by_kind
  call_is s cs i =
      let k = get_or cs (3 * i) 0 in
      let x = get_or cs (3 * i + 1) 0 in
      let y = get_or cs (3 * i + 2) 0 in
      let o = pick (eqb k 3) (some (Memalign x y)) none in
      let n = pick (eqb k 2) (some (Realloc x y)) o in
      two s (eqb k 0) (some (Malloc x)) (pick (eqb k 1) (some (Free x)) n) refl
      (two s (eqb k 1) (some (Free x)) n refl
      (two s (eqb k 2) (some (Realloc x y)) o refl (two s (eqb k 3) (some (Memalign x y)) none refl refl)))

  -- lists that say the same calls
  same_runs : (s : S) (cs ds xs : List ℕ) (i n : ℕ) → 3 * (i + n) ≤ length cs → ((i : ℕ) → 3 * i < length cs → listed cs i ≡ listed ds i)
      → runs f s cs xs i n ≡ runs f s ds xs i n
  unfolding runs step_at
  same_runs s cs ds xs i zero l g = refl
  same_runs s cs ds xs i (suc n) l g =
      let a = call_at f s cs i in
      let same : call_at f s cs i ≡ call_at f s ds i = call_is s cs i ∙ ap (line_by f s) (g i (omega arith)) ∙ sym (call_is s ds i) in
      same_runs a.left cs ds (write_at xs i a.refusal a.offset) (i + 1) n (omega arith) g
      ∙ ap (λ (z : Said S). runs f z.left ds (write_at xs i z.refusal z.offset) (i + 1) n) same

  -- the answers before stay
  stays : (s : S) (cs xs : List ℕ) (i n k : ℕ) → k < 2 * i → get_or (runs f s cs xs i n).answers k 0 ≡ get_or xs k 0
  unfolding runs step_at
  stays s cs xs i zero k l = refl
  stays s cs xs i (suc n) k l =
      let a = call_at f s cs i in
      stays a.left cs (write_at xs i a.refusal a.offset) (i + 1) n k (omega arith)
      ∙ get_or-set_other (set xs (2 * i) a.refusal) (2 * i + 1) k a.offset 0 (λ z. omega arith)
      ∙ get_or-set_other xs (2 * i) k a.refusal 0 (λ z. omega arith)

-- the whole, of the number of the calls' words and of what the calls end in
abbrev whole : Control → List ℕ → List ℕ → ℕ → Ended → Ended
whole c w xs n b =
    pick (allowed_count (length w)) (pick (sound_b wide (image c) w) (pick (lists_fit n (length xs)) b (ended 8 c w xs)) (ended 2 c w xs))
    (ended 1 c w xs)

ignored : (c : Control) (w cs ds xs : List ℕ) → length cs ≡ length ds → ((i : ℕ) → 3 * i < length cs → listed cs i ≡ listed ds i)
    → batch_a wide c w cs xs ≡ batch_a wide c w ds xs
unfolding batch_a
ignored c w cs ds xs l g =
    ap (λ (x : Ran Store). whole c w xs (length cs) (ends_as x))
    (same_runs (made wide) (store (image c) w) cs ds xs 0 (length cs / 3) (omega arith) g)
    ∙ ap (λ (n : ℕ). whole c w xs n (ends_as (runs (made wide) (store (image c) w) ds xs 0 (n / 3)))) l

-- ---- in step with the history of the calls

-- what is left after one of the list
one_left : (s : Box) (cs : List ℕ) (i : ℕ) (es : List Event)
    → after wide (call_at (alone wide) s cs i).left es ≡ after wide s (before (listed cs i) es)
one_left s cs i es = ap (λ (z : Said Box). after wide z.left es) (call_is (alone wide) s cs i) ∙ go (listed cs i)
  where
    go : (o : Option Call) → after wide (line_by (alone wide) s o).left es ≡ after wide s (before o es)
    go none = refl
    go (some k) = refl

left_is : (s : Box) (cs xs : List ℕ) (i n : ℕ) → (runs (alone wide) s cs xs i n).left ≡ after wide s (schedule cs i n)
unfolding runs step_at
left_is s cs xs i zero = refl
left_is s cs xs i (suc n) =
    let a = call_at (alone wide) s cs i in
    left_is a.left cs (write_at xs i a.refusal a.offset) (i + 1) n ∙ one_left s cs i (schedule cs (i + 1) n)

leaves : (c : Control) (w cs xs : List ℕ) → (batch_a wide c w cs xs).refusal ≡ 0
    → box (batch_a wide c w cs xs).control (batch_a wide c w cs xs).words ≡ after wide (box c w) (schedule cs 0 (length cs / 3))
leaves c w cs xs q = ap (λ (b : Ended). box b.control b.words) (ran c w cs xs q) ∙ left_is (box c w) cs xs 0 (length cs / 3)

within : (c : Control) (w cs xs : List ℕ)
    → (length (batch_a wide c w cs xs).words ≡ length w) × (length (batch_a wide c w cs xs).answers ≡ length xs)
within c w cs xs = (
  ⊎_elim (λ q. let h = ((row_0 c w cs xs).0 q).0 in
      ap (λ (s : Box). length s.words) (leaves c w cs xs q) ∙ (goes wide (box c w) h.0 h.1 (schedule cs 0 (length cs / 3))).count)
      (λ n. ap length (unchanged c w cs xs n).1) (same? (batch_a wide c w cs xs).refusal 0),
  long c w cs xs,
)

-- ---- the answers

-- the two words of the p-th answer
abbrev Says : List ℕ → ℕ → Box → Option Call → Type 0
Says ys p s o = (get_or ys (2 * p) 0 ≡ refusal_of s o) × (get_or ys (2 * p + 1) 0 ≡ offset_of s o)

placed_is : (a : Answer) → code.offset_of a ≡ placed a
placed_is (granted b) = refl
placed_is done = refl
placed_is (bytes n) = refl
placed_is (refused why) = refl

line-refusal : (s : Box) (o : Option Call) → (line_by (alone wide) s o).refusal ≡ refusal_of s o
line-refusal s none = refl
line-refusal s (some k) = refl

line_offset : (s : Box) (o : Option Call) → (line_by (alone wide) s o).offset ≡ offset_of s o
line_offset s none = refl
line_offset s (some k) = placed_is (call_a wide s.control s.words k).answer

answer_at : (s : Box) (cs xs : List ℕ) (i n j p : ℕ) → p ≡ i + j → j < n → 2 * (i + n) ≤ length xs
    → Says (runs (alone wide) s cs xs i n).answers p (after wide s (schedule cs i j)) (listed cs p)
unfolding runs step_at
answer_at s cs xs i zero j p e l m = absurd (let z : ⊥ = omega arith in z)
answer_at s cs xs i (suc n) zero p e l m =
    subst (λ (q : ℕ). Says (runs (alone wide) a.left cs (write_at xs i a.refusal a.offset) (i + 1) n).answers q s (listed cs q))
    (let z : i ≡ p = omega arith in z) (
      stays (alone wide) a.left cs (write_at xs i a.refusal a.offset) (i + 1) n (2 * i) (omega arith)
          ∙ get_or-set_other (set xs (2 * i) a.refusal) (2 * i + 1) (2 * i) a.offset 0 (λ z. omega arith)
          ∙ get_or-set_same xs (2 * i) a.refusal 0 (omega arith)
          ∙ ap (λ (z : Said Box). z.refusal) (call_is (alone wide) s cs i) ∙ line-refusal s (listed cs i),
      stays (alone wide) a.left cs (write_at xs i a.refusal a.offset) (i + 1) n (2 * i + 1) (omega arith)
          ∙ get_or-set_same (set xs (2 * i) a.refusal) (2 * i + 1) a.offset 0 (simp length-set (omega arith))
          ∙ ap (λ (z : Said Box). z.offset) (call_is (alone wide) s cs i) ∙ line_offset s (listed cs i),
    )
  where
    a : Said Box
    a = call_at (alone wide) s cs i
answer_at s cs xs i (suc n) (suc j) p e l m =
    let a = call_at (alone wide) s cs i in
    subst (λ (t : Box). Says (runs (alone wide) a.left cs (write_at xs i a.refusal a.offset) (i + 1) n).answers p t
    (listed cs p)) (one_left s cs i (schedule cs (i + 1) j))
    (answer_at a.left cs (write_at xs i a.refusal a.offset) (i + 1) n j p (omega arith) (omega arith)
    (simp length-set (omega arith)))

-- a free grants nothing
abbrev Zero : Told → Type 0
Zero t = placed t.answer ≡ 0

freed : (c : Control) (w : List ℕ) (off : ℕ) → placed (call_a wide c w (Free off)).answer ≡ 0
unfolding call_a call_b
freed c w off =
    pick_case Zero (allowed_count (length w))
    (λ _. pick_case Zero (sound_b wide (image c) w) (λ _. pick_case Zero (live_b wide w (get_or (image c) 4 0) off) (λ _. refl) (λ _. refl))
    (λ _. refl))
    (λ _. refl)

module _ (c : Control) (w cs xs : List ℕ) (i : ℕ) (q : (batch_a wide c w cs xs).refusal ≡ 0) (l : 3 * i < length cs) where
  abbrev at : Box
  at = after wide (box c w) (schedule cs 0 i)

  answers : Says (batch_a wide c w cs xs).answers i (after wide (box c w) (schedule cs 0 i)) (listed cs i)
  answers =
      let z = (row_0 c w cs xs).0 q in
      subst (λ (b : Ended). Says b.answers i (after wide (box c w) (schedule cs 0 i)) (listed cs i)) (sym (ran c w cs xs q))
      (answer_at (box c w) cs xs 0 (length cs / 3) i i (omega arith) (omega (arith, l, z.1)) (omega (arith, z.2)))

  unknown_9 : 3 < get_or cs (3 * i) 0
      → (get_or (batch_a wide c w cs xs).answers (2 * i) 0 ≡ 9) × (get_or (batch_a wide c w cs xs).answers (2 * i + 1) 0 ≡ 0)
  unknown_9 k =
      subst (Says (batch_a wide c w cs xs).answers i at)
      (no_call (get_or cs (3 * i) 0) (get_or cs (3 * i + 1) 0) (get_or cs (3 * i + 2) 0) k) answers
    where
      no_call : (k x y : ℕ) → 3 < k → call_of k x y ≡ none
      no_call k x y l =
          rw (
            ne_eqb k 0 (λ z. omega arith),
            ne_eqb k 1 (λ z. omega arith),
            ne_eqb k 2 (λ z. omega arith),
            ne_eqb k 3 (λ z. omega arith),
          ) refl

  offset_0 : (get_or (batch_a wide c w cs xs).answers (2 * i) 0 ≡ 0 → ⊥) ⊎ (get_or cs (3 * i) 0 ≡ 1)
      → get_or (batch_a wide c w cs xs).answers (2 * i + 1) 0 ≡ 0
  offset_0 u =
      answers.1 ∙ ⊎_elim (λ n. no_grant (listed cs i) (λ z. n (answers.0 ∙ z)))
      (λ k. ap (offset_of at) (ap (λ (z : ℕ). call_of z (get_or cs (3 * i + 1) 0) (get_or cs (3 * i + 2) 0)) k)
      ∙ freed at.control at.words (get_or cs (3 * i + 1) 0)) u
    where
      quiet : (a : Answer) → (refusal a ≡ 0 → ⊥) → placed a ≡ 0
      quiet (granted b) n = absurd (n refl)
      quiet done n = refl
      quiet (bytes m) n = refl
      quiet (refused why) n = refl

      no_grant : (o : Option Call) → (refusal_of at o ≡ 0 → ⊥) → offset_of at o ≡ 0
      no_grant none n = refl
      no_grant (some k) n = quiet (call_a wide at.control at.words k).answer n

-- ---- histories

after_both : (s : Box) (es fs : List Event) → after wide s (es ++ fs) ≡ after wide (after wide s es) fs
after_both s [] fs = refl
after_both s (asks k ∷ es) fs = after_both (asked wide s k) es fs
after_both s (writes off k v ∷ es) fs = after_both (box s.control (write_b wide s off k v)) es fs
after_both s (rebuilds ∷ es) fs = after_both (remade_box wide s) es fs

in_a_history : (w : List ℕ) (es : List Event) (cs xs : List ℕ) → Allowed (length w) → length cs % 3 ≡ 0
    → 2 * (length cs / 3) ≤ length xs
    → let s = after wide (set_up_on wide w) es in let b = batch_a wide s.control s.words cs xs in
    (b.refusal ≡ 0) × (box b.control b.words ≡ after wide (set_up_on wide w) (es ++ schedule cs 0 (length cs / 3)))
in_a_history w es cs xs a m r =
    let g = from_set_up wide w a.0 a.1 a.2 es in
    let s = after wide (set_up_on wide w) es in
    let z = (row_0 s.control s.words cs xs).1 ((_, g.held), m, r) in
    (z, leaves s.control s.words cs xs z ∙ sym (after_both (set_up_on wide w) es (schedule cs 0 (length cs / 3))))

-- ---- what may sway an answer

-- two pairs that hold one heap in as many words
pub record OneHeap (s t : Box) : Type 0 where
  pub heap : Heap
  pub here : HeldIn wide s heap
  pub there : HeldIn wide t heap
  pub count : length s.words ≡ length t.words

one_heap : (s t : Box) → OneHeap s t → (k : Call) → laws-defs.Like OneHeap (alone wide s k) (alone wide t k)
one_heap s t o k =
    let a = calls-held wide s o.heap o.here k in
    let b = calls-held wide t o.heap o.there k in
    let same : (call_a wide s.control s.words k).answer ≡ (call_a wide t.control t.words k).answer =
    a.answer ∙ ap (λ (n : ℕ). (answer_to wide n o.heap k).answer) o.count ∙ sym b.answer in
    record {
      refusal = ap refusal same;
      offset = ap code.offset_of same;
      left = record {
        heap = (answer_to wide (length s.words) o.heap k).heap;
        here = a.held;
        there = subst (λ (n : ℕ). HeldIn wide (asked wide t k) (answer_to wide n o.heap k).heap) (sym o.count) b.held;
        count = a.count ∙ o.count ∙ sym b.count;
      };
    }

-- on a sound pair: the calls, or 8
sound_batch : (c : Control) (w cs xs : List ℕ) (h : Heap) → Holds wide c w h
    → batch_a wide c w cs xs ≡ pick (lists_fit (length cs) (length xs)) (ends_alone (runs (alone wide) (box c w) cs xs 0 (length cs / 3)))
    (ended 8 c w xs)
unfolding one_by_one
sound_batch c w cs xs h n = one_by_one_lem wide c w cs xs ∙ rw (counted c w cs xs h n, there c w cs xs (h, n)) refl

same_answers : (c : Control) (w v cs xs : List ℕ) (h : Heap) → Holds wide c w h → Agree h w v
    → ((batch_a wide c v cs xs).refusal ≡ (batch_a wide c w cs xs).refusal) × ((batch_a wide c v cs xs).answers ≡ (batch_a wide c w cs xs).answers)
same_answers c w v cs xs h n agree = (
  ap (λ (b : Ended). b.refusal) p ∙ (two (lists_fit (length cs) (length xs))).0 ∙ sym (ap (λ (b : Ended). b.refusal) q),
  ap (λ (b : Ended). b.answers) p ∙ (two (lists_fit (length cs) (length xs))).1 ∙ sym (ap (λ (b : Ended). b.answers) q),
)
  where
    m : Holds wide c v h
    m = governed_frame wide c w h [] n v agree.0 agree.1

    p : batch_a wide c v cs xs ≡ pick (lists_fit (length cs) (length xs)) (ends_alone (runs (alone wide) (box c v) cs xs 0 (length cs / 3)))
        (ended 8 c v xs)
    p = sound_batch c v cs xs h m

    q : batch_a wide c w cs xs ≡ pick (lists_fit (length cs) (length xs)) (ends_alone (runs (alone wide) (box c w) cs xs 0 (length cs / 3)))
        (ended 8 c w xs)
    q = sound_batch c w cs xs h n

    step : laws-defs.InStep OneHeap (runs (alone wide) (box c v) cs xs 0 (length cs / 3)) (runs (alone wide) (box c w) cs xs 0 (length cs / 3))
    step =
        laws.in_step (alone wide) (alone wide) OneHeap one_heap (box c v) (box c w)
        (record { heap = h; here = m; there = n; count = agree.0 }) cs xs 0 (length cs / 3)

    two : (b : Bool)
        → ((pick b (ends_alone (runs (alone wide) (box c v) cs xs 0 (length cs / 3))) (ended 8 c v xs)).refusal
        ≡ (pick b (ends_alone (runs (alone wide) (box c w) cs xs 0 (length cs / 3))) (ended 8 c w xs)).refusal)
        × ((pick b (ends_alone (runs (alone wide) (box c v) cs xs 0 (length cs / 3))) (ended 8 c v xs)).answers
        ≡ (pick b (ends_alone (runs (alone wide) (box c w) cs xs 0 (length cs / 3))) (ended 8 c w xs)).answers)
    two true = (refl, step.answers)
    two false = (refl, refl)

-- ---- no second outcome

-- the code's answer for the whole can be read back from its number
abbrev answer_from : ℕ → Result ⊤ WholeRefusal
answer_from n = pick (eqb n 0) (Ok tt) (Err (pick (eqb n 1) BadCount (pick (eqb n 2) Unsound ListsDoNotFit)))

answer_back : (x : Result ⊤ WholeRefusal) → answer_from (whole_number x) ≡ x
answer_back (Ok x) = refl
answer_back (Err BadCount) = refl
answer_back (Err Unsound) = refl
answer_back (Err ListsDoNotFit) = refl

one_whole : (x x' : Result ⊤ WholeRefusal) → whole_number x ≡ whole_number x' → x ≡ x'
one_whole x x' q = sym (answer_back x) ∙ ap answer_from q ∙ answer_back x'

settled_by_number : (c : Control) (w v v' cs xs ys ys' : List ℕ) (n n' : ℕ) (d d' : arena.Control)
    → ended n (numbers d) v ys ≡ batch_a wide c w cs xs → ended n' (numbers d') v' ys' ≡ batch_a wide c w cs xs
    → (n ≡ n') × (d ≡ d') × (v ≡ v') × (ys ≡ ys')
settled_by_number c w v v' cs xs ys ys' n n' d d' p q =
    let z = p ∙ sym q in (
      ap (λ (b : Ended). b.refusal) z,
      sym (settling.control_back d) ∙ ap (λ (b : Ended). settling.control b.control) z ∙ settling.control_back d',
      ap (λ (b : Ended). b.words) z,
      ap (λ (b : Ended). b.answers) z,
    )

abbrev with_control : Result ⊤ WholeRefusal → arena.Control → Whole
with_control a d = record { answer = a; control = d }

settled : (c : Control) (w v v' cs xs ys ys' : List ℕ) (x x' : Whole)
    → ended (whole_number x.answer) (numbers x.control) v ys ≡ batch_a wide c w cs xs
    → ended (whole_number x'.answer) (numbers x'.control) v' ys' ≡ batch_a wide c w cs xs
    → (x ≡ x') × (v ≡ v') × (ys ≡ ys')
settled c w v v' cs xs ys ys' x x' p q =
    let t = settled_by_number c w v v' cs xs ys ys' (whole_number x.answer) (whole_number x'.answer) x.control x'.control p q in
    (ap (λ a. with_control a x.control) (one_whole x.answer x'.answer t.0) ∙ ap (with_control x'.answer) t.1, t.2, t.3)

pub batch : Batch
batch =
    record {
      row_1 = row_1;
      row_2 = row_2;
      row_8 = row_8;
      row_0 = row_0;
      unchanged = unchanged;
      within = within;
      leaves = leaves;
      answers = answers;
      unknown_9 = unknown_9;
      offset_0 = offset_0;
      past_last = past_last;
      ignored = ignored;
      in_a_history = in_a_history;
      same_answers = same_answers;
      settled = settled;
      settled_by_number = settled_by_number;
      one_whole = one_whole;
    }
