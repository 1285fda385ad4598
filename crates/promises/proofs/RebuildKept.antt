-- DOCUMENT 02, (xiii), IS KEPT. By `Rebuilds` (`calls`) and `CrateWay` (`rebuild`): the heap that is left is the one that the rules make in
-- document 02's way, and a heap that is held settles the record and the governed words. Assumes nothing.
use Rattle.std.specs.Prelude.{◌≡◌, refl, Bool, true, false, ◌&&◌, List, [], ◌∷◌, ◌++◌, ◌↔◌, ◌⊎◌, ℕ, ◌+◌, ◌*◌, ◌<◌, eqb, length}
use Rattle.std.proofs.Common.{sym, ◌∙◌, ap, subst, inl, inr, ⊎_elim, arith, lt-ltb, eq-eqb, ne_eqb}
use Rattle.std.proofs.Math.Option.{none}
use Rattle.words.specs.Logic.{Decides, pick_case, same?}
use Rattle.words.specs.Edition.{wide, no_link}
use Rattle.tiling.specs.Tiling.{Chunk, Heads, end_total}
use Rattle.rules.specs.BinOf.{is_small}
use Rattle.rules.specs.Heap.{Heap, fresh_heap}
use Rattle.rules.specs.Calls.{Call, bad_count, unsound, refused, allowed_count, answer_to}
use Rattle.holds.specs.Lookup.{heads_tidy}
use Rattle.holds.specs.Holds.{Holds}
use Rattle.holds.specs.SameWords.{governed_same}
use Rattle.holds.specs.Unique.{control_unique}
use Rattle.sound.specs.SoundBytes.{count_ok}
use Rattle.rebuild.specs.RebuildBytes.{allowed_start, rebuild_b}
use Rattle.rebuild.specs.Rebuilding.{bare_heap, rebuilt_heap, enter_stays}
use Rattle.rebuild.proofs.RebuildLaws as R
use Rattle.rebuild.specs.RebuildLaws as R-defs
use Rattle.rebuild.proofs.CrateWay as crate-way
use Rattle.rebuild.specs.CrateWay as crate-way-defs
use Rattle.rebuild.specs.CrateWay.{made_by}
use Rattle.calls.specs.CallBytes.{refusal}
use Rattle.calls.specs.Record.{empty_control}
use Rattle.calls.specs.Counts.{count_allowed}
use Rattle.calls.specs.ByValue.{Ends, ends, rebuild_a}
use Rattle.calls.specs.Rebuilds.{Remakes}
use Rattle.calls.proofs.Rebuilds.{remakes, rebuild_count, rebuild_unsound}
use Rattle.calls.specs.Histories.{rebuilds, heap_after, HeldIn}
use Rattle.calls.proofs.Histories.{remade-held}
use Rattle.arena.specs.Answers.{done_answer}
use Rattle.promises.specs.Requests.{Meets, asks_all, in_order, BinWord, Rebuild}
use Rattle.promises.proofs.HistoriesKept as history
use Rattle.promises.proofs.SettledKept.{one, one_in, one_done}
use Rattle.promises.specs.Promises.{Allowed, then}
use Rattle.promises.proofs.AnyInputKept.{allowed, not_allowed}

-- ---- which answer

allowed_start_lem : (start : ℕ) → start ≡ 0 → allowed_start start ≡ true
unfolding allowed_start
allowed_start_lem start q = eq-eqb start 0 q

other_start : (start : ℕ) → (start ≡ 0 → ⊥) → allowed_start start ≡ false
unfolding allowed_start
other_start start n = ne_eqb start 0 n

-- row 1
abbrev Bad : List ℕ → ℕ → Type 0
Bad w start = (Allowed (length w) → ⊥) ⊎ (start ≡ 0 → ⊥)

not_both : (w : List ℕ) (start : ℕ) → Bad w start → Allowed (length w) → start ≡ 0 → ⊥
not_both w start u a b = ⊎_elim (λ z. z a) (λ n. n b) u

-- the three ways
data Ways (w : List ℕ) (start : ℕ) : Type 0 where
  by_1 : Bad w start → rebuild_a wide w start ≡ ends (refused bad_count) (empty_control wide (no_link wide) 0 0) w → Ways w start
  by_2 : Allowed (length w) → start ≡ 0 → ((cs : List Chunk) (ts : ℕ) → Heads wide w cs ts → ⊥)
      → rebuild_a wide w start ≡ ends (refused unsound) (empty_control wide (no_link wide) 0 0) w → Ways w start
  done_with : (cs : List Chunk) (ts : ℕ) → Meets w start cs ts → refusal (rebuild_a wide w start).answer ≡ 0 → Ways w start

module _ (w : List ℕ) (start : ℕ) where
  counted_ok : Allowed (length w) → count_ok (length w) ≡ true
  counted_ok a = count_allowed (length w) ∙ (allowed (length w)).1 a

  made : (cs : List Chunk) (ts : ℕ) → Meets w start cs ts → Remakes wide w cs ts (rebuild_a wide w start)
  made cs ts m = remakes wide w start (counted_ok m.0) (allowed_start_lem start m.1) cs ts m.2

  ways : Ways w start
  ways = counted (allowed_count (length w)) refl
    where
      bad : Bad w start → (count_ok (length w) && allowed_start start) ≡ false → Ways w start
      bad u q = by_1 u (rebuild_count wide w start q)

      tiled : (a : Allowed (length w)) (s : start ≡ 0) (b : Bool) → Decides b (R-defs.Tiling wide w) → Ways w start
      tiled a s true (cs, ts, k) = done_with cs ts (a, s, k) (ap refusal (made cs ts (a, s, k)).answer)
      tiled a s false n =
          by_2 a s (λ cs ts k. n (cs, ts, k)) (rebuild_unsound wide w start (counted_ok a) (allowed_start_lem start s) n)

      started : Allowed (length w) → (start ≡ 0) ⊎ (start ≡ 0 → ⊥) → Ways w start
      started a (inl s) =
          tiled a s (eqb (rebuild_b wide w start).refusal 0)
          (R.granted_exactly wide w start (counted_ok a) (allowed_start_lem start s))
      started a (inr n) = bad (inr n) (ap (λ b. b && allowed_start start) (counted_ok a) ∙ other_start start n)

      counted : (b : Bool) → allowed_count (length w) ≡ b → Ways w start
      counted true a = started ((allowed (length w)).0 a) (same? start 0)
      counted false a = bad (inl ((not_allowed (length w)).0 a)) (ap (λ b. b && allowed_start start) (count_allowed (length w) ∙ a))

  abbrev number : ℕ
  number = refusal (rebuild_a wide w start).answer

  number_of : {t : Ends} → rebuild_a wide w start ≡ t → number ≡ refusal t.answer
  number_of q = ap (λ (x : Ends). refusal x.answer) q

  granted_exactly : Ways w start → number ≡ 0 ↔ ((cs : List Chunk) × (ts : ℕ) × Meets w start cs ts)
  granted_exactly (by_1 u q) = ((λ z. absurd (omega (arith, z, number_of q))), (λ m. absurd (not_both w start u m.2.0 m.2.1)))
  granted_exactly (by_2 a s n q) = ((λ z. absurd (omega (arith, z, number_of q))), (λ m. absurd (n m.0 m.1 m.2.2)))
  granted_exactly (done_with cs ts m q) = ((λ _. (cs, ts, m)), (λ _. q))

  refused_1 : Ways w start → number ≡ 1 ↔ Bad w start
  refused_1 (by_1 u q) = ((λ _. u), (λ _. number_of q))
  refused_1 (by_2 a s n q) = ((λ z. absurd (omega (arith, z, number_of q))), (λ u. absurd (not_both w start u a s)))
  refused_1 (done_with cs ts m q) = ((λ z. absurd (omega (arith, z, q))), (λ u. absurd (not_both w start u m.0 m.1)))

  refused_2 : Ways w start
      → number ≡ 2 ↔ (Allowed (length w) × (start ≡ 0) × ((cs : List Chunk) (ts : ℕ) → Heads wide w cs ts → ⊥))
  refused_2 (by_1 u q) = ((λ z. absurd (omega (arith, z, number_of q))), (λ m. absurd (not_both w start u m.0 m.1)))
  refused_2 (by_2 a s n q) = ((λ _. (a, s, n)), (λ _. number_of q))
  refused_2 (done_with cs ts m q) = ((λ z. absurd (omega (arith, z, q))), (λ u. absurd (u.2 cs ts m.2)))

  unchanged : Ways w start → (number ≡ 0 → ⊥)
      → ((rebuild_a wide w start).control ≡ empty_control wide (no_link wide) 0 0) × ((rebuild_a wide w start).words ≡ w)
  unchanged (by_1 u q) n = (ap (λ (x : Ends). x.control) q, ap (λ (x : Ends). x.words) q)
  unchanged (by_2 a s k q) n = (ap (λ (x : Ends). x.control) q, ap (λ (x : Ends). x.words) q)
  unchanged (done_with cs ts m q) n = absurd (n q)

-- ---- the heap that is left

made_so : (n : ℕ) (h : Heap) (ys : List Call) → heap_after wide n h (asks_all ys) ≡ made_by wide n h ys
made_so n h [] = refl
made_so n h (c ∷ ys) = made_so n (answer_to wide n h c).heap ys

made_both : (n : ℕ) (h : Heap) (xs ys : List Call) → heap_after wide n h (asks_all (xs ++ ys)) ≡ made_by wide n (made_by wide n h xs) ys
made_both n h [] ys = made_so n h ys
made_both n h (c ∷ xs) ys = made_both n (answer_to wide n h c).heap xs ys

module _ (w : List ℕ) (start : ℕ) (cs : List Chunk) (ts : ℕ) (m : Meets w start cs ts) where
  abbrev heap : Heap
  heap = heap_after wide (length w) (fresh_heap (length w)) (in_order cs)

  abbrev left : Ends
  left = rebuild_a wide w start

  in_order_lem : heap ≡ rebuilt_heap wide cs ts
  in_order_lem =
      let t = heads_tidy wide w (bare_heap cs ts) m.2 in
      made_both (length w) (fresh_heap (length w)) (crate-way-defs.takes wide cs) (crate-way-defs.gives wide 0 cs)
      ∙ crate-way.as_the_crate wide (length w) cs ts t.chunks t.last (omega (arith, t.top_least))
      (omega (arith, m.2.top.ends, end_total 0 cs))

  held : Holds wide left.control left.words heap
  held = subst (Holds wide left.control left.words) (sym in_order_lem) (made w start cs ts m).held

  leaves : Holds wide left.control left.words heap × (heap.chunks ≡ cs) × (heap.top ≡ ts) × (heap.dv ≡ none)
  leaves =
      let s = enter_stays wide (bare_heap cs ts) 0 cs in (
        held,
        ap (λ (h : Heap). h.chunks) in_order_lem ∙ s.chunks,
        ap (λ (h : Heap). h.top) in_order_lem ∙ s.top,
        ap (λ (h : Heap). h.dv) in_order_lem ∙ s.dv,
      )

  module _ (v : List ℕ) (l : length v ≡ length w) where
    fits : Allowed (length v)
    fits = subst Allowed (sym l) m.0

    there : Holds wide (then v (in_order cs)).control (then v (in_order cs)).words heap
    there =
        subst (λ (n : ℕ). HeldIn wide (then v (in_order cs)) (heap_after wide n (fresh_heap (length w)) (in_order cs)))
        (history.count v fits [] ∙ l)
        (subst (λ (n : ℕ). HeldIn wide (then v (in_order cs)) (heap_after wide (length (then v []).words) (fresh_heap n) (in_order cs))) l
        (history.held v fits (in_order cs)))

    long : length left.words ≡ length (then v (in_order cs)).words
    long = (made w start cs ts m).count ∙ sym l ∙ sym (history.count v fits (in_order cs))

-- ---- the words

bin_word : (cs : List Chunk) (i : ℕ) → R-defs.BinWord wide cs i → BinWord cs i
bin_word cs i (x, s, st, (j, lo, hi, q)) = (
  x,
  s,
  j,
  st,
  q,
  lo,
  pick_case (λ d. j < d → j < 8) (is_small wide s) (λ _ h. omega (arith, h)) (λ _ h. h) hi,
  (λ l. rw (lt-ltb (8 * s) 256 l) at hi),
)

-- ---- all of it

pub rebuild : Rebuild
rebuild =
    record {
      granted_exactly = λ w start. granted_exactly w start (ways w start);
      refused_1 = λ w start. refused_1 w start (ways w start);
      refused_2 = λ w start. refused_2 w start (ways w start);
      unchanged = λ w start n. unchanged w start (ways w start) n;
      leaves = λ w start cs ts m. leaves w start cs ts m;
      same_record = λ w v start cs ts m l.
          control_unique wide _ _ _ _ (heap w start cs ts m) (long w start cs ts m v l) (held w start cs ts m) (there w start cs ts m v l);
      same_words = λ w v start cs ts i m l g.
          governed_same wide _ _ _ _ (heap w start cs ts m) (long w start cs ts m v l) (held w start cs ts m)
          (there w start cs ts m v l) i g;
      writes_links = λ w start cs ts i m u. (made w start cs ts m).reach i (λ b. u (bin_word cs i b));
      keeps = λ w start cs ts x n i m st l. (made w start cs ts m).keeps x n st (x + 2 + i) (omega arith) (omega (arith, l));
      in_a_history = λ w es a. (remade-held wide (then w es) (history.heap w a es) (history.held w a es)).answer;
      stays_live = λ w es x n a p.
          (history.stays w a es (rebuilds ∷ []) x n p tt, λ i l. history.keeps w a es (rebuilds ∷ []) x n i p l tt tt);
      settled_in_code = λ d d' w v v' start x x' p q. one_in done_answer one_done (rebuild_a wide w start) d d' v v' x x' p q;
      settled = λ d d' w v v' start a a' p q. one (rebuild_a wide w start) d d' v v' a a' p q;
    }
