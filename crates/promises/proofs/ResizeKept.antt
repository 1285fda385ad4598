-- A RESIZE KEEPS THE OWNER'S WORDS as far as both sizes reach, of the call: a granted resize is the rule's grant, its words are the core's,
-- and those
-- keep the block's (`realloc-keeps`). A move copies just the old block's words, into the first of the new one. Assumes nothing.
use Rattle.std.specs.Prelude.{◌≡◌, refl, Bool, true, ◌↔◌, ℕ, ◌+◌, ◌-◌, ◌*◌, ◌≤◌, ◌<◌, get_or}
use Rattle.std.proofs.Common.{sym, ◌∙◌, subst, arith, le-ltb, ne_eqb}
use Rattle.std.proofs.Math.Path.{ap}
use mathlib.Core.List.{List, []}
use Rattle.std.proofs.Math.Option.{Option, none, some}
use Rattle.std.proofs.Math.ListN.{length}
use Rattle.words.specs.Logic.{pick}
use Rattle.words.specs.Edition.{wide, enc}
use Rattle.index.specs.Sizes.{need, need_words}
use Rattle.index.specs.SizesLaws.{need_words_lem}
use Rattle.tiling.specs.Tiling.{used, size, Starts}
use Rattle.rules.specs.Heap.{Heap}
use Rattle.rules.specs.Malloc.{Grant}
use Rattle.rules.specs.Realloc.{resize_here, front, realloc}
use Rattle.rules.proofs.ReallocLaws.{here_first, larger}
use Rattle.rules.specs.Blocks.{Granted, Grants}
use Rattle.rules.specs.Lookup.{Block}
use Rattle.rules.specs.Tidy.{starts_size}
use Rattle.rules.specs.Calls.{Realloc, granted, refused, too_many, not_live, Outcome, block_of, place_of, live_size, moved_or6, answer_to}
use Rattle.holds.specs.Holds.{Control}
use Rattle.holds.specs.Lookup.{heads_tidy}
use Rattle.realloc.specs.ReallocBytes.{realloc_b}
use Rattle.realloc.proofs.ReallocKeeps.{realloc-keeps}
use Rattle.realloc.specs.ReallocReach.{CopiedTo}
use Rattle.decides.specs.LiveLaws.{is_some, live_is, starts_live}
use Rattle.calls.specs.CallBytes.{Told, told, chunk_at, grant_or_no, if_live}
use Rattle.calls.specs.Record.{image}
use Rattle.calls.specs.RecordLaws.{held-image}
use Rattle.calls.specs.ByValue.{call_a}
use Rattle.calls.proofs.CallObeys.{chunk_plain, place_plain, place_low, even, least, low, realloc_blocks}
use Rattle.calls.specs.CallReach.{MovedInto, Copies}
use Rattle.calls.specs.Histories.{Box, box, asked, HeldIn}
use Rattle.calls.proofs.Histories.{let_through, calls-held}
use Rattle.promises.specs.Promises.{says, LiveAt, Resizes}
use Rattle.promises.proofs.RoomLaws.{one_chunk}
use Rattle.promises.proofs.RowLaws.{found}
use Rattle.promises.proofs.GrantedBy.{held, tidy, by_realloc}
use Rattle.promises.proofs.TheRulesKept.{place_of_lem}
use Rattle.promises.proofs.HistoriesKept.{block_at, live_at}

module _ (s : Box) (h : Heap) (n : HeldIn wide s h) (x t : ℕ) (st : Starts 0 h.chunks x (used t)) (m : ℕ) where
  abbrev nb : ℕ
  nb = need_words 8 m

  is_live : live_size wide 0 h.chunks (block_of wide x) ≡ some t
  is_live = starts_live wide true 0 h.chunks x t (heads_tidy wide s.words h n.heads).chunks st

  -- the core's words
  words_are : m ≤ 8 * length s.words
      → (call_a wide s.control s.words (Realloc (block_of wide x) m)).words ≡ (realloc_b wide (image s.control) s.words (enc wide x)
      (enc wide nb)).words
  unfolding call_a
  words_are fit =
      let c = s.control in
      let w = s.words in
      let r = held-image wide c w h [] n in
      let u = grant_or_no wide (realloc_b wide (image c) w (chunk_at wide (block_of wide x)) (need 8 m)) in
      ap (λ (z : Told). z.words) (let_through wide (image c) w h r (Realloc (block_of wide x) m))
      ∙ ap (λ b. (pick b (told (refused too_many) (image c) w) (if_live wide (image c) w (block_of wide x) u)).words)
      (le-ltb (8 * length w) m fit)
      ∙ ap (λ b. (pick b u (told (refused (not_live (block_of wide x))) (image c) w)).words)
      (live_is wide (image c) w h r (block_of wide x) ∙ ap is_some is_live)
      ∙ ap (λ z. (realloc_b wide (image c) w z (need 8 m)).words) (chunk_plain wide x (place_low wide (image c) w h r x t st))
      ∙ ap (λ z. (realloc_b wide (image c) w (enc wide x) z).words) (need_words_lem 8 m)

-- the rule's grant, of a resize of the block of t words at x
pub record Moved (s : Box) (h : Heap) (x t m y : ℕ) : Type 0 where
  pub fits : m ≤ 8 * length s.words
  pub grant : Grant
  pub is : realloc wide h x (need_words 8 m) ≡ some grant
  pub place : grant.place ≡ y
  pub heap : (answer_to wide (length s.words) h (Realloc (block_of wide x) m)).heap ≡ grant.heap
  pub outcome : answer_to wide (length s.words) h (Realloc (block_of wide x) m) ≡ moved_or6 wide h x t (some grant)

pub moved : (s : Box) (h : Heap) (n : HeldIn wide s h) (x t m y : ℕ) → Starts 0 h.chunks x (used t)
    → says s.control s.words (Realloc (block_of wide x) m) ≡ granted (block_of wide y) → Moved s h x t m y
moved s h n x t m y st u =
    let r = by_realloc s.control s.words h n (block_of wide x) m (block_of wide y) u in
    let at : r.at ≡ x = omega (arith, r.block) in
    let long : r.words ≡ t =
    ap size (one_chunk h (tidy s.control s.words h n) x (used r.words) (used t)
    (subst (λ z. Starts 0 h.chunks z (used r.words)) at r.starts) st) in
    let is : realloc wide h x (need_words 8 m) ≡ some r.by.grant = ap (λ z. realloc wide h z (need_words 8 m)) (sym at) ∙ r.by.is in
    record {
      fits = r.fits;
      grant = r.by.grant;
      is = is;
      place = omega (arith, r.by.place);
      heap = r.by.heap;
      outcome = r.outcome ∙ ap (λ z. moved_or6 wide h z r.words (realloc wide h z (need_words 8 m))) at
          ∙ ap (λ z. moved_or6 wide h x z (realloc wide h x (need_words 8 m))) long ∙ ap (moved_or6 wide h x t) is;
    }

pub resize_keeps : (s : Box) (h : Heap) → HeldIn wide s h → (x y m k k' i : ℕ) → LiveAt s (block_of wide x) k
    → (call_a wide s.control s.words (Realloc (block_of wide x) m)).answer ≡ granted (block_of wide y)
    → LiveAt (asked wide s (Realloc (block_of wide x) m)) (block_of wide y) k' → 8 * i < k → 8 * i < k'
    → get_or (call_a wide s.control s.words (Realloc (block_of wide x) m)).words (y + 2 + i) 0 ≡ get_or s.words (x + 2 + i) 0
resize_keeps s h n x y m k k' i p q p' l l' =
    let b = block_at s h n x k p in
    let f = calls-held wide s h n (Realloc (block_of wide x) m) in
    let v = moved s h n x b.0 m y b.1 q in
    let d = block_at (asked wide s (Realloc (block_of wide x) m)) (answer_to wide (length s.words) h (Realloc (block_of wide x) m)).heap
    f.held y k' p' in
    let r = held-image wide s.control s.words h [] n in
    let g = v.grant in
    let there = subst (λ (z : ℕ). Starts 0 g.heap.chunks z (used d.0)) (sym v.place)
    (subst (λ (z : Heap). Starts 0 z.chunks y (used d.0)) v.heap d.1) in
    ap (λ z. get_or z (y + 2 + i) 0) (words_are s h n x b.0 b.1 m v.fits)
    ∙ ap (λ z. get_or (realloc_b wide (image s.control) s.words (enc wide x) (enc wide (need_words 8 m))).words (z + 2 + i) 0)
    (sym v.place)
    ∙ realloc-keeps wide (image s.control) s.words h r x b.0 (need_words 8 m) b.1
    (even wide (image s.control) s.words h r m v.fits) (least wide (image s.control) s.words h r m v.fits)
    (low wide (image s.control) s.words h r m v.fits) g v.is d.0 there i (omega (arith, l, b.2)) (omega (arith, l', d.2))

-- ---- the words that a move copies

module _ (c : Control) (w : List ℕ) (h : Heap) (m x t y : ℕ) (r : Resizes c w h m x t y) where
  v : Moved (box c w) h x t m y
  v = moved (box c w) h r.0 x t m y r.1 r.2

  least_size : 4 ≤ t
  least_size = (starts_size true 0 h.chunks x (used t) (tidy c w h r.0).chunks r.1).1

  -- the rule's words, in the numbers of the resize
  copies_is : (i : ℕ) → Copies wide h (Realloc (block_of wide x) m) i ≡ CopiedTo (some v.grant) x t i
  copies_is i =
      ap (λ z. MovedInto z (realloc wide h (place_of wide (block_of wide x)) (need_words 8 m)) (place_of wide (block_of wide x)) i)
      (is_live (box c w) h r.0 x t r.1 m)
      ∙ ap (λ z. CopiedTo (realloc wide h z (need_words 8 m)) z t i) (place_plain wide x) ∙ ap (λ z. CopiedTo z x t i) v.is

  pub copies_into : (i : ℕ) → (y ≡ x → ⊥) → Copies wide h (Realloc (block_of wide x) m) i ↔ (y + 2 ≤ i) × (8 * i < 8 * (y + 2) + (8 * t - 8))
  copies_into i ne = subst (λ (P : Type 0). P ↔ (y + 2 ≤ i) × (8 * i < 8 * (y + 2) + (8 * t - 8))) (sym (copies_is i)) (
    λ u. (omega (arith, v.place, u.1), omega (arith, v.place, u.2, least_size)),
    λ u. ((λ z. ne (sym v.place ∙ z)), omega (arith, v.place, u.0), omega (arith, v.place, u.1, least_size)),
  )

  pub copies_none : (i : ℕ) → y ≡ x → Copies wide h (Realloc (block_of wide x) m) i → ⊥
  copies_none i q u = (subst (λ (P : Type 0). P) (copies_is i) u).0 (v.place ∙ q)

  pub copies_many : (y ≡ x → ⊥) → 8 * (answer_to wide (length w) h (Realloc (block_of wide x) m)).copied ≡ 8 * t - 8
  copies_many ne =
      ap (λ (o : Outcome). 8 * o.copied) v.outcome
      ∙ ap (λ (b : Bool). 8 * pick b 0 (t - 1)) (ne_eqb v.grant.place x (λ z. ne (sym v.place ∙ z)))
      ∙ (let z : 8 * (t - 1) ≡ 8 * t - 8 = omega arith in z)

  -- a move is to a larger block
  pub copies_what : (i : ℕ) → (y ≡ x → ⊥) → 8 * i < 8 * t - 8
      → get_or (call_a wide c w (Realloc (block_of wide x) m)).words (y + 2 + i) 0 ≡ get_or w (x + 2 + i) 0
  copies_what i ne l =
      let o = answer_to wide (length w) h (Realloc (block_of wide x) m) in
      let g = realloc_blocks wide (image c) w h (held c w h r.0) m v.fits x t r.1 in
      let b : Granted h v.grant.heap v.grant.place (need_words 8 m) (need_words 8 m + 4) (λ z. z ≡ x) =
      subst (Grants h (need_words 8 m) (need_words 8 m + 4) (λ z. z ≡ x)) v.is g in
      let there = subst (λ (z : Heap). Starts 0 z.chunks y (used b.words)) (sym v.heap)
      (subst (λ z. Starts 0 v.grant.heap.chunks z (used b.words)) v.place b.block) in
      resize_keeps (box c w) h r.0 x y m (8 * (t - 1)) (8 * (b.words - 1)) i (live_at (box c w) h r.0 x t r.1) r.2
      (live_at (asked wide (box c w) (Realloc (block_of wide x) m)) o.heap
      (calls-held wide (box c w) h r.0 (Realloc (block_of wide x) m)).held y b.words there)
      (omega (arith, l)) (omega (arith, l, b.large, grows))
    where
      f : Block h.chunks x t
      f = found c w h r.0 (block_of wide x) m t x refl r.1

      grows : t < need_words 8 m
      grows = larger wide h x t (need_words 8 m) f (go (resize_here wide h (front f.f) x t (need_words 8 m) f.f.after) refl)
        where
          go : (o : Option Heap) → resize_here wide h (front f.f) x t (need_words 8 m) f.f.after ≡ o → o ≡ none
          go none q = refl
          go (some k) q = absurd (ne (sym v.place ∙ ap place_of_lem (sym v.is ∙ here_first wide h x t (need_words 8 m) f k q)))
