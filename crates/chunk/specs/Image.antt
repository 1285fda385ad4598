-- The record's image says a control record: reads of its 72 numbers are its fields, writes are its updates. Assumes nothing.
use Rattle.std.specs.Prelude.{◌≡◌, ℕ, zero, suc, ◌+◌, ◌%◌, ◌<◌, ◌≤◌, List, [], ◌∷◌, length, take, drop, ◌==◌, slice_index, slice_set}
use Rattle.std.proofs.Math.Path.{refl}
use Rattle.std.proofs.Common.{sym, ◌∙◌, ap, arith, length-set, get_or-set_other, drop-set-lt, get_or-take}
use Rattle.std.proofs.lemmas.List.{take-set-le, drop-set-add, set-get_or}
use Rattle.std.proofs.Math.Seq.{take-set-lt}
use Rattle.holds.specs.Holds.{Control}
use Rattle.words.specs.Logic.{pick, pick_case, by}
use Rattle.words.specs.Edition.{Edition, no_link}
use Rattle.index.specs.BinMap.{mark, clear}
use Rattle.holds.specs.Ops.{unmark, with_dv, with_top, with_small, with_trees}
use Rattle.chunk.specs.Bytes.{set_dv, set_top, Kind, small, tree, map_at, link_at, enter_r, relink_r}

-- 32 numbers from the k-th on
abbrev pub part : ℕ → List ℕ → List ℕ
part k r = take 32 (drop k r)

unfoldable pub decode : List ℕ → Control
decode r =
    record {
      small_map = slice_index r 0;
      tree_map = slice_index r 1;
      heads = part 8 r;
      roots = part 40 r;
      dv = slice_index r 2;
      dv_size = slice_index r 3;
      top = slice_index r 4;
      top_size = slice_index r 5;
      length = slice_index r 6;
    }

-- ---- the first eight numbers stand one by one: reads and writes of them compute

pub by_front : (P : List ℕ → Type 0) → ((a b c d e f g h : ℕ) (t : List ℕ) → P (a ∷ b ∷ c ∷ d ∷ e ∷ f ∷ g ∷ h ∷ t)) → (r : List ℕ) → 8 ≤ length r → P r
by_front P f (a ∷ b ∷ c ∷ d ∷ e ∷ g ∷ h ∷ i ∷ t) l = f a b c d e g h i t
by_front P f [] l = absurd (omega arith)
by_front P f (a ∷ []) l = absurd (omega arith)
by_front P f (a ∷ b ∷ []) l = absurd (omega arith)
by_front P f (a ∷ b ∷ c ∷ []) l = absurd (omega arith)
by_front P f (a ∷ b ∷ c ∷ d ∷ []) l = absurd (omega arith)
by_front P f (a ∷ b ∷ c ∷ d ∷ e ∷ []) l = absurd (omega arith)
by_front P f (a ∷ b ∷ c ∷ d ∷ e ∷ g ∷ []) l = absurd (omega arith)
by_front P f (a ∷ b ∷ c ∷ d ∷ e ∷ g ∷ h ∷ []) l = absurd (omega arith)

pub decode_top : (r : List ℕ) (c n : ℕ) → length r ≡ 72 → decode (set_top r c n) ≡ with_top (decode r) c n
unfolding decode
decode_top r c n l = by_front (λ z. decode (set_top z c n) ≡ with_top (decode z) c n) (λ _ _ _ _ _ _ _ _ _. refl) r (omega arith)

pub decode_dv : (r : List ℕ) (c n : ℕ) → length r ≡ 72 → decode (set_dv r c n) ≡ with_dv (decode r) c n
unfolding decode
decode_dv r c n l = by_front (λ z. decode (set_dv z c n) ≡ with_dv (decode z) c n) (λ _ _ _ _ _ _ _ _ _. refl) r (omega arith)

pub length_top : (r : List ℕ) (c n : ℕ) → length r ≡ 72 → length (set_top r c n) ≡ 72
length_top r c n l = simp length-set l

pub length_dv : (r : List ℕ) (c n : ℕ) → length r ≡ 72 → length (set_dv r c n) ≡ 72
length_dv r c n l = simp length-set l

-- ---- the bins' links: 32 heads from the 8th on, 32 roots from the 40th

part_at : (k i v : ℕ) (r : List ℕ) → i < 32 → part k (slice_set r (k + i) v) ≡ slice_set (part k r) i v
part_at k i v r l = ap (take 32) (drop-set-add k r i v) ∙ take-set-lt 32 (drop k r) i v l

part_under : (k i v : ℕ) (r : List ℕ) → i < k → part k (slice_set r i v) ≡ part k r
part_under k i v r l = ap (take 32) (drop-set-lt k r i v l)

-- a part that ends before
part_over : (k i v : ℕ) (r : List ℕ) → 32 ≤ i → part k (slice_set r (k + i) v) ≡ part k r
part_over k i v r l = ap (take 32) (drop-set-add k r i v) ∙ take-set-le 32 (drop k r) i v l

get_drop : (k i : ℕ) (r : List ℕ) → slice_index r (k + i) ≡ slice_index (drop k r) i
get_drop zero i r = ap (λ j. slice_index r j) (let q : 0 + i ≡ i = omega arith in q)
get_drop (suc k) i [] = refl
get_drop (suc k) i (x ∷ r) = ap (λ j. slice_index (x ∷ r) j) (let q : suc k + i ≡ suc (k + i) = omega arith in q) ∙ get_drop k i r

get_part : (k i : ℕ) (r : List ℕ) → i < 32 → slice_index r (k + i) ≡ slice_index (part k r) i
get_part k i r l = get_drop k i r ∙ sym (get_or-take 32 (drop k r) i 0 l)

-- the links and the map of a kind of bin, in the record
abbrev pub links : Kind → Control → List ℕ
links small c = c.heads
links tree c = c.roots

abbrev pub filled : Kind → Control → ℕ
filled small c = c.small_map
filled tree c = c.tree_map

abbrev pub with_bins : Kind → Control → ℕ → List ℕ → Control
with_bins small c m l = with_small c m l
with_bins tree c m l = with_trees c m l

pub get_link : (k : Kind) (r : List ℕ) (i : ℕ) → i < 32 → slice_index r (link_at k i) ≡ slice_index (links k (decode r)) i
unfolding decode
get_link small r i l = get_part 8 i r l
get_link tree r i l = get_part 40 i r l

pub get_map : (k : Kind) (r : List ℕ) → slice_index r (map_at k) ≡ filled k (decode r)
unfolding decode
get_map small r = refl
get_map tree r = refl

-- nothing is another
pub decode_same : (k : Kind) (r : List ℕ) → with_bins k (decode r) (filled k (decode r)) (links k (decode r)) ≡ decode r
unfolding decode
decode_same small r = refl
decode_same tree r = refl

-- the scalars
pub decode_is : (r : List ℕ) → (slice_index r 2 ≡ (decode r).dv) × (slice_index r 3 ≡ (decode r).dv_size) × (slice_index r 4 ≡ (decode r).top) × (slice_index r 5 ≡ (decode r).top_size) × (slice_index r 6 ≡ (decode r).length)
unfolding decode
decode_is r = (refl, refl, refl, refl, refl)

-- a link alone, then a link and its map (a native sum is stuck: the index k is a variable with its bound)
module _ (r : List ℕ) (k v : ℕ) (l : 8 ≤ k) where
  far : (j : ℕ) → j < 8 → slice_index (slice_set r k v) j ≡ slice_index r j
  far j b = get_or-set_other r k j v 0 (λ z. omega arith)

  link_set : decode (slice_set r k v) ≡ with_trees (with_small (decode r) (slice_index r 0) (part 8 (slice_set r k v))) (slice_index r 1) (part 40 (slice_set r k v))
  unfolding decode
  link_set = rw (far 0 (omega arith), far 1 (omega arith), far 2 (omega arith), far 3 (omega arith), far 4 (omega arith), far 5 (omega arith), far 6 (omega arith)) refl

-- a bin's link and the map of its kind change together
pub decode_bins : (k : Kind) (r : List ℕ) (i m v : ℕ) → i < 32 → length r ≡ 72 → decode (slice_set (slice_set r (map_at k) m) (link_at k i) v) ≡ with_bins k (decode r) m (slice_set (links k (decode r)) i v)
unfolding decode
decode_bins small r i m v l q =
    link_set (slice_set r 0 m) (8 + i) v (omega arith) ∙ rw (part_at 8 i v (slice_set r 0 m) l, part_under 40 (8 + i) v (slice_set r 0 m) (omega arith))
    (by_front (λ z. with_trees (with_small (decode (slice_set z 0 m)) (slice_index (slice_set z 0 m) 0) (slice_set (part 8 (slice_set z 0 m)) i v)) (slice_index (slice_set z 0 m) 1) (part 40 (slice_set z 0 m)) ≡ with_small (decode z) m (slice_set (part 8 z) i v))
    (λ _ _ _ _ _ _ _ _ _. refl) r (omega arith))
decode_bins tree r i m v l q =
    link_set (slice_set r 1 m) (40 + i) v (omega arith) ∙ rw (part_at 40 i v (slice_set r 1 m) l, before)
    (by_front (λ z. with_trees (with_small (decode (slice_set z 1 m)) (slice_index (slice_set z 1 m) 0) (part 8 (slice_set z 1 m))) (slice_index (slice_set z 1 m) 1) (slice_set (part 40 (slice_set z 1 m)) i v) ≡ with_trees (decode z) m (slice_set (part 40 z) i v))
    (λ _ _ _ _ _ _ _ _ _. refl) r (omega arith))
  where
    before : part 8 (slice_set (slice_set r 1 m) (40 + i) v) ≡ part 8 (slice_set r 1 m)
    before = ap (λ k. part 8 (slice_set (slice_set r 1 m) k v)) (let q : 40 + i ≡ 8 + (32 + i) = omega arith in q) ∙ part_over 8 (32 + i) v (slice_set r 1 m) (omega arith)

-- a bin's first member is entered, is another
module _ (k : Kind) (r : List ℕ) (i v : ℕ) (l : i < 32) (q : length r ≡ 72) where
  abbrev own : i % 32 ≡ i
  own = omega arith

  pub decode_enter : decode (enter_r k r i v) ≡ with_bins k (decode r) (mark i (filled k (decode r))) (slice_set (links k (decode r)) i v)
  decode_enter =
      ap (λ j. decode (slice_set (slice_set r (map_at k) (mark j (slice_index r (map_at k)))) (link_at k j) v)) own
      ∙ ap (λ m. decode (slice_set (slice_set r (map_at k) (mark i m)) (link_at k i) v)) (get_map k r) ∙ decode_bins k r i (mark i (filled k (decode r))) v l q

  pub decode_relink : (e : Edition) → decode (relink_r e k r i v) ≡ with_bins k (decode r) (unmark e i v (filled k (decode r))) (slice_set (links k (decode r)) i v)
  decode_relink e =
      ap (λ j. decode (pick (v == no_link e) (slice_set (slice_set r (map_at k) (clear j (slice_index r (map_at k)))) (link_at k j) v) (slice_set r (link_at k j) v))) own
      ∙ by (λ b. decode (pick b (slice_set (slice_set r (map_at k) (clear i (slice_index r (map_at k)))) (link_at k i) v) (slice_set r (link_at k i) v))
      ≡ with_bins k (decode r) (pick b (clear i (filled k (decode r))) (filled k (decode r))) (slice_set (links k (decode r)) i v)) (v == no_link e)
      (λ _. ap (λ m. decode (slice_set (slice_set r (map_at k) (clear i m)) (link_at k i) v)) (get_map k r) ∙ decode_bins k r i (clear i (filled k (decode r))) v l q)
      (λ _. ap (λ z. decode (slice_set z (link_at k i) v)) (sym (set-get_or r (map_at k) 0)) ∙ ap (λ m. decode (slice_set (slice_set r (map_at k) m) (link_at k i) v)) (get_map k r)
      ∙ decode_bins k r i (filled k (decode r)) v l q)

  pub length_enter : length (enter_r k r i v) ≡ 72
  length_enter = simp length-set q

  pub length_relink : (e : Edition) → length (relink_r e k r i v) ≡ 72
  length_relink e = pick_case (λ z. length z ≡ 72) (v == no_link e) (λ _. simp length-set q) (λ _. simp length-set q)
