-- The record and its 72 words: what the loops over the links leave, and the words that they make together. Assumes nothing.
use mathlib.Core.List.{List, [], ◌∷◌}
use mathlib.Core.Path.{◌≡◌, refl, sym, ap, ◌∙◌}
use mathlib.Core.Logic.{⊎_elim}
use Prim.Native.Nat.{ℕ, zero, suc, ◌+◌, ◌^◌, ◌≤◌, ◌<◌}
use native.Mathlib.Omega.{arith}
use lib.ListN.{length, get_or, set, replicate}
use lib.Seq.{get_or-set_same, get_or-set_other}
use Rattle.words.specs.Logic.{same?}
use Rattle.chunk.specs.Bytes.{small, tree, map_of}
use Rattle.chunk.specs.declared.access.ChunkOff.{ChunkOff}
use Rattle.holds.specs.Holds as holds
use Rattle.calls.specs.Record.{reads, words_of, image, numbers_of}
use Rattle.arena.specs.Record.{offsets, copied_up, numbers}
use Rattle.calls.specs.RecordLaws.{reads_all, Fits, image_words}
use Rattle.arena.specs.declared.control.Control.{Control}

pub offset_at : (xs : List ChunkOff) (i : ℕ) → (get_or xs i record { 0 = 0 }).0 ≡ get_or (offsets xs) i 0
offset_at [] i = refl
offset_at (x ∷ xs) zero = refl
offset_at (x ∷ xs) (suc i) = offset_at xs i

pub offsets_set : (xs : List ChunkOff) (i : ℕ) (c : ChunkOff) → offsets (set xs i c) ≡ set (offsets xs) i c.0
offsets_set [] i c = refl
offsets_set (x ∷ xs) zero c = refl
offsets_set (x ∷ xs) (suc i) c = ap (λ z. x.0 ∷ z) (offsets_set xs i c)

pub offsets-length : (xs : List ChunkOff) → length (offsets xs) ≡ length xs
offsets-length [] = refl
offsets-length (x ∷ xs) = ap suc (offsets-length xs)

pub copied_next : (r : List ℕ) (from : ℕ) (xs : List ChunkOff) (i : ℕ)
    → set (copied_up r from (offsets xs) i) (from + i) (get_or xs i record { 0 = 0 }).0 ≡ copied_up r from (offsets xs) (i + 1)
unfolding copied_up
copied_next r from xs i = ap (set (copied_up r from (offsets xs) i) (from + i)) (offset_at xs i)
    ∙ ap (copied_up r from (offsets xs)) (let q : suc i ≡ i + 1 = omega arith in q)

-- the first i links are read
abbrev pub Linked : List ChunkOff → List ℕ → ℕ → ℕ → Type 0
Linked xs r from i = (k : ℕ) → k < i → get_or (offsets xs) k 0 ≡ get_or r (from + k) 0

pub linked_next : (xs : List ChunkOff) (r : List ℕ) (from i : ℕ) → i < length xs → Linked xs r from i
    → Linked (set xs i record { 0 = get_or r (from + i) 0 }) r from (i + 1)
linked_next xs r from i l f k u =
    ap (λ z. get_or z k 0) (offsets_set xs i record { 0 = get_or r (from + i) 0 })
    ∙ ⊎_elim here (λ n. get_or-set_other (offsets xs) i k (get_or r (from + i) 0) 0 n ∙ f k (omega (arith, n))) (same? k i)
  where
    here : k ≡ i → get_or (set (offsets xs) i (get_or r (from + i) 0)) k 0 ≡ get_or r (from + k) 0
    here q = rw q (get_or-set_same (offsets xs) i (get_or r (from + i) 0) 0 (omega (arith, offsets-length xs)))

pub linked_all : (xs : List ChunkOff) (r : List ℕ) (from i : ℕ) → i ≤ 32 → 32 ≤ i → length xs ≡ 32 → Linked xs r from i
    → offsets xs ≡ reads r from 32
linked_all xs r from i a b l f = reads_all (offsets xs) r from 32 (offsets-length xs ∙ l) (λ k u. f k (omega arith))

-- the words, link by link
image_made : (c : holds.Control) → copied_up
    (copied_up (c.small_map ∷ c.tree_map ∷ c.dv ∷ c.dv_size ∷ c.top ∷ c.top_size ∷ c.length ∷ 0 ∷ replicate 64 0) 8 c.heads 32) 40
    c.roots 32
    ≡ words_of c
unfolding copied_up reads
image_made c = refl

-- every record of the code has 32 heads, 32 roots and maps of 32 bits
all_fit : (c : Control) → length c.smallbins ≡ 32 → length c.treebins ≡ 32 → c.smallmap < 2 ^ 32 → c.treemap < 2 ^ 32
    → Fits (numbers c)
all_fit c p q s t =
    record { heads = offsets-length c.smallbins ∙ p; roots = offsets-length c.treebins ∙ q; small = s; trees = t }

module _ (c : Control) {a b : List ℕ} where
  pub image-links : length c.smallbins ≡ 32 → length c.treebins ≡ 32 → c.smallmap < 2 ^ 32 → c.treemap < 2 ^ 32
      → a ≡ copied_up (c.smallmap ∷ c.treemap ∷ c.dv.0 ∷ c.dvsize ∷ c.top.0 ∷ c.topsize ∷ c.length ∷ 0 ∷ replicate 64 0) 8
      (offsets c.smallbins) 32
      → b ≡ copied_up a 40 (offsets c.treebins) 32 → b ≡ image (numbers c)
  image-links i j k l p q =
      q ∙ ap (λ z. copied_up z 40 (offsets c.treebins) 32) p ∙ image_made (numbers c) ∙ sym (image_words (numbers c) (all_fit c i j k l))

-- the record of 72 words
pub numbers_made : (r : List ℕ) {a b : ℕ} (hs ts : List ChunkOff) → offsets hs ≡ reads r 8 32 → offsets ts ≡ reads r 40 32
    → a ≡ map_of small r → b ≡ map_of tree r
    → numbers record {
      smallmap = a;
      treemap = b;
      smallbins = hs;
      treebins = ts;
      dv = record { 0 = get_or r 2 0 };
      dvsize = get_or r 3 0;
      top =
          record { 0 = get_or r 4 0 };
      topsize = get_or r 5 0;
      length = get_or r 6 0;
    } ≡ numbers_of r
numbers_made r hs ts p q s t = rw (p, q, s, t) refl
