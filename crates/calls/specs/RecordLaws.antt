-- A RECORD AND ITS 72 WORDS say the same: words made of a record that fits say that record, and hold what it holds; what a call leaves in
-- the words,
-- read back, is the record that they say, since no map that is held has more than 32 bits. Numbers that do not fit hold nothing, and so do
-- their words. Assumes nothing.
use Rattle.std.specs.Prelude.{Bool, true, false, ◌&&◌, List, [], ◌∷◌, ◌↔◌, ◌≡◌, refl, ℕ, zero, suc, ◌+◌, ◌^◌, ◌≤◌, ◌<◌, min, ltb, eqb, length, get_or, drop, replicate}
use Rattle.std.proofs.Common.{sym, ◌∙◌, ap, subst, arith, mod-eq_of_lt, mod-lt, eqb-true, eq-eqb, ltb-true, lt-ltb, length-take, length-drop, get_or-take, get_or-drop}
use Rattle.words.specs.Logic.{pick, pick_case, by, false-true}
use Rattle.words.specs.Edition.{Edition, wide, narrow}
use Rattle.rules.specs.Heap.{Heap}
use Rattle.holds.specs.Holds.{Control, Near, Sound}
use Rattle.chunk.specs.Image.{decode, part}
use Rattle.chunk.specs.Held.{Held}
use Rattle.calls.specs.Record.{reads, fits, words_of, image, numbers_of}

-- a list that agrees with n numbers is those numbers
pub reads_all : (xs r : List ℕ) (from n : ℕ) → length xs ≡ n → ((k : ℕ) → k < n → get_or xs k 0 ≡ get_or r (from + k) 0) → xs ≡ reads r from n
unfolding reads
reads_all [] r from zero l f = refl
reads_all (x ∷ xs) r from zero l f = absurd (let z : ⊥ = omega (arith, l) in z)
reads_all [] r from (suc n) l f = absurd (let z : ⊥ = omega (arith, l) in z)
reads_all (x ∷ xs) r from (suc n) l f =
    ap (λ y. y ∷ xs) (f 0 (omega arith) ∙ ap (λ y. get_or r y 0) (let z : from + 0 ≡ from = omega arith in z))
    ∙ ap (λ z. get_or r from 0 ∷ z)
    (reads_all xs r (from + 1) n (omega (arith, l))
    (λ k u. f (suc k) (omega arith) ∙ ap (λ y. get_or r y 0) (let z : from + suc k ≡ from + 1 + k = omega arith in z)))

reads_same : (xs : List ℕ) → length xs ≡ 32 → reads xs 0 32 ≡ xs
reads_same xs l = sym (reads_all xs xs 0 32 l (λ k u. ap (λ y. get_or xs y 0) (let z : k ≡ 0 + k = omega arith in z)))

-- ---- a record by value: 32 heads, 32 roots, maps of 32 bits

pub record Fits (c : Control) : Type 0 where
  pub heads : length c.heads ≡ 32
  pub roots : length c.roots ≡ 32
  pub small : c.small_map < 2 ^ 32
  pub trees : c.tree_map < 2 ^ 32

pub fits_yes : (c : Control) → Fits c → fits c ≡ true
fits_yes c f =
    rw (
      eq-eqb (length c.heads) 32 f.heads,
      eq-eqb (length c.roots) 32 f.roots,
      lt-ltb c.small_map (2 ^ 32)
          f.small,
      lt-ltb c.tree_map (2 ^ 32) f.trees,
    ) refl

pub fits_is : (c : Control) → fits c ≡ true → Fits c
fits_is c q =
    go (eqb (length c.heads) 32) (eqb (length c.roots) 32) (ltb c.small_map (2 ^ 32)) (ltb c.tree_map (2 ^ 32)) q
    (eqb-true (length c.heads) 32) (eqb-true (length c.roots) 32) (ltb-true c.small_map (2 ^ 32)) (ltb-true c.tree_map (2 ^ 32))
  where
    go : (x y z u : Bool) → x && (y && (z && u)) ≡ true → (x ≡ true → length c.heads ≡ 32) → (y ≡ true → length c.roots ≡ 32)
        → (z ≡ true → c.small_map < 2 ^ 32) → (u ≡ true → c.tree_map < 2 ^ 32) → Fits c
    go true true true true p f g h i = record { heads = f refl; roots = g refl; small = h refl; trees = i refl }
    go true true true false p f g h i = false-true p
    go true true false u p f g h i = false-true p
    go true false z u p f g h i = false-true p
    go false y z u p f g h i = false-true p

pub image_words : (c : Control) → Fits c → image c ≡ words_of c
unfolding image
image_words c f = ap (λ (b : Bool). pick b (words_of c) (replicate 72 0)) (fits_yes c f)

pub image-length : (c : Control) → length (image c) ≡ 72
unfolding image reads
image-length c = pick_case (λ (r : List ℕ). length r ≡ 72) (fits c) (λ _. refl) (λ _. refl)

pub image_top : (c : Control) → Fits c → get_or (image c) 4 0 ≡ c.top
image_top c f = ap (λ r. get_or r 4 0) (image_words c f)

with_links : Control → List ℕ → List ℕ → Control
with_links c hs ts =
    record {
      small_map = c.small_map;
      tree_map = c.tree_map;
      heads = hs;
      roots = ts;
      dv = c.dv;
      dv_size = c.dv_size;
      top = c.top;
      top_size = c.top_size;
      length = c.length;
    }

decode_words : (c : Control) → Fits c → decode (words_of c) ≡ c
unfolding decode reads with_links
decode_words c f =
    ap (λ z. with_links c z (reads c.roots 0 32)) (reads_same c.heads f.heads)
    ∙ ap (with_links c c.heads) (reads_same c.roots f.roots)

pub decode-image : (c : Control) → Fits c → decode (image c) ≡ c
decode-image c f = ap decode (image_words c f) ∙ decode_words c f

-- what is held fits
pub held_fits : (e : Edition) (c : Control) (w : List ℕ) (h : Heap) (l : List ℕ) → Near e c w h l → Fits c
held_fits e c w h l n =
    record { heads = n.small.count; roots = n.tries.count; small = n.small.marks.bound; trees = n.tries.marks.bound }

pub held-image : (e : Edition) (c : Control) (w : List ℕ) (h : Heap) (l : List ℕ) → Near e c w h l → Held e (image c) w h l
held-image e c w h l n =
    record { image = image-length c; near = subst (λ d. Near e d w h l) (sym (decode-image c (held_fits e c w h l n))) n }

-- what does not fit holds nothing, nor do its words: no arena has no bytes
no_length : (e : Edition) (w : List ℕ) → Sound e (decode (replicate 72 0)) w → ⊥
unfolding decode
no_length wide w s = omega (arith, s.1.long, s.1.least)
no_length narrow w s = omega (arith, s.1.long, s.1.least)

-- so what the words hold the record holds
pub image_near : (e : Edition) (c : Control) (w : List ℕ) (h : Heap) → Near e (decode (image c)) w h [] → Near e c w h []
unfolding image
image_near e c w h = by (λ b. Near e (decode (pick b (words_of c) (replicate 72 0))) w h [] → Near e c w h []) (fits c)
    (λ q. subst (λ d. Near e d w h []) (decode_words c (fits_is c q))) (λ q n. absurd (no_length e w (h, n)))

pub sound_image : (e : Edition) (c : Control) (w : List ℕ) → Sound e (decode (image c)) w ↔ Sound e c w
sound_image e c w = (
  λ s. (s.0, image_near e c w s.0 s.1),
  λ s. subst (λ d. Sound e d w) (sym (decode-image c (held_fits e c w s.0 [] s.1))) s,
)

-- numbers read from words fit
pub numbers_fit : (r : List ℕ) → Fits (numbers_of r)
unfolding reads
numbers_fit r = record { heads = refl; roots = refl; small = mod-lt (get_or r 0 0) (omega arith); trees = mod-lt (get_or r 1 0) (omega arith) }

-- ---- the record of words that hold a heap

reads-part : (r : List ℕ) (k : ℕ) → k + 32 ≤ length r → reads r k 32 ≡ part k r
reads-part r k l =
    sym (reads_all (part k r) r k 32
    (length-take 32 (drop k r) ∙ (let z : min 32 (length (drop k r)) ≡ 32 = omega (arith, length-drop k r) in z))
    (λ i u. get_or-take 32 (drop k r) i 0 u ∙ get_or-drop k r i 0))

pub held_read : (e : Edition) (r w : List ℕ) (h : Heap) (l : List ℕ) → Held e r w h l → numbers_of r ≡ decode r
unfolding decode
held_read e r w h l n =
    rw (
      reads-part r 8 (omega (arith, n.image)),
      reads-part r 40 (omega (arith, n.image)),
      mod-eq_of_lt
          n.near.small.marks.bound,
      mod-eq_of_lt n.near.tries.marks.bound,
    ) refl
