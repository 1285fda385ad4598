-- The free chunks enter their bins one after another: `Held` with all of them loose, a step of `insert_chunk` for each, and at the end
-- nothing is loose. Heads are read from the words as the steps leave them; a step changes no head, because what it leaves is held with
-- the same chunks. The words that are written are links of the heap that is left. Both editions. Assumes nothing.
use Rattle.std.specs.Prelude.{◌≡◌, refl, true, false, List, [], ◌∷◌, ℕ, zero, suc, ◌+◌, ◌*◌, ◌/◌, ◌≤◌, ◌<◌, length, get_or, set}
use Rattle.std.proofs.Common.{sym, ◌∙◌, ap, subst, inl, inr, ⊎_elim, arith, get_or-set_same, get_or-set_other, eq-eqb, lt-ltb, le-ltb}
use Rattle.words.specs.Logic.{pick, by, same?}
use Rattle.words.specs.Edition.{Edition, W, enc}
use Rattle.words.specs.Fields.{count_l, ind_self}
use Rattle.tiling.specs.Tiling.{Chunk, used, free, bit, bit_below, end_of, Starts, end_ge, starts_at_lem}
use Rattle.tries.specs.Tree.{leaf, count, insert, count-insert}
use Rattle.rules.specs.BinOf.{is_small, small_bin, trie_bin, trie_bits}
use Rattle.rules.specs.Heap.{Heap, heap_small, heap_tries}
use Rattle.rules.specs.Binning.{bin}
use Rattle.holds.specs.Where.{small_index, trie_index}
use Rattle.holds.specs.Governed.{Linked}
use Rattle.chunk.specs.Bytes.{Store, store, size_b, cinuse_b}
use Rattle.chunk.specs.Plain.{small_sum, size_plain, cinuse_plain}
use Rattle.chunk.specs.Image.{decode}
use Rattle.chunk.specs.Held.{Held, ltb_bytes}
use Rattle.treebin.specs.Binning.{insert_chunk}
use Rattle.treebin.specs.BinningSteps.{insert_step}
use Rattle.treebin.specs.BinningReach.{insert_reaches}
use Rattle.rebuild.specs.RebuildBytes.{enter_b, fill_from}
use Rattle.rebuild.specs.Rebuilding.{enter_all, free_places, bin_stays}
use Rattle.rebuild.specs.FillSteps.{Filled, Filling, First}

-- ---- a bin that grows keeps its links

set_grow : {A : Type 0} (f : A → ℕ) (d : A) (bs : List A) (j k : ℕ) (a : A) → j < length bs → f (get_or bs j d) ≤ f a → 1 ≤ f (get_or bs k d)
    → 1 ≤ f (get_or (set bs j a) k d)
set_grow f d bs j k a l le u =
    ⊎_elim (λ z. subst (λ y. 1 ≤ f (get_or (set bs j a) y d)) (sym z)
    (subst (λ y. 1 ≤ f y) (sym (get_or-set_same bs j a d l)) (omega (arith, le, subst (λ y. 1 ≤ f (get_or bs y d)) z u))))
    (λ z. subst (λ y. 1 ≤ f y) (sym (get_or-set_other bs j k a d z)) u) (same? k j)

bin-links : (e : Edition) (r w : List ℕ) (h : Heap) (loose : List ℕ) (c s i : ℕ) → Held e r w h loose → Starts 0 h.chunks c (free s)
    → Linked h i → Linked (bin e h c s) i
bin-links e r w h loose c s i n st =
    by (λ b. Linked h i → Linked (pick b (heap_small h (set h.small (small_bin e s) (c ∷ get_or h.small (small_bin e s) [])))
    (heap_tries h (set h.tries (trie_bin e s) (insert c s (trie_bits e (trie_bin e s)) (get_or h.tries (trie_bin e s) leaf))))) i)
    (is_small e s) small large
  where
    small : is_small e s ≡ true → Linked h i → Linked (heap_small h (set h.small (small_bin e s) (c ∷ get_or h.small (small_bin e s) []))) i
    small z (inl (b, x, l, m, q)) =
        inl (
          b,
          x,
          l,
          set_grow (count_l x) [] h.small (small_bin e s) b (c ∷ get_or h.small (small_bin e s) [])
              (omega (arith, (small_index e (decode r) w h loose n.near c s st z).0, n.near.small.marks.count)) (omega arith) m,
          q,
        )
    small z (inr u) = inr u

    large : is_small e s ≡ false → Linked h i
        → Linked (heap_tries h (set h.tries (trie_bin e s) (insert c s (trie_bits e (trie_bin e s)) (get_or h.tries (trie_bin e s) leaf)))) i
    large z (inl u) = inl u
    large z (inr (b, x, l, m, q)) =
        inr (
          b,
          x,
          l,
          set_grow (count x) leaf h.tries (trie_bin e s) b (insert c s (trie_bits e (trie_bin e s)) (get_or h.tries (trie_bin e s) leaf))
              (omega (arith, (trie_index e (decode r) w h loose n.near c s st z).0, n.near.tries.marks.count))
              (omega (arith, count-insert x c s (trie_bits e (trie_bin e s)) (get_or h.tries (trie_bin e s) leaf))) m,
          q,
        )

-- ---- one turn

turn : (e : Edition) (k p s t : ℕ) (r w : List ℕ) (u : Store) → p < t → p + s ≤ 8192 → size_b e w (enc e p) ≡ enc e s
    → enter_b e r w (enc e p) (enc e s) ≡ u
    → fill_from e (enc e t) (suc k) (enc e p) r w ≡ fill_from e (enc e t) k (enc e (p + s)) u.image u.words
unfolding fill_from
turn e k p s t r w u l m q z = rw (ltb_bytes e p t ∙ lt-ltb p t l, q, small_sum e p s m, z) refl

enter_used : (e : Edition) (r w : List ℕ) (c n : ℕ) → cinuse_b e w c ≡ true → enter_b e r w c n ≡ store r w
unfolding enter_b
enter_used e r w c n q = rw q refl

enter_free : (e : Edition) (r w : List ℕ) (c n : ℕ) → cinuse_b e w c ≡ false → enter_b e r w c n ≡ insert_chunk e r w c n
unfolding enter_b
enter_free e r w c n q = rw q refl

-- ---- all turns

module _ (e : Edition) (p s : ℕ) (cs : List Chunk) (r w : List ℕ) (h : Heap) where
  first_used : Filling e p (used s ∷ cs) r w h → First e w p s (end_of (p + s) cs) true
  first_used f =
      let n = f.held.near in
      let st = f.part p (used s) (inl (refl, refl)) in
      let a = starts_at_lem e w 0 true h.chunks p (used s) n.heads.run st in
      let b = bit_below a.0 in
      let g : get_or w (p + 1) 0 ≡ W e * s + (2 + bit a.0) = omega (arith, a.1.head) in
      record {
        least = a.1.least;
        within = end_ge (p + s) cs;
        low = omega (arith, f.ends, n.heads.top.ends, n.most);
        size = size_plain e w p s (2 + bit a.0) g a.1.even (omega (arith, b));
        used = cinuse_plain e w p s (2 + bit a.0) g a.1.even (omega (arith, b)) ∙ eq-eqb ((2 + bit a.0) / 2) 1 (omega (arith, b));
      }

  first_free : Filling e p (free s ∷ cs) r w h → First e w p s (end_of (p + s) cs) false
  first_free f =
      let n = f.held.near in
      let st = f.part p (free s) (inl (refl, refl)) in
      let a = starts_at_lem e w 0 true h.chunks p (free s) n.heads.run st in
      record {
        least = a.1.least;
        within = end_ge (p + s) cs;
        low = omega (arith, f.ends, n.heads.top.ends, n.most);
        size = size_plain e w p s 1 a.1.head a.1.even (omega arith);
        used = cinuse_plain e w p s 1 a.1.head a.1.even (omega arith);
      }

pub fills : (e : Edition) (k p : ℕ) (cs : List Chunk) (r w : List ℕ) (h : Heap) → Filling e p cs r w h → end_of p cs < p + 4 * k
    → Filled e w h (enter_all e h p cs) (fill_from e (enc e (end_of p cs)) k (enc e p) r w)
unfolding fill_from
fills e zero p cs r w h f l = absurd (let z : ⊥ = omega (arith, l, end_ge p cs) in z)
fills e (suc k) p [] r w h f l =
    rw (ltb_bytes e p p ∙ le-ltb p p (omega arith)) (record { held = f.held; grows = λ i u. u; reach = λ i u. refl })
fills e (suc k) p (used s ∷ cs) r w h f l =
    let a = first_used e p s cs r w h f in
    subst (Filled e w h (enter_all e h (p + s) cs))
    (sym (turn e k p s (end_of (p + s) cs) r w (store r w) (omega (arith, a.least, a.within)) (omega (arith, a.within, a.low))
    a.size (enter_used e r w (enc e p) (enc e s) a.used)))
    (fills e k (p + s) cs r w h (record { held = f.held; part = λ q c st. f.part q c (inr st); ends = f.ends })
    (omega (arith, l, a.least)))
fills e (suc k) p (free s ∷ cs) r w h f l =
    let a = first_free e p s cs r w h f in
    let st = f.part p (free s) (inl (refl, refl)) in
    let t = insert_chunk e r w (enc e p) (enc e s) in
    let same = (bin_stays e h p s).chunks in
    let g = fills e k (p + s) cs t.image t.words (bin e h p s) (record {
      held = insert_step e r w h (free_places (p + s) cs) p s f.held st;
      part = λ q c u. subst (λ ds. Starts 0 ds q c) (sym same) (f.part q c (inr u));
      ends = f.ends ∙ ap (end_of 0) (sym same);
    }) (omega (arith, l, a.least)) in
    subst (Filled e w h (enter_all e (bin e h p s) (p + s) cs))
    (sym (turn e k p s (end_of (p + s) cs) r w t (omega (arith, a.least, a.within)) (omega (arith, a.within, a.low)) a.size
    (enter_free e r w (enc e p) (enc e s) a.used)))
    (record {
      held = g.held;
      grows = λ i u. g.grows i (bin-links e r w h (p ∷ free_places (p + s) cs) p s i f.held st u);
      reach = λ i u. g.reach i u
          ∙ insert_reaches e r w h (p ∷ free_places (p + s) cs) f.held i p s st (omega (arith, ind_self p)) (λ v. u (g.grows i v));
    })
