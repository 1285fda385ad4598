-- All bins: `small_bins_ok` says yes exactly when the record's map, its 32 heads and the arena are 32 lists whose places are all in the set, and
-- `tree_bins_ok` the same of 32 trees; both leave the set without them. One law of `all_bins` for both kinds of bins, by induction on the bins that
-- are left; each bin by the laws of lists and of trees, with its bit of the map. One statement each way for each kind. Both editions.
-- Assumes nothing.
use Rattle.std.specs.Prelude.{◌≡◌, Bool, true, eqb, length, get_or, drop}
use Rattle.std.proofs.Math.Path.{refl, subst}
use Rattle.std.proofs.Common.{sym, ◌∙◌, ap, length-take, length-drop, eqb-true, eq-eqb, ne_eqb}
use mathlib.Core.List.{List, [], ◌∷◌}
use Prim.Native.Nat.{ℕ, zero, suc, ◌+◌, ◌*◌, ◌%◌, ◌^◌, ◌≤◌, ◌<◌}
use native.Mathlib.Omega.{arith}
use Rattle.words.specs.Logic.{pick}
use Rattle.words.specs.Edition.{Edition, W, no_link, root_mark, none_free, head}
use Rattle.words.specs.Fields.{Mem, fld, count_l}
use Rattle.index.specs.Bit.{bit, tell}
use Rattle.tries.specs.Tree.{Tree, leaf, node, count, All}
use Rattle.tries.specs.TreeAt.{link}
use Rattle.rules.specs.BinOf.{bin_size, small_is, trie_bits, trie_low}
use Rattle.rules.specs.Heap.{holds_some, grows_some}
use Rattle.holds.specs.Bins.{Bins, sum_of, sum_at}
use Rattle.holds.specs.Holds.{SmallAt, TrieAt, SmallBins, TreeBins, head_link}
use Rattle.chunk.specs.Bytes.{Kind, small, tree, link_of, link_at}
use Rattle.chunk.specs.Image.{decode, links, filled, get_link, get_map, part}
use Rattle.marks.specs.Marks.{Checked, no, no_marks, turns}
use Rattle.binned.specs.BinsBytes.{bit_ok, list_ok, small_bin_ok, all_bins, small_bins_ok, tree_ok, tree_bin_ok, tree_bins_ok}
use Rattle.decides.specs.MarksLaws.{in_set, Sized, sized_none, none_in, fewer}
use Rattle.decides.specs.Took.{Took, then_yes, took_then, if_yes, took_if}
use Rattle.decides.specs.ListLaws.{list_yes, list_there}
use Rattle.decides.specs.TreeLaws.{Allowed, tree_yes, tree_there, sizes_allowed}

-- ---- bins one after another: bin i is an A with Q i, of which c counts the places

module _ {A : Type 0} (nil : A) (e : Edition) (f : ℕ → List ℕ → Checked) (Q : ℕ → A → Type 0) (c : ℕ → A → ℕ) where
  -- what the bins from i on are, if each that is accepted is something
  bins_yes : ((i : ℕ) (m : List ℕ) → i < 32 → Sized m → (f i m).ok ≡ true → (a : A) × Q i a × Took e m (f i m) (λ y. c y a))
      → (k i : ℕ) (m : List ℕ) → i + k ≤ 32 → Sized m → (all_bins f k i m).ok ≡ true
      → (bins : List A) × (length bins ≡ k) × ((j : ℕ) → j < k → Q (i + j) (get_or bins j nil)) × Took e m (all_bins f k i m) (λ y. sum_of (c y) bins)
  unfolding all_bins
  bins_yes g zero i m l s h = ([], refl, (λ j b. absurd (let z : ⊥ = omega arith in z)), (refl, s, (λ y. omega arith)))
  bins_yes g (suc k) i m l s h =
      let t = then_yes (f i m) (all_bins f k (i + 1)) h in
      let a = g i m (omega arith) s t.0 in
      let b = bins_yes g k (i + 1) (f i m).marks (omega arith) a.2.1 t.1 in (
        a.0 ∷ b.0,
        omega (arith, b.1),
        at a.0 b.0 a.1 b.2,
        took_then e m (f i m) (all_bins f k (i + 1)) (λ y. c y a.0) (λ y. sum_of (c y) b.0) a.2 b.3,
      )
    where
      at : (a : A) (bs : List A) → Q i a → ((j : ℕ) → j < k → Q (i + 1 + j) (get_or bs j nil)) → (j : ℕ) → j < suc k → Q (i + j) (get_or (a ∷ bs) j nil)
      at a bs q r zero b = subst (λ n. Q n a) (let z : i ≡ i + 0 = omega arith in z) q
      at a bs q r (suc j) b = subst (λ n. Q n (get_or bs j nil)) (let z : i + 1 + j ≡ i + suc j = omega arith in z) (r j (omega arith))

  -- and back
  bins_there : ((i : ℕ) (m : List ℕ) (a : A) → i < 32 → Sized m → Q i a → ((y : ℕ) → c y a ≤ in_set e m y) → Took e m (f i m) (λ y. c y a))
      → (k i : ℕ) (m : List ℕ) (bins : List A) → i + k ≤ 32 → Sized m → length bins ≡ k → ((j : ℕ) → j < k → Q (i + j) (get_or bins j nil))
      → ((y : ℕ) → sum_of (c y) bins ≤ in_set e m y) → Took e m (all_bins f k i m) (λ y. sum_of (c y) bins)
  unfolding all_bins
  bins_there g zero i m [] l s n q d = (refl, s, (λ y. omega arith))
  bins_there g zero i m (a ∷ bs) l s n q d = absurd (let z : ⊥ = omega arith in z)
  bins_there g (suc k) i m [] l s n q d = absurd (let z : ⊥ = omega arith in z)
  bins_there g (suc k) i m (a ∷ bs) l s n q d =
      let t = g i m a (omega arith) s (subst (λ v. Q v a) (let z : i + 0 ≡ i = omega arith in z) (q 0 (omega arith))) (λ y. omega (arith, d y)) in
      let b = bins_there g k (i + 1) (f i m).marks bs (omega arith) t.1 (omega arith)
      (λ j v. subst (λ n. Q n (get_or bs j nil)) (let z : i + suc j ≡ i + 1 + j = omega arith in z) (q (suc j) (omega arith))) (λ y. omega (arith, d y, t.2 y)) in
      took_then e m (f i m) (all_bins f k (i + 1)) (λ y. c y a) (λ y. sum_of (c y) bs) t b

-- ---- the map's bit and the record's link of one bin

own : (i : ℕ) → i < 32 → i % 32 ≡ i
own i l = omega arith

link_is : (k : Kind) (r : List ℕ) (i : ℕ) → i < 32 → link_of k r i ≡ get_or (links k (decode r)) i 0
link_is k r i l = ap (λ j. get_or r (link_at k j) 0) (own i l) ∙ get_link k r i l

bit_yes : (e : Edition) (map i c : ℕ) → i < 32 → bit_ok e map i c ≡ true → bit i map ≡ pick (eqb c (no_link e)) 0 1
unfolding bit_ok
bit_yes e map i c l h = ap (λ j. bit j map) (sym (own i l)) ∙ eqb-true (bit (i % 32) map) (pick (eqb c (no_link e)) 0 1) h

bit_there : (e : Edition) (map i c : ℕ) → i < 32 → bit i map ≡ pick (eqb c (no_link e)) 0 1 → bit_ok e map i c ≡ true
unfolding bit_ok
bit_there e map i c l h = eq-eqb (bit (i % 32) map) (pick (eqb c (no_link e)) 0 1) (ap (λ j. bit j map) (own i l) ∙ h)

some_list : (e : Edition) (c : ℕ) (ps : List ℕ) → c ≡ head_link e ps → pick (eqb c (no_link e)) 0 1 ≡ tell (holds_some ps)
some_list e c [] q = rw (eq-eqb c (no_link e) q) refl
some_list e c (p ∷ ps) q = rw (ne_eqb c (no_link e) (λ z. none_free e p (sym q ∙ z))) refl

some_tree : (e : Edition) (c : ℕ) (u : Tree) → c ≡ link e u → pick (eqb c (no_link e)) 0 1 ≡ tell (grows_some u)
some_tree e c leaf q = rw (eq-eqb c (no_link e) q) refl
some_tree e c (node p ps z l r) q = rw (ne_eqb c (no_link e) (λ z. none_free e p (sym q ∙ z))) refl

part_long : (k : ℕ) (r : List ℕ) → k ≤ 40 → length r ≡ 72 → length (part k r) ≡ 32
part_long k r l q = length-take 32 (drop k r) ∙ omega (arith, length-drop k r)

links_long : (k : Kind) (r : List ℕ) → length r ≡ 72 → length (links k (decode r)) ≡ 32
unfolding decode
links_long small r q = part_long 8 r (omega arith) q
links_long tree r q = part_long 40 r (omega arith) q

-- 32 bins with their links, their bits of the map and what the memory says of each
bins_of : {A : Type 0} (nil : A) (fills : A → Bool) (lk : A → ℕ) (At : Mem → ℕ → A → Type 0) (k : Kind) (r w : List ℕ) (bins : List A) → length r ≡ 72 → filled k (decode r) < 2 ^ 32 → length bins ≡ 32
    → ((i : ℕ) → i < 32 → (get_or (links k (decode r)) i 0 ≡ lk (get_or bins i nil)) × (bit i (filled k (decode r)) ≡ tell (fills (get_or bins i nil))) × At (fld w) i (get_or bins i nil))
    → Bins nil fills lk At (fld w) (filled k (decode r)) (links k (decode r)) bins
bins_of nil fills lk At k r w bins q b n f =
    record {
      marks = record { bound = b; count = n; tells = λ i l. (f i l).1 };
      count = links_long k r q;
      linked = λ i l. (f i l).0;
      at = λ i l. (f i l).2;
    }

-- ---- small bins

-- bin i is the list ps
abbrev SmallSays : Edition → List ℕ → List ℕ → ℕ → List ℕ → Type 0
SmallSays e r w i ps = (get_or (decode r).heads i 0 ≡ head_link e ps) × (bit i (decode r).small_map ≡ tell (holds_some ps)) × SmallAt e (fld w) i ps

small_bin_yes : (e : Edition) (r w : List ℕ) (i : ℕ) (m : List ℕ) → i < 32 → Sized m → (small_bin_ok e r w i m).ok ≡ true → (ps : List ℕ) × SmallSays e r w i ps × Took e m (small_bin_ok e r w i m) (λ y. count_l y ps)
unfolding small_bin_ok
small_bin_yes e r w i m l s h =
    let c = link_of small r i in
    let b = bit_ok e (get_or r 0 0) i c in
    let z = sym (small_is e i).0 in
    let g = if_yes b (list_ok e w (8 * i) turns c (no_link e) m) m h in
    let t = list_yes e w (bin_size e i) turns c (no_link e) m s (ap (λ n. (list_ok e w n turns c (no_link e) m).ok) (sym z) ∙ g.1) in (
      t.0,
      (
        sym (link_is small r i l) ∙ t.1,
        ap (bit i) (sym (get_map small r)) ∙ bit_yes e (get_or r 0 0) i c l g.0 ∙ some_list e c t.0 t.1,
        record { headed = t.3; links = t.2 },
      ),
      took_if e m b (list_ok e w (8 * i) turns c (no_link e) m) (no m) (λ y. count_l y t.0) g.0
          (subst (λ n. Took e m (list_ok e w n turns c (no_link e) m) (λ y. count_l y t.0)) (sym z) t.4),
    )

small_bin_there : (e : Edition) (r w : List ℕ) (i : ℕ) (m ps : List ℕ) → i < 32 → Sized m → SmallSays e r w i ps → ((y : ℕ) → count_l y ps ≤ in_set e m y) → Took e m (small_bin_ok e r w i m) (λ y. count_l y ps)
unfolding small_bin_ok
small_bin_there e r w i m ps l s q f =
    let c = link_of small r i in
    let z = sym (small_is e i).0 in
    let u : c ≡ head_link e ps = link_is small r i l ∙ q.0 in
    took_if e m (bit_ok e (get_or r 0 0) i c) (list_ok e w (8 * i) turns c (no_link e) m) (no m) (λ y. count_l y ps)
    (bit_there e (get_or r 0 0) i c l (ap (bit i) (get_map small r) ∙ q.1 ∙ sym (some_list e c ps u)))
    (subst (λ n. Took e m (list_ok e w n turns c (no_link e) m) (λ y. count_l y ps)) (sym z)
    (list_there e w (bin_size e i) turns c (no_link e) m ps s u q.2.links q.2.headed (omega (arith, fewer e m ps f)) f))

pub small_bins_yes : (e : Edition) (r w m : List ℕ) → length r ≡ 72 → get_or r 0 0 < 2 ^ 32 → Sized m → (small_bins_ok e r w m).ok ≡ true
    → (bins : List (List ℕ)) × SmallBins e (fld w) (decode r).small_map (decode r).heads bins × Sized (small_bins_ok e r w m).marks
    × ((y : ℕ) → in_set e (small_bins_ok e r w m).marks y + sum_of (count_l y) bins ≡ in_set e m y)
unfolding small_bins_ok
small_bins_yes e r w m q b s h =
    let t = bins_yes [] e (small_bin_ok e r w) (SmallSays e r w) count_l (λ i m' l s' h'. small_bin_yes e r w i m' l s' h') 32 0 m (omega arith) s h in (
      t.0,
      bins_of [] holds_some (head_link e) (SmallAt e) small r w t.0 q (subst (λ n. n < 2 ^ 32) (get_map small r) b) t.1
          (λ i l. subst (λ n. SmallSays e r w n (get_or t.0 i [])) (let z : 0 + i ≡ i = omega arith in z) (t.2 i l)),
      t.3.1,
      t.3.2,
    )

pub small_bins_there : (e : Edition) (r w m : List ℕ) (bins : List (List ℕ)) → length r ≡ 72 → Sized m → SmallBins e (fld w) (decode r).small_map (decode r).heads bins
    → ((y : ℕ) → sum_of (count_l y) bins ≤ in_set e m y)
    → ((small_bins_ok e r w m).ok ≡ true) × Sized (small_bins_ok e r w m).marks × ((y : ℕ) → in_set e (small_bins_ok e r w m).marks y + sum_of (count_l y) bins ≡ in_set e m y)
unfolding small_bins_ok
small_bins_there e r w m bins q s b f =
    bins_there [] e (small_bin_ok e r w) (SmallSays e r w) count_l (λ i m' ps l s' q' f'. small_bin_there e r w i m' ps l s' q' f') 32 0 m bins (omega arith) s b.marks.count
    (λ i l. subst (λ n. SmallSays e r w n (get_or bins i [])) (let z : i ≡ 0 + i = omega arith in z) (b.linked i l, b.marks.tells i l, b.at i l)) f

-- ---- tree bins

-- bin i is the tree u
abbrev TrieSays : Edition → List ℕ → List ℕ → ℕ → Tree → Type 0
TrieSays e r w i u = (get_or (decode r).roots i 0 ≡ link e u) × (bit i (decode r).tree_map ≡ tell (grows_some u)) × TrieAt e (fld w) i u

abbrev SizesFit : Edition → Tree → Type 0
SizesFit e u = All (Allowed e no_marks) u

tree_bin_yes : (e : Edition) (r w : List ℕ) (i : ℕ) (m : List ℕ) → i < 32 → Sized m → (tree_bin_ok e r w no_marks i m).ok ≡ true
    → (u : Tree) × TrieSays e r w i u × Took e m (tree_bin_ok e r w no_marks i m) (λ y. count y u)
unfolding tree_bin_ok
tree_bin_yes e r w i m l s h =
    let t = link_of tree r i in
    let b = bit_ok e (get_or r 1 0) i t in
    let c = tree_ok e w i (trie_bits e i) (W e * trie_low e i) t (root_mark e) no_marks m in
    let g = if_yes b c m h in
    let u = tree_yes e w i (trie_bits e i) (trie_low e i) (W e * trie_low e i) t (root_mark e) no_marks m sized_none s refl g.1 in (
      u.0,
      (
        sym (link_is tree r i l) ∙ u.1,
        ap (bit i) (sym (get_map tree r)) ∙ bit_yes e (get_or r 1 0) i t l g.0 ∙ some_tree e t u.0 u.1,
        record { tree = u.2; shape = u.3 },
      ),
      took_if e m b c (no m) (λ y. count y u.0) g.0 u.5,
    )

tree_bin_there : (e : Edition) (r w : List ℕ) (i : ℕ) (m : List ℕ) (u : Tree) → i < 32 → Sized m → TrieSays e r w i u × SizesFit e u → ((y : ℕ) → count y u ≤ in_set e m y)
    → Took e m (tree_bin_ok e r w no_marks i m) (λ y. count y u)
unfolding tree_bin_ok
tree_bin_there e r w i m u l s q f =
    let t = link_of tree r i in
    let v : t ≡ link e u = link_is tree r i l ∙ q.0.0 in
    let c = tree_ok e w i (trie_bits e i) (W e * trie_low e i) t (root_mark e) no_marks m in
    took_if e m (bit_ok e (get_or r 1 0) i t) c (no m) (λ y. count y u)
    (bit_there e (get_or r 1 0) i t l (ap (bit i) (get_map tree r) ∙ q.0.1 ∙ sym (some_tree e t u v)))
    (tree_there e w i (trie_bits e i) (trie_low e i) (W e * trie_low e i) t (root_mark e) no_marks m u sized_none s refl v q.0.2.tree q.0.2.shape q.1 f)

pub tree_bins_yes : (e : Edition) (r w m : List ℕ) → length r ≡ 72 → get_or r 1 0 < 2 ^ 32 → Sized m → (tree_bins_ok e r w m).ok ≡ true
    → (tries : List Tree) × TreeBins e (fld w) (decode r).tree_map (decode r).roots tries × Sized (tree_bins_ok e r w m).marks
    × ((y : ℕ) → in_set e (tree_bins_ok e r w m).marks y + sum_of (count y) tries ≡ in_set e m y)
unfolding tree_bins_ok
tree_bins_yes e r w m q b s h =
    let t = bins_yes leaf e (tree_bin_ok e r w no_marks) (TrieSays e r w) count (λ i m' l s' h'. tree_bin_yes e r w i m' l s' h') 32 0 m (omega arith) s h in (
      t.0,
      bins_of leaf grows_some (link e) (TrieAt e) tree r w t.0 q (subst (λ n. n < 2 ^ 32) (get_map tree r) b) t.1
          (λ i l. subst (λ n. TrieSays e r w n (get_or t.0 i leaf)) (let z : 0 + i ≡ i = omega arith in z) (t.2 i l)),
      t.3.1,
      t.3.2,
    )

-- The last hypothesis is what the tiling says of the members: each is a free chunk, so its head says an even size within the arena. The trees
-- alone do not say it, and the check asks for it.
pub tree_bins_there : (e : Edition) (r w m : List ℕ) (tries : List Tree) → length r ≡ 72 → Sized m → TreeBins e (fld w) (decode r).tree_map (decode r).roots tries
    → ((y : ℕ) → sum_of (count y) tries ≤ in_set e m y)
    → ((x : ℕ) → 1 ≤ sum_of (count x) tries → (z : ℕ) × (fld w x 1 ≡ head e z) × (z % 2 ≡ 0) × (z < 8192))
    → ((tree_bins_ok e r w m).ok ≡ true) × Sized (tree_bins_ok e r w m).marks × ((y : ℕ) → in_set e (tree_bins_ok e r w m).marks y + sum_of (count y) tries ≡ in_set e m y)
unfolding tree_bins_ok
tree_bins_there e r w m tries q s b f g =
    bins_there leaf e (tree_bin_ok e r w no_marks) (λ i u. TrieSays e r w i u × SizesFit e u) count (λ i m' u l s' q' f'. tree_bin_there e r w i m' u l s' q' f') 32 0 m tries (omega arith) s b.marks.count
    (λ i l. subst (λ n. TrieSays e r w n (get_or tries i leaf) × SizesFit e (get_or tries i leaf)) (let z : i ≡ 0 + i = omega arith in z) (
      (b.linked i l, b.marks.tells i l, b.at i l),
      sizes_allowed e w i (root_mark e) no_marks (get_or tries i leaf) (b.at i l).tree (none_in e)
          (λ x u. g x (omega (arith, sum_at (count x) leaf tries i (omega (arith, b.marks.count))))),
    )) f
