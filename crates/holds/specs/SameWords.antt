-- The heap settles the governed words: two arenas of one length that hold the same heap agree on every head and foot, the foot word, and every
-- link of a binned chunk. By the recursion of the run, the list and the tree: each says its words' values outright. Assumes nothing.
use Rattle.std.specs.Prelude.{◌≡◌, Bool, true, false, List, [], ◌∷◌, ℕ, zero, suc, ◌+◌, ◌≤◌, ◌<◌, length, get_or}
use Rattle.std.proofs.Common.{sym, ◌∙◌, ap, subst, inl, inr, ⊎_elim, arith}
use Rattle.words.specs.Edition.{Edition, no_link, root_mark, enc}
use Rattle.words.specs.Fields.{Mem, ind_ne, fld, count_l}
use Rattle.words.specs.Logic.{same?}
use Rattle.tiling.specs.Tiling.{Chunk, used, free, end_of, Reads, Run, HeadsReads, HeadsFrom}
use Rattle.lists.specs.Links.{Links}
use Rattle.tries.specs.Tree.{Tree, leaf, node, count}
use Rattle.tries.specs.TreeAt.{Chain, Others, TreeAt}
use Rattle.rules.specs.Heap.{Heap}
use Rattle.holds.specs.Holds.{Control, Holds}
use Rattle.holds.specs.Governed.{Governed}

-- ---- the heads and feet

module _ (e : Edition) (w w' : List ℕ) where
  one_word : (i k v : ℕ) → i ≡ k → get_or w k 0 ≡ v → get_or w' k 0 ≡ v → get_or w i 0 ≡ get_or w' i 0
  one_word i k v q a b = ap (λ y. get_or w y 0) q ∙ a ∙ sym b ∙ ap (λ y. get_or w' y 0) (sym q)

  run_same : (p : ℕ) (pu : Bool) (cs : List Chunk) → Run e w p pu cs → Run e w' p pu cs → (i : ℕ) → Reads p cs i → get_or w i 0 ≡ get_or w' i 0
  run_same p pu [] a b i u = absurd u
  run_same p pu (used s ∷ cs) a b i (inl q) = one_word i (p + 1) _ q a.0.head b.0.head
  run_same p pu (used s ∷ cs) a b i (inr u) = run_same (p + s) true cs a.1 b.1 i u
  run_same p pu (free s ∷ cs) a b i (inl q) = one_word i (p + 1) _ q a.0.head b.0.head
  run_same p pu (free s ∷ cs) a b i (inr (inl q)) = one_word i (p + s) _ q a.0.foot b.0.foot
  run_same p pu (free s ∷ cs) a b i (inr (inr u)) = run_same (p + s) false cs a.1 b.1 i u

  heads_same : (p : ℕ) (pu : Bool) (cs : List Chunk) (ts : ℕ) → HeadsFrom e w p pu cs ts → HeadsFrom e w' p pu cs ts → (i : ℕ) → HeadsReads p cs ts i → get_or w i 0 ≡ get_or w' i 0
  heads_same p pu cs ts a b i (inl u) = run_same p pu cs a.run b.run i u
  heads_same p pu cs ts a b i (inr (inl q)) = one_word i (end_of p cs + 1) _ q a.top.head b.top.head
  heads_same p pu cs ts a b i (inr (inr q)) = one_word i (end_of p cs + ts + 1) _ q a.top.foot b.top.foot

-- ---- the links

-- two memories agree on words 2 and 3 of x; on words 4 to 7
abbrev SameLinks : Mem → Mem → ℕ → Type 0
SameLinks m m' x = (m x 2 ≡ m' x 2) × (m x 3 ≡ m' x 3)

abbrev SameKnot : Mem → Mem → ℕ → Type 0
SameKnot m m' x = (m x 4 ≡ m' x 4) × (m x 5 ≡ m' x 5) × (m x 6 ≡ m' x 6) × (m x 7 ≡ m' x 7)

-- the words one by one
two_three : (P : ℕ → Type 0) → P 2 × P 3 → (j : ℕ) → 2 ≤ j → j < 4 → P j
two_three P a zero lo hi = absurd (omega arith)
two_three P a (suc zero) lo hi = absurd (omega arith)
two_three P a (suc (suc zero)) lo hi = a.0
two_three P a (suc (suc (suc zero))) lo hi = a.1
two_three P a (suc (suc (suc (suc j)))) lo hi = absurd (omega arith)

two_seven : (P : ℕ → Type 0) → P 2 × P 3 → P 4 × P 5 × P 6 × P 7 → (j : ℕ) → 2 ≤ j → j < 8 → P j
two_seven P a b zero lo hi = absurd (omega arith)
two_seven P a b (suc zero) lo hi = absurd (omega arith)
two_seven P a b (suc (suc zero)) lo hi = a.0
two_seven P a b (suc (suc (suc zero))) lo hi = a.1
two_seven P a b (suc (suc (suc (suc zero)))) lo hi = b.0
two_seven P a b (suc (suc (suc (suc (suc zero))))) lo hi = b.1
two_seven P a b (suc (suc (suc (suc (suc (suc zero)))))) lo hi = b.2
two_seven P a b (suc (suc (suc (suc (suc (suc (suc zero))))))) lo hi = b.3
two_seven P a b (suc (suc (suc (suc (suc (suc (suc (suc j)))))))) lo hi = absurd (omega arith)

module _ (e : Edition) (m m' : Mem) where
  links_same : (new : ℕ) (ps : List ℕ) (old : ℕ) → Links e m new ps old → Links e m' new ps old → (x : ℕ) → 1 ≤ count_l x ps → SameLinks m m' x
  links_same new [] old a b x u = absurd (omega arith)
  links_same new (p ∷ ps) old a b x u =
      ⊎_elim (λ q. subst (SameLinks m m') (sym q) (a.1 ∙ sym b.1, a.0 ∙ sym b.0))
      (λ n. links_same (enc e p) ps old a.2 b.2 x (omega (arith, ind_ne x p n))) (same? x p)

  -- a ring says `next` of its start, `prev` of its end, and both of what stands between
  chain_same : (a : ℕ) (ps : List ℕ) (z : ℕ) → Chain e m a ps z → Chain e m' a ps z
      → (m a 3 ≡ m' a 3) × (m z 2 ≡ m' z 2) × ((x : ℕ) → 1 ≤ count_l x ps → SameLinks m m' x)
  chain_same a [] z h g = (h.0 ∙ sym g.0, h.1 ∙ sym g.1, λ x u. absurd (omega arith))
  chain_same a (b ∷ bs) z h g =
      let k = chain_same b bs z h.2 g.2 in (
        h.0 ∙ sym g.0,
        k.1,
        λ x u. ⊎_elim (λ q. subst (SameLinks m m') (sym q) (h.1 ∙ sym g.1, k.0)) (λ n. k.2 x (omega (arith, ind_ne x b n))) (same? x b),
      )

  others_same : (i s : ℕ) (ps : List ℕ) → Others e m i s ps → Others e m' i s ps → (x : ℕ) → 1 ≤ count_l x ps → SameKnot m m' x
  others_same i s [] a b x u = absurd (omega arith)
  others_same i s (p ∷ ps) a b x u =
      ⊎_elim
      (λ q. subst (SameKnot m m') (sym q)
      (a.1.child0 ∙ sym b.1.child0, a.1.child1 ∙ sym b.1.child1, a.1.parent ∙ sym b.1.parent, a.0.index ∙ sym b.0.index))
      (λ n. others_same i s ps a.2 b.2 x (omega (arith, ind_ne x p n))) (same? x p)

  tree_same : (i par : ℕ) (t : Tree) → TreeAt e m i par t → TreeAt e m' i par t → (x : ℕ) → 1 ≤ count x t → SameLinks m m' x × SameKnot m m' x
  tree_same i par leaf a b x u = absurd (omega arith)
  tree_same i par (node p ps s l r) a b x u =
      let c = chain_same p ps p a.0.ring b.0.ring in
      ⊎_elim
      (λ q. subst (λ y. SameLinks m m' y × SameKnot m m' y) (sym q) (
        (c.1, c.0),
        (a.1.child0 ∙ sym b.1.child0, a.1.child1 ∙ sym b.1.child1, a.1.parent ∙ sym b.1.parent, a.0.member.index ∙ sym b.0.member.index),
      ))
      (λ n. ⊎_elim
      (λ z. ⊎_elim
      (λ y. tree_same i (enc e p) r a.3 b.3 x (omega (arith, ind_ne x p n)))
      (λ y. tree_same i (enc e p) l a.2 b.2 x (omega arith))
      (same? (count x l) 0))
      (λ z. (c.2 x (omega arith), others_same i s ps a.0.others b.0.others x (omega arith)))
      (same? (count_l x ps) 0))
      (same? x p)

-- ---- the whole

pub governed_same : (e : Edition) (r r' : Control) (w w' : List ℕ) (h : Heap) → length w ≡ length w' → Holds e r w h → Holds e r' w' h → (i : ℕ) → Governed h i → get_or w i 0 ≡ get_or w' i 0
unfolding fld
governed_same e r r' w w' h l a b i (inl u) = heads_same e w w' 0 true h.chunks h.top a.heads b.heads i u
governed_same e r r' w w' h l a b i (inr (inl (c, x, k, u, (j, lo, hi, q)))) =
    subst (λ y. get_or w y 0 ≡ get_or w' y 0) (sym q)
    (two_three (λ y. fld w x y ≡ fld w' x y)
    (links_same e (fld w) (fld w') (no_link e) (get_or h.small c []) (no_link e) (a.small.at c k).links (b.small.at c k).links x u) j lo hi)
governed_same e r r' w w' h l a b i (inr (inr (c, x, k, u, (j, lo, hi, q)))) =
    let s = tree_same e (fld w) (fld w') c (root_mark e) (get_or h.tries c leaf) (a.tries.at c k).tree (b.tries.at c k).tree x u in
    subst (λ y. get_or w y 0 ≡ get_or w' y 0) (sym q) (two_seven (λ y. fld w x y ≡ fld w' x y) s.0 s.1 j lo hi)
