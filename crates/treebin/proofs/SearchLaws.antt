-- The searches: each contract clause, branch by branch. A law's premises are what the code knows where it returns, its conclusion is the clause.
-- A branch is the definition's `pick` at the test's outcome. Each loop keeps one equation: the search from its start is the search from here,
-- with what is found so far.
use Prim.Native.Nat.{ℕ, suc, ◌+◌, ◌-◌, ◌*◌, ◌%◌, ◌^◌, ◌<◌, ◌≤◌}
use mathlib.Core.Path.{◌≡◌, refl, sym, ap, subst, ◌∙◌}
use Rattle.std.specs.Prelude.{Option, Some, None}
use mathlib.Core.List.{List}
use native.Mathlib.Omega.{arith}
use lib.Dec.{eqb}
use borrow.Author.Tests.{eq-eqb, ne_eqb, lt-ltb, le-ltb}
use Rattle.words.specs.Logic.{pick}
use Rattle.words.specs.Edition.{wide, no_link}
use Rattle.index.specs.TreeBin.{tree_index, key_at, side}
use Rattle.index.specs.BinMap.{first_from, in_map}
use Rattle.index.specs.BinMapLaws.{place, no_place}
use Rattle.chunk.specs.Bytes.{word, size_b, tree, link_of, map_of}
use Rattle.treebin.specs.TreeBytes.{child_word, next_key}
use Rattle.treebin.specs.Found.{IsFind}
use Rattle.treebin.specs.declared.search.Found.{Found}
use Rattle.treebin.specs.SearchBytes.{Best, best, no_best, better_b, leftmost, down_b, passed_by, Walked, walked, walk_b, best_above, best_own, best_tree}

-- a node against what is had
module _ (n t s : ℕ) (b : Best) where
  pub better_short : s < n → b ≡ better_b n t s b
  unfolding better_b
  better_short l = rw (lt-ltb s n l) refl

  pub better_yes : n ≤ s → s - n < b.rsize → best t (s - n) ≡ better_b n t s b
  unfolding better_b
  better_yes l m = rw (le-ltb s n l, lt-ltb (s - n) b.rsize m) refl

  pub better_no : n ≤ s → b.rsize ≤ s - n → b ≡ better_b n t s b
  unfolding better_b
  better_no l m = rw (le-ltb s n l, le-ltb (s - n) b.rsize m) refl

-- ---- down the leftmost children: the loop of `smallest`

module _ (w : List ℕ) (t : ℕ) {x : ℕ} (e : x ≡ word wide w t 4) where
  pub leftmost_right : {y : ℕ} → x ≡ 2 ^ 64 - 1 → y ≡ word wide w t 5 → y ≡ leftmost wide w t
  leftmost_right q e₁ = rw (eq-eqb (word wide w t 4) (2 ^ 64 - 1) (sym e ∙ q)) e₁

  pub leftmost_left : (x ≡ 2 ^ 64 - 1 → ⊥) → x ≡ leftmost wide w t
  leftmost_left q = rw (ne_eqb (word wide w t 4) (2 ^ 64 - 1) (λ z. q (e ∙ z))) e

pub record Down (w : List ℕ) (n from : ℕ) (had : Best) (t : ℕ) (b : Best) (j : ℕ) : Type 0 where
  pub low : j ≤ 64
  pub same : down_b wide w n 64 from had ≡ down_b wide w n (64 - j) t b

-- one level of the definition
down_step : (w : List ℕ) (n j t : ℕ) (b : Best) → j < 64
    → down_b wide w n (64 - j) t b ≡ pick (eqb t (no_link wide)) b (down_b wide w n (64 - (j + 1)) (leftmost wide w t) (better_b n t (size_b wide w t) b))
unfolding down_b
down_step w n j t b l = ap (λ x. down_b wide w n x t b) (let z : 64 - j ≡ suc (64 - (j + 1)) = omega arith in z)

module _ (w : List ℕ) (n from : ℕ) (had : Best) (t : ℕ) (b : Best) (j : ℕ) (v : Down w n from had t b j) where
  pub down_out : 64 ≤ j → b ≡ down_b wide w n 64 from had
  unfolding down_b
  down_out l = sym (v.same ∙ ap (λ x. down_b wide w n x t b) (let z : 64 - j ≡ 0 = omega arith in z))

  pub down_end : j < 64 → t ≡ 2 ^ 64 - 1 → b ≡ down_b wide w n 64 from had
  down_end l q = rw (v.same, down_step w n j t b l, eq-eqb t (2 ^ 64 - 1) q) refl

  module _ {s t₁ : ℕ} {b₁ : Best} (l : j < 64) (q : t ≡ 2 ^ 64 - 1 → ⊥) (e₁ : s ≡ size_b wide w t) (e₂ : b₁ ≡ better_b n t s b) (e₃ : t₁ ≡ leftmost wide w t) where
    down_next : down_b wide w n 64 from had ≡ down_b wide w n (64 - (j + 1)) t₁ b₁
    down_next = rw (v.same, down_step w n j t b l, ne_eqb t (2 ^ 64 - 1) q) (cc)

    pub down_turn : Down w n from had t₁ b₁ (j + 1)
    down_turn = record { low = omega (arith, v.low); same = down_next }

-- ---- along the bits of the need: the loop of `walk_own`

module _ (w : List ℕ) (t key rest : ℕ) {s : ℕ} (e : s ≡ side 64 key) where
  pub pass_right : (s ≡ 0 → ⊥) → rest ≡ passed_by wide w t key rest
  pass_right q = rw (ne_eqb (side 64 key) 0 (λ z. q (e ∙ z))) refl

  module _ {x : ℕ} (q : s ≡ 0) (e₁ : x ≡ word wide w t 5) where
    pub pass_none : x ≡ 2 ^ 64 - 1 → rest ≡ passed_by wide w t key rest
    pass_none m = rw (eq-eqb (side 64 key) 0 (sym e ∙ q), eq-eqb (word wide w t 5) (2 ^ 64 - 1) (sym e₁ ∙ m)) refl

    pub pass_some : (x ≡ 2 ^ 64 - 1 → ⊥) → x ≡ passed_by wide w t key rest
    pass_some m = rw (eq-eqb (side 64 key) 0 (sym e ∙ q), ne_eqb (word wide w t 5) (2 ^ 64 - 1) (λ z. m (e₁ ∙ z))) e₁

-- the whole walk of a need
abbrev walk_all : List ℕ → ℕ → ℕ → ℕ → Walked
walk_all w n root key = walk_b wide w n 64 root key (no_link wide) (no_best wide)

pub record Walk (w : List ℕ) (n root key t k rest : ℕ) (b : Best) (left : ℕ) : Type 0 where
  pub low : left ≤ 64
  pub same : walk_all w n root key ≡ walk_b wide w n left t k rest b

pub walk_begin : (w : List ℕ) (n root key : ℕ) {b : Best} → b ≡ no_best wide → Walk w n root key root key (2 ^ 64 - 1) b 64
walk_begin w n root key e = record { low = omega arith; same = ap (walk_b wide w n 64 root key (no_link wide)) (sym e) }

-- one level of the definition, b₁ being the better of b and the node
walk_step : (w : List ℕ) (n left t k rest : ℕ) (b b₁ : Best) → b₁ ≡ better_b n t (size_b wide w t) b → 0 < left
    → walk_b wide w n left t k rest b
    ≡ pick (eqb b₁.rsize 0) (walked b₁ (no_link wide))
    (pick (eqb (word wide w t (child_word wide k)) (no_link wide)) (walked b₁ (passed_by wide w t k rest))
    (walk_b wide w n (left - 1) (word wide w t (child_word wide k)) (next_key wide k) (passed_by wide w t k rest) b₁))
unfolding walk_b
walk_step w n left t k rest b b₁ e l = rw e (ap (λ x. walk_b wide w n x t k rest b) (let z : left ≡ suc (left - 1) = omega arith in z))

module _ (w : List ℕ) (n root key t k rest : ℕ) (b : Best) (left : ℕ) (v : Walk w n root key t k rest b left) where
  pub walk_out : left ≡ 0 → walked b rest ≡ walk_all w n root key
  unfolding walk_b
  walk_out q = sym (v.same ∙ ap (λ x. walk_b wide w n x t k rest b) q)

  module _ {s : ℕ} {b₁ : Best} (l : left ≡ 0 → ⊥) (e₁ : s ≡ size_b wide w t) (e₂ : b₁ ≡ better_b n t s b) where
    level : walk_all w n root key
        ≡ pick (eqb b₁.rsize 0) (walked b₁ (no_link wide))
        (pick (eqb (word wide w t (child_word wide k)) (no_link wide)) (walked b₁ (passed_by wide w t k rest))
        (walk_b wide w n (left - 1) (word wide w t (child_word wide k)) (next_key wide k) (passed_by wide w t k rest) b₁))
    level = v.same ∙ walk_step w n left t k rest b b₁ (e₂ ∙ ap (λ x. better_b n t x b) e₁) (omega arith)

    pub walk-found : b₁.rsize ≡ 0 → walked b₁ (no_link wide) ≡ walk_all w n root key
    walk-found q = rw (level, eq-eqb b₁.rsize 0 q) refl

    module _ {p side c : ℕ} (q : b₁.rsize ≡ 0 → ⊥) (e₃ : p ≡ passed_by wide w t k rest) (e₄ : side ≡ child_word wide k) (e₅ : c ≡ word wide w t side) where
      child : c ≡ word wide w t (child_word wide k)
      child = e₅ ∙ ap (word wide w t) e₄

      pub walk_end : c ≡ 2 ^ 64 - 1 → walked b₁ p ≡ walk_all w n root key
      walk_end m = rw (level, ne_eqb b₁.rsize 0 q, eq-eqb (word wide w t (child_word wide k)) (2 ^ 64 - 1) (sym child ∙ m)) (ap (walked b₁) e₃)

      walk_next : {k₁ : ℕ} → (c ≡ 2 ^ 64 - 1 → ⊥) → k₁ ≡ k * 2 % 2 ^ 64 → walk_all w n root key ≡ walk_b wide w n (left - 1) c k₁ p b₁
      walk_next m e₆ = rw (level, ne_eqb b₁.rsize 0 q, ne_eqb (word wide w t (child_word wide k)) (2 ^ 64 - 1) (λ z. m (child ∙ z))) (cc)

      pub walk_turn : {k₁ : ℕ} → (c ≡ 2 ^ 64 - 1 → ⊥) → k₁ ≡ k * 2 % 2 ^ 64 → Walk w n root key c k₁ p b₁ (left - 1)
      walk_turn m e₆ = record { low = omega (arith, v.low); same = walk_next m e₆ }

-- ---- the best tree chunk: in the need's own tree, else in the next filled one

module _ (b : Best) where
  pub known_none : b.at ≡ 2 ^ 64 - 1 → IsFind None b
  known_none q = q

  pub known_some : {f : Found} → best f.at.0 f.rsize ≡ b → (b.at ≡ 2 ^ 64 - 1 → ⊥) → IsFind (Some f) b
  known_some e m = (e, m)

module _ (r w : List ℕ) (i n : ℕ) where
  pub above_last : 31 < i → IsFind None (best_above wide r w i n)
  unfolding best_above
  above_last l = rw (lt-ltb 31 i l) refl

  module _ {m : ℕ} (l : i ≤ 31) (e₁ : m ≡ map_of tree r) where
    pub above_none : None ≡ in_map 32 (first_from 32 m (i % 32)) → IsFind None (best_above wide r w i n)
    unfolding best_above
    above_none q = rw (le-ltb 31 i l, sym e₁, le-ltb _ 32 (no_place 32 _ q)) refl

    pub above_some : {j root : ℕ} {b b₁ : Best} (o : Option Found) → Some j ≡ in_map 32 (first_from 32 m (i % 32)) → root ≡ link_of tree r j → b₁ ≡ no_best wide → b ≡ down_b wide w n 64 root b₁ → IsFind o b → IsFind o (best_above wide r w i n)
    unfolding best_above
    above_some {j} {root} {b} o q e₃ e₄ e₅ f =
        let p = place 32 (first_from 32 m (i % 32)) j q in
        let whole : b ≡ best_above wide r w i n = rw (le-ltb 31 i l, sym e₁, p.0, lt-ltb j 32 (subst (λ x. x < 32) p.0 p.1)) (cc) in
        subst (IsFind o) whole f

module _ (r w : List ℕ) (n : ℕ) {i root : ℕ} (e : i ≡ tree_index n) (e₁ : root ≡ link_of tree r i) where
  root_is : root ≡ link_of tree r (tree_index n)
  root_is = e₁ ∙ ap (link_of tree r) e

  pub own_empty : (o : Option Found) → root ≡ 2 ^ 64 - 1 → IsFind o (best_above wide r w (i + 1) n) → IsFind o (best_tree wide r w n)
  unfolding best_tree
  own_empty o q f = rw (eq-eqb (link_of tree r (tree_index n)) (2 ^ 64 - 1) (sym root_is ∙ q), sym e) f

  module _ {key rest : ℕ} {b₁ b₂ : Best} (q : root ≡ 2 ^ 64 - 1 → ⊥) (e₂ : key ≡ key_at 64 (i % 32) n 0) (e₃ : walked b₁ rest ≡ walk_all w n root key) (e₄ : b₂ ≡ down_b wide w n 64 rest b₁) where
    there : link_of tree r (tree_index n) ≡ 2 ^ 64 - 1 → ⊥
    there z = q (root_is ∙ z)

    own_is : best_own wide w n (walk_all w n (link_of tree r (tree_index n)) (key_at 64 (tree_index n % 32) n 0)) ≡ b₂
    unfolding best_own
    own_is = sym (e₄ ∙ ap (λ s. down_b wide w n 64 s.rest s.found) e₃ ∙ cc)

    pub own_found : {f : Found} → best f.at.0 f.rsize ≡ b₂ → (b₂.at ≡ 2 ^ 64 - 1 → ⊥) → IsFind (Some f) (best_tree wide r w n)
    unfolding best_tree
    own_found e₅ m = (e₅ ∙ sym whole, λ z. m (sym (ap (λ b. b.at) whole) ∙ z))
      where
        whole : best_tree wide r w n ≡ b₂
        whole = rw (ne_eqb (link_of tree r (tree_index n)) (2 ^ 64 - 1) there, own_is, ne_eqb b₂.at (2 ^ 64 - 1) m) refl

    pub own_missed : (o : Option Found) → b₂.at ≡ 2 ^ 64 - 1 → IsFind o (best_above wide r w (i + 1) n) → IsFind o (best_tree wide r w n)
    unfolding best_tree
    own_missed o m f = rw (ne_eqb (link_of tree r (tree_index n)) (2 ^ 64 - 1) there, own_is, eq-eqb b₂.at (2 ^ 64 - 1) m, sym e) f

pub ruleset laws = (known_none, known_some, better_short, better_yes, better_no, leftmost_right, leftmost_left, down_out, down_end, down_turn, pass_right, pass_none, pass_some, walk_begin, walk_out, walk-found, walk_end, walk_turn, above_last, above_none, above_some, own_empty, own_found, own_missed)
