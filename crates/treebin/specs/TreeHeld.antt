-- What a held heap says of its tree bins, in bytes: the root's link, a node's size, and the sizes of a tree's nodes, which are even and fit into
-- the arena. And how a step law is made: where a step's image and words are those of the step on places (`holds`, `Ops`), it keeps what that one
-- keeps. Assumes nothing.
use Rattle.std.specs.Prelude.{◌≡◌, refl, List, ℕ, ◌+◌, ◌*◌, ◌%◌, ◌≤◌, ◌<◌, length, get_or}
use Rattle.std.proofs.Common.{sym, ◌∙◌, ap, subst, inl, inr, arith}
use Rattle.words.specs.Edition.{Edition, W, root_mark, enc, enc_inj, head}
use Rattle.words.specs.Fields.{fld}
use Rattle.tries.specs.Tree.{Tree, leaf, node, count, All, Has}
use Rattle.tries.specs.TreeAt.{link}
use Rattle.tries.specs.Members.{has_at}
use Rattle.rules.specs.BinOf.{huge}
use Rattle.rules.specs.Heap.{Heap}
use Rattle.holds.specs.Holds.{Control, Near}
use Rattle.holds.specs.Ops.{State}
use Rattle.holds.specs.Where.{free_head, trie_member, size_bound}
use Rattle.chunk.specs.Bytes.{Store, size_b, tree, link_of}
use Rattle.chunk.specs.Image.{decode, get_link}
use Rattle.chunk.specs.Plain.{size_plain}
use Rattle.chunk.specs.Held.{Held}

pub by_places : (e : Edition) (t : Store) (u : State) (h : Heap) (loose : List ℕ) → length t.image ≡ 72 → decode t.image ≡ u.ctl → t.words ≡ u.words → Near e u.ctl u.words h loose
    → Held e t.image t.words h loose
by_places e t u h loose l p q n =
    record { image = l; near = subst (λ (c : Control). Near e c t.words h loose) (sym p) (subst (λ w. Near e u.ctl w h loose) (sym q) n) }

-- a node's size, read in bytes
pub node_size_lem : (e : Edition) (w : List ℕ) (p s : ℕ) → fld w p 1 ≡ head e s → s % 2 ≡ 0 → size_b e w (enc e p) ≡ enc e s
unfolding fld
node_size_lem e w p s q v = size_plain e w p s 1 q v (omega arith)

-- even, and below `huge` in bytes
abbrev pub Sized : Edition → ℕ → Type 0
Sized e s = (s % 2 ≡ 0) × (W e * s < huge)

module _ (e : Edition) (r w : List ℕ) (h : Heap) (loose : List ℕ) (n : Held e r w h loose) (i : ℕ) (l : i < 32) where
  pub root-link : link_of tree r i ≡ get_or (decode r).roots i 0
  root-link = ap (λ j. get_or r (40 + j) 0) (let q : i % 32 ≡ i = omega arith in q) ∙ get_link tree r i l

  pub root_is : link_of tree r i ≡ link e (get_or h.tries i leaf)
  root_is = root-link ∙ n.near.tries.linked i l

  pub nodes_sized : All (Sized e) (get_or h.tries i leaf)
  nodes_sized = go (get_or h.tries i leaf) (λ x s u. sized x s (has_at e (fld w) i (root_mark e) x s (get_or h.tries i leaf) u (n.near.tries.at i l).tree))
    where
      sized : (x s : ℕ) → (1 ≤ count x (get_or h.tries i leaf)) × (fld w x 1 ≡ head e s) → Sized e s
      sized x s a =
          let m = trie_member e (decode r) w h loose n.near i l x a.0 in
          let f = free_head e (decode r) w h loose n.near x m.0 m.1 in
          subst (Sized e) (enc_inj e m.0 s (omega (arith, f.0, a.1))) (f.2, size_bound e (decode r) w h loose n.near x m.0 m.1)

      go : (u : Tree) → ((x s : ℕ) → Has x s u → Sized e s) → All (Sized e) u
      go leaf f = tt
      go (node p ps s a b) f = (f p s (inl (refl, refl)), go a (λ x z u. f x z (inr (inl u))), go b (λ x z u. f x z (inr (inr u))))
