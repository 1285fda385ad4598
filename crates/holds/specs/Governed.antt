-- WHAT MAY SWAY AN ANSWER: the governed words of a heap are document 01's list: heads, the foot word, feet of free chunks, words 2 and 3 of chunks in
-- small bins, words 2 to 7 of chunks in trees. Words that agree on these hold the same heap under the same record; and none of them is an owner's.
-- By the frame laws of the tiling, the lists and the tries. Assumes nothing.
use Rattle.std.specs.Prelude.{◌≡◌, refl, ◌⊎◌, ℕ, ◌+◌, ◌≤◌, ◌<◌, length}
use Rattle.std.proofs.Math.Path.{subst}
use Rattle.std.proofs.Math.Bool.{true}
use mathlib.Core.List.{List, [], ◌∷◌}
use Rattle.std.proofs.Common.{inl, inr}
use Rattle.std.proofs.Math.Logic.{⊎_elim}
use native.Mathlib.Omega.{arith}
use Rattle.std.proofs.Math.ListN.{get_or}
use Rattle.words.specs.Edition.{Edition}
use Rattle.words.specs.Fields.{fld, count_l}
use Rattle.words.specs.Places.{AgreeTo}
use Rattle.words.specs.Logic.{le_or_lt}
use Rattle.tiling.specs.Tiling.{used, free, HeadsReads, Starts, starts_in, starts_apart, owned_free, heads_frame}
use Rattle.tiling.specs.Reading.{reads_head}
use Rattle.tiling.specs.Free.{Roomy}
use Rattle.lists.specs.Links.{keep_list}
use Rattle.tries.specs.Tree.{leaf, count}
use Rattle.tries.specs.TreeAt.{link}
use Rattle.rules.specs.BinOf.{bin_size}
use Rattle.rules.specs.Heap.{Heap, holds_some, grows_some}
use Rattle.holds.specs.Bins.{bins_keep}
use Rattle.holds.specs.Holds.{Control, Near, SmallAt, TrieAt, head_link}
use Rattle.holds.specs.Where.{small_roomy, trie_roomy}
use Rattle.holds.specs.Frame.{keep_trie}

-- word j, from 2 up to but not d, of the chunk at x
abbrev pub LinkOf : ℕ → ℕ → ℕ → Type 0
LinkOf d x i = (j : ℕ) × (2 ≤ j) × (j < d) × (i ≡ x + j)

-- "words 2 and 3 of chunks in small bins, and words 2 to 7 of chunks in trees"
abbrev pub SmallLink : Heap → ℕ → Type 0
SmallLink h i = (b : ℕ) × (x : ℕ) × (b < 32) × (1 ≤ count_l x (get_or h.small b [])) × LinkOf 4 x i

abbrev pub TreeLink : Heap → ℕ → Type 0
TreeLink h i = (b : ℕ) × (x : ℕ) × (b < 32) × (1 ≤ count x (get_or h.tries b leaf)) × LinkOf 8 x i

abbrev pub Linked : Heap → ℕ → Type 0
Linked h i = SmallLink h i ⊎ TreeLink h i

-- "heads, the foot word, feet of free chunks"
abbrev pub Tiled : Heap → ℕ → Type 0
Tiled h i = HeadsReads 0 h.chunks h.top i

abbrev pub Governed : Heap → ℕ → Type 0
Governed h i = Tiled h i ⊎ Linked h i

-- in one of several heaps, as a call passes through them
abbrev pub GovernedIn : List Heap → ℕ → Type 0
GovernedIn [] i = ⊥
GovernedIn (h ∷ hs) i = Governed h i ⊎ GovernedIn hs i

module _ (e : Edition) (r : Control) (w : List ℕ) (h : Heap) (loose : List ℕ) (n : Near e r w h loose) where
  pub governed_frame : (v : List ℕ) → length v ≡ length w → ((i : ℕ) → Governed h i → get_or v i 0 ≡ get_or w i 0) → Near e r v h loose
  unfolding fld
  governed_frame v l f =
      record {
        even = rw l n.even;
        least = rw l n.least;
        most = rw l n.most;
        long = rw l n.long;
        heads = heads_frame e w v 0 true h.chunks h.top l (λ i u. f i (inl u)) n.heads;
        top_place = n.top_place;
        top_size_lem = n.top_size_lem;
        spare = n.spare;
        small = bins_keep [] holds_some (head_link e) (SmallAt e) (fld w) (fld v) r.small_map r.heads h.small
            (λ i k. keep_list e (fld w) (fld v) (bin_size e i) (get_or h.small i []) (λ x u. kept 4 x (small_roomy e r w h loose n i k x u) (λ j q. f (x + j) (inr (inl (i, x, k, u, q)))))) n.small;
        tries = bins_keep leaf grows_some (link e) (TrieAt e) (fld w) (fld v) r.tree_map r.roots h.tries
            (λ i k. keep_trie e (fld w) (fld v) i (get_or h.tries i leaf) (λ x u. kept 8 x (trie_roomy e r w h loose n i k x u) (λ j q. f (x + j) (inr (inr (i, x, k, u, q)))))) n.tries;
        tie = n.tie;
      }
    where
      -- its head is one of the heads, the rest are links
      kept : (d x : ℕ) → Roomy d h.chunks x → ((j : ℕ) → LinkOf d x (x + j) → get_or v (x + j) 0 ≡ get_or w (x + j) 0) → AgreeTo d (fld w) (fld v) x
      kept d x a g j lo hi =
          ⊎_elim (λ t. g j (j, t, hi, refl))
          (λ t. subst (λ (y : ℕ). get_or v (x + y) 0 ≡ get_or w (x + y) 0) (let q : 1 ≡ j = omega arith in q) (f (x + 1) (inl (reads_head 0 h.chunks h.top x (free a.0) a.1))))
          (le_or_lt 2 j)

  -- a free chunk's links lie outside a block in use
  link_apart : (d x q s : ℕ) → Starts 0 h.chunks q (used s) → Roomy d h.chunks x → (i : ℕ) → q + 2 ≤ i → i ≤ q + s → LinkOf d x i → ⊥
  link_apart d x q s st a i lo hi u =
      ⊎_elim (λ z. differ a.0 s z.1) (λ z. ⊎_elim (λ y. omega (arith, a.2, u.1, u.2, u.3)) (λ y. omega (arith, a.2, u.1, u.2, u.3)) z)
      (starts_apart e w 0 true h.chunks x (free a.0) q (used s) n.heads.run a.1 st)
    where
      differ : {A : Type 0} (x y : ℕ) → free x ≡ used y → A
      differ x y z = let k : ◌≡◌ {A = ℕ} 0 1 = cc in absurd (let b : ⊥ = omega arith in b)

  -- an owner's words: words 2 up to and including word 0 of the next chunk
  pub owner_apart : (q s : ℕ) → Starts 0 h.chunks q (used s) → (i : ℕ) → q + 2 ≤ i → i ≤ q + s → Governed h i → ⊥
  owner_apart q s st i lo hi (inl (inl u)) = owned_free e w 0 true h.chunks q s i n.heads.run st lo hi u
  owner_apart q s st i lo hi (inl (inr (inl u))) = omega (arith, starts_in e w 0 true h.chunks q (used s) n.heads.run st)
  owner_apart q s st i lo hi (inl (inr (inr u))) = omega (arith, starts_in e w 0 true h.chunks q (used s) n.heads.run st)
  owner_apart q s st i lo hi (inr (inl u)) = link_apart 4 u.1 q s st (small_roomy e r w h loose n u.0 u.2 u.1 u.3) i lo hi u.4
  owner_apart q s st i lo hi (inr (inr u)) = link_apart 8 u.1 q s st (trie_roomy e r w h loose n u.0 u.2 u.1 u.3) i lo hi u.4
