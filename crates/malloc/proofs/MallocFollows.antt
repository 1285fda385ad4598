-- MALLOC, WHOLE: it obeys its rule on every held heap. What the bins' ends do: the newest of a small bin, taken whole or cut; a find among the
-- trees. Which way it goes is the rule's (`MallocWays`). Assumes nothing.
use Rattle.std.specs.Prelude.{◌≡◌, true, get_or, set}
use Rattle.std.proofs.Math.Path.{refl, sym, subst}
use Rattle.std.proofs.Common.{◌∙◌, ap, arith}
use Rattle.std.proofs.Math.Bool.{false}
use mathlib.Core.List.{List, [], ◌∷◌}
use Rattle.std.proofs.Math.Option.{some}
use Prim.Native.Nat.{ℕ, ◌+◌, ◌-◌, ◌*◌, ◌%◌, ◌≤◌, ◌<◌}
use borrow.Author.Tests.{lt-leb, lt-ltb, le-ltb}
use Rattle.words.specs.Edition.{Edition, W, enc}
use Rattle.words.specs.Places.{remove}
use Rattle.tiling.specs.Tiling.{used, free, Starts, starts_in}
use Rattle.tries.specs.Tree.{leaf, unlink}
use Rattle.tries.specs.Search.{Cand}
use Rattle.rules.specs.BinOf.{huge, is_small, bin_size, trie_bin, small_is}
use Rattle.rules.specs.Heap.{Heap, heap_chunks, heap_small, heap_tries}
use Rattle.rules.specs.Binning.{retile, unbin}
use Rattle.rules.specs.Malloc as rule
use Rattle.rules.specs.Malloc.{grant, Rest, to_dv, from_bin}
use Rattle.holds.specs.Holds.{head_link}
use Rattle.holds.specs.Ops.{state}
use Rattle.rules.specs.Leaves.{unbin_leaves}
use Rattle.holds.specs.Where.{in_trie}
use Rattle.holds.specs.Newest.{first_starts}
use Rattle.holds.specs.BestFit.{Fits}
use Rattle.chunk.specs.Bytes.{less, small, link_of, take_w}
use Rattle.chunk.specs.Image.{decode, get_link}
use Rattle.chunk.specs.Plain.{small_less}
use Rattle.chunk.specs.Held.{Held, take_step}
use Rattle.smallbin.specs.SmallBytes.{unlink_first}
use Rattle.smallbin.specs.SmallSteps.{unlink_first_step}
use Rattle.treebin.specs.TreeBytes.{unlink_large}
use Rattle.treebin.specs.SearchBytes.{Best}
use Rattle.malloc.specs.MallocBytes.{Reply, reply, answering, serve_b, take_small, take_fuller, take_tree, malloc_b}
use Rattle.malloc.specs.MallocWays.{malloc_goes}
use Rattle.malloc.specs.MallocObeys.{Obeys}
use Rattle.malloc.proofs.MallocObeys.{serve-place, serve_step, top_obeys, dv_obeys}
use Rattle.treebin.specs.TreeUnlinkSteps.{unlink_large_step}
use Rattle.treebin.specs.SearchSteps.{Finds}

module _ (e : Edition) (r w : List ℕ) (h : Heap) (n : Held e r w h []) (nb : ℕ) (v : nb % 2 ≡ 0) (l : 4 ≤ nb) where
  -- ---- the newest of small bin j

  module _ (j x : ℕ) (xs : List ℕ) (lj : j < 32) (q : get_or h.small j [] ≡ x ∷ xs) (fit : nb ≤ bin_size e j) where
    link_is : link_of small r j ≡ enc e x
    link_is = let u : j % 32 ≡ j = omega arith in ap (λ k. get_or r (8 + k) 0) u ∙ get_link small r j lj ∙ n.near.small.linked j lj ∙ ap (head_link e) q

    starts : Starts 0 h.chunks x (free (bin_size e j))
    starts = first_starts e (state (decode r) w) h n.near j lj x xs q

    out : unbin e h x (bin_size e j) ≡ heap_small h (set h.small j (remove x (get_or h.small j [])))
    out =
        rw (lt-ltb (W e * bin_size e j) 256 (omega (arith, (small_is e j).0)))
        (ap (λ i. heap_small h (set h.small i (remove x (get_or h.small i [])))) (small_is e j).1)

    loose : Held e (unlink_first e r w (enc e x) j).image (unlink_first e r w (enc e x) j).words (unbin e h x (bin_size e j)) (x ∷ [])
    loose =
        subst (λ (g : Heap). Held e (unlink_first e r w (enc e x) j).image (unlink_first e r w (enc e x) j).words g (x ∷ [])) (sym out)
        (unlink_first_step e r w h [] j x xs lj q n)

    there : Starts 0 (unbin e h x (bin_size e j)).chunks x (free (bin_size e j))
    there = subst (λ c. Starts 0 c x (free (bin_size e j))) (sym (unbin_leaves e h x (bin_size e j)).0) starts

    -- whole, where it is too small to be cut
    small_obeys : bin_size e j < nb + 4 → Obeys e r w (take_small e r w j) (some (from_bin e to_dv h x (bin_size e j) nb))
    unfolding take_small
    small_obeys u =
        rw (lt-leb 4 (bin_size e j - nb) (omega arith))
        (subst (λ p. Obeys e r w (reply p (unlink_first e r w p j).image (take_w e (unlink_first e r w p j).words p (8 * j))) (some (grant x taken))) (sym link_is) (
          refl,
          subst (λ k. Held e (unlink_first e r w (enc e x) j).image (take_w e (unlink_first e r w (enc e x) j).words (enc e x) k) taken []) (small_is e j).0
              (take_step e (unlink_first e r w (enc e x) j).image (unlink_first e r w (enc e x) j).words (unbin e h x (bin_size e j)) x (bin_size e j) [] there loose),
        ))
      where
        taken : Heap
        taken = heap_chunks (unbin e h x (bin_size e j)) (retile 0 (unbin e h x (bin_size e j)).chunks x (used (bin_size e j) ∷ []))

    -- cut, the rest becoming the spare chunk
    fuller_obeys : Obeys e r w (take_fuller e r w j (enc e nb)) (some (from_bin e to_dv h x (bin_size e j) nb))
    unfolding take_fuller
    fuller_obeys =
        subst (λ p. Obeys e r w (cut p (less e (8 * j) (enc e nb))) (some (from_bin e to_dv h x (bin_size e j) nb))) (sym link_is)
        (subst (λ k. Obeys e r w (cut (enc e x) k) (some (from_bin e to_dv h x (bin_size e j) nb))) (sym rest) (
          sym (ap (enc e) (serve-place e to_dv (unbin e h x (bin_size e j)) x (bin_size e j) nb)),
          serve_step e to_dv (unlink_first e r w (enc e x) j).image (unlink_first e r w (enc e x) j).words (unbin e h x (bin_size e j)) [] x (bin_size e j) nb v l fit loose there,
        ))
      where
        cut : ℕ → ℕ → Reply
        cut p k = answering p (serve_b e to_dv (unlink_first e r w p j).image (unlink_first e r w p j).words p (enc e nb) k)

        bound : bin_size e j ≤ 8192
        bound = omega (arith, starts_in e w 0 true h.chunks x (free (bin_size e j)) n.near.heads.run starts, n.near.heads.top.ends, n.near.most)

        rest : less e (8 * j) (enc e nb) ≡ enc e (bin_size e j - nb)
        rest = ap (λ k. less e k (enc e nb)) (sym (small_is e j).0) ∙ small_less e (bin_size e j) nb fit bound

  -- ---- a find among the trees

  tree_obeys : (k : Rest) (b : Best) (c : Cand) → Finds e nb b c → Fits e h 0 nb c → Obeys e r w (take_tree e k r w (enc e nb) b) (some (from_bin e k h c.at c.size nb))
  unfolding take_tree
  tree_obeys k b c g f =
      rw (g.place, g.left) (
        sym (ap (enc e) (serve-place e k (unbin e h c.at c.size) c.at c.size nb)),
        serve_step e k (unlink_large e r w (enc e c.at)).image (unlink_large e r w (enc e c.at)).words (unbin e h c.at c.size) [] c.at c.size nb v l f.large loose
            (subst (λ cs. Starts 0 cs c.at (free c.size)) (sym (unbin_leaves e h c.at c.size).0) f.starts),
      )
    where
      large : is_small e c.size ≡ false
      large = le-ltb (W e * c.size) 256 f.tall

      gone : unbin e h c.at c.size ≡ heap_tries h (set h.tries (trie_bin e c.size) (unlink c.at (get_or h.tries (trie_bin e c.size) leaf)))
      gone = rw large refl

      loose : Held e (unlink_large e r w (enc e c.at)).image (unlink_large e r w (enc e c.at)).words (unbin e h c.at c.size) (c.at ∷ [])
      loose =
          subst (λ (g : Heap). Held e (unlink_large e r w (enc e c.at)).image (unlink_large e r w (enc e c.at)).words g (c.at ∷ [])) (sym gone)
          (unlink_large_step e r w h [] c.at c.size large n f.starts (in_trie e (decode r) w h [] n.near c.at c.size f.starts (omega (arith, f.not_dv)) large))

  -- ---- malloc, whole

  pub malloc_obeys : W e * nb < huge → Obeys e r w (malloc_b e r w (enc e nb)) (rule.malloc e h nb)
  malloc_obeys = malloc_goes e r w h n nb v (Obeys e r w) (record {
    top = top_obeys e r w h nb v l n;
    dv = dv_obeys e r w h nb v l n;
    whole = λ j x xs lj q fit u. small_obeys j x xs lj q fit u;
    cut = λ j x xs lj q fit. fuller_obeys j x xs lj q fit;
    tree = tree_obeys;
  })
