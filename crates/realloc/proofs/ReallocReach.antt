-- WHAT REALLOC REACHES: every word that is governed in none of the heaps that the call passes through, and that a move does not copy into, is as
-- it was. In place these are the heap before and the heap after; a move passes through malloc's heap, copies the old chunk's words into the
-- new block, and gives the old one back. Assumes nothing.
use Rattle.std.specs.Prelude.{◌≡◌, List, [], ◌∷◌, ℕ, ◌+◌, ◌-◌, ◌*◌, ◌%◌, ◌≤◌, ◌<◌, get_or}
use Rattle.std.proofs.Math.Path.{refl, subst}
use Rattle.std.proofs.Common.{sym, ◌∙◌, ap, inl, inr, ⊎_elim, arith}
use Rattle.std.proofs.Math.Option.{Option, none, some}
use borrow.Author.Tests.{eq-eqb, ne_eqb}
use Rattle.words.specs.Logic.{pick, lt_or_le}
use Rattle.words.specs.Edition.{Edition, W, no_link, none_free, enc}
use Rattle.tiling.specs.Tiling.{used, Starts}
use Rattle.rules.specs.BinOf.{huge}
use Rattle.rules.specs.Heap.{Heap}
use Rattle.rules.specs.Malloc.{Grant, malloc}
use Rattle.rules.specs.Free.{find, give_back}
use Rattle.rules.specs.Realloc.{resize_here, front, moved, here_or_moved, realloc_found, realloc}
use Rattle.rules.specs.Lookup.{Block, block}
use Rattle.rules.specs.Blocks.{Grants}
use Rattle.rules.specs.MallocLaws.{malloc-grants}
use Rattle.rules.proofs.ReallocLaws.{larger}
use Rattle.holds.specs.Ops.{state}
use Rattle.holds.specs.Lookup.{heads_tidy}
use Rattle.holds.specs.MallocSource.{malloc_source}
use Rattle.holds.specs.Governed.{Governed, GovernedIn}
use Rattle.chunk.specs.Image.{decode}
use Rattle.chunk.specs.Held.{Held}
use Rattle.chunk.specs.ChunkReach.{Same}
use Rattle.malloc.specs.MallocBytes.{Reply, reply, malloc_b}
use Rattle.malloc.specs.MallocObeys.{Obeys}
use Rattle.malloc.proofs.MallocFollows.{malloc_obeys}
use Rattle.malloc.specs.MallocReach.{left_by}
use Rattle.malloc.proofs.MallocReach.{malloc_reaches}
use Rattle.free.proofs.FreeReach.{dispose_reaches}
use Rattle.realloc.specs.ReallocBytes.{Tried, try_realloc, move_block, moved_b, realloc_b}
use Rattle.realloc.specs.ReallocObeys.{Agrees}
use Rattle.realloc.proofs.ReallocObeys.{resize_agrees}
use Rattle.realloc.proofs.ReallocFollows.{copy_owned}
use Rattle.realloc.specs.ResizeReach.{heap_or}
use Rattle.realloc.proofs.ResizeReach.{resize_reaches}
use Rattle.realloc.proofs.ReallocKeeps.{copied, copied-held, move_is, some_size}
use Rattle.realloc.specs.ReallocReach.{CopiedTo, found_via, here_via, moved_via, realloc_via}

-- ---- the heaps that realloc passes through

-- ---- the move: the block of s words at p goes to the block of t words at q

move_reaches : (e : Edition) (r w : List ℕ) (h : Heap) (n : Held e r w h []) (p s q t : ℕ) (sp : Starts 0 h.chunks p (used s)) (sq : Starts 0 h.chunks q (used t)) (fit : s ≤ t)
    → (i : ℕ) → (Governed h i → ⊥) → (Governed (give_back e h p) i → ⊥) → (q + 2 ≤ i → i ≤ q + s → ⊥) → Same i w (move_block e r w (enc e p) (enc e q)).words
move_reaches e r w h n p s q t sp sq fit i before after out =
    ap (λ y. get_or y.words i 0) (move_is e r w h n p s q t sp sq fit)
    ∙ dispose_reaches e r (copied e r w h n p s q t sp sq fit) h (copied-held e r w h n p s q t sp sq fit) p s sp i before after
    ∙ (copy_owned w (p + 2) q (s - 1) s (omega (arith, some_size e r w h n p s q t sp sq fit))).1 i
    (⊎_elim (λ z. inl z) (λ z. ⊎_elim (λ y. inr y) (λ y. absurd (out z y)) (lt_or_le (q + s) i)) (lt_or_le i (q + 2)))

-- ---- realloc, whole: the block of t words at p

module _ (e : Edition) (r w : List ℕ) (h : Heap) (n : Held e r w h []) (p t nb : ℕ) (st : Starts 0 h.chunks p (used t)) (v : nb % 2 ≡ 0) (l : 4 ≤ nb) (hi : W e * nb < huge) (i : ℕ) where
  b : Block h.chunks p t
  b = block h.chunks p t (heads_tidy e w h n.near.heads).chunks st

  abbrev there : Tried
  there = try_realloc e r w (enc e p) (enc e nb)

  abbrev here : Option Heap
  here = resize_here e h (front b.f) p t nb b.f.after

  same : Agrees e r w there here
  same = subst (λ a. Agrees e r w (try_realloc e r w (enc e a) (enc e nb)) (resize_here e h (front b.f) a t nb b.f.after)) (sym b.place) (resize_agrees e r w h n (front b.f) t nb v l b.f.after b.whole)

  heaps : found_via e h (find 0 h.chunks p) p nb ≡ here_via e h here p nb
  heaps = ap (λ z. found_via e h z p nb) b.finds ∙ ap (λ s. here_via e h (resize_here e h (front b.f) p s nb b.f.after) p nb) b.words

  answer : realloc e h p nb ≡ here_or_moved e h here p nb
  answer = ap (λ z. realloc_found e h z p nb) b.finds ∙ ap (λ s. here_or_moved e h (resize_here e h (front b.f) p s nb b.f.after) p nb) b.words

  abbrev result : Tried → Reply
  result y = pick y.here (reply (enc e p) y.image y.words) (moved_b e (enc e p) (malloc_b e y.image y.words (enc e nb)))

  moved_reaches : t < nb → (m : Reply) (o : Option Grant) → Obeys e r w m o → Grants h nb (nb + 4) (λ x. ⊥) o → ((Governed (left_by h o) i → ⊥) → Same i w m.words)
      → (GovernedIn (moved_via e o p) i → ⊥) → (CopiedTo (moved e o p) p t i → ⊥) → Same i w (moved_b e (enc e p) m).words
  unfolding moved_b
  moved_reaches u m none f g k via out = rw (f, eq-eqb (no_link e) (no_link e) refl) refl
  moved_reaches u m (some d) f g k via out =
      rw (f.0, ne_eqb (enc e d.place) (no_link e) (none_free e d.place))
      (move_reaches e m.image m.words d.heap f.1 p t d.place g.words (g.changes.kept p t st (λ z. z)) g.block (omega (arith, g.large)) i (λ y. via (inl y)) (λ y. via (inr (inl y)))
      (λ lo up. out ((λ z. g.apart p t st (λ y. y) (sym z)), lo, up)) ∙ k (λ y. via (inl y)))

  whole_reaches : (GovernedIn (h ∷ here_via e h here p nb) i → ⊥) → (CopiedTo (here_or_moved e h here p nb) p t i → ⊥) → Same i w (realloc_b e r w (enc e p) (enc e nb)).words
  unfolding realloc_b
  whole_reaches = go there here same refl in_place
    where
      in_place : (Governed h i → ⊥) → (Governed (heap_or h here) i → ⊥) → Same i w there.words
      in_place =
          subst (λ a. (Governed h i → ⊥) → (Governed (heap_or h (resize_here e h (front b.f) a t nb b.f.after)) i → ⊥) → Same i w (try_realloc e r w (enc e a) (enc e nb)).words) (sym b.place)
          (resize_reaches e r w h n (front b.f) t nb v l b.f.after b.whole i)

      go : (y : Tried) (o : Option Heap) → Agrees e r w y o → here ≡ o → ((Governed h i → ⊥) → (Governed (heap_or h o) i → ⊥) → Same i w y.words) → (GovernedIn (h ∷ here_via e h o p nb) i → ⊥) → (CopiedTo (here_or_moved e h o p nb) p t i → ⊥) → Same i w (result y).words
      go y (some g) a z f via out = rw a.0 (f (λ u. via (inl u)) (λ u. via (inr (inl u))))
      go y none a z f via out =
          subst (λ (y : Tried). Same i w (result y).words) (sym a)
          (moved_reaches (larger e h p t nb b z) (malloc_b e r w (enc e nb)) (malloc e h nb) (malloc_obeys e r w h n nb v l hi)
          (malloc-grants e h nb (heads_tidy e w h n.near.heads) v l (malloc e h nb) (malloc_source e (state (decode r) w) h n.near nb v l hi))
          (malloc_reaches e r w h n nb v l hi i (λ u. via (inl u))) (λ u. via (inr u)) out)

-- the word i is governed in none of these heaps, and not copied into
pub realloc_reaches : (e : Edition) (r w : List ℕ) (h : Heap) → Held e r w h [] → (p t nb : ℕ) → Starts 0 h.chunks p (used t) → nb % 2 ≡ 0 → 4 ≤ nb → W e * nb < huge
    → (i : ℕ) → (GovernedIn (realloc_via e h p nb) i → ⊥) → (CopiedTo (realloc e h p nb) p t i → ⊥) → get_or (realloc_b e r w (enc e p) (enc e nb)).words i 0 ≡ get_or w i 0
realloc_reaches e r w h n p t nb st v l hi i via out =
    whole_reaches e r w h n p t nb st v l hi i (subst (λ gs. GovernedIn (h ∷ gs) i → ⊥) (heaps e r w h n p t nb st v l hi i) via) (subst (λ o. CopiedTo o p t i → ⊥) (answer e r w h n p t nb st v l hi i) out)
