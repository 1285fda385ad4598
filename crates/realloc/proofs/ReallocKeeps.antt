-- REALLOC LEAVES THE OWNER'S WORDS: of every other block all of them, and of the block itself all that both sizes reach, wherever it stands
-- then. In place this is `ResizeKeeps`; a move is malloc, which leaves the block, a copy of the old chunk's words but its head's into the new
-- one (two blocks in use lie apart, so nothing that is still to be read is written), and free, which leaves the new one. Assumes nothing.
use Rattle.std.specs.Prelude.{◌≡◌, true, ◌⊎◌, ℕ, zero, suc, ◌+◌, ◌-◌, ◌*◌, ◌/◌, ◌%◌, ◌≤◌, ◌<◌, length, set}
use Rattle.std.proofs.Math.Path.{refl, subst}
use Rattle.std.proofs.Common.{sym, ◌∙◌, ap, inl, inr, ⊎_elim, arith, get_or-set_same, get_or-set_other}
use mathlib.Core.List.{List, []}
use Rattle.std.proofs.Math.Option.{Option, none, some}
use borrow.Author.Tests.{le-ltb, eq-eqb, ne_eqb}
use Rattle.std.proofs.Math.ListN.{get_or}
use Rattle.words.specs.Logic.{pick, same?}
use Rattle.words.specs.Edition.{Edition, wide, narrow, W, no_link, none_free, enc, dec_enc}
use Rattle.tiling.specs.Tiling.{used, end_of, Starts, starts_at_lem, starts_in}
use Rattle.tiling.specs.Spares.{Spares, spares_refl, spares_trans, used_beside}
use Rattle.rules.specs.BinOf.{huge}
use Rattle.rules.specs.Heap.{Heap}
use Rattle.rules.specs.Malloc.{Grant, malloc}
use Rattle.rules.specs.Realloc.{resize_here, front, moved, here_or_moved, realloc_found, realloc}
use Rattle.rules.specs.Lookup.{Block, block}
use Rattle.rules.specs.Blocks.{Grants}
use Rattle.rules.specs.MallocLaws.{malloc-grants}
use Rattle.rules.proofs.ReallocLaws.{larger}
use Rattle.holds.specs.Ops.{state}
use Rattle.holds.specs.Lookup.{heads_tidy}
use Rattle.holds.specs.Owner.{OnlyOwned, owner_writes}
use Rattle.holds.specs.MallocSource.{malloc_source}
use Rattle.chunk.specs.Bytes.{less}
use Rattle.chunk.specs.Image.{decode}
use Rattle.chunk.specs.Plain.{small_less}
use Rattle.chunk.specs.Held.{Held}
use Rattle.malloc.specs.MallocBytes.{Reply, reply, malloc_b}
use Rattle.malloc.specs.MallocObeys.{Obeys}
use Rattle.malloc.proofs.MallocFollows.{malloc_obeys}
use Rattle.malloc.proofs.MallocKeeps.{malloc_spares}
use Rattle.free.specs.FreeBytes.{dispose_b}
use Rattle.free.proofs.FreeKeeps.{dispose_spares}
use Rattle.realloc.specs.ReallocBytes.{Tried, try_realloc, copy_up, copy_words, move_block, moved_b, realloc_b}
use Rattle.realloc.specs.ReallocObeys.{Agrees}
use Rattle.realloc.proofs.ReallocObeys.{resize_agrees}
use Rattle.realloc.proofs.ReallocFollows.{copy_owned, block_size}
use Rattle.realloc.proofs.ResizeKeeps.{resize_others, resize_own}

-- ---- a copy between stretches that lie apart

copy_get : (w : List ℕ) (a q n : ℕ) → (a + n ≤ q + 2) ⊎ (q + 2 + n ≤ a) → q + 2 + n ≤ length w → (k : ℕ) → k < n → get_or (copy_up w a (q + 2) n) (q + 2 + k) 0 ≡ get_or w (a + k) 0
unfolding copy_up
copy_get w a q zero b l k u = absurd (let z : ⊥ = omega arith in z)
copy_get w a q (suc n) b l k u =
    ⊎_elim last (before (λ z. copy_get w a q n (⊎_elim (λ y. inl (omega arith)) (λ y. inr (omega arith)) b) (omega arith) k z)) (same? k n)
  where
    v : List ℕ
    v = copy_up w a (q + 2) n

    only : OnlyOwned w v q (n + 1)
    only = copy_owned w a q n (n + 1) (omega arith)

    last : k ≡ n → get_or (set v (q + 2 + n) (get_or v (a + n) 0)) (q + 2 + k) 0 ≡ get_or w (a + k) 0
    last z =
        ap (λ i. get_or (set v (q + 2 + n) (get_or v (a + n) 0)) (q + 2 + i) 0) z ∙ get_or-set_same v (q + 2 + n) (get_or v (a + n) 0) 0 (omega (arith, only.0))
        ∙ only.1 (a + n) (⊎_elim (λ y. inl (omega arith)) (λ y. inr (omega arith)) b) ∙ ap (λ i. get_or w (a + i) 0) (sym z)

    before : (k < n → get_or v (q + 2 + k) 0 ≡ get_or w (a + k) 0) → (k ≡ n → ⊥) → get_or (set v (q + 2 + n) (get_or v (a + n) 0)) (q + 2 + k) 0 ≡ get_or w (a + k) 0
    before ih z = get_or-set_other v (q + 2 + n) (q + 2 + k) (get_or v (a + n) 0) 0 (λ y. z (omega arith)) ∙ ih (omega arith)

-- ---- the move: the block of s words at p goes to the block of t words at q

module _ (e : Edition) (r w : List ℕ) (h : Heap) (n : Held e r w h []) (p s q t : ℕ) (sp : Starts 0 h.chunks p (used s)) (sq : Starts 0 h.chunks q (used t)) (fit : s ≤ t) where
  pub some_size : 4 ≤ s
  some_size = (starts_at_lem e w 0 true h.chunks p (used s) n.near.heads.run sp).1.least

  old : p + s ≤ end_of 0 h.chunks
  old = (starts_in e w 0 true h.chunks p (used s) n.near.heads.run sp).1

  new : q + t ≤ end_of 0 h.chunks
  new = (starts_in e w 0 true h.chunks q (used t) n.near.heads.run sq).1

  long : end_of 0 h.chunks + 12 ≤ length w
  long = omega (arith, n.near.heads.top.ends, n.near.heads.top.least)

  abbrev pub copied : List ℕ
  copied = copy_up w (p + 2) (q + 2) (s - 1)

  only : OnlyOwned w copied q t
  only = copy_owned w (p + 2) q (s - 1) t (omega (arith, some_size))

  pub copied-held : Held e r copied h []
  copied-held = record { image = n.image; near = owner_writes e (decode r) w copied h [] q t n.near sq only }

  pub move_is : move_block e r w (enc e p) (enc e q) ≡ dispose_b e r copied (enc e p) (enc e s)
  unfolding move_block copy_words
  move_is =
      rw (block_size e r w h [] p s n sp, dec_enc e p, dec_enc e q, count, le-ltb (length w) (s - 1) (omega (arith, old, long)), le-ltb (length w - (s - 1)) (p + 2) (omega (arith, old, long)), le-ltb (length w - (s - 1)) (q + 2) (omega (arith, new, long))) refl
    where
      one : (e : Edition) → W e ≡ enc e 1
      one wide = refl
      one narrow = refl

      count : less e (enc e s) (W e) / W e ≡ s - 1
      count = ap (λ k. less e (enc e s) k / W e) (one e) ∙ ap (λ k. k / W e) (small_less e s 1 (omega (arith, some_size)) (omega (arith, old, long, n.near.most))) ∙ dec_enc e (s - 1)

  move_others : (x k : ℕ) → Starts 0 h.chunks x (used k) → (x ≡ p → ⊥) → (x ≡ q → ⊥) → Spares x k w (move_block e r w (enc e p) (enc e q)).words
  move_others x k sx np nq =
      subst (λ y. Spares x k w y.words) (sym move_is)
      (spares_trans x k w copied (dispose_b e r copied (enc e p) (enc e s)).words
      (λ i lo hi. only.1 i (⊎_elim (λ y. inl (omega arith)) (λ y. inr (omega arith)) (used_beside e w h.chunks h.top n.near.heads x k sx q t sq nq)))
      (dispose_spares e r copied h copied-held p s sp x k sx np))

  move_own : (q ≡ p → ⊥) → (k : ℕ) → k + 1 < s → get_or (move_block e r w (enc e p) (enc e q)).words (q + 2 + k) 0 ≡ get_or w (p + 2 + k) 0
  move_own ne k u =
      ap (λ y. get_or y.words (q + 2 + k) 0) move_is ∙ dispose_spares e r copied h copied-held p s sp q t sq ne (q + 2 + k) (omega arith) (omega arith)
      ∙ copy_get w (p + 2) q (s - 1) (⊎_elim (λ y. inr (omega (arith, some_size))) (λ y. inl (omega (arith, some_size))) (used_beside e w h.chunks h.top n.near.heads q t sq p s sp ne)) (omega (arith, new, long, some_size)) k (omega arith)

-- ---- realloc, whole: the block of t words at p

module _ (e : Edition) (r w : List ℕ) (h : Heap) (n : Held e r w h []) (p t nb : ℕ) (st : Starts 0 h.chunks p (used t)) (v : nb % 2 ≡ 0) (l : 4 ≤ nb) (hi : W e * nb < huge) where
  b : Block h.chunks p t
  b = block h.chunks p t (heads_tidy e w h n.near.heads).chunks st

  abbrev there : Tried
  there = try_realloc e r w (enc e p) (enc e nb)

  abbrev here : Option Heap
  here = resize_here e h (front b.f) p t nb b.f.after

  same : Agrees e r w there here
  same = subst (λ a. Agrees e r w (try_realloc e r w (enc e a) (enc e nb)) (resize_here e h (front b.f) a t nb b.f.after)) (sym b.place) (resize_agrees e r w h n (front b.f) t nb v l b.f.after b.whole)

  answer : realloc e h p nb ≡ here_or_moved e h here p nb
  answer = ap (λ z. realloc_found e h z p nb) b.finds ∙ ap (λ k. here_or_moved e h (resize_here e h (front b.f) p k nb b.f.after) p nb) b.words

  abbrev result : Tried → Reply
  result y = pick y.here (reply (enc e p) y.image y.words) (moved_b e (enc e p) (malloc_b e y.image y.words (enc e nb)))

  obeys : Obeys e r w (malloc_b e r w (enc e nb)) (malloc e h nb)
  obeys = malloc_obeys e r w h n nb v l hi

  grants : Grants h nb (nb + 4) (λ x. ⊥) (malloc e h nb)
  grants = malloc-grants e h nb (heads_tidy e w h n.near.heads) v l (malloc e h nb) (malloc_source e (state (decode r) w) h n.near nb v l hi)

  -- ---- every other block

  moved_spares : t < nb → (m : Reply) (o : Option Grant) → Obeys e r w m o → Grants h nb (nb + 4) (λ x. ⊥) o → (x s : ℕ) → Starts 0 h.chunks x (used s) → (x ≡ p → ⊥) → Spares x s w m.words → Spares x s w (moved_b e (enc e p) m).words
  unfolding moved_b
  moved_spares u m none f g x s sx ne k = rw (f, eq-eqb (no_link e) (no_link e) refl) (spares_refl x s w)
  moved_spares u m (some d) f g x s sx ne k =
      rw (f.0, ne_eqb (enc e d.place) (no_link e) (none_free e d.place))
      (spares_trans x s w m.words (move_block e m.image m.words (enc e p) (enc e d.place)).words k
      (move_others e m.image m.words d.heap f.1 p t d.place g.words (g.changes.kept p t st (λ z. z)) g.block (omega (arith, g.large)) x s (g.changes.kept x s sx (λ z. z)) ne (g.apart x s sx (λ z. z))))

  realloc-others : (x s : ℕ) → Starts 0 h.chunks x (used s) → (x ≡ p → ⊥) → Spares x s w (realloc_b e r w (enc e p) (enc e nb)).words
  unfolding realloc_b
  realloc-others x s sx ne = go there here same refl in_place
    where
      in_place : Spares x s w there.words
      in_place = subst (λ a. (x ≡ a → ⊥) → Spares x s w (try_realloc e r w (enc e a) (enc e nb)).words) (sym b.place) (resize_others e r w h n (front b.f) t nb v l b.f.after b.whole x s sx) ne

      go : (y : Tried) (o : Option Heap) → Agrees e r w y o → here ≡ o → Spares x s w y.words → Spares x s w (result y).words
      go y (some g) a z f = rw a.0 f
      go y none a z f =
          subst (λ (y : Tried). Spares x s w (result y).words) (sym a)
          (moved_spares (larger e h p t nb b z) (malloc_b e r w (enc e nb)) (malloc e h nb) obeys grants x s sx ne (malloc_spares e r w h n nb v l hi x s sx))

  -- ---- the block itself

  -- the owner's words that both sizes reach, by their number: at the old place and at the new one
  abbrev Keeps : Reply → Option Grant → Type 0
  Keeps a none = Unit {0}
  Keeps a (some g) = (u : ℕ) → Starts 0 g.heap.chunks g.place (used u) → (k : ℕ) → k + 1 < t → k + 1 < u → get_or a.words (g.place + 2 + k) 0 ≡ get_or w (p + 2 + k) 0

  moved_own : t < nb → (m : Reply) (o : Option Grant) → Obeys e r w m o → Grants h nb (nb + 4) (λ x. ⊥) o → Spares p t w m.words → Keeps (moved_b e (enc e p) m) (moved e o p)
  unfolding moved_b
  moved_own u m none f g kept = tt
  moved_own u m (some d) f g kept =
      rw (f.0, ne_eqb (enc e d.place) (no_link e) (none_free e d.place))
      (λ y sy k lo hk. move_own e m.image m.words d.heap f.1 p t d.place g.words (g.changes.kept p t st (λ z. z)) g.block (omega (arith, g.large)) (λ z. g.apart p t st (λ y. y) (sym z)) k lo
      ∙ kept (p + 2 + k) (omega arith) (omega arith))

  own : Keeps (realloc_b e r w (enc e p) (enc e nb)) (realloc e h p nb)
  unfolding realloc_b
  own = subst (Keeps (result there)) (sym answer) (go there here same refl in_place)
    where
      in_place : (g : Heap) → here ≡ some g → (k : ℕ) → Starts 0 g.chunks p (used k) → (i : ℕ) → p + 2 ≤ i → i ≤ p + t → i ≤ p + k → get_or there.words i 0 ≡ get_or w i 0
      in_place =
          subst (λ a. (g : Heap) → resize_here e h (front b.f) a t nb b.f.after ≡ some g → (k : ℕ) → Starts 0 g.chunks a (used k) → (i : ℕ) → a + 2 ≤ i → i ≤ a + t → i ≤ a + k
          → get_or (try_realloc e r w (enc e a) (enc e nb)).words i 0 ≡ get_or w i 0) (sym b.place) (resize_own e r w h n (front b.f) t nb v l b.f.after b.whole)

      go : (y : Tried) (o : Option Heap) → Agrees e r w y o → here ≡ o
          → ((g : Heap) → here ≡ some g → (k : ℕ) → Starts 0 g.chunks p (used k) → (i : ℕ) → p + 2 ≤ i → i ≤ p + t → i ≤ p + k → get_or y.words i 0 ≡ get_or w i 0)
          → Keeps (result y) (here_or_moved e h o p nb)
      go y (some g) a z f = rw a.0 (λ u su k lo hk. f g z u su (p + 2 + k) (omega arith) (omega arith) (omega arith))
      go y none a z f =
          subst (λ (y : Tried). Keeps (result y) (moved e (malloc e h nb) p)) (sym a)
          (moved_own (larger e h p t nb b z) (malloc_b e r w (enc e nb)) (malloc e h nb) obeys grants (malloc_spares e r w h n nb v l hi p t st))

-- every other block is spared, whatever the answer
pub realloc_spares : (e : Edition) (r w : List ℕ) (h : Heap) → Held e r w h [] → (p t nb : ℕ) → Starts 0 h.chunks p (used t) → nb % 2 ≡ 0 → 4 ≤ nb → W e * nb < huge
    → (x s : ℕ) → Starts 0 h.chunks x (used s) → (x ≡ p → ⊥) → Spares x s w (realloc_b e r w (enc e p) (enc e nb)).words
realloc_spares e r w h n p t nb st v l hi x s sx ne = realloc-others e r w h n p t nb st v l hi x s sx ne

-- the block of t words keeps its owner's words 0, 1, .. as far as both sizes reach: a chunk of t words has t - 1 of them
pub realloc-keeps : (e : Edition) (r w : List ℕ) (h : Heap) → Held e r w h [] → (p t nb : ℕ) → Starts 0 h.chunks p (used t) → nb % 2 ≡ 0 → 4 ≤ nb → W e * nb < huge
    → (g : Grant) → realloc e h p nb ≡ some g → (u : ℕ) → Starts 0 g.heap.chunks g.place (used u)
    → (k : ℕ) → k + 1 < t → k + 1 < u → get_or (realloc_b e r w (enc e p) (enc e nb)).words (g.place + 2 + k) 0 ≡ get_or w (p + 2 + k) 0
realloc-keeps e r w h n p t nb st v l hi g q =
    subst (Keeps e r w h n p t nb st v l hi (realloc_b e r w (enc e p) (enc e nb))) q (own e r w h n p t nb st v l hi)
