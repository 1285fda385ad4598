-- WHAT FREE REACHES: every word that is governed neither before the call nor after it is as it was. Free neighbours leave their bins, which reaches
-- links of the heap before; what is merged gets a head and a foot, and at most the head behind it is told, all heads and feet of the heap
-- after; putting it away reaches links of the heap after. By the cases of what stands before and behind. Assumes nothing.
use Rattle.std.specs.Prelude.{◌≡◌, refl, Bool, get_or}
use Rattle.std.proofs.Common.{sym, ◌∙◌, ap, inl, inr, arith}
use Rattle.std.proofs.Math.Path.{subst}
use Rattle.std.proofs.Math.Bool.{true, false}
use mathlib.Core.List.{List, [], ◌∷◌, ◌++◌}
use Rattle.std.proofs.Math.Option.{Option, none, some}
use Prim.Native.Nat.{ℕ, ◌+◌, ◌-◌, ◌*◌, ◌%◌, ◌≤◌}
use borrow.Author.Tests.{eq-eqb, ne_eqb}
use Rattle.words.specs.Logic.{pick, by, false-true}
use Rattle.words.specs.Edition.{Edition, wide, narrow, W, no_link, enc, enc_inj}
use Rattle.words.specs.Fields.{ind, ind_eq, ind_self, count_l}
use Rattle.tiling.specs.Tiling.{Chunk, used, free, bit, end_of, last_use, total, UsedAt, FreeAt, Run, Heads, HeadsFrom, HeadsReads, Starts, Split, starts_split, starts_at_lem, end_append, last_append, end_total, end_ge, run_left}
use Rattle.tiling.specs.Free.{free_at, free_append, free_one}
use Rattle.tiling.specs.Reading.{reads_head, reads_next, reads_foot}
use Rattle.tiling.specs.Steps.{free_words, give_words, prev_free}
use Rattle.tiling.specs.Swaps.{Swap, join_free, join_used}
use Rattle.rules.specs.Heap.{Heap, heap_dv, heap_chunks}
use Rattle.rules.specs.Binning.{is_dv, unbin}
use Rattle.rules.specs.Free.{find, away, forward, give_maybe, give_back}
use Rattle.rules.specs.Tidy.{starts_right}
use Rattle.rules.specs.Lookup.{find_plain, find_back}
use Rattle.rules.specs.Leaves.{unbin_leaves, away_leaves}
use Rattle.holds.specs.Holds.{SpareAt, in_dv}
use Rattle.holds.specs.Unique.{one_size}
use Rattle.holds.specs.Lookup.{run_tidy, heads_right}
use Rattle.holds.specs.Governed.{Tiled, Linked, Governed}
use Rattle.chunk.specs.Bytes.{wrap, word, set_dv, free_w}
use Rattle.chunk.specs.Image.{decode, decode_is}
use Rattle.chunk.specs.Plain.{small_sum, small_less, word_plain, free_plain, give_plain, size_plain, cinuse_plain, pinuse_plain}
use Rattle.chunk.specs.Held.{Held, top_at_lem, drop_step, swap_step}
use Rattle.chunk.specs.ChunkReach.{Same, top_same, freed_same, give_same}
use Rattle.treebin.specs.Binning.{unlink_chunk}
use Rattle.treebin.specs.BinningSteps.{unlink_step}
use Rattle.treebin.specs.BinningReach.{insert_reaches, unlink_reaches, unbin-links}
use Rattle.free.specs.FreeBytes.{away_b, join_top, join_dv, join_binned, forward_b, back_b, dispose_b, free_b}
use Rattle.free.specs.FreeObeys.{Ahead}
use Rattle.free.proofs.FreeObeys.{append_one, dv_test, place_some, place_none, flags_below}

-- ---- putting away

-- the loose chunk at a goes to its bin, or becomes the spare chunk
away_reaches : (e : Edition) (mine : Bool) (r w : List ℕ) (h : Heap) (a k : ℕ) → Held e r w h (a ∷ []) → Starts 0 h.chunks a (free k) → (i : ℕ) → (Linked (away e mine h a k) i → ⊥)
    → Same i w (away_b e mine r w (enc e a) (enc e k)).words
unfolding away_b
away_reaches e true r w h a k n st i f = refl
away_reaches e false r w h a k n st i f = insert_reaches e r w h (a ∷ []) n i a k st (omega (arith, ind_self a)) f

pub away_tiles : (e : Edition) (mine : Bool) (h : Heap) (a k i : ℕ) → Tiled h i → Tiled (away e mine h a k) i
away_tiles e mine h a k i u =
    let lv = away_leaves e mine h a k in
    subst (λ c. HeadsReads 0 c (away e mine h a k).top i) (sym lv.0) (subst (λ t. HeadsReads 0 h.chunks t i) (sym lv.1) u)

-- ---- forward: the chunks ms, of k words, are merged

module _ (e : Edition) (mine : Bool) (r w : List ℕ) (h : Heap) (l : List ℕ) (xs ms : List Chunk) (k i : ℕ) (before : Governed h i → ⊥) where
  abbrev a : ℕ
  a = end_of 0 xs

  abbrev Reached : List Chunk → Type 0
  Reached ys = Ahead e mine r w h l xs ms ys k → (Governed (forward e mine h xs a k ys) i → ⊥) → Same i w (forward_b e mine r w (enc e a) (enc e k) (enc e (a + k))).words

  ends : k ≡ total ms → end_of a ms ≡ a + k
  ends q = omega (arith, end_total a ms)

  -- what follows the merged chunks
  behind : (ys : List Chunk) → Ahead e mine r w h l xs ms ys k → HeadsFrom e w (a + k) true ys h.top
  behind ys b =
      let hd : Heads e w (xs ++ (ms ++ ys)) h.top = subst (λ c. Heads e w c h.top) b.whole b.held.near.heads in
      let r = heads_right e w a (last_use true xs) ms ys h.top (heads_right e w 0 true xs (ms ++ ys) h.top hd) in
      subst (λ z. HeadsFrom e w z true ys h.top) (ends b.sum) (subst (λ z. HeadsFrom e w (end_of a ms) z ys h.top) (ap (λ z. last_use z ms) b.before ∙ b.last) r)

  top_is : (ys : List Chunk) → Ahead e mine r w h l xs ms ys k → get_or r 4 0 ≡ enc e (end_of (a + k) ys)
  top_is ys b =
      top_at_lem e r w h l b.held
      ∙ ap (enc e) (ap (end_of 0) b.whole ∙ end_append 0 xs (ms ++ ys) ∙ end_append a ms ys ∙ ap (λ z. end_of z ys) (ends b.sum))

  near : (ys : List Chunk) → Ahead e mine r w h l xs ms ys k → end_of (a + k) ys ≤ 8192
  near ys b = let r = behind ys b in omega (arith, r.top.ends, b.held.near.most)

  to_top : Reached []
  unfolding forward_b join_top
  to_top b after =
      let t = (behind [] b).top in
      rw (cinuse_plain e w (a + k) h.top 1 t.head t.even (omega arith), eq-eqb (enc e (a + k)) (get_or r 4 0) (sym (top_is [] b)))
      (top_same e i w w a (wrap e (get_or r 5 0 + enc e k)) (λ z. after (inl (inr (inl z)))) refl)

  -- the merged chunk is free, before zs
  module _ (t ts : ℕ) (zs : List Chunk) (after : HeadsReads 0 (xs ++ (free t ∷ zs)) ts i → ⊥) where
    merged : Starts 0 (xs ++ (free t ∷ zs)) a (free t)
    merged = starts_right 0 xs (free t ∷ zs) a (free t) (inl (refl, refl))

    head_out : i ≡ a + 1 → ⊥
    head_out z = after (subst (HeadsReads 0 (xs ++ (free t ∷ zs)) ts) (sym z) (reads_head 0 (xs ++ (free t ∷ zs)) ts a (free t) merged))

    foot_out : i ≡ a + t → ⊥
    foot_out z = after (subst (HeadsReads 0 (xs ++ (free t ∷ zs)) ts) (sym z) (reads_foot 0 (xs ++ (free t ∷ zs)) ts a t merged))

    next_out : i ≡ a + t + 1 → ⊥
    next_out z = after (subst (HeadsReads 0 (xs ++ (free t ∷ zs)) ts) (sym z) (reads_next 0 (xs ++ (free t ∷ zs)) ts a (free t) merged))

  to_used : (n : ℕ) (zs : List Chunk) → Reached (used n ∷ zs)
  unfolding forward_b
  to_used n zs b after =
      rw (cinuse_plain e w (a + k) n 3 (ua.head ∙ omega arith) ua.even (omega arith), give_plain e w a k (omega (arith, near (used n ∷ zs) b, end_ge (a + k + n) zs)) b.least (odd e (get_or w (a + k + 1) 0) ua.head))
      (away_reaches e mine r (give_words e w a k) g a k given (merged k h.top (used n ∷ zs) tiles) i (λ u. after (inr u))
      ∙ rw (give_plain e w a k (omega (arith, near (used n ∷ zs) b, end_ge (a + k + n) zs)) b.least (odd e (get_or w (a + k + 1) 0) ua.head)) at
      (give_same e i w w a k (head_out k h.top (used n ∷ zs) tiles) (foot_out k h.top (used n ∷ zs) tiles) (next_out k h.top (used n ∷ zs) tiles) refl))
    where
      g : Heap
      g = heap_chunks h (xs ++ (free k ∷ used n ∷ zs))

      tiles : Tiled g i → ⊥
      tiles u = after (inl (away_tiles e mine g a k i u))

      t : HeadsFrom e w (a + k) true (used n ∷ zs) h.top
      t = behind (used n ∷ zs) b

      ua : UsedAt e w (a + k) true n
      ua = t.run.0

      odd : (e : Edition) (y : ℕ) → y ≡ W e * n + 2 + 1 → y % 2 ≡ 1
      odd wide y q = omega arith
      odd narrow y q = omega arith

      given : Held e r (give_words e w a k) g (a ∷ [])
      given =
          swap_step e r w (give_words e w a k) h l (a ∷ []) xs (ms ++ (used n ∷ [])) (free k ∷ used n ∷ []) zs (b.whole ∙ ap (λ z. xs ++ z) (sym (append_one ms (used n) zs))) b.held
          (join_used e w a (last_use true xs) ms k n b.sum b.least b.even b.before ua (omega (arith, t.top.ends, end_ge (a + k + n) zs)))
          (λ y. omega (arith, b.covered y, free_append a ms (used n ∷ []) y)) (λ y. omega (arith, b.covered y, free_append a ms (used n ∷ []) y))

  to_free : (c : ℕ) (zs : List Chunk) → Reached (free c ∷ zs)
  unfolding forward_b join_dv join_binned
  to_free c zs b =
      rw (cinuse_plain e w (a + k) c 1 fa.head fa.even (omega arith), ne_eqb (enc e (a + k)) (get_or r 4 0) not_top, dv_test e r w h l (a + k) b.held)
      (by (λ z. (Governed (pick z (heap_dv (heap_chunks h (xs ++ (free (k + c) ∷ zs))) (some a)) (away e mine (heap_chunks (unbin e h (a + k) c) (xs ++ (free (k + c) ∷ zs))) a (k + c))) i → ⊥)
      → Same i w (pick z (join_dv e r w (enc e a) (enc e k)) (join_binned e mine r w (enc e a) (enc e k) (enc e (a + k)))).words) (is_dv h (a + k))
      (λ z after. spare (place_some h.dv (a + k) z) (λ u. after (inl u))) (λ z after. other z after))
    where
      t : HeadsFrom e w (a + k) true (free c ∷ zs) h.top
      t = behind (free c ∷ zs) b

      fa : FreeAt e w (a + k) true c
      fa = t.run.0

      room : a + k + c ≤ 8192
      room = omega (arith, near (free c ∷ zs) b, end_ge (a + k + c) zs)

      not_top : enc e (a + k) ≡ get_or r 4 0 → ⊥
      not_top z = omega (arith, enc_inj e (end_of (a + k + c) zs) (a + k) (sym (top_is (free c ∷ zs) b) ∙ sym z), end_ge (a + k + c) zs, fa.least)

      next : Starts 0 h.chunks (a + k) (free c)
      next =
          subst (λ z. Starts 0 z (a + k) (free c)) (sym b.whole)
          (starts_right 0 xs (ms ++ (free c ∷ zs)) (a + k) (free c) (starts_right a ms (free c ∷ zs) (a + k) (free c) (inl (sym (ends b.sum), refl))))

      spare : h.dv ≡ some (a + k) → (HeadsReads 0 (xs ++ (free (k + c) ∷ zs)) h.top i → ⊥) → Same i w (free_w e w (enc e a) (wrap e (get_or r 3 0 + enc e k)))
      spare q after =
          subst (λ y. Same i w (free_w e w (enc e a) y)) (sym length_is)
          (freed_same e i w w a (k + c) (omega (arith, room)) (head_out (k + c) h.top zs after) (foot_out (k + c) h.top zs after) refl)
        where
          width : (d : Option ℕ) → d ≡ some (a + k) → SpareAt e (decode r).dv (decode r).dv_size h.chunks d → (decode r).dv_size ≡ enc e c
          width d z sp =
              let s = subst (SpareAt e (decode r).dv (decode r).dv_size h.chunks) z sp in
              s.3 ∙ ap (enc e) (one_size e w h.chunks h.top (a + k) s.0 c b.held.near.heads s.1 next)

          length_is : wrap e (get_or r 3 0 + enc e k) ≡ enc e (k + c)
          length_is =
              ap (λ z. wrap e (z + enc e k)) ((decode_is r).1 ∙ width h.dv q b.held.near.spare) ∙ small_sum e c k (omega (arith, room))
              ∙ ap (enc e) (let q : c + k ≡ k + c = omega arith in q)

      other : is_dv h (a + k) ≡ false → (Governed (away e mine (heap_chunks (unbin e h (a + k) c) (xs ++ (free (k + c) ∷ zs))) a (k + c)) i → ⊥) → Same i w (join_binned e mine r w (enc e a) (enc e k) (enc e (a + k))).words
      other z after =
          rw (size_plain e w (a + k) c 1 fa.head fa.even (omega arith), small_sum e k c (omega (arith, room)), free_plain e w₁ a (k + c) (omega (arith, room)))
          (away_reaches e mine r₁ (free_words e w₁ a (k + c)) joined_heap a (k + c) given (merged (k + c) g.top zs tiles) i (λ u. after (inr u))
          ∙ rw (free_plain e w₁ a (k + c) (omega (arith, room))) at
          (freed_same e i w w₁ a (k + c) (omega (arith, room)) (head_out (k + c) g.top zs tiles) (foot_out (k + c) g.top zs tiles) (unlink_reaches e r w h l b.held i (a + k) c next loose (λ u. before (inr u)))))
        where
          r₁ : List ℕ
          r₁ = (unlink_chunk e r w (enc e (a + k)) (enc e c)).image

          w₁ : List ℕ
          w₁ = (unlink_chunk e r w (enc e (a + k)) (enc e c)).words

          g : Heap
          g = unbin e h (a + k) c

          joined_heap : Heap
          joined_heap = heap_chunks g (xs ++ (free (k + c) ∷ zs))

          tiles : Tiled joined_heap i → ⊥
          tiles u = after (inl (away_tiles e mine joined_heap a (k + c) i u))

          lv : (g.chunks ≡ h.chunks) × (g.dv ≡ h.dv) × (g.top ≡ h.top)
          lv = unbin_leaves e h (a + k) c

          -- what is merged lies before
          loose : count_l (a + k) l + in_dv h.dv (a + k) ≡ 0
          loose =
              omega (
                arith,
                place_none h.dv (a + k) z,
                b.covered (a + k),
                free_one e w 0 true h.chunks (a + k) b.held.near.heads.run,
                ap (λ y. free_at 0 y (a + k)) b.whole,
                free_append 0 xs (ms ++ (free c ∷ zs)) (a + k),
                free_append a ms (free c ∷ zs) (a + k),
                ind_eq (a + k) (end_of a ms) (sym (ends b.sum)),
              )

          unbound : Held e r₁ w₁ g ((a + k) ∷ l)
          unbound = unlink_step e r w h l (a + k) c b.held next loose

          tot : (ns : List Chunk) → total (ns ++ (free c ∷ [])) ≡ total ns + c
          tot [] = omega arith
          tot (y ∷ ns) = omega (arith, tot ns)

          joined : Swap e w₁ (free_words e w₁ a (k + c)) a (last_use true xs) (ms ++ (free c ∷ [])) (free (k + c) ∷ [])
          joined =
              join_free e w₁ a (last_use true xs) (ms ++ (free c ∷ [])) (k + c) (omega (arith, b.sum, tot ms)) (omega (arith, b.least)) (omega (arith, b.even, fa.even)) b.before
              (last_append (last_use true xs) ms (free c ∷ []))
              (omega (arith, unbound.near.heads.top.ends, ap (end_of 0) lv.0, lv.2, b.held.near.heads.top.ends, t.top.ends, end_ge (a + k + c) zs))

          covers : (y : ℕ) → ind y (a + k) + count_l y l ≡ free_at a (ms ++ (free c ∷ [])) y
          covers y = omega (arith, b.covered y, free_append a ms (free c ∷ []) y, ap (ind y) (ends b.sum))

          given : Held e r₁ (free_words e w₁ a (k + c)) joined_heap (a ∷ [])
          given =
              swap_step e r₁ w₁ (free_words e w₁ a (k + c)) g ((a + k) ∷ l) (a ∷ []) xs (ms ++ (free c ∷ [])) (free (k + c) ∷ []) zs
              (lv.0 ∙ b.whole ∙ ap (λ z. xs ++ z) (sym (append_one ms (free c) zs))) unbound joined (λ y. omega (arith, covers y)) (λ y. omega (arith, covers y))

  forward_reaches : (ys : List Chunk) → Reached ys
  forward_reaches [] b = to_top b
  forward_reaches (used n ∷ ys) b = to_used n ys b
  forward_reaches (free n ∷ ys) b = to_free n ys b

-- ---- the whole call: the block of t words at p is given back

module _ (e : Edition) (r w : List ℕ) (h : Heap) (n : Held e r w h []) (t i : ℕ) (before : Governed h i → ⊥) where
  abbrev Left : ℕ → Heap → Type 0
  Left p g = (Governed g i → ⊥) → Same i w (dispose_b e r w (enc e p) (enc e t)).words

  -- what stands before is in use, or there is nothing
  plain : (xs ys : List Chunk) → h.chunks ≡ xs ++ (used t ∷ ys) → last_use true xs ≡ true → Left (end_of 0 xs) (give_back e h (end_of 0 xs))
  unfolding dispose_b
  plain xs ys q u =
      subst (λ z. Left (end_of 0 xs) (give_maybe e h z (end_of 0 xs))) (sym (ap (λ c. find 0 c (end_of 0 xs)) q ∙ find_plain 0 true xs t ys (run_tidy e w 0 true (xs ++ (used t ∷ ys)) hd.run) u))
      (rw (pinuse_plain e w a t (2 + bit (last_use true xs)) (at.head ∙ omega arith) at.even (flags_below (last_use true xs)), u, small_sum e a t (omega (arith, tl.top.ends, end_ge (a + t) ys, n.near.most)))
      (forward_reaches e false r w h [] xs (used t ∷ []) t i before ys (record {
        held = n;
        whole = q;
        before = u;
        last = refl;
        sum = omega arith;
        even = at.even;
        least = at.least;
        covered = λ y. refl;
        spare = λ z. false-true z;
      })))
    where
      a : ℕ
      a = end_of 0 xs

      hd : Heads e w (xs ++ (used t ∷ ys)) h.top
      hd = subst (λ c. Heads e w c h.top) q n.near.heads

      tl : HeadsFrom e w a (last_use true xs) (used t ∷ ys) h.top
      tl = heads_right e w 0 true xs (used t ∷ ys) h.top hd

      at : UsedAt e w a (last_use true xs) t
      at = tl.run.0

  -- a free chunk stands before
  back : (xs : List Chunk) (c : ℕ) (ys : List Chunk) → h.chunks ≡ xs ++ (free c ∷ used t ∷ ys) → get_or w (end_of 0 xs + c) 0 ≡ W e * c → Left (end_of 0 xs + c) (give_back e h (end_of 0 xs + c))
  unfolding dispose_b back_b
  back xs c ys q foot =
      subst (λ z. Left p (give_maybe e h z p)) (sym (ap (λ z. find 0 z p) q ∙ find_back 0 true xs c t ys (run_tidy e w 0 true (xs ++ (free c ∷ used t ∷ ys)) hd.run)))
      (rw (pinuse_plain e w p t 2 (at.head ∙ omega arith) at.even (omega arith), word_is, small_less e p c (omega arith) (omega (arith, room)), start, all, behind_is, ne_eqb c 0 (λ z. omega (arith, fa.least)), dv_test e r w h [] a n)
      (by (λ z. (Governed (pick z (forward e true (heap_dv h none) xs a (c + t) ys) (forward e false (unbin e h a c) xs a (c + t) ys)) i → ⊥)
      → Same i w (pick z (forward_b e true r₀ w (enc e a) (enc e (c + t)) (enc e (a + (c + t)))) (forward_b e false r₁ w₁ (enc e a) (enc e (c + t)) (enc e (a + (c + t))))).words) (is_dv h a)
      (λ z. forward_reaches e true r₀ w (heap_dv h none) (a ∷ []) xs (free c ∷ used t ∷ []) (c + t) i before ys (record {
        held = drop_step e r w h a [] (place_some h.dv a z) n;
        whole = q;
        before = fa.apart;
        last = refl;
        sum = omega arith;
        even = omega (arith, fa.even, at.even);
        least = omega (arith, fa.least);
        covered = λ y. refl;
        spare = λ _. refl;
      }))
      (λ z after. let loose : count_l a [] + in_dv h.dv a ≡ 0 = omega (arith, place_none h.dv a z) in
      forward_reaches e false r₁ w₁ (unbin e h a c) (a ∷ []) xs (free c ∷ used t ∷ []) (c + t) i (between loose) ys (record {
        held = unlink_step e r w h [] a c n st loose;
        whole = lv.0 ∙ q;
        before = fa.apart;
        last = refl;
        sum = omega arith;
        even = omega (arith, fa.even, at.even);
        least = omega (arith, fa.least);
        covered = λ y. refl;
        spare = λ y. false-true y;
      }) after ∙ unlink_reaches e r w h [] n i a c st loose (λ u. before (inr u)))))
    where
      a : ℕ
      a = end_of 0 xs

      p : ℕ
      p = end_of 0 xs + c

      start : p - c ≡ a
      start = omega arith

      r₀ : List ℕ
      r₀ = set_dv r (no_link e) 0

      r₁ : List ℕ
      r₁ = (unlink_chunk e r w (enc e a) (enc e c)).image

      w₁ : List ℕ
      w₁ = (unlink_chunk e r w (enc e a) (enc e c)).words

      lv : ((unbin e h a c).chunks ≡ h.chunks) × ((unbin e h a c).dv ≡ h.dv) × ((unbin e h a c).top ≡ h.top)
      lv = unbin_leaves e h a c

      hd : Heads e w (xs ++ (free c ∷ used t ∷ ys)) h.top
      hd = subst (λ z. Heads e w z h.top) q n.near.heads

      tl : HeadsFrom e w a (last_use true xs) (free c ∷ used t ∷ ys) h.top
      tl = heads_right e w 0 true xs (free c ∷ used t ∷ ys) h.top hd

      fa : FreeAt e w a (last_use true xs) c
      fa = tl.run.0

      at : UsedAt e w p false t
      at = tl.run.1.0

      room : p + t ≤ 8192
      room = omega (arith, tl.top.ends, end_ge (p + t) ys, n.near.most)

      word_is : word e w (enc e p) 0 ≡ enc e c
      word_is = word_plain e w p 0 ∙ ap (λ i. get_or w i 0) (let z : p + 0 ≡ p = omega arith in z) ∙ foot

      all : wrap e (enc e t + enc e c) ≡ enc e (c + t)
      all = small_sum e t c (omega (arith, room)) ∙ ap (enc e) (let z : t + c ≡ c + t = omega arith in z)

      behind_is : wrap e (enc e p + enc e t) ≡ enc e (a + (c + t))
      behind_is = small_sum e p t room ∙ ap (enc e) (let z : p + t ≡ a + (c + t) = omega arith in z)

      st : Starts 0 h.chunks a (free c)
      st = subst (λ z. Starts 0 z a (free c)) (sym q) (starts_right 0 xs (free c ∷ used t ∷ ys) a (free c) (inl (refl, refl)))

      -- without the chunk before, nothing more is governed
      between : count_l a [] + in_dv h.dv a ≡ 0 → Governed (unbin e h a c) i → ⊥
      between loose (inl u) = before (inl (subst (λ z. HeadsReads 0 z h.top i) lv.0 (subst (λ z. HeadsReads 0 (unbin e h a c).chunks z i) lv.2 u)))
      between loose (inr u) = before (inr (unbin-links e r w h [] n i a c st loose u))

-- giving back the block of t words at p
pub dispose_reaches : (e : Edition) (r w : List ℕ) (h : Heap) → Held e r w h [] → (p t : ℕ) → Starts 0 h.chunks p (used t)
    → (i : ℕ) → (Governed h i → ⊥) → (Governed (give_back e h p) i → ⊥) → get_or (dispose_b e r w (enc e p) (enc e t)).words i 0 ≡ get_or w i 0
dispose_reaches e r w h n p t st i before = go (starts_split 0 h.chunks p (used t) st)
  where
    Gives : ℕ → Type 0
    Gives z = Left e r w h n t i before z (give_back e h z)

    go : Split 0 h.chunks p (used t) → Gives p
    go k = subst Gives (sym k.place) (cases (last_use true k.before) refl)
      where
        run : Run e w 0 true k.before
        run = run_left e w 0 true k.before (used t ∷ k.after) (subst (λ c. Run e w 0 true c) k.whole n.near.heads.run)

        cases : (b : Bool) → last_use true k.before ≡ b → Gives (end_of 0 k.before)
        cases true u = plain e r w h n t i before k.before k.after k.whole u
        cases false u =
            let f = prev_free e w 0 k.before run u in
            let z : end_of 0 k.before ≡ end_of 0 f.before + f.words = ap (end_of 0) f.whole ∙ end_append 0 f.before (free f.words ∷ []) in
            subst Gives (sym z)
            (back e r w h n t i before f.before f.words k.after (k.whole ∙ ap (λ c. c ++ (used t ∷ k.after)) f.whole ∙ append_one f.before (free f.words) (used t ∷ k.after))
            (subst (λ y. get_or w y 0 ≡ W e * f.words) z f.foot))

-- free reads the size itself
pub free_reaches : (e : Edition) (r w : List ℕ) (h : Heap) → Held e r w h [] → (p t : ℕ) → Starts 0 h.chunks p (used t)
    → (i : ℕ) → (Governed h i → ⊥) → (Governed (give_back e h p) i → ⊥) → get_or (free_b e r w (enc e p)).words i 0 ≡ get_or w i 0
unfolding free_b
free_reaches e r w h n p t st i before after =
    let a = starts_at_lem e w 0 true h.chunks p (used t) n.near.heads.run st in
    rw (size_plain e w p t (2 + bit a.0) (a.1.head ∙ omega arith) a.1.even (flags_below a.0)) (dispose_reaches e r w h n p t st i before after)
