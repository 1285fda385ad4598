-- WHAT IS GRANTED IS KEPT: a grant is the rule's (`GrantedBy`), and the rule's block has the need and little more, at an even place,
-- memalign's at
-- an aligned one (`Blocks`, `MemalignLaws`); what malloc leaves of the chunk that served it is told by `Remainder`. Assumes nothing.
use Rattle.std.specs.Prelude.{◌≡◌, refl, true, List, [], ◌∷◌, ◌⊎◌, ℕ, ◌+◌, ◌-◌, ◌*◌, ◌/◌, ◌%◌, ◌≤◌, ◌<◌, length}
use Rattle.std.proofs.Common.{sym, ◌∙◌, ap, subst, inl, inr, ⊎_elim, arith, mul_left_comm}
use Rattle.std.proofs.Math.Option.{Option, none, some}
use Rattle.words.specs.Logic.{lt_or_le}
use Rattle.words.specs.Edition.{wide, dec_enc, none_free, enc}
use Rattle.index.specs.Sizes.{need_words}
use Rattle.index.specs.SizesLaws.{need_holds, need_words_lem}
use Rattle.tiling.specs.Tiling.{used, free, size, end_of, end_append, Starts}
use Rattle.rules.specs.Heap.{Heap}
use Rattle.rules.specs.Malloc.{Grant, malloc}
use Rattle.rules.specs.Memalign.{memalign}
use Rattle.rules.specs.MemalignLaws.{GrantsAligned}
use Rattle.rules.proofs.MemalignLaws.{memalign-grants}
use Rattle.rules.specs.Blocks.{Granted, Grants}
use Rattle.rules.specs.Source.{Source, nowhere, from_top_lem, from_chunk}
use Rattle.rules.specs.Remainder.{Left, malloc_left}
use Rattle.rules.proofs.ReallocLaws.{some_none}
use Rattle.rules.specs.Tidy.{starts_in', starts_size, starts_even'}
use Rattle.rules.specs.Calls.{Call, Malloc, Free, Realloc, Memalign, Usable, granted, block_of, answer_to}
use Rattle.holds.specs.Holds.{Control, Holds, SpareAt}
use Rattle.holds.specs.Ops.{state}
use Rattle.holds.specs.Lookup.{heads_tidy}
use Rattle.holds.specs.Unique.{holds_unique}
use Rattle.holds.specs.MallocSource.{malloc_source}
use Rattle.malloc.proofs.MallocObeys.{serve-place}
use Rattle.calls.specs.Record.{image}
use Rattle.calls.specs.CallObeys.{Good}
use Rattle.calls.proofs.CallObeys.{even, least, big, malloc_blocks, realloc_blocks, memalign_blocks}
use Rattle.calls.specs.Histories.{box}
use Rattle.calls.proofs.Histories.{calls-held}
use Rattle.promises.specs.Promises.{says, asks_for, LiveAt, left, Grants as Promised}
use Rattle.promises.proofs.RoomLaws.{one_chunk}
use Rattle.promises.proofs.GrantedBy.{value, held, tidy, source, By, by_malloc, by_realloc, by_memalign, free_none, usable_none}
use Rattle.promises.proofs.TheRulesKept.{place_of_lem}
use Rattle.promises.proofs.HistoriesKept.{live_at}
use Rattle.promises.proofs.ResizeRoom.{resize_split, resize_stays, resize_top}

-- what a chunk may have beyond the need: less than 4 words, after memalign at most 4
abbrev slack : Call → ℕ
slack (Malloc n) = 4
slack (Free off) = 4
slack (Realloc off n) = 4
slack (Memalign al n) = 5
slack (Usable off) = 4

slack_most : (k : Call) → slack k ≤ 5
slack_most (Malloc n) = omega arith
slack_most (Free off) = omega arith
slack_most (Realloc off n) = omega arith
slack_most (Memalign al n) = omega arith
slack_most (Usable off) = omega arith

module _ (c : Control) (w : List ℕ) (h : Heap) (n : Holds wide c w h) where
  -- the granted block, in the rule's heap
  record Got (k : Call) (off : ℕ) : Type 0 where
    place : ℕ
    words : ℕ
    starts : Starts 0 (answer_to wide (length w) h k).heap.chunks place (used words)
    at : off ≡ block_of wide place
    even_place : place % 2 ≡ 0
    large : need_words 8 (asks_for k) ≤ words
    tight : words < need_words 8 (asks_for k) + slack k

  got : (k : Call) (off : ℕ) (gone : ℕ → Type 0) (o : Option Grant) → By c w h n k off o
      → Grants h (need_words 8 (asks_for k)) (need_words 8 (asks_for k) + slack k) gone o → Got k off
  got k off gone o b a =
      let g = b.grant in
      let y : Granted h g.heap g.place (need_words 8 (asks_for k)) (need_words 8 (asks_for k) + slack k) gone =
      subst (Grants h (need_words 8 (asks_for k)) (need_words 8 (asks_for k) + slack k) gone) b.is a in
      record {
        place = g.place;
        words = y.words;
        starts = subst (λ (z : Heap). Starts 0 z.chunks g.place (used y.words)) (sym b.heap) y.block;
        at = b.place;
        even_place = starts_even' true 0 g.heap.chunks g.place (used y.words) y.changes.tidy.chunks refl y.block;
        large = y.large;
        tight = y.tight;
      }

  halved : (al : ℕ) (g : Good wide al) → al / 8 ≡ 2 * g.0
  halved al g = ap (λ y. y / 8) g.1 ∙ dec_enc wide (2 * g.0)

  got_of : (k : Call) (off : ℕ) → says c w k ≡ granted off → Got k off
  got_of (Malloc x) off u =
      let b = by_malloc c w h n x off u in
      got (Malloc x) off (λ _. ⊥) (malloc wide h (need_words 8 x)) b.1 (malloc_blocks wide (image c) w h (held c w h n) x b.0)
  got_of (Free b) off u = free_none c w h n b off u
  got_of (Realloc b x) off u =
      let r = by_realloc c w h n b x off u in
      got (Realloc b x) off (λ z. z ≡ r.at) _ r.by
      (realloc_blocks wide (image c) w h (held c w h n) x r.fits r.at r.words r.starts)
  got_of (Memalign al x) off u =
      let r = by_memalign c w h n al x off u in
      let g = r.good in
      got (Memalign al x) off (λ _. ⊥) (memalign wide h (al / 8) (need_words 8 x)) r.by
      (subst (λ y. Grants h (need_words 8 x) (need_words 8 x + 5) (λ _. ⊥) (memalign wide h y (need_words 8 x))) (sym (halved al g))
      (memalign_blocks wide (image c) w h (held c w h n) x r.fits g.0 g.2 g.3))
  got_of (Usable b) off u = usable_none c w h n b off u

  -- the heap that is held after a call
  after-held : (k : Call) → Holds wide (left c w k).control (left c w k).words (answer_to wide (length w) h k).heap
  after-held k = (calls-held wide (box c w) h n k).held

  module _ (k : Call) (off : ℕ) (u : says c w k ≡ granted off) where
    abbrev g : Got k off
    g = got_of k off u

    live : LiveAt (left c w k) off (8 * (g.words - 1))
    live = subst (λ z. LiveAt (left c w k) z (8 * (g.words - 1))) (sym g.at)
        (live_at (left c w k) (answer_to wide (length w) h k).heap (after-held k) g.place g.words g.starts)

    enough : (m : ℕ) × LiveAt (left c w k) off m × (asks_for k ≤ m)
    enough = (8 * (g.words - 1), live, omega (arith, g.large, need_holds 8 (asks_for k) (omega arith), need_words_lem 8 (asks_for k)))

    chunk_is : (m : ℕ) → LiveAt (left c w k) off m → m + 8 ≡ 8 * g.words
    chunk_is m p = omega (arith, g.large, need_holds 8 (asks_for k) (omega arith), need_words_lem 8 (asks_for k), ap value (sym p ∙ live))

    granule : off % 16 ≡ 0
    granule = omega (arith, g.at, g.even_place)

  aligned : (al x off : ℕ) → says c w (Memalign al x) ≡ granted off → (j : ℕ) × (off ≡ j * al)
  aligned al x off u =
      let r = by_memalign c w h n al x off u in
      let g = r.good in
      let nb = need_words 8 x in
      let fit = r.fits in
      let a = memalign-grants wide h (2 * g.0) g.0 nb (tidy c w h n) refl (omega (arith, g.2))
      (even wide (image c) w h (held c w h n) x fit) (least wide (image c) w h (held c w h n) x fit)
      (malloc_source wide (state c w) h n (nb + 2 * g.0 + 4) (omega (arith, even wide (image c) w h (held c w h n) x fit)) (omega arith)
      (big wide (image c) w h (held c w h n) x fit g.0 g.3)) in
      let b : GrantsAligned h (2 * g.0) nb (some r.by.grant) =
      subst (GrantsAligned h (2 * g.0) nb) (ap (λ y. memalign wide h y nb) (sym (halved al g)) ∙ r.by.is) a in
      (b.1.0, r.by.place ∙ ap (λ z. 8 * z) b.1.1 ∙ mul_left_comm 8 b.1.0 (2 * g.0) ∙ ap (λ z. b.1.0 * z) (sym g.1))

  -- ---- the remainder

  -- the spare chunk, as the record and as the heap say it
  pub dv_of : (x : ℕ) → c.dv ≡ 8 * x → h.dv ≡ some x
  dv_of x q = go h.dv refl n.spare
    where
      go : (d : Option ℕ) → h.dv ≡ d → SpareAt wide c.dv c.dv_size h.chunks d → h.dv ≡ some x
      go none z s = absurd (none_free wide x (sym q ∙ s.0))
      go (some d) z s = z ∙ ap some (omega (arith, q, s.2))

  pub of_dv : (x : ℕ) → h.dv ≡ some x → c.dv ≡ 8 * x
  of_dv x q = (subst (λ d. SpareAt wide c.dv c.dv_size h.chunks d) q n.spare).2

  module _ (x y s : ℕ) (st : Starts 0 h.chunks y (free s)) (u : says c w (Malloc x) ≡ granted (block_of wide y)) where
    abbrev nb : ℕ
    nb = need_words 8 x

    b : By c w h n (Malloc x) (block_of wide y) (malloc wide h nb)
    b = (by_malloc c w h n x (block_of wide y) u).1

    abbrev o : Heap
    o = (answer_to wide (length w) h (Malloc x)).heap

    rest : Left wide h o y s nb
    rest =
        subst (λ (z : Heap). Left wide h z y s nb) (sym b.heap)
        (malloc_left wide h (tidy c w h n) nb (malloc wide h nb) b.grant (source c w h n x (by_malloc c w h n x (block_of wide y) u).0)
        b.is y s st (omega (arith, b.place)))

    d : Holds wide (left c w (Malloc x)).control (left c w (Malloc x)).words o
    d = after-held (Malloc x)

    block_live : (t : ℕ) → Starts 0 o.chunks y (used t) → LiveAt (left c w (Malloc x)) (block_of wide y) (8 * t - 8)
    block_live t z =
        subst (LiveAt (left c w (Malloc x)) (block_of wide y)) (let q : 8 * (t - 1) ≡ 8 * t - 8 = omega arith in q)
        (live_at (left c w (Malloc x)) o d y t z)

    rest_spare : nb + 4 ≤ s → (8 * nb < 256) ⊎ (c.dv ≡ 8 * y)
        → ((left c w (Malloc x)).control.dv ≡ 8 * (y + nb)) × ((left c w (Malloc x)).control.dv_size ≡ 8 * (s - nb))
    rest_spare l v =
        let z = subst (λ e. SpareAt wide (left c w (Malloc x)).control.dv (left c w (Malloc x)).control.dv_size o.chunks e)
        (rest.spare l (⊎_elim inl (λ a. inr (dv_of y a)) v)) d.spare in (
          z.2,
          z.3 ∙ ap (λ a. 8 * a)
              (ap size (one_chunk o (heads_tidy wide (left c w (Malloc x)).words o d.heads) (y + nb) (free z.0) (free (s - nb))
              z.1
              (rest.cut l).1)),
        )

    rest_binned : 256 ≤ 8 * nb → (c.dv ≡ 8 * y → ⊥)
        → ((left c w (Malloc x)).control.dv ≡ c.dv) × ((left c w (Malloc x)).control.dv_size ≡ c.dv_size)
    rest_binned l ne = go h.dv refl n.spare
        (subst (λ e. SpareAt wide (left c w (Malloc x)).control.dv (left c w (Malloc x)).control.dv_size o.chunks e) same d.spare)
      where
        other : h.dv ≡ some y → ⊥
        other q = ne (of_dv y q)

        same : o.dv ≡ h.dv
        same = ⊎_elim (λ z. rest.stays z other) (λ z. rest.binned z l other) (lt_or_le s (nb + 4))

        go : (e : Option ℕ) → h.dv ≡ e → SpareAt wide c.dv c.dv_size h.chunks e
            → SpareAt wide (left c w (Malloc x)).control.dv (left c w (Malloc x)).control.dv_size o.chunks e
            → ((left c w (Malloc x)).control.dv ≡ c.dv) × ((left c w (Malloc x)).control.dv_size ≡ c.dv_size)
        go none q a z = (z.0 ∙ sym a.0, z.1 ∙ sym a.1)
        go (some p) q a z = (
          z.2 ∙ sym a.2,
          z.3 ∙ ap (λ e. 8 * e)
              (ap size (one_chunk o (heads_tidy wide (left c w (Malloc x)).words o d.heads) p (free z.0) (free a.0) z.1
              (rest.others p (free a.0) a.1 (λ y'. other (q ∙ ap some y'))))) ∙ sym a.3,
        )

  rest_top : (x : ℕ) → says c w (Malloc x) ≡ granted (c.top + 16) → let t = (left c w (Malloc x)).control in
      (t.top ≡ c.top + 8 * need_words 8 x) × (t.top_size ≡ c.top_size - 8 * need_words 8 x)
  rest_top x u = go (malloc wide h nb) (source c w h n x b.0) b.1.is
    where
      nb : ℕ
      nb = need_words 8 x

      b : (x ≤ 8 * length w) × By c w h n (Malloc x) (c.top + 16) (malloc wide h (need_words 8 x))
      b = by_malloc c w h n x (c.top + 16) u

      t : Control
      t = (left c w (Malloc x)).control

      go : (o : Option Grant) → Source wide h (need_words 8 x) o → o ≡ some b.1.grant
          → ((left c w (Malloc x)).control.top ≡ c.top + 8 * need_words 8 x) ×
          ((left c w (Malloc x)).control.top_size ≡ c.top_size - 8 * need_words 8 x)
      go o (nowhere s l) q = some_none (sym q)
      go o (from_top_lem s l) q =
          let e = b.1.heap ∙ sym (ap heap_of q) in
          let d = after-held (Malloc x) in (
            d.top_place ∙ ap (λ (z : Heap). enc wide (end_of 0 z.chunks)) e
                ∙ omega (arith, end_append 0 h.chunks (used (need_words 8 x) ∷ []), n.top_place),
            d.top_size_lem ∙ ap (λ (z : Heap). 8 * z.top) e ∙ omega (arith, n.top_size_lem),
          )
        where
          heap_of : Option Grant → Heap
          heap_of none = h
          heap_of (some g) = g.heap
      go o (from_chunk k h₀ y s st fit out rest) q =
          absurd (let z : ⊥ = omega (
            arith,
            n.top_place,
            b.1.place,
            sym (serve-place wide k h₀ y s (need_words 8 x))
                ∙ ap place_of_lem q,
            starts_in' 0 h.chunks y (free s) st,
            starts_size true 0 h.chunks y (free s) (tidy c w h n).chunks st,
          )
          in z)

pub grants : Promised
grants =
    record {
      enough = λ c w h k off n u. enough c w h n k off u;
      tight = λ c w h k off m n u p. omega (arith, chunk_is c w h n k off u m p, (got_of c w h n k off u).tight, slack_most k);
      tight_malloc = λ c w h x off m n u p. omega (arith, chunk_is c w h n (Malloc x) off u m p, (got_of c w h n (Malloc x) off u).tight);
      tight_realloc = λ c w h b x off m n u p. omega
          (arith, chunk_is c w h n (Realloc b x) off u m p, (got_of c w h n (Realloc b x) off u).tight);
      granule = λ c w h k off n u. granule c w h n k off u;
      aligned = λ c w h al x off n u. aligned c w h n al x off u;
      rest_split = λ c w h x y s v l. block_live c w h v.0 x y s v.1 v.2 (need_words 8 x)
          ((rest c w h v.0 x y s v.1 v.2).cut l).0;
      rest_free = λ c w h g x y s v l a. subst (λ (z : Heap). Starts 0 z.chunks (y + need_words 8 x) (free (s - need_words 8 x)))
          (holds_unique wide (left c w (Malloc x)).control (left c w (Malloc x)).words (answer_to wide (length w) h (Malloc x)).heap g
          (after-held c w h v.0 (Malloc x)) a)
          ((rest c w h v.0 x y s v.1 v.2).cut l).1;
      rest_stays = λ c w h x y s v l. block_live c w h v.0 x y s v.1 v.2 s ((rest c w h v.0 x y s v.1 v.2).whole l);
      rest_spare = λ c w h x y s v l z. rest_spare c w h v.0 x y s v.1 v.2 l z;
      rest_binned = λ c w h x y s v l ne. rest_binned c w h v.0 x y s v.1 v.2 l ne;
      rest_top = λ c w h x n u. rest_top c w h n x u;
      resize_split = λ c w h m x s t r u l. resize_split c w h m x s r t u l;
      resize_stays = λ c w h m x s t r u l. resize_stays c w h m x s r t u l;
      resize_top = λ c w h m x s r l q. resize_top c w h m x s r l q;
    }
