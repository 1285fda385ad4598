-- DEMAND 2 IS KEPT: what the calls do on held heaps is the rules' doing, so each statement is one about a rule. Assumes nothing.
use Rattle.std.specs.Prelude.{◌≡◌, refl, true, List, ◌↔◌, ℕ, ◌+◌, ◌-◌, ◌*◌, ◌/◌, ◌%◌, ◌≤◌, ◌<◌, length}
use Rattle.std.proofs.Common.{sym, ◌∙◌, subst, arith, le-ltb}
use Rattle.std.proofs.Math.Path.{ap}
use Rattle.std.proofs.Math.Option.{Option, none, some}
use Rattle.std.proofs.Math.ListN.{get_or}
use Rattle.words.specs.Logic.{pick}
use Rattle.words.specs.Edition.{wide, dec_enc}
use Rattle.index.specs.Sizes.{need_words}
use Rattle.tiling.specs.Tiling.{used, end_of, Starts}
use Rattle.rules.specs.Heap.{Heap}
use Rattle.rules.specs.Malloc.{Grant, grant, malloc}
use Rattle.rules.specs.MallocLaws.{malloc-grants}
use Rattle.rules.specs.Realloc.{resize_here, front, moved, here_or_moved, realloc_found, realloc}
use Rattle.rules.specs.Memalign.{lead_to, aligned, memalign}
use Rattle.rules.proofs.MemalignLaws.{lead_is}
use Rattle.rules.proofs.ReallocLaws.{some_none, here_first, moves_away}
use Rattle.rules.specs.Source.{Small, Source, nowhere, from_top_lem, from_chunk}
use Rattle.rules.specs.Lookup.{Block}
use Rattle.rules.specs.Tidy.{starts_in', starts_size, starts_even'}
use Rattle.rules.specs.Calls.{Call, Malloc, Free, Realloc, Memalign, Usable, granted, bytes, too_many, refuse, block_of, place_of, live_size}
use Rattle.rules.specs.Calls.{moved_or6}
use Rattle.rules.specs.Calls.{realloc_call, usable_call}
use Rattle.holds.specs.Holds.{Control, Holds}
use Rattle.holds.specs.Governed.{GovernedIn}
use Rattle.holds.specs.Ops.{state}
use Rattle.holds.specs.MallocSource.{malloc_source}
use Rattle.malloc.proofs.MallocObeys.{serve-place}
use Rattle.decides.specs.LiveLaws.{starts_live}
use Rattle.calls.specs.CallBytes.{Told}
use Rattle.calls.specs.Record.{image}
use Rattle.calls.specs.ByValue.{call_a}
use Rattle.calls.specs.CallObeys.{Good}
use Rattle.calls.proofs.CallObeys.{even, least, big}
use Rattle.calls.proofs.Histories.{let_through}
use Rattle.calls.specs.CallReach.{call_via, Copies}
use Rattle.calls.proofs.CallReach.{call_reaches}
use Rattle.promises.specs.Promises.{says, wants, OwnPlace}
use Rattle.promises.proofs.RoomLaws.{own_place}
use Rattle.promises.proofs.RowLaws.{place_is, found}
use Rattle.promises.proofs.GrantedBy.{answer, held, tidy, source, Resized, Aligned, by_malloc, by_realloc, by_memalign, free_none}
use Rattle.promises.proofs.GrantedBy.{usable_none}

-- the place of a grant
abbrev pub place_of_lem : Option Grant → ℕ
place_of_lem none = 0
place_of_lem (some g) = g.place

module _ (c : Control) (w : List ℕ) (h : Heap) (n : Holds wide c w h) where
  -- ---- bins before the top

  -- a grant that lies at the top's place or behind it
  place_small : (m : ℕ) (o : Option Grant) → Source wide h m o → (g : Grant) → o ≡ some g → (lead : ℕ) → lead < m
      → end_of 0 h.chunks ≤ g.place + lead → Small h m
  place_small m o (nowhere s t) g q lead l z = s
  place_small m o (from_top_lem s t) g q lead l z = s
  place_small m o (from_chunk k h₀ x s st fit out rest) g q lead l z =
      absurd (let y : ⊥ = omega (arith, l, z, fit, starts_in' 0 h.chunks x _ st, sym (serve-place wide k h₀ x s m) ∙ ap place_of_lem q) in y)

  pub bins_first : (k : Call) (off : ℕ) → says c w k ≡ granted off → block_of wide (end_of 0 h.chunks) ≤ off → Small h (wants k)
  bins_first (Malloc x) off u z =
      let b = by_malloc c w h n x off u in
      place_small (need_words 8 x) (malloc wide h (need_words 8 x)) (source c w h n x b.0) b.1.grant b.1.is 0
      (omega (arith, least wide (image c) w h (held c w h n) x b.0)) (omega (arith, z, b.1.place))
  bins_first (Free b) off u z = free_none c w h n b off u
  bins_first (Usable b) off u z = usable_none c w h n b off u
  bins_first (Realloc b x) off u z =
      let r = by_realloc c w h n b x off u in
      let f = found c w h n b x r.words r.at r.block r.starts in
      go r (here r f) (sym (found-answer r f) ∙ r.by.is)
    where
      nb : ℕ
      nb = need_words 8 x

      here : (r : Resized c w h n b x off) → Block h.chunks r.at r.words → Option Heap
      here r f = resize_here wide h (front f.f) r.at r.words nb f.f.after

      found-answer : (r : Resized c w h n b x off) (f : Block h.chunks r.at r.words)
          → realloc wide h r.at nb ≡ here_or_moved wide h (here r f) r.at nb
      found-answer r f =
          ap (λ y. realloc_found wide h y r.at nb) f.finds
          ∙ ap (λ m. here_or_moved wide h (resize_here wide h (front f.f) r.at m nb f.f.after) r.at nb) f.words

      go : (r : Resized c w h n b x off) (o : Option Heap) → here_or_moved wide h o r.at nb ≡ some r.by.grant → Small h nb
      go r (some k) q =
          let at : r.at ≡ r.by.grant.place = ap place_of_lem q in
          absurd (let y : ⊥ = omega (
            arith,
            z,
            at,
            r.by.place,
            starts_in' 0 h.chunks r.at (used r.words) r.starts,
            starts_size true 0 h.chunks
                r.at (used r.words) (tidy c w h n).chunks r.starts,
          ) in y)
      go r none q = moves (malloc wide h nb) (source c w h n x r.fits) q
        where
          moves : (o : Option Grant) → Source wide h nb o → moved wide o r.at ≡ some r.by.grant → Small h nb
          moves none s q = some_none (sym q)
          moves (some g) s q =
              place_small nb (some g) s g refl 0 (omega (arith, least wide (image c) w h (held c w h n) x r.fits))
              (omega (arith, z, r.by.place, ap place_of_lem q))
  bins_first (Memalign al x) off u z = let r = by_memalign c w h n al x off u in go r r.good
    where
      nb : ℕ
      nb = need_words 8 x

      go : Aligned c w h n al x off → Good wide al → Small h (nb + al / 8 + 4)
      go r g =
          let half : al / 8 ≡ 2 * g.0 = ap (λ y. y / 8) g.1 ∙ dec_enc wide (2 * g.0) in
          subst (λ y. Small h (nb + y + 4)) (sym half)
          (trimmed (malloc wide h (nb + 2 * g.0 + 4))
          (malloc_source wide (state c w) h n (nb + 2 * g.0 + 4) (omega (arith, even wide (image c) w h (held c w h n) x r.fits))
          (omega arith) (big wide (image c) w h (held c w h n) x r.fits g.0 g.3))
          (ap (λ y. memalign wide h y nb) (sym half) ∙ r.by.is))
        where
          trimmed : (o : Option Grant) → Source wide h (nb + 2 * g.0 + 4) o → aligned wide o (2 * g.0) nb ≡ some r.by.grant
              → Small h (nb + 2 * g.0 + 4)
          trimmed none s q = some_none (sym q)
          trimmed (some a) s q =
              place_small (nb + 2 * g.0 + 4) (some a) s a refl (lead_to a.place (2 * g.0))
              (omega (
                arith,
                (lead_is a.place (2 * g.0) g.0 even_place refl (omega (arith, g.2))).most,
                least wide (image c) w h
                    (held c w h n) x r.fits,
              ))
              (omega (arith, z, r.by.place, ap place_of_lem q))
            where
              even_place : a.place % 2 ≡ 0
              even_place =
                  let m = malloc-grants wide h (nb + 2 * g.0 + 4) (tidy c w h n)
                  (omega (arith, even wide (image c) w h (held c w h n) x r.fits)) (omega arith) (some a) s in
                  starts_even' true 0 a.heap.chunks a.place (used m.words) m.changes.tidy.chunks refl m.block

  -- ---- its own place first

  module _ (off x p s : ℕ) (q : off ≡ block_of wide p) (st : Starts 0 h.chunks p (used s)) where
    abbrev pub here : Option Heap
    here = resize_here wide h (front (found c w h n off x s p q st).f) p s (need_words 8 x) (found c w h n off x s p q st).f.after

    -- the block stays: the rule grants its own place
    stays : x ≤ 8 * length w → live_size wide 0 h.chunks off ≡ some s → (k : Heap) → here ≡ some k
        → says c w (Realloc off x) ≡ granted off
    stays l z k own =
        let r : realloc wide h (place_of wide off) (need_words 8 x) ≡ some (grant p k) =
        ap (λ y. realloc wide h y (need_words 8 x)) (place_is c w h n off x s p q st)
        ∙ here_first wide h p s (need_words 8 x) (found c w h n off x s p q st) k own in
        answer c w h n (Realloc off x)
        ∙ ap (λ b. (pick b (refuse h too_many) (realloc_call wide h (live_size wide 0 h.chunks off) off x)).answer)
        (le-ltb (8 * length w) x l)
        ∙ ap (λ o. (realloc_call wide h o off x).answer) z ∙ ap (λ o. (moved_or6 wide h (place_of wide off) s o).answer) r ∙ ap granted (sym q)

    -- a grant of its own place is no move
    pub no_move : x ≤ 8 * length w → (g : Grant) → realloc wide h p (need_words 8 x) ≡ some g → g.place ≡ p → (o : Option Heap) → here ≡ o
        → (k : Heap) × (here ≡ some k)
    no_move l g r z (some k) y = (k, y)
    no_move l g r z none y =
        absurd (moves_away wide h p s (need_words 8 x) (tidy c w h n) st (even wide (image c) w h (held c w h n) x l)
        (least wide (image c) w h (held c w h n) x l) (source c w h n x l)
        (found c w h n off x s p q st) y g r z)

  pub own_place_first : (off x : ℕ) → says c w (Realloc off x) ≡ granted off ↔ (x ≤ 8 * length w) × OwnPlace h off x
  own_place_first off x = (forth, back)
    where
      forth : says c w (Realloc off x) ≡ granted off → (x ≤ 8 * length w) × OwnPlace h off x
      forth u =
          let r = by_realloc c w h n off x off u in
          let g = r.by.grant in
          let f = found c w h n off x r.words r.at r.block r.starts in (
            r.fits,
            (own_place h (tidy c w h n) off x r.at r.words f r.block r.starts).0
                (no_move off x r.at r.words r.block r.starts r.fits g r.by.is (omega (arith, r.block, r.by.place))
                (here off x r.at r.words r.block r.starts) refl),
          )

      back : (x ≤ 8 * length w) × OwnPlace h off x → says c w (Realloc off x) ≡ granted off
      back u =
          let b = u.1 in
          let k = (own_place h (tidy c w h n) off x b.0 b.1 (found c w h n off x b.1 b.0 b.3 b.2) b.3 b.2).1 b in
          stays off x b.0 b.1 b.3 b.2 u.0
          (ap (live_size wide 0 h.chunks) b.3 ∙ starts_live wide true 0 h.chunks b.0 b.1 (tidy c w h n).chunks b.2)
          k.0 k.1

  -- ---- which words

  pub reaches : (k : Call) (i : ℕ) → (GovernedIn (call_via wide h k) i → ⊥) → (Copies wide h k i → ⊥)
      → get_or (call_a wide c w k).words i 0 ≡ get_or w i 0
  unfolding call_a
  reaches k i f g = ap (λ (t : Told). get_or t.words i 0) (let_through wide (image c) w h (held c w h n) k)
      ∙ call_reaches wide (image c) w h (held c w h n) i k f g

  -- ---- usable

  pub usable : (off s : ℕ) → live_size wide 0 h.chunks off ≡ some s → says c w (Usable off) ≡ bytes (8 * s - 8)
  usable off s q = answer c w h n (Usable off) ∙ ap (λ z. (usable_call wide h z off).answer) q
      ∙ ap bytes (let z : 8 * (s - 1) ≡ 8 * s - 8 = omega arith in z)
