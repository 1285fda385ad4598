-- What the core works on: an image and words that hold a heap, but for the free chunks `loose`. The steps of the record's scalars and of the
-- tiling, in bytes: each takes what is held to what the rule says. A step law is a plain equation (`Plain`), a law of the image (`Image`), and
-- the step law of `holds`. Assumes nothing.
use Rattle.std.specs.Prelude.{◌≡◌, ℕ, ◌+◌, ◌-◌, ◌*◌, ◌%◌, ◌<◌, ◌≤◌, Bool, true, false, ltb, leb, List, [], ◌∷◌, ◌++◌, length, nat_le, nat_lt, slice_index, slice_index_or, refl}
use Rattle.std.proofs.Common.{sym, ◌∙◌, ap, subst, arith, leb-true, leb-false, ltb-true, ltb-false, le-leb, lt-ltb, le-ltb}
use Rattle.std.proofs.Math.Option.{Option, none, some}
use Rattle.std.proofs.lemmas.Bool.{lt-leb}
use Rattle.words.specs.Logic.{pick, pick_case}
use Rattle.words.specs.Edition.{Edition, wide, narrow, W, no_link, enc}
use Rattle.words.specs.Fields.{count_l}
use Rattle.tiling.specs.Tiling.{Chunk, used, free, end_of, last_use, Heads, Starts}
use Rattle.tiling.specs.Free.{free_at}
use Rattle.tiling.specs.Swaps.{Swap}
use Rattle.tiling.specs.Steps.{top_words}
use Rattle.rules.specs.Heap.{Heap, heap_dv, heap_chunks, heap_tiles}
use Rattle.rules.specs.Binning.{retile, spare_words, dv_words}
use Rattle.holds.specs.Holds.{Near, SpareAt}
use Rattle.holds.specs.Ops.{state}
use Rattle.holds.specs.Bin.{no_dv, set_dv, set_dv_lem, drop_dv}
use Rattle.holds.specs.Retile.{swap_near, swap_top}
use Rattle.holds.specs.Spot.{spot, looked_up}
use Rattle.holds.specs.Serving.{split_near, take_near, top_near}
use Rattle.chunk.specs.Bytes as B
use Rattle.chunk.specs.Bytes.{wrap, set_top, used_w, top_w, take_w, split_w}
use Rattle.chunk.specs.Image.{by_front, decode, decode_is, decode_top, decode_dv, length_top, length_dv}
use Rattle.chunk.specs.Plain.{small_sum, small_rest, cut_top_plain, split_plain, take_plain}

pub record Held (e : Edition) (r w : List ℕ) (h : Heap) (loose : List ℕ) : Type 0 where
  pub image : length r ≡ 72
  pub near : Near e (decode r) w h loose

-- ---- orders in bytes are orders in words

module _ (e : Edition) (a b : ℕ) where
  pub leb_bytes : leb (W e * a) (W e * b) ≡ nat_le a b
  leb_bytes = pick_case (λ z. nat_le (W e * a) (W e * b) ≡ z) (nat_le a b) (λ z. le-leb (W e * a) (W e * b) (up e (leb-true a b z))) (λ z. lt-leb (W e * a) (W e * b) (down e (leb-false a b z))) ∙ eta (nat_le a b)
    where
      up : (e : Edition) → a ≤ b → W e * a ≤ W e * b
      up wide l = omega arith
      up narrow l = omega arith

      down : (e : Edition) → b < a → W e * b < W e * a
      down wide l = omega arith
      down narrow l = omega arith

      eta : (z : Bool) → pick z true false ≡ z
      eta true = refl
      eta false = refl

  pub ltb_bytes : ltb (W e * a) (W e * b) ≡ nat_lt a b
  ltb_bytes = pick_case (λ z. nat_lt (W e * a) (W e * b) ≡ z) (nat_lt a b) (λ z. lt-ltb (W e * a) (W e * b) (up e (ltb-true a b z))) (λ z. le-ltb (W e * a) (W e * b) (down e (ltb-false a b z))) ∙ eta (nat_lt a b)
    where
      up : (e : Edition) → a < b → W e * a < W e * b
      up wide l = omega arith
      up narrow l = omega arith

      down : (e : Edition) → b ≤ a → W e * b ≤ W e * a
      down wide l = omega arith
      down narrow l = omega arith

      eta : (z : Bool) → pick z true false ≡ z
      eta true = refl
      eta false = refl

-- ---- the record's scalars

module _ (e : Edition) (r w : List ℕ) (h : Heap) (loose : List ℕ) (n : Held e r w h loose) where
  pub top_at_lem : slice_index_or r 4 0 ≡ enc e (end_of 0 h.chunks)
  top_at_lem = (decode_is r).2 ∙ n.near.top_place

  pub top_size_lem : slice_index_or r 5 0 ≡ enc e h.top
  top_size_lem = (decode_is r).3 ∙ n.near.top_size_lem

  pub dv_size_lem : slice_index_or r 3 0 ≡ enc e (dv_words h)
  dv_size_lem = (decode_is r).1 ∙ go h.dv n.near.spare
    where
      go : (d : Option ℕ) → SpareAt e (decode r).dv (decode r).dv_size h.chunks d → (decode r).dv_size ≡ enc e (spare_words h.chunks d)
      go none sp = sp.1 ∙ omega arith
      go (some d) sp = sp.3 ∙ ap (λ s. W e * s) (sym (looked_up e (state (decode r) w) h loose d sp.0 n.near sp.1))

  pub dv_at_lem : (d : ℕ) → h.dv ≡ some d → slice_index r 2 ≡ enc e d
  dv_at_lem d q = (decode_is r).0 ∙ go h.dv q n.near.spare
    where
      go : (o : Option ℕ) → o ≡ some d → SpareAt e (decode r).dv (decode r).dv_size h.chunks o → (decode r).dv ≡ enc e d
      go none q sp = absurd (let k : ◌≡◌ {A = ℕ} 0 1 = cc in let b : ⊥ = omega arith in b)
      go (some x) q sp = sp.2 ∙ ap (enc e) (let k : x ≡ d = cc in k)

-- ---- the spare chunk is let go, is set

pub drop_step : (e : Edition) (r w : List ℕ) (h : Heap) (d : ℕ) (loose : List ℕ) → h.dv ≡ some d → Held e r w h loose → Held e (B.set_dv r (no_link e) 0) w (heap_dv h none) (d ∷ loose)
unfolding no_dv
drop_step e r w h d loose q n = record {
  image = length_dv r (no_link e) 0 n.image;
  near = subst (λ c. Near e c w (heap_dv h none) (d ∷ loose)) (sym (decode_dv r (no_link e) 0 n.image)) (drop_dv e (state (decode r) w) h d loose q n.near);
}

pub dv_step : (e : Edition) (r w : List ℕ) (h : Heap) (p s : ℕ) (loose : List ℕ) → h.dv ≡ none → Held e r w h (p ∷ loose) → Starts 0 h.chunks p (free s)
    → Held e (B.set_dv r (enc e p) (enc e s)) w (heap_dv h (some p)) loose
unfolding set_dv
dv_step e r w h p s loose q n st = record {
  image = length_dv r (enc e p) (enc e s) n.image;
  near = subst (λ c. Near e c w (heap_dv h (some p)) loose) (sym (decode_dv r (enc e p) (enc e s) n.image)) (set_dv_lem e (state (decode r) w) h p s loose q n.near st);
}

-- setting it anew
pub dv_twice : (r : List ℕ) (c n d k : ℕ) → length r ≡ 72 → B.set_dv (B.set_dv r c n) d k ≡ B.set_dv r d k
dv_twice r c n d k l = by_front (λ z. B.set_dv (B.set_dv z c n) d k ≡ B.set_dv z d k) (λ _ _ _ _ _ _ _ _ _. refl) r (omega arith)

-- ---- from the top

pub top_step : (e : Edition) (r w : List ℕ) (h : Heap) (nb : ℕ) → nb % 2 ≡ 0 → 4 ≤ nb → nb < h.top → Held e r w h []
    → let p = end_of 0 h.chunks in
    Held e (set_top r (wrap e (enc e p + enc e nb)) (enc e h.top - enc e nb)) (used_w e (top_w e w (wrap e (enc e p + enc e nb)) (enc e h.top - enc e nb)) (enc e p) (enc e nb))
    (heap_tiles h (h.chunks ++ (used nb ∷ [])) (h.top - nb)) []
top_step e r w h nb v l lt n =
    rw (small_rest e h.top nb, cut_top_plain e w p nb (h.top - nb) (omega (arith, room, n.near.most)), small_sum e p nb (omega (arith, room, n.near.most)))
    record {
      image = length_top r (enc e (p + nb)) (enc e (h.top - nb)) n.image;
      near = subst (λ c. Near e c (top_words e w p nb (h.top - nb)) (heap_tiles h (h.chunks ++ (used nb ∷ [])) (h.top - nb)) []) (sym (decode_top r (enc e (p + nb)) (enc e (h.top - nb)) n.image))
          (top_near e (state (decode r) w) h nb v l lt n.near);
    }
  where
    p : ℕ
    p = end_of 0 h.chunks

    room : p + h.top + 10 ≡ length w
    room = n.near.heads.top.ends

-- ---- a loose free chunk is cut, is taken whole

module _ (e : Edition) (r w : List ℕ) (h : Heap) (p s : ℕ) (loose : List ℕ) (st : Starts 0 h.chunks p (free s)) (n : Held e r w h (p ∷ loose)) where
  near_end : p + s ≤ 8192
  near_end = let k = spot e (state (decode r) w) h (p ∷ loose) p s n.near st in omega (arith, k.place, k.next.fits, n.near.most)

  pub split_step : (nb : ℕ) → nb % 2 ≡ 0 → 4 ≤ nb → nb + 4 ≤ s
      → Held e r (split_w e w (enc e p) (enc e nb) (enc e (s - nb))) (heap_chunks h (retile 0 h.chunks p (used nb ∷ free (s - nb) ∷ []))) ((p + nb) ∷ loose)
      × Starts 0 (retile 0 h.chunks p (used nb ∷ free (s - nb) ∷ [])) (p + nb) (free (s - nb))
  split_step nb v l fit =
      let k = spot e (state (decode r) w) h (p ∷ loose) p s n.near st in
      let g = split_near e (state (decode r) w) h loose p s n.near k nb (s - nb) (omega arith) v l (omega arith) in (
        record {
          image = n.image;
          near = subst (λ x. Near e (decode r) x (heap_chunks h (retile 0 h.chunks p (used nb ∷ free (s - nb) ∷ []))) ((p + nb) ∷ loose)) (sym (split_plain e w p nb (s - nb) (omega (arith, near_end)))) g.0;
        },
        g.1,
      )

  pub take_step : Held e r (take_w e w (enc e p) (enc e s)) (heap_chunks h (retile 0 h.chunks p (used s ∷ []))) loose
  take_step =
      let k = spot e (state (decode r) w) h (p ∷ loose) p s n.near st in
      record {
        image = n.image;
        near = subst (λ x. Near e (decode r) x (heap_chunks h (retile 0 h.chunks p (used s ∷ []))) loose)
            (sym (take_plain e w p s k.next.words near_end k.here.least (ap (λ a. slice_index w (a + s + 1)) k.place ∙ k.next.here.head)))
            (take_near e (state (decode r) w) h loose p s n.near k);
      }

-- ---- the chunks are told anew: in the middle, and at the end with the top

pub swap_step : (e : Edition) (r w v : List ℕ) (h : Heap) (loose loose' : List ℕ) (xs mid new ys : List Chunk) → h.chunks ≡ xs ++ (mid ++ ys) → Held e r w h loose → Swap e w v (end_of 0 xs) (last_use true xs) mid new
    → ((x : ℕ) → free_at (end_of 0 xs) mid x ≤ count_l x loose) → ((x : ℕ) → count_l x loose' + free_at (end_of 0 xs) mid x ≡ count_l x loose + free_at (end_of 0 xs) new x)
    → Held e r v (heap_chunks h (xs ++ (new ++ ys))) loose'
swap_step e r w v h loose loose' xs mid new ys q n s cov bal = record { image = n.image; near = swap_near e (decode r) w v h loose loose' xs mid new ys q n.near s cov bal }

pub swap_top_step : (e : Edition) (r w v : List ℕ) (h : Heap) (loose loose' : List ℕ) (xs mid new : List Chunk) (ts : ℕ) → h.chunks ≡ xs ++ mid → Held e r w h loose → length v ≡ length w → Heads e v (xs ++ new) ts
    → ((i : ℕ) → i ≤ end_of 0 xs → slice_index v i ≡ slice_index w i)
    → ((x : ℕ) → free_at (end_of 0 xs) mid x ≤ count_l x loose) → ((x : ℕ) → count_l x loose' + free_at (end_of 0 xs) mid x ≡ count_l x loose + free_at (end_of 0 xs) new x)
    → Held e (set_top r (enc e (end_of 0 (xs ++ new))) (enc e ts)) v (heap_tiles h (xs ++ new) ts) loose'
swap_top_step e r w v h loose loose' xs mid new ts q n l hd lo cov bal = record {
  image = length_top r (enc e (end_of 0 (xs ++ new))) (enc e ts) n.image;
  near = subst (λ c. Near e c v (heap_tiles h (xs ++ new) ts) loose') (sym (decode_top r (enc e (end_of 0 (xs ++ new))) (enc e ts) n.image))
      (swap_top e (decode r) w v h loose loose' xs mid new ts q n.near l hd lo cov bal);
}
