-- The steps of small bins keep what is held: a loose chunk goes into the bin of its size, a member leaves it. Each is the step law of `holds`,
-- reached by the plain equation of its words and the law of the image. Assumes nothing.
use Rattle.std.specs.Prelude.{◌≡◌, refl, Bool, true, false, eqb, length, set}
use Rattle.std.proofs.Common.{sym, ◌∙◌, ap, ap₂, arith, length-set, eqb-true, eq-eqb, ne_eqb}
use Rattle.std.proofs.Math.Path.{subst}
use mathlib.Core.List.{List, [], ◌∷◌}
use Prim.Native.Nat.{ℕ, ◌+◌, ◌/◌, ◌%◌, ◌≤◌, ◌<◌}
use Rattle.std.proofs.Math.ListN.{get_or}
use Rattle.std.proofs.lemmas.List.{set-get_or}
use Rattle.std.proofs.lemmas.Bool.{eqb-false}
use Rattle.words.specs.Logic.{pick}
use Rattle.words.specs.Edition.{Edition, W, no_link, none_free, enc, dec_enc}
use Rattle.words.specs.Fields.{Write, skip, fld, do_w, write_w, length-do_w, count_l, ind_self}
use Rattle.words.specs.Fields as Fields
use Rattle.words.specs.Places.{remove}
use Rattle.tiling.specs.Tiling.{free, Starts}
use Rattle.lists.specs.Links.{Links, push_writes, cut_writes}
use Rattle.rules.specs.BinOf.{is_small, small_bin, bin_size}
use Rattle.rules.specs.Heap.{Heap, heap_small}
use Rattle.holds.specs.Holds.{Control, Near, head_link}
use Rattle.holds.specs.Ops.{with_small, unmark, push_small, cut_small}
use Rattle.holds.specs.BinSmall.{push_small_lem, cut_small_lem}
use Rattle.holds.specs.Where.{small_index}
use Rattle.chunk.specs.Bytes.{word, put, small, link_of, enter_r, relink_r}
use Rattle.chunk.specs.Image.{decode, decode_same, get_link, decode_enter, decode_relink, length_enter, length_relink}
use Rattle.chunk.specs.Plain.{word_plain}
use Rattle.chunk.specs.PlainLinks.{put_none, link_plain}
use Rattle.chunk.specs.Held.{Held}
use Rattle.smallbin.specs.SmallBytes.{small_bin_of, link_new_w, join_w, insert_small, unlink_small, unlink_first}

-- ---- words

pub new_plain : (e : Edition) (w : List ℕ) (q f : ℕ) → length w ≤ 8192 → link_new_w e w (enc e q) f ≡ write_w w (push_writes e q f)
new_plain e w q f l = rw (dec_enc e q) (ap (λ v. set (set v (q + 2) f) (q + 3) (no_link e)) (link_plain e w f 3 (enc e q) l))

pub join_plain : (e : Edition) (w : List ℕ) (c : ℕ) → length w ≤ 8192 → join_w e w (word e w (enc e c) 2) (word e w (enc e c) 3) ≡ write_w w (cut_writes e (fld w) c)
unfolding fld
join_plain e w c l =
    rw (dec_enc e c) (ap (λ v. put e v (get_or w (c + 3) 0) 2 (get_or w (c + 2) 0)) (link_plain e w (get_or w (c + 2) 0) 3 (get_or w (c + 3) 0) l)
    ∙ link_plain e (do_w w u) (get_or w (c + 3) 0) 2 (get_or w (c + 2) 0) (rw (length-do_w w u) l))
  where
    u : Write
    u = pick (eqb (get_or w (c + 2) 0) (no_link e)) skip (Fields.put (get_or w (c + 2) 0 / W e) 3 (get_or w (c + 3) 0))

-- ---- into bin i

module _ (e : Edition) (r w : List ℕ) (h : Heap) (loose : List ℕ) (i : ℕ) (l : i < 32) where
  abbrev bin : List ℕ
  bin = get_or h.small i []

  pub link_is : link_of small r i ≡ get_or (decode r).heads i 0
  link_is = let q : i % 32 ≡ i = omega arith in ap (λ j. get_or r (8 + j) 0) q ∙ get_link small r i l

  insert_at : (q : ℕ) → Held e r w h (q ∷ loose) → Starts 0 h.chunks q (free (bin_size e i))
      → Held e (enter_r small r i (enc e q)) (link_new_w e w (enc e q) (link_of small r i)) (heap_small h (set h.small i (q ∷ bin))) loose
  unfolding push_small
  insert_at q n st = record {
    image = length_enter small r i (enc e q) l n.image;
    near = rw (decode_enter small r i (enc e q) l n.image, link_is, new_plain e w q (get_or (decode r).heads i 0) n.near.most)
        (push_small_lem e (decode r) w h q loose i l n.near st);
  }

  -- ---- out of bin i

  module _ (c : ℕ) (n : Held e r w h loose) (m : 1 ≤ count_l c bin) where
    -- the newest leaves
    newest_leaves : get_or w (c + 3) 0 ≡ no_link e → Held e (relink_r e small r i (word e w (enc e c) 2)) (join_w e w (word e w (enc e c) 2) (word e w (enc e c) 3)) (heap_small h (set h.small i (remove c bin))) (c ∷ loose)
    unfolding cut_small fld
    newest_leaves z = record {
      image = length_relink small r i (word e w (enc e c) 2) l n.image e;
      near = subst (λ (t : Control). Near e t (join_w e w (word e w (enc e c) 2) (word e w (enc e c) 3)) (heap_small h (set h.small i (remove c bin))) (c ∷ loose)) record_is
          (subst (λ v. Near e (with_small (decode r) (unmark e i x (decode r).small_map) (set (decode r).heads i x)) v (heap_small h (set h.small i (remove c bin))) (c ∷ loose)) (sym (join_plain e w c n.near.most))
          (cut_small_lem e (decode r) w h c loose i l n.near m));
    }
      where
        x : ℕ
        x = pick (eqb (get_or w (c + 3) 0) (no_link e)) (get_or w (c + 2) 0) (get_or (decode r).heads i 0)

        x_is : x ≡ word e w (enc e c) 2
        x_is = rw (eq-eqb (get_or w (c + 3) 0) (no_link e) z) (sym (word_plain e w c 2))

        record_is : with_small (decode r) (unmark e i x (decode r).small_map) (set (decode r).heads i x) ≡ decode (relink_r e small r i (word e w (enc e c) 2))
        record_is = ap (λ v. with_small (decode r) (unmark e i v (decode r).small_map) (set (decode r).heads i v)) x_is ∙ sym (decode_relink small r i (word e w (enc e c) 2) l n.image e)

    -- an older one leaves: the bin's head stays
    older_leaves : (get_or w (c + 3) 0 ≡ no_link e → ⊥) → Held e r (join_w e w (word e w (enc e c) 2) (word e w (enc e c) 3)) (heap_small h (set h.small i (remove c bin))) (c ∷ loose)
    unfolding cut_small fld
    older_leaves z = record {
      image = n.image;
      near = subst (λ (t : Control). Near e t (join_w e w (word e w (enc e c) 2) (word e w (enc e c) 3)) (heap_small h (set h.small i (remove c bin))) (c ∷ loose)) record_is
          (subst (λ v. Near e (with_small (decode r) (unmark e i x (decode r).small_map) (set (decode r).heads i x)) v (heap_small h (set h.small i (remove c bin))) (c ∷ loose)) (sym (join_plain e w c n.near.most))
          (cut_small_lem e (decode r) w h c loose i l n.near m));
    }
      where
        x : ℕ
        x = pick (eqb (get_or w (c + 3) 0) (no_link e)) (get_or w (c + 2) 0) (get_or (decode r).heads i 0)

        x_is : x ≡ get_or (decode r).heads i 0
        x_is = rw (ne_eqb (get_or w (c + 3) 0) (no_link e) z) refl

        some_head : (ps : List ℕ) → 1 ≤ count_l c ps → head_link e ps ≡ no_link e → ⊥
        some_head [] u q = omega arith
        some_head (p ∷ ps) u q = none_free e p q

        filled : get_or (decode r).heads i 0 ≡ no_link e → ⊥
        filled q = some_head bin m (sym (n.near.small.linked i l) ∙ q)

        record_is : with_small (decode r) (unmark e i x (decode r).small_map) (set (decode r).heads i x) ≡ decode r
        record_is =
            ap (λ v. with_small (decode r) (unmark e i v (decode r).small_map) (set (decode r).heads i v)) x_is
            ∙ ap₂ (λ m l. with_small (decode r) m l) (rw (ne_eqb (get_or (decode r).heads i 0) (no_link e) filled) refl) (set-get_or (decode r).heads i 0) ∙ decode_same small r

    unlink_at : Held e (pick (eqb (word e w (enc e c) 3) (no_link e)) (relink_r e small r i (word e w (enc e c) 2)) r) (join_w e w (word e w (enc e c) 2) (word e w (enc e c) 3))
        (heap_small h (set h.small i (remove c bin))) (c ∷ loose)
    unlink_at = go (eqb (word e w (enc e c) 3) (no_link e)) refl
      where
        go : (b : Bool) → eqb (word e w (enc e c) 3) (no_link e) ≡ b → Held e (pick b (relink_r e small r i (word e w (enc e c) 2)) r) (join_w e w (word e w (enc e c) 2) (word e w (enc e c) 3))
            (heap_small h (set h.small i (remove c bin))) (c ∷ loose)
        go true q = newest_leaves (sym (word_plain e w c 3) ∙ eqb-true (word e w (enc e c) 3) (no_link e) q)
        go false q = older_leaves (λ z. eqb-false (word e w (enc e c) 3) (no_link e) q (word_plain e w c 3 ∙ z))

  -- the first of the bin
  first_at : (c : ℕ) (xs : List ℕ) → bin ≡ c ∷ xs → Held e r w h loose
      → Held e (relink_r e small r i (word e w (enc e c) 2)) (put e w (word e w (enc e c) 2) 3 (no_link e)) (heap_small h (set h.small i (remove c bin))) (c ∷ loose)
  unfolding fld
  first_at c xs q n =
      subst (λ v. Held e (relink_r e small r i (word e w (enc e c) 2)) v (heap_small h (set h.small i (remove c bin))) (c ∷ loose)) words
      (newest_leaves c n (subst (λ ps. 1 ≤ count_l c ps) (sym q) (let z : 1 ≤ count_l c (c ∷ xs) = omega (arith, ind_self c) in z)) last)
    where
      last : get_or w (c + 3) 0 ≡ no_link e
      last = (subst (λ ps. Links_of ps) q (n.near.small.at i l).links).0
        where
          Links_of : List ℕ → Type 0
          Links_of ps = Links e (fld w) (no_link e) ps (no_link e)

      words : join_w e w (word e w (enc e c) 2) (word e w (enc e c) 3) ≡ put e w (word e w (enc e c) 2) 3 (no_link e)
      words =
          ap (join_w e w (word e w (enc e c) 2)) (word_plain e w c 3 ∙ last)
          ∙ put_none e (put e w (word e w (enc e c) 2) 3 (no_link e)) 2 (word e w (enc e c) 2) (simp length-set n.near.most)

-- ---- by the size

module _ (e : Edition) (r w : List ℕ) (h : Heap) (loose : List ℕ) (c s : ℕ) (z : is_small e s ≡ true) where
  own_bin : small_bin e s < 32 → small_bin_of (enc e s) ≡ small_bin e s
  own_bin l = omega arith

  pub insert_small_step : Held e r w h (c ∷ loose) → Starts 0 h.chunks c (free s)
      → Held e (insert_small e r w (enc e c) (enc e s)).image (insert_small e r w (enc e c) (enc e s)).words (heap_small h (set h.small (small_bin e s) (c ∷ get_or h.small (small_bin e s) []))) loose
  unfolding insert_small
  insert_small_step n st =
      let i = small_index e (decode r) w h (c ∷ loose) n.near c s st z in
      subst (λ j. Held e (enter_r small r j (enc e c)) (link_new_w e w (enc e c) (link_of small r j)) (heap_small h (set h.small (small_bin e s) (c ∷ get_or h.small (small_bin e s) []))) loose) (sym (own_bin i.0))
      (insert_at e r w h loose (small_bin e s) i.0 c n (subst (λ k. Starts 0 h.chunks c (free k)) (sym i.1) st))

  pub unlink_small_step : Held e r w h loose → Starts 0 h.chunks c (free s) → 1 ≤ count_l c (get_or h.small (small_bin e s) [])
      → Held e (unlink_small e r w (enc e c) (enc e s)).image (unlink_small e r w (enc e c) (enc e s)).words (heap_small h (set h.small (small_bin e s) (remove c (get_or h.small (small_bin e s) [])))) (c ∷ loose)
  unfolding unlink_small
  unlink_small_step n st m =
      let i = small_index e (decode r) w h loose n.near c s st z in
      subst (λ j. Held e (pick (eqb (word e w (enc e c) 3) (no_link e)) (relink_r e small r j (word e w (enc e c) 2)) r) (join_w e w (word e w (enc e c) 2) (word e w (enc e c) 3))
      (heap_small h (set h.small (small_bin e s) (remove c (get_or h.small (small_bin e s) [])))) (c ∷ loose)) (sym (own_bin i.0))
      (unlink_at e r w h loose (small_bin e s) i.0 c n m)

-- the newest of bin i
pub unlink_first_step : (e : Edition) (r w : List ℕ) (h : Heap) (loose : List ℕ) (i c : ℕ) (xs : List ℕ) → i < 32 → get_or h.small i [] ≡ c ∷ xs → Held e r w h loose
    → Held e (unlink_first e r w (enc e c) i).image (unlink_first e r w (enc e c) i).words (heap_small h (set h.small i (remove c (get_or h.small i [])))) (c ∷ loose)
unfolding unlink_first
unlink_first_step e r w h loose i c xs l q n = first_at e r w h loose i l c xs q n
