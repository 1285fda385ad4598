-- WHAT THE STEPS OF SMALL BINS REACH: links of the bin's members, and of the newcomer. The bin's link in the record leads to its newest member or
-- nowhere, and so do the links of a member; a write that goes nowhere is none. Assumes nothing.
use Rattle.std.specs.Prelude.{◌≡◌, true, eqb}
use Rattle.std.proofs.Common.{◌∙◌, subst, sym, arith}
use Rattle.std.proofs.Math.Path.{ap}
use mathlib.Core.List.{List, [], ◌∷◌}
use Prim.Native.Nat.{ℕ, ◌/◌, ◌≤◌, ◌<◌}
use Rattle.std.proofs.Math.ListN.{get_or}
use Rattle.words.specs.Logic.{pick, by}
use Rattle.words.specs.Edition.{Edition, W, no_link, enc}
use Rattle.words.specs.Fields.{fld, count_l, ind_self, skip, Inside}
use Rattle.words.specs.Fields as Fields
use Rattle.tiling.specs.Tiling.{free, Starts}
use Rattle.lists.specs.Links.{push_writes, cut_writes, push_within, Cut, cut_mem}
use Rattle.rules.specs.BinOf.{is_small, small_bin, bin_size}
use Rattle.rules.specs.Heap.{Heap}
use Rattle.holds.specs.Unique.{bin_once}
use Rattle.holds.specs.Where.{small_index}
use Rattle.chunk.specs.Bytes.{word, small, link_of}
use Rattle.chunk.specs.Image.{decode}
use Rattle.chunk.specs.Plain.{word_plain}
use Rattle.chunk.specs.PlainLinks.{link_plain}
use Rattle.chunk.specs.Held.{Held}
use Rattle.chunk.specs.ChunkReach.{Among}
use Rattle.smallbin.specs.SmallBytes.{small_bin_of, link_new_w, join_w, insert_small, unlink_small, unlink_first}
use Rattle.smallbin.specs.SmallSteps.{new_plain, join_plain, link_is}

module _ (e : Edition) (r w : List ℕ) (h : Heap) (loose : List ℕ) (n : Held e r w h loose) where
  -- into the bin of its size
  pub insert_small_among : (c s : ℕ) → is_small e s ≡ true → Starts 0 h.chunks c (free s) → Among 4 (λ y. 1 ≤ count_l y (c ∷ get_or h.small (small_bin e s) [])) w (insert_small e r w (enc e c) (enc e s)).words
  unfolding insert_small
  insert_small_among c s z sc = (
    push_writes e c (link_of small r i),
    ap (λ j. link_new_w e w (enc e c) (link_of small r j)) own ∙ new_plain e w c (link_of small r i) n.near.most,
    push_within e (λ y. 1 ≤ count_l y (c ∷ get_or h.small i [])) c (link_of small r i) (get_or h.small i []) (omega (arith, ind_self c)) (λ y u. omega arith) (link_is e r w h loose i last ∙ n.near.small.linked i last),
  )
    where
      i : ℕ
      i = small_bin e s

      last : i < 32
      last = (small_index e (decode r) w h loose n.near c s sc z).0

      own : small_bin_of (enc e s) ≡ i
      own = omega (arith, last)

  -- out of bin i
  module _ (i : ℕ) (l : i < 32) (c : ℕ) (m : 1 ≤ count_l c (get_or h.small i [])) where
    abbrev Member : ℕ → Type 0
    Member y = 1 ≤ count_l y (get_or h.small i [])

    cut : Cut e (fld w) (bin_size e i) c (get_or h.small i []) Member
    cut = cut_mem e (fld w) (bin_size e i) c (get_or h.small i []) Member (λ y u. u) (bin_once e (decode r) w h loose n.near i l) m (n.near.small.at i l)

    join_among : Among 4 Member w (join_w e w (word e w (enc e c) 2) (word e w (enc e c) 3))
    join_among = (cut_writes e (fld w) c, join_plain e w c n.near.most, cut.within)

    pub first_among : Among 4 Member w (unlink_first e r w (enc e c) i).words
    unfolding unlink_first fld
    first_among = (pick (eqb f (no_link e)) skip (Fields.put (f / W e) 3 (no_link e)) ∷ [], link_plain e w f 3 (no_link e) n.near.most, (older, tt))
      where
        f : ℕ
        f = word e w (enc e c) 2

        -- where a write goes, not what it writes
        other : (y k v u : ℕ) → Inside 4 Member (pick (eqb y (no_link e)) skip (Fields.put (y / W e) k v)) → Inside 4 Member (pick (eqb y (no_link e)) skip (Fields.put (y / W e) k u))
        other y k v u =
            by (λ b. Inside 4 Member (pick b skip (Fields.put (y / W e) k v)) → Inside 4 Member (pick b skip (Fields.put (y / W e) k u))) (eqb y (no_link e)) (λ _ _. tt) (λ _ q. q)

        older : Inside 4 Member (pick (eqb f (no_link e)) skip (Fields.put (f / W e) 3 (no_link e)))
        older =
            subst (λ y. Inside 4 Member (pick (eqb y (no_link e)) skip (Fields.put (y / W e) 3 (no_link e)))) (sym (word_plain e w c 2))
            (other (fld w c 2) 3 (fld w c 3) (no_link e) cut.within.0)

  pub unlink_small_among : (c s : ℕ) → is_small e s ≡ true → Starts 0 h.chunks c (free s) → 1 ≤ count_l c (get_or h.small (small_bin e s) [])
      → Among 4 (λ y. 1 ≤ count_l y (get_or h.small (small_bin e s) [])) w (unlink_small e r w (enc e c) (enc e s)).words
  unfolding unlink_small
  unlink_small_among c s z sc m = join_among (small_bin e s) (small_index e (decode r) w h loose n.near c s sc z).0 c m
