-- THE REBUILD IS RIGHT: it is granted exactly when the heads, flags, free feet and the foot word tell a tiling, the first two points of
-- document 01's "Sound"; what it leaves is then held, with those chunks and no spare chunk, and passes the check; it wrote links of free
-- chunks only, so every owner's words are as they were. Refused, it hands back the empty record and the words as given. Both editions,
-- every arena. Assumes nothing.
use Rattle.std.specs.Prelude.{◌≡◌, true, false, ◌&&◌, ℕ, ◌+◌, ◌-◌, ◌*◌, ◌%◌, ◌≤◌, ◌<◌, eqb, length, get_or, replicate}
use Rattle.std.proofs.Math.Path.{refl, sym}
use Rattle.std.proofs.Common.{◌∙◌, ap, subst, inl, inr, ⊎_elim, arith, eqb-true, eq-eqb, ne_eqb, le-ltb}
use mathlib.Core.List.{List, []}
use Rattle.std.proofs.lemmas.List.{get_or-replicate}
use Rattle.words.specs.Logic.{Decides, pick, pick_case, same?}
use Rattle.words.specs.Edition.{Edition, wide, narrow, W, no_link, enc, none_free}
use Rattle.words.specs.Fields.{fld, count_l}
use Rattle.tiling.specs.Tiling.{Chunk, used, end_of, Heads, Starts}
use Rattle.tiling.specs.Steps.{fresh_words}
use Rattle.lists.specs.Links.{keep_list}
use Rattle.tries.specs.Tree.{leaf, count}
use Rattle.tries.specs.TreeAt.{link}
use Rattle.rules.specs.BinOf.{is_small, bin_size, trie_least}
use Rattle.rules.specs.Heap.{Heap, holds_some, grows_some, fresh_heap}
use Rattle.holds.specs.Bins.{bins_keep, sum_empty}
use Rattle.holds.specs.Holds.{Control, Near, Holds, SmallAt, TrieAt, SmallBins, TreeBins, head_link, fresh_control}
use Rattle.holds.specs.Frame.{keep_trie}
use Rattle.holds.specs.Unique.{fresh_holds}
use Rattle.holds.specs.Governed.{Linked, owner_apart}
use Rattle.holds.specs.Where.{small_member, trie_member}
use Rattle.chunk.specs.Bytes.{Store}
use Rattle.chunk.specs.Plain.{word_plain, small_rest}
use Rattle.chunk.specs.Image.{decode}
use Rattle.marks.specs.Marks.{turns}
use Rattle.sound.specs.SoundBytes.{count_ok}
use Rattle.decides.specs.SoundLaws.{count_yes, sound_there, decides_of}
use Rattle.rebuild.specs.RebuildBytes.{top_of, seek_top, fill_from, empty_image, Rebuilt, refuses}
use Rattle.rebuild.specs.RebuildBytes.{grants, with_top, allowed_start, rebuild_b}
use Rattle.rebuild.specs.Rebuilding.{bare_heap, rebuilt_heap, free_places, count_places, enter_stays}
use Rattle.rebuild.proofs.SeekLaws.{seek_yes, seek_there}
use Rattle.rebuild.specs.FillSteps.{Filling, Filled}
use Rattle.rebuild.proofs.FillSteps.{fills}
use Rattle.rebuild.specs.RebuildLaws.{BinWord, Rebuilds, Tiling, bare_control}

-- ---- the bare record

decode-empty : (e : Edition) (top ts len : ℕ) → decode (empty_image e top ts len) ≡ bare_control e top ts len
unfolding decode empty_image bare_control
decode-empty e top ts len = refl

length-empty : (e : Edition) (top ts len : ℕ) → length (empty_image e top ts len) ≡ 72
unfolding empty_image
length-empty e top ts len = refl

-- empty bins ask nothing of the words
module _ (e : Edition) (w : List ℕ) (even : length w % 2 ≡ 0) (least : 16 ≤ length w) (most : length w ≤ 8192) where
  fresh : Holds e (fresh_control e (length w)) (fresh_words e w) (fresh_heap (length w))
  fresh = fresh_holds e w even least most

  no_list : SmallBins e (fld w) 0 (replicate 32 (no_link e)) (replicate 32 [])
  no_list =
      bins_keep [] holds_some (head_link e) (SmallAt e) (fld (fresh_words e w)) (fld w) 0 (replicate 32 (no_link e)) (replicate 32 [])
      (λ i l. keep_list e (fld (fresh_words e w)) (fld w) (bin_size e i) (get_or (replicate 32 []) i [])
      (λ x u. absurd (let z : ⊥ = omega (arith, u, ap (count_l x) (get_or-replicate {A = List ℕ} 32 i [] [] l)) in z))) fresh.small

  no_tree : TreeBins e (fld w) 0 (replicate 32 (no_link e)) (replicate 32 leaf)
  no_tree =
      bins_keep leaf grows_some (link e) (TrieAt e) (fld (fresh_words e w)) (fld w) 0 (replicate 32 (no_link e)) (replicate 32 leaf)
      (λ i l. keep_trie e (fld (fresh_words e w)) (fld w) i (get_or (replicate 32 leaf) i leaf)
      (λ x u. absurd (let z : ⊥ = omega (arith, u, ap (count x) (get_or-replicate 32 i leaf leaf l)) in z))) fresh.tries

  -- every free chunk is loose
  bare_near : (cs : List Chunk) (ts : ℕ) → Heads e w cs ts
      → Near e (bare_control e (enc e (end_of 0 cs)) (enc e ts) (W e * length w)) w (bare_heap cs ts) (free_places 0 cs)
  unfolding bare_control
  bare_near cs ts k =
      record {
        even = even;
        least = least;
        most = most;
        long = refl;
        heads = k;
        top_place = refl;
        top_size_lem = refl;
        spare = (refl, refl);
        small = no_list;
        tries = no_tree;
        tie = λ x. omega (arith, sum_empty (count_l x) [] 32 refl, sum_empty (count x) leaf 32 refl, count_places 0 cs x);
      }

  starting : (cs : List Chunk) (ts : ℕ) → Heads e w cs ts
      → Filling e 0 cs (empty_image e (enc e (end_of 0 cs)) (enc e ts) (W e * length w)) w (bare_heap cs ts)
  starting cs ts k =
      record {
        held = record {
          image = length-empty e (enc e (end_of 0 cs)) (enc e ts) (W e * length w);
          near = subst (λ c. Near e c w (bare_heap cs ts) (free_places 0 cs))
              (sym (decode-empty e (enc e (end_of 0 cs)) (enc e ts) (W e * length w))) (bare_near cs ts k);
        };
        part = λ q c s. s;
        ends = refl;
      }

-- ---- the top

end_bytes : (e : Edition) (n : ℕ) → W e * n - 10 * W e ≡ enc e (n - 10)
end_bytes wide n = omega arith
end_bytes narrow n = omega arith

ten : (e : Edition) → 10 * W e ≡ W e * 10
ten wide = refl
ten narrow = refl

zero_bytes : (e : Edition) → 0 ≡ enc e 0
zero_bytes e = omega arith

module _ (e : Edition) (w : List ℕ) (even : length w % 2 ≡ 0) (least : 16 ≤ length w) (most : length w ≤ 8192) where
  -- the top's end, in words
  abbrev t : ℕ
  t = length w - 10

  whole : top_of e w (enc e t) ≡ pick (eqb (get_or w (t + 1) 0) (10 * W e)) (seek_top e w (enc e t) turns (enc e 0) true) (no_link e)
  unfolding top_of
  whole = rw (word_plain e w t 1, sym (zero_bytes e)) refl

  pub top_found : (cs : List Chunk) (ts : ℕ) → Heads e w cs ts → top_of e w (enc e t) ≡ enc e (end_of 0 cs)
  top_found cs ts k =
      let z : t + 1 ≡ end_of 0 cs + ts + 1 = omega (arith, k.top.ends) in
      let foot : get_or w (t + 1) 0 ≡ W e * 10 = ap (λ i. get_or w i 0) z ∙ k.top.foot in
      whole ∙ ap (λ b. pick b (seek_top e w (enc e t) turns (enc e 0) true) (no_link e))
      (eq-eqb (get_or w (t + 1) 0) (10 * W e) (foot ∙ sym (ten e)))
      ∙ seek_there e w t (omega (arith, least)) (omega (arith, even, least)) foot turns 0 true cs ts refl k (omega (arith, most))

  pub top_told : (top_of e w (enc e t) ≡ no_link e → ⊥) → Tiling e w
  top_told n =
      pick_case (λ x. (x ≡ no_link e → ⊥) → Tiling e w) (eqb (get_or w (t + 1) 0) (10 * W e))
      (λ z m. let s = seek_yes e w t (omega (arith, least)) (omega (arith, even, least))
      (eqb-true (get_or w (t + 1) 0) (10 * W e) z ∙ ten e) turns 0 true refl (omega arith) m in (s.0, s.1, s.2))
      (λ z m. absurd (m refl)) (λ z. n (whole ∙ z))

-- ---- all of it

module _ (e : Edition) (r : Control) (w : List ℕ) (h : Heap) (n : Holds e r w h) where
  linked_bin : (i : ℕ) → Linked h i → BinWord e h.chunks i
  linked_bin i (inl (b, x, l, m, (j, lo, hi, q))) = (
    x,
    bin_size e b,
    small_member e r w h [] n b l x m,
    (j, lo, pick_case (λ d. j < d) (is_small e (bin_size e b)) (λ _. hi) (λ _. omega (arith, hi)), q),
  )
  linked_bin i (inr (b, x, l, m, (j, lo, hi, q))) =
      let t = trie_member e r w h [] n b l x m in
      (x, t.0, t.1, (j, lo, rw (le-ltb (W e * t.0) 256 (trie_least e b t.0 t.2).0) hi, q))

module _ (e : Edition) (w : List ℕ) (cs : List Chunk) (ts : ℕ) (u : Store) (f : Filled e w (bare_heap cs ts) (rebuilt_heap e cs ts) u)
    (k : Heads e w cs ts) where
  rebuilds_of : Rebuilds e w cs ts (grants u)
  rebuilds_of =
      let s = enter_stays e (bare_heap cs ts) 0 cs in
      let n = f.held.near in
      record {
        granted = refl;
        held = f.held;
        passes = sound_there e u.image u.words f.held.image (rebuilt_heap e cs ts, n);
        stays = s;
        count = omega (arith, n.heads.top.ends, k.top.ends, ap (end_of 0) s.chunks, s.top);
        reach = λ i z. f.reach i
            (λ v. z (subst (λ ds. BinWord e ds i) s.chunks (linked_bin e (decode u.image) u.words (rebuilt_heap e cs ts) n i v)));
        owners = λ q z st i lo hi. f.reach i
            (λ v. owner_apart e (decode u.image) u.words (rebuilt_heap e cs ts) [] n q z
            (subst (λ ds. Starts 0 ds q (used z)) (sym s.chunks) st) i lo hi (inr v));
      }

-- the two ends of it
module _ (e : Edition) (w : List ℕ) (len end : ℕ) where
  with_none : (top : ℕ) → top ≡ no_link e → with_top e w len end top ≡ refuses e 2 w
  with_none top q = rw (eq-eqb top (no_link e) q) refl

  with_top_lem : (top : ℕ) → (top ≡ no_link e → ⊥)
      → with_top e w len end top ≡ grants (fill_from e top turns 0 (empty_image e top (end - top) len) w)
  with_top_lem top n = rw (ne_eqb top (no_link e) n) refl

module _ (e : Edition) (w : List ℕ) (start : ℕ) where
  -- row 1: the word count, or a start that set-up refuses
  pub bad_count : (count_ok (length w) && allowed_start start) ≡ false → rebuild_b e w start ≡ refuses e 1 w
  unfolding rebuild_b
  bad_count q = rw q refl

  module _ (c : count_ok (length w) ≡ true) (g : allowed_start start ≡ true) where
    abbrev len : ℕ
    len = W e * length w

    abbrev end : ℕ
    end = enc e (length w - 10)

    past_count : rebuild_b e w start ≡ with_top e w len end (top_of e w end)
    unfolding rebuild_b
    past_count = rw (c, g, end_bytes e (length w)) refl

    -- row 2: the words tell no tiling
    pub no_tiling : (Tiling e w → ⊥) → rebuild_b e w start ≡ refuses e 2 w
    no_tiling n =
        let k = count_yes (length w) c in
        past_count
        ∙ with_none e w len end (top_of e w end)
        (⊎_elim (λ q. q) (λ m. absurd (n (top_told e w k.2 k.0 k.1 m))) (same? (top_of e w end) (no_link e)))

    -- else it is granted
    pub rebuilds : (cs : List Chunk) (ts : ℕ) → Heads e w cs ts → Rebuilds e w cs ts (rebuild_b e w start)
    rebuilds cs ts k = subst (Rebuilds e w cs ts) (sym same)
        (rebuilds_of e w cs ts (fill_from e (enc e top) turns (enc e 0) (empty_image e (enc e top) (enc e ts) len) w) filled k)
      where
        n : (16 ≤ length w) × (length w ≤ 8192) × (length w % 2 ≡ 0)
        n = count_yes (length w) c

        top : ℕ
        top = end_of 0 cs

        rest : end - enc e top ≡ enc e ts
        rest = small_rest e (length w - 10) top ∙ ap (enc e) (let z : length w - 10 - top ≡ ts = omega (arith, k.top.ends) in z)

        same : rebuild_b e w start ≡ grants (fill_from e (enc e top) turns (enc e 0) (empty_image e (enc e top) (enc e ts) len) w)
        same =
            past_count ∙ ap (with_top e w len end) (top_found e w n.2 n.0 n.1 cs ts k)
            ∙ with_top_lem e w len end (enc e top) (none_free e top)
            ∙ ap (λ z. grants (fill_from e (enc e top) turns 0 (empty_image e (enc e top) z len) w)) rest
            ∙ ap (λ z. grants (fill_from e (enc e top) turns z (empty_image e (enc e top) (enc e ts) len) w)) (zero_bytes e)

        filled : Filled e w (bare_heap cs ts) (rebuilt_heap e cs ts)
            (fill_from e (enc e top) turns (enc e 0) (empty_image e (enc e top) (enc e ts) len) w)
        filled = fills e turns 0 cs (empty_image e (enc e top) (enc e ts) len) w (bare_heap cs ts)
            (starting e w n.2 n.0 n.1 cs ts k) (omega (arith, k.top.ends, n.1))

    -- "granted exactly when the heads, flags, free feet and foot word meet the first two points of Sound"
    pub granted_exactly : Decides (eqb (rebuild_b e w start).refusal 0) (Tiling e w)
    granted_exactly =
        decides_of (eqb (rebuild_b e w start).refusal 0) (Tiling e w)
        (λ q. let k = count_yes (length w) c in
        top_told e w k.2 k.0 k.1
        (λ z. let y : (rebuild_b e w start).refusal
        ≡ 2 = ap (λ (x : Rebuilt). x.refusal) (past_count ∙ with_none e w len end (top_of e w end) z) in
        omega (arith, y, eqb-true (rebuild_b e w start).refusal 0 q)))
        (λ k. eq-eqb (rebuild_b e w start).refusal 0 (rebuilds k.0 k.1 k.2).granted)
