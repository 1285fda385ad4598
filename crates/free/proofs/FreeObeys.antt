-- FREE OBEYS ITS RULE: where image and words hold a heap and a block in use stands at p, what `dispose_chunk` leaves holds the rule's heap.
-- The chunks to be merged stand between those before and those after; their free ones are loose; then one look forward decides. Assumes nothing.
use Rattle.std.specs.Prelude.{◌≡◌, refl, Bool, eqb, length, get_or}
use Rattle.std.proofs.Common.{sym, ◌∙◌, inl, ⊎_elim, length-set}
use Rattle.std.proofs.Math.Path.{ap, subst}
use Rattle.std.proofs.Math.Bool.{true, false}
use mathlib.Core.List.{List, [], ◌∷◌, ◌++◌}
use Rattle.std.proofs.Math.Option.{Option, none, some}
use Prim.Native.Nat.{ℕ, ◌+◌, ◌-◌, ◌*◌, ◌%◌, ◌≤◌, ◌<◌}
use native.Mathlib.Omega.{arith}
use borrow.Author.Tests.{eqb-true, eqb-false, eq-eqb, ne_eqb}
use Rattle.std.proofs.Math.Seq.{get_or-set_other}
use Rattle.words.specs.Logic.{pick, by, same?, false-true}
use Rattle.words.specs.Edition.{Edition, wide, narrow, W, no_link, none_free, enc, enc_inj}
use Rattle.words.specs.Fields.{ind, ind_eq, ind_ne, count_l}
use Rattle.tiling.specs.Tiling.{Chunk, used, free, size, bit, end_of, last_use, total, UsedAt, FreeAt, Run, Heads, HeadsFrom, Starts, Split, starts_split, starts_at_lem, end_append, last_append, end_total, end_ge, run_left}
use Rattle.tiling.specs.Free.{free_at, free_append, free_one}
use Rattle.tiling.specs.Steps.{free_words, give_words, into_top_words, prev_free}
use Rattle.tiling.specs.Swaps.{Swap, join_free, join_used, join_top_lem}
use Rattle.rules.specs.Heap.{Heap, heap_dv, heap_chunks, heap_tiles}
use Rattle.rules.specs.Binning.{is_dv, is_place, unbin}
use Rattle.rules.specs.Free.{find, away, forward, give_maybe, give_back}
use Rattle.rules.specs.Tidy.{starts_right}
use Rattle.rules.specs.Lookup.{find_plain, find_back}
use Rattle.rules.specs.Leaves.{unbin_leaves}
use Rattle.holds.specs.Holds.{SpareAt, in_dv}
use Rattle.holds.specs.Unique.{one_size}
use Rattle.holds.specs.Lookup.{run_tidy, heads_right}
use Rattle.chunk.specs.Bytes.{wrap, word, set_dv, set_top, free_w}
use Rattle.chunk.specs.Image.{decode, decode_is}
use Rattle.chunk.specs.Plain.{small_sum, small_less, word_plain, top_plain, free_plain, give_plain, size_plain, cinuse_plain, pinuse_plain}
use Rattle.chunk.specs.Held.{Held, top_at_lem, top_size_lem, dv_twice, drop_step, dv_step, swap_step, swap_top_step}
use Rattle.treebin.specs.Binning.{unlink_chunk}
use Rattle.free.specs.FreeBytes.{away_b, join_top, join_dv, join_binned, forward_b, back_b, dispose_b, free_b}
use Rattle.treebin.specs.BinningSteps.{insert_step, unlink_step}
use Rattle.free.specs.FreeObeys.{Ahead}

-- ---- readings

pub append-nil : (xs : List Chunk) → xs ++ [] ≡ xs
append-nil [] = refl
append-nil (x ∷ xs) = ap (λ z. x ∷ z) (append-nil xs)

pub append_one : (ms : List Chunk) (c : Chunk) (zs : List Chunk) → (ms ++ (c ∷ [])) ++ zs ≡ ms ++ (c ∷ zs)
append_one [] c zs = refl
append_one (m ∷ ms) c zs = ap (λ z. m ∷ z) (append_one ms c zs)

-- the record's test for the spare chunk is the heap's
pub dv_test : (e : Edition) (r w : List ℕ) (h : Heap) (l : List ℕ) (x : ℕ) → Held e r w h l → eqb (enc e x) (get_or r 2 0) ≡ is_dv h x
dv_test e r w h l x n = ap (eqb (enc e x)) (decode_is r).0 ∙ go h.dv n.near.spare
  where
    go : (d : Option ℕ) → SpareAt e (decode r).dv (decode r).dv_size h.chunks d → eqb (enc e x) (decode r).dv ≡ is_place d x
    go none sp = ne_eqb (enc e x) (decode r).dv (λ z. none_free e x (z ∙ sp.0))
    go (some d) sp =
        ⊎_elim (λ z. eq-eqb (enc e x) (decode r).dv (ap (enc e) (sym z) ∙ sym sp.2) ∙ sym (eq-eqb d x z))
        (λ z. ne_eqb (enc e x) (decode r).dv (λ y. z (enc_inj e d x (sym sp.2 ∙ sym y))) ∙ sym (ne_eqb d x z)) (same? d x)

pub place_some : (d : Option ℕ) (x : ℕ) → is_place d x ≡ true → d ≡ some x
place_some none x z = false-true z
place_some (some d) x z = ap some (eqb-true d x z)

pub place_none : (d : Option ℕ) (x : ℕ) → is_place d x ≡ false → in_dv d x ≡ 0
place_none none x z = refl
place_none (some d) x z = ind_ne x d (λ y. eqb-false d x z (sym y))

-- the flags of a chunk in use after one in use, or after a free one
pub flags_below : (b : Bool) → 2 + bit b < 4
flags_below true = omega arith
flags_below false = omega arith

-- ---- putting away

away_step : (e : Edition) (mine : Bool) (r w : List ℕ) (h : Heap) (a k : ℕ) → Held e r w h (a ∷ []) → Starts 0 h.chunks a (free k) → (mine ≡ true → h.dv ≡ none)
    → Held e (away_b e mine r w (enc e a) (enc e k)).image (away_b e mine r w (enc e a) (enc e k)).words (away e mine h a k) []
unfolding away_b
away_step e true r w h a k n st d = dv_step e r w h a k [] (d refl) n st
away_step e false r w h a k n st d = insert_step e r w h [] a k n st

-- ---- forward

-- a swap after which the first chunk is the one loose chunk
merge_step : (e : Edition) (r w v : List ℕ) (h : Heap) (l : List ℕ) (xs mid zs rest : List Chunk) (k : ℕ) → Held e r w h l → h.chunks ≡ xs ++ (mid ++ zs)
    → Swap e w v (end_of 0 xs) (last_use true xs) mid (free k ∷ rest) → ((x : ℕ) → count_l x l ≡ free_at (end_of 0 xs) mid x) → ((x : ℕ) → free_at (end_of 0 xs + k) rest x ≡ 0)
    → Held e r v (heap_chunks h (xs ++ (free k ∷ (rest ++ zs)))) (end_of 0 xs ∷ []) × Starts 0 (xs ++ (free k ∷ (rest ++ zs))) (end_of 0 xs) (free k)
merge_step e r w v h l xs mid zs rest k n q s c z = (
  swap_step e r w v h l (end_of 0 xs ∷ []) xs mid (free k ∷ rest) zs q n s (λ x. omega (arith, c x)) (λ x. omega (arith, c x, z x)),
  starts_right 0 xs (free k ∷ (rest ++ zs)) (end_of 0 xs) (free k) (inl (refl, refl)),
)

module _ (e : Edition) (mine : Bool) (r w : List ℕ) (h : Heap) (l : List ℕ) (xs ms : List Chunk) (k : ℕ) where
  abbrev a : ℕ
  a = end_of 0 xs

  abbrev After : List ℕ → List ℕ → Heap → Type 0
  After r' w' h' = Held e r' w' h' []

  ends : k ≡ total ms → end_of a ms ≡ a + k
  ends q = omega (arith, end_total a ms)

  -- what follows the merged chunks
  behind : (ys : List Chunk) → Ahead e mine r w h l xs ms ys k → HeadsFrom e w (a + k) true ys h.top
  behind ys b =
      let hd : Heads e w (xs ++ (ms ++ ys)) h.top = subst (λ c. Heads e w c h.top) b.whole b.held.near.heads in
      let r = heads_right e w a (last_use true xs) ms ys h.top (heads_right e w 0 true xs (ms ++ ys) h.top hd) in
      subst (λ z. HeadsFrom e w z true ys h.top) (ends b.sum) (subst (λ z. HeadsFrom e w (end_of a ms) z ys h.top) (ap (λ z. last_use z ms) b.before ∙ b.last) r)

  top_is : (ys : List Chunk) → Ahead e mine r w h l xs ms ys k → get_or r 4 0 ≡ enc e (end_of (a + k) ys)
  top_is ys b =
      top_at_lem e r w h l b.held
      ∙ ap (enc e) (ap (end_of 0) b.whole ∙ end_append 0 xs (ms ++ ys) ∙ end_append a ms ys ∙ ap (λ z. end_of z ys) (ends b.sum))

  -- places lie within an arena
  near : (ys : List Chunk) → Ahead e mine r w h l xs ms ys k → end_of (a + k) ys + h.top + 10 ≤ 8192
  near ys b = let r = behind ys b in omega (arith, r.top.ends, b.held.near.most)

  not_top : (c : Chunk) (ys : List Chunk) → Ahead e mine r w h l xs ms (c ∷ ys) k → 4 ≤ size c → eqb (enc e (a + k)) (get_or r 4 0) ≡ false
  not_top c ys b u = ne_eqb (enc e (a + k)) (get_or r 4 0) (λ z. omega (arith, enc_inj e (end_of (a + k + size c) ys) (a + k) (sym (top_is (c ∷ ys) b) ∙ sym z), end_ge (a + k + size c) ys))

  to_top : Ahead e mine r w h l xs ms [] k → After (forward_b e mine r w (enc e a) (enc e k) (enc e (a + k))).image (forward_b e mine r w (enc e a) (enc e k) (enc e (a + k))).words (forward e mine h xs a k [])
  unfolding forward_b join_top
  to_top b =
      let t = (behind [] b).top in
      rw (cinuse_plain e w (a + k) h.top 1 t.head t.even (omega arith), eq-eqb (enc e (a + k)) (get_or r 4 0) (sym (top_is [] b)), size, top_plain e w a (k + h.top) (omega (arith, near [] b)))
      (subst (λ c. Held e (set_top r (enc e (end_of 0 c)) (enc e (k + h.top))) (into_top_words e w a (k + h.top)) (heap_tiles h c (k + h.top)) []) (append-nil xs)
      (swap_top_step e r w (into_top_words e w a (k + h.top)) h l [] xs ms [] (k + h.top) chunks b.held (length-set w (a + 1) (W e * (k + h.top) + 1))
      (subst (λ c. Heads e (into_top_words e w a (k + h.top)) c (k + h.top)) (sym (append-nil xs))
      (join_top_lem e w 0 true xs ms k h.top b.sum b.even (omega (arith, b.least)) b.before (subst (λ c. Heads e w c h.top) chunks b.held.near.heads)))
      (λ i u. get_or-set_other w (a + 1) i (W e * (k + h.top) + 1) 0 (λ z. omega arith))
      (λ x. omega (arith, b.covered x)) (λ x. omega (arith, b.covered x))))
    where
      chunks : h.chunks ≡ xs ++ ms
      chunks = b.whole ∙ ap (λ z. xs ++ z) (append-nil ms)

      size : wrap e (get_or r 5 0 + enc e k) ≡ enc e (k + h.top)
      size = ap (λ z. wrap e (z + enc e k)) (top_size_lem e r w h l b.held) ∙ small_sum e h.top k (omega (arith, near [] b)) ∙ ap (enc e) (let q : h.top + k ≡ k + h.top = omega arith in q)

  to_used : (n : ℕ) (zs : List Chunk) → Ahead e mine r w h l xs ms (used n ∷ zs) k
      → After (forward_b e mine r w (enc e a) (enc e k) (enc e (a + k))).image (forward_b e mine r w (enc e a) (enc e k) (enc e (a + k))).words (forward e mine h xs a k (used n ∷ zs))
  unfolding forward_b
  to_used n zs b =
      let t = behind (used n ∷ zs) b in
      let ua : UsedAt e w (a + k) true n = t.run.0 in
      let m = merge_step e r w (give_words e w a k) h l xs (ms ++ (used n ∷ [])) zs (used n ∷ []) k b.held (b.whole ∙ ap (λ z. xs ++ z) (sym (append_one ms (used n) zs)))
      (join_used e w a (last_use true xs) ms k n b.sum b.least b.even b.before ua (omega (arith, t.top.ends, end_ge (a + k + n) zs)))
      (λ x. b.covered x ∙ omega (arith, free_append a ms (used n ∷ []) x)) (λ x. refl) in
      rw (cinuse_plain e w (a + k) n 3 (ua.head ∙ omega arith) ua.even (omega arith), give_plain e w a k (omega (arith, near (used n ∷ zs) b, end_ge (a + k + n) zs)) b.least (odd e (get_or w (a + k + 1) 0) ua.head))
      (away_step e mine r (give_words e w a k) (heap_chunks h (xs ++ (free k ∷ used n ∷ zs))) a k m.0 m.1 b.spare)
    where
      odd : (e : Edition) (x : ℕ) → x ≡ W e * n + 2 + 1 → x % 2 ≡ 1
      odd wide x q = omega arith
      odd narrow x q = omega arith

  to_free : (c : ℕ) (zs : List Chunk) → Ahead e mine r w h l xs ms (free c ∷ zs) k
      → After (forward_b e mine r w (enc e a) (enc e k) (enc e (a + k))).image (forward_b e mine r w (enc e a) (enc e k) (enc e (a + k))).words (forward e mine h xs a k (free c ∷ zs))
  unfolding forward_b join_dv join_binned
  to_free c zs b =
      rw (cinuse_plain e w (a + k) c 1 fa.head fa.even (omega arith), not_top (free c) zs b fa.least, dv_test e r w h l (a + k) b.held)
      (by (λ z. Held e (pick z (join_dv e r w (enc e a) (enc e k)) (join_binned e mine r w (enc e a) (enc e k) (enc e (a + k)))).image (pick z (join_dv e r w (enc e a) (enc e k)) (join_binned e mine r w (enc e a) (enc e k) (enc e (a + k)))).words
      (pick z (heap_dv (heap_chunks h (xs ++ (free (k + c) ∷ zs))) (some a)) (away e mine (heap_chunks (unbin e h (a + k) c) (xs ++ (free (k + c) ∷ zs))) a (k + c))) []) (is_dv h (a + k))
      (λ z. spare (place_some h.dv (a + k) z))
      (λ z. other z))
    where
      t : HeadsFrom e w (a + k) true (free c ∷ zs) h.top
      t = behind (free c ∷ zs) b

      fa : FreeAt e w (a + k) true c
      fa = t.run.0

      room : a + k + c ≤ 8192
      room = omega (arith, near (free c ∷ zs) b, end_ge (a + k + c) zs)

      whole : h.chunks ≡ xs ++ ((ms ++ (free c ∷ [])) ++ zs)
      whole = b.whole ∙ ap (λ z. xs ++ z) (sym (append_one ms (free c) zs))

      next : Starts 0 h.chunks (a + k) (free c)
      next =
          subst (λ z. Starts 0 z (a + k) (free c)) (sym b.whole)
          (starts_right 0 xs (ms ++ (free c ∷ zs)) (a + k) (free c) (starts_right a ms (free c ∷ zs) (a + k) (free c) (inl (sym (ends b.sum), refl))))

      -- the swap, on any words of this length
      joined : (v : List ℕ) → length v ≡ length w → Swap e v (free_words e v a (k + c)) a (last_use true xs) (ms ++ (free c ∷ [])) (free (k + c) ∷ [])
      joined v q =
          join_free e v a (last_use true xs) (ms ++ (free c ∷ [])) (k + c) (omega (arith, b.sum, tot ms)) (omega (arith, b.least)) (omega (arith, b.even, fa.even)) b.before
          (last_append (last_use true xs) ms (free c ∷ [])) (omega (arith, q, t.top.ends, end_ge (a + k + c) zs))
        where
          tot : (ns : List Chunk) → total (ns ++ (free c ∷ [])) ≡ total ns + c
          tot [] = omega arith
          tot (x ∷ ns) = omega (arith, tot ns)

      covers : (x : ℕ) → ind x (a + k) + count_l x l ≡ free_at a (ms ++ (free c ∷ [])) x
      covers x = omega (arith, b.covered x, free_append a ms (free c ∷ []) x, ap (ind x) (ends b.sum))

      spare : h.dv ≡ some (a + k)
          → Held e (set_dv r (enc e a) (wrap e (get_or r 3 0 + enc e k))) (free_w e w (enc e a) (wrap e (get_or r 3 0 + enc e k))) (heap_dv (heap_chunks h (xs ++ (free (k + c) ∷ zs))) (some a)) []
      spare q =
          let m = merge_step e r₀ w (free_words e w a (k + c)) (heap_dv h none) ((a + k) ∷ l) xs (ms ++ (free c ∷ [])) zs [] (k + c) (drop_step e r w h (a + k) l q b.held) whole (joined w refl) covers (λ x. refl) in
          rw (size, free_plain e w a (k + c) (omega (arith, room)))
          (subst (λ x. Held e x (free_words e w a (k + c)) (heap_dv (heap_chunks h (xs ++ (free (k + c) ∷ zs))) (some a)) []) (dv_twice r (no_link e) 0 (enc e a) (enc e (k + c)) b.held.image)
          (dv_step e r₀ (free_words e w a (k + c)) (heap_chunks (heap_dv h none) (xs ++ (free (k + c) ∷ zs))) a (k + c) [] refl m.0 m.1))
        where
          r₀ : List ℕ
          r₀ = set_dv r (no_link e) 0

          width : (d : Option ℕ) → d ≡ some (a + k) → SpareAt e (decode r).dv (decode r).dv_size h.chunks d → (decode r).dv_size ≡ enc e c
          width d z sp =
              let s = subst (SpareAt e (decode r).dv (decode r).dv_size h.chunks) z sp in
              s.3 ∙ ap (enc e) (one_size e w h.chunks h.top (a + k) s.0 c b.held.near.heads s.1 next)

          size : wrap e (get_or r 3 0 + enc e k) ≡ enc e (k + c)
          size =
              ap (λ z. wrap e (z + enc e k)) ((decode_is r).1 ∙ width h.dv q b.held.near.spare) ∙ small_sum e c k (omega (arith, room))
              ∙ ap (enc e) (let q : c + k ≡ k + c = omega arith in q)

      other : is_dv h (a + k) ≡ false
          → Held e (join_binned e mine r w (enc e a) (enc e k) (enc e (a + k))).image (join_binned e mine r w (enc e a) (enc e k) (enc e (a + k))).words
          (away e mine (heap_chunks (unbin e h (a + k) c) (xs ++ (free (k + c) ∷ zs))) a (k + c)) []
      other z =
          let lv = unbin_leaves e h (a + k) c in
          let m = merge_step e r₁ w₁ (free_words e w₁ a (k + c)) (unbin e h (a + k) c) ((a + k) ∷ l) xs (ms ++ (free c ∷ [])) zs [] (k + c) out (lv.0 ∙ whole) (joined w₁ same_length) covers (λ x. refl) in
          rw (size_plain e w (a + k) c 1 fa.head fa.even (omega arith), small_sum e k c (omega (arith, room)), free_plain e w₁ a (k + c) (omega (arith, room)))
          (away_step e mine r₁ (free_words e w₁ a (k + c)) (heap_chunks (unbin e h (a + k) c) (xs ++ (free (k + c) ∷ zs))) a (k + c) m.0 m.1 (λ y. lv.1 ∙ b.spare y))
        where
          r₁ : List ℕ
          r₁ = (unlink_chunk e r w (enc e (a + k)) (enc e c)).image

          w₁ : List ℕ
          w₁ = (unlink_chunk e r w (enc e (a + k)) (enc e c)).words

          -- what is merged lies before
          clear : free_at a ms (a + k) ≡ 0
          clear =
              omega (
                arith,
                free_one e w 0 true h.chunks (a + k) b.held.near.heads.run,
                ap (λ z. free_at 0 z (a + k)) b.whole,
                free_append 0 xs (ms ++ (free c ∷ zs)) (a + k),
                free_append a ms (free c ∷ zs) (a + k),
                ind_eq (a + k) (end_of a ms) (sym (ends b.sum)),
              )

          out : Held e r₁ w₁ (unbin e h (a + k) c) ((a + k) ∷ l)
          out = unlink_step e r w h l (a + k) c b.held next (omega (arith, place_none h.dv (a + k) z, b.covered (a + k), clear))

          same_length : length w₁ ≡ length w
          same_length = let lv = unbin_leaves e h (a + k) c in omega (arith, out.near.heads.top.ends, b.held.near.heads.top.ends, ap (end_of 0) lv.0, lv.2)

forward_step : (e : Edition) (mine : Bool) (r w : List ℕ) (h : Heap) (l : List ℕ) (xs ms ys : List Chunk) (k : ℕ) → Ahead e mine r w h l xs ms ys k
    → Held e (forward_b e mine r w (enc e (end_of 0 xs)) (enc e k) (enc e (end_of 0 xs + k))).image (forward_b e mine r w (enc e (end_of 0 xs)) (enc e k) (enc e (end_of 0 xs + k))).words (forward e mine h xs (end_of 0 xs) k ys) []
forward_step e mine r w h l xs ms [] k b = to_top e mine r w h l xs ms k b
forward_step e mine r w h l xs ms (used n ∷ ys) k b = to_used e mine r w h l xs ms k n ys b
forward_step e mine r w h l xs ms (free n ∷ ys) k b = to_free e mine r w h l xs ms k n ys b

-- ---- the whole call

module _ (e : Edition) (r w : List ℕ) (h : Heap) (n : Held e r w h []) (s : ℕ) where
  abbrev Given : ℕ → Heap → Type 0
  Given p g = Held e (dispose_b e r w (enc e p) (enc e s)).image (dispose_b e r w (enc e p) (enc e s)).words g []

  -- what stands before is in use, or there is nothing
  plain : (xs ys : List Chunk) → h.chunks ≡ xs ++ (used s ∷ ys) → last_use true xs ≡ true → Given (end_of 0 xs) (give_back e h (end_of 0 xs))
  unfolding dispose_b
  plain xs ys q u =
      subst (λ z. Given (end_of 0 xs) (give_maybe e h z (end_of 0 xs))) (sym (ap (λ c. find 0 c (end_of 0 xs)) q ∙ find_plain 0 true xs s ys (run_tidy e w 0 true (xs ++ (used s ∷ ys)) hd.run) u))
      (rw (pinuse_plain e w a s (2 + bit (last_use true xs)) (at.head ∙ omega arith) at.even (flags_below (last_use true xs)), u, small_sum e a s room)
      (forward_step e false r w h [] xs (used s ∷ []) ys s (record {
        held = n;
        whole = q;
        before = u;
        last = refl;
        sum = omega arith;
        even = at.even;
        least = at.least;
        covered = λ x. refl;
        spare = λ z. false-true z;
      })))
    where
      a : ℕ
      a = end_of 0 xs

      hd : Heads e w (xs ++ (used s ∷ ys)) h.top
      hd = subst (λ c. Heads e w c h.top) q n.near.heads

      t : HeadsFrom e w a (last_use true xs) (used s ∷ ys) h.top
      t = heads_right e w 0 true xs (used s ∷ ys) h.top hd

      at : UsedAt e w a (last_use true xs) s
      at = t.run.0

      room : a + s ≤ 8192
      room = omega (arith, t.top.ends, end_ge (a + s) ys, n.near.most)

  -- a free chunk stands before
  back : (xs : List Chunk) (c : ℕ) (ys : List Chunk) → h.chunks ≡ xs ++ (free c ∷ used s ∷ ys) → get_or w (end_of 0 xs + c) 0 ≡ W e * c → Given (end_of 0 xs + c) (give_back e h (end_of 0 xs + c))
  unfolding dispose_b back_b
  back xs c ys q foot =
      subst (λ z. Given p (give_maybe e h z p)) (sym (ap (λ z. find 0 z p) q ∙ find_back 0 true xs c s ys (run_tidy e w 0 true (xs ++ (free c ∷ used s ∷ ys)) hd.run)))
      (rw (pinuse_plain e w p s 2 (at.head ∙ omega arith) at.even (omega arith), word_is, small_less e p c (omega arith) (omega (arith, room)), start, all, behind, ne_eqb c 0 (λ z. omega (arith, fa.least)), dv_test e r w h [] a n)
      (by (λ z. Held e (pick z (forward_b e true r₀ w (enc e a) (enc e (c + s)) (enc e (a + (c + s)))) (forward_b e false r₁ w₁ (enc e a) (enc e (c + s)) (enc e (a + (c + s))))).image
      (pick z (forward_b e true r₀ w (enc e a) (enc e (c + s)) (enc e (a + (c + s)))) (forward_b e false r₁ w₁ (enc e a) (enc e (c + s)) (enc e (a + (c + s))))).words
      (pick z (forward e true (heap_dv h none) xs a (c + s) ys) (forward e false (unbin e h a c) xs a (c + s) ys)) []) (is_dv h a)
      (λ z. forward_step e true r₀ w (heap_dv h none) (a ∷ []) xs (free c ∷ used s ∷ []) ys (c + s) (record {
        held = drop_step e r w h a [] (place_some h.dv a z) n;
        whole = q;
        before = fa.apart;
        last = refl;
        sum = omega arith;
        even = omega (arith, fa.even, at.even);
        least = omega (arith, fa.least);
        covered = λ x. refl;
        spare = λ _. refl;
      }))
      (λ z. forward_step e false r₁ w₁ (unbin e h a c) (a ∷ []) xs (free c ∷ used s ∷ []) ys (c + s) (record {
        held = unlink_step e r w h [] a c n st (omega (arith, place_none h.dv a z));
        whole = (unbin_leaves e h a c).0 ∙ q;
        before = fa.apart;
        last = refl;
        sum = omega arith;
        even = omega (arith, fa.even, at.even);
        least = omega (arith, fa.least);
        covered = λ x. refl;
        spare = λ y. false-true y;
      }))))
    where
      a : ℕ
      a = end_of 0 xs

      p : ℕ
      p = end_of 0 xs + c

      start : p - c ≡ a
      start = omega arith

      r₀ : List ℕ
      r₀ = set_dv r (no_link e) 0

      r₁ : List ℕ
      r₁ = (unlink_chunk e r w (enc e a) (enc e c)).image

      w₁ : List ℕ
      w₁ = (unlink_chunk e r w (enc e a) (enc e c)).words

      hd : Heads e w (xs ++ (free c ∷ used s ∷ ys)) h.top
      hd = subst (λ z. Heads e w z h.top) q n.near.heads

      t : HeadsFrom e w a (last_use true xs) (free c ∷ used s ∷ ys) h.top
      t = heads_right e w 0 true xs (free c ∷ used s ∷ ys) h.top hd

      fa : FreeAt e w a (last_use true xs) c
      fa = t.run.0

      at : UsedAt e w p false s
      at = t.run.1.0

      room : p + s ≤ 8192
      room = omega (arith, t.top.ends, end_ge (p + s) ys, n.near.most)

      word_is : word e w (enc e p) 0 ≡ enc e c
      word_is = word_plain e w p 0 ∙ ap (λ i. get_or w i 0) (let z : p + 0 ≡ p = omega arith in z) ∙ foot

      all : wrap e (enc e s + enc e c) ≡ enc e (c + s)
      all = small_sum e s c (omega (arith, room)) ∙ ap (enc e) (let z : s + c ≡ c + s = omega arith in z)

      behind : wrap e (enc e p + enc e s) ≡ enc e (a + (c + s))
      behind = small_sum e p s room ∙ ap (enc e) (let z : p + s ≡ a + (c + s) = omega arith in z)

      st : Starts 0 h.chunks a (free c)
      st = subst (λ z. Starts 0 z a (free c)) (sym q) (starts_right 0 xs (free c ∷ used s ∷ ys) a (free c) (inl (refl, refl)))

  -- giving back the chunk of s words at p
  pub dispose_obeys : (p : ℕ) → Starts 0 h.chunks p (used s) → Given p (give_back e h p)
  dispose_obeys p st = go (starts_split 0 h.chunks p (used s) st)
    where
      go : Split 0 h.chunks p (used s) → Given p (give_back e h p)
      go k = subst (λ z. Given z (give_back e h z)) (sym k.place) (cases (last_use true k.before) refl)
        where
          run : Run e w 0 true k.before
          run = run_left e w 0 true k.before (used s ∷ k.after) (subst (λ c. Run e w 0 true c) k.whole n.near.heads.run)

          cases : (b : Bool) → last_use true k.before ≡ b → Given (end_of 0 k.before) (give_back e h (end_of 0 k.before))
          cases true u = plain k.before k.after k.whole u
          cases false u =
              let f = prev_free e w 0 k.before run u in
              let z : end_of 0 k.before ≡ end_of 0 f.before + f.words = ap (end_of 0) f.whole ∙ end_append 0 f.before (free f.words ∷ []) in
              subst (λ y. Given y (give_back e h y)) (sym z)
              (back f.before f.words k.after (k.whole ∙ ap (λ c. c ++ (used s ∷ k.after)) f.whole ∙ append_one f.before (free f.words) (used s ∷ k.after))
              (subst (λ y. get_or w y 0 ≡ W e * f.words) z f.foot))

  -- free reads the size itself
  pub free_obeys : (p : ℕ) → Starts 0 h.chunks p (used s) → Held e (free_b e r w (enc e p)).image (free_b e r w (enc e p)).words (give_back e h p) []
  unfolding free_b
  free_obeys p st =
      let a = starts_at_lem e w 0 true h.chunks p (used s) n.near.heads.run st in
      rw (size_plain e w p s (2 + bit a.0) (a.1.head ∙ omega arith) a.1.even (flags_below a.0)) (dispose_obeys p st)
