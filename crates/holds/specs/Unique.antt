-- The record and the words settle the heap; set-up holds the fresh heap; and with no block in use the heap, and so the record, is the fresh one.
-- Assumes nothing.
use Rattle.std.specs.Prelude.{◌≡◌, refl, Bool, true, false, List, [], ◌∷◌, ℕ, zero, suc, ◌+◌, ◌-◌, ◌*◌, ◌%◌, ◌≤◌, ◌<◌, length, get_or, replicate}
use Rattle.std.proofs.Common.{sym, ◌∙◌, ap, subst, ⊎_elim, arith, length-set}
use Rattle.std.proofs.Math.Option.{Option, none, some}
use Rattle.std.proofs.lemmas.List.{length-replicate, get_or-replicate}
use Rattle.words.specs.Edition.{Edition, W, no_link, root_mark, none_free, enc_inj}
use Rattle.words.specs.Fields.{Mem, ind_self, fld, count_l}
use Rattle.words.specs.Logic.{false-true}
use Rattle.index.specs.MapOfBins as M
use Rattle.tiling.specs.Tiling.{Chunk, used, free, end_of, Heads, Starts, size, starts_at_lem, starts_apart, heads_unique}
use Rattle.tiling.specs.Free.{free_at, free_one}
use Rattle.tiling.specs.Steps.{fresh_words, fresh}
use Rattle.lists.specs.Links.{list_unique}
use Rattle.tries.specs.Tree.{Tree, leaf, node, count, Distinct}
use Rattle.tries.specs.TreeAt.{link}
use Rattle.tries.specs.Members.{tree_unique}
use Rattle.tries.specs.Shape.{Shaped}
use Rattle.rules.specs.BinOf.{bin_size, trie_bits, trie_low}
use Rattle.rules.specs.Heap.{Heap, holds_some, grows_some, fresh_heap}
use Rattle.holds.specs.Bins.{Bins, sum_at, sum_empty, list_ext}
use Rattle.holds.specs.Holds.{Control, Near, Holds, SpareAt, SmallAt, TrieAt, in_dv, in_small, in_tries, head_link, fresh_control}

module _ (e : Edition) (r : Control) (w : List ℕ) (h : Heap) (loose : List ℕ) (n : Near e r w h loose) where
  -- no place stands twice
  pub once : (x : ℕ) → in_small h.small x + in_tries h.tries x + in_dv h.dv x + count_l x loose ≤ 1
  once x = omega (arith, n.tie x, free_one e w 0 true h.chunks x n.heads.run)

  pub bin_once : (i : ℕ) → i < 32 → (x : ℕ) → count_l x (get_or h.small i []) ≤ 1
  bin_once i l x = omega (arith, once x, sum_at (count_l x) [] h.small i (omega (arith, n.small.marks.count)))

  pub trie_once : (i : ℕ) → i < 32 → Distinct (get_or h.tries i leaf)
  trie_once i l x = omega (arith, once x, sum_at (count x) leaf h.tries i (omega (arith, n.tries.marks.count)))

heap_eq : (c c' : List Chunk) (t t' : ℕ) (d d' : Option ℕ) (s s' : List (List ℕ)) (f f' : List Tree) → c ≡ c' → t ≡ t' → d ≡ d' → s ≡ s' → f ≡ f'
    → ◌≡◌ {A = Heap} (record { chunks = c; top = t; dv = d; small = s; tries = f }) (record { chunks = c'; top = t'; dv = d'; small = s'; tries = f' })
heap_eq c c' t t' d d' s s' f f' p q u v z = cc (p, q, u, v, z)

dv_unique : (e : Edition) (v k : ℕ) (cs cs' : List Chunk) (d d' : Option ℕ) → SpareAt e v k cs d → SpareAt e v k cs' d' → d ≡ d'
dv_unique e v k cs cs' none none a b = refl
dv_unique e v k cs cs' none (some p) a b = absurd (none_free e p (sym b.2 ∙ a.0))
dv_unique e v k cs cs' (some p) none a b = absurd (none_free e p (sym a.2 ∙ b.0))
dv_unique e v k cs cs' (some p) (some q) a b = ap some (enc_inj e p q (sym a.2 ∙ b.2))

-- one record, one arena, one heap
pub holds_unique : (e : Edition) (r : Control) (w : List ℕ) (h h' : Heap) → Holds e r w h → Holds e r w h' → h ≡ h'
holds_unique e r w h h' a b =
    heap_eq h.chunks h'.chunks h.top h'.top h.dv h'.dv h.small h'.small h.tries h'.tries
    tiles.0 tiles.1
    (dv_unique e r.dv r.dv_size h.chunks h'.chunks h.dv h'.dv a.spare b.spare)
    (list_ext [] h.small h'.small (a.small.marks.count ∙ sym b.small.marks.count)
    (λ i l. let k : i < 32 = omega (arith, a.small.marks.count) in
    list_unique e (fld w) (bin_size e i) (get_or h.small i []) (get_or h'.small i []) (sym (a.small.linked i k) ∙ b.small.linked i k) (a.small.at i k) (b.small.at i k)))
    (list_ext leaf h.tries h'.tries (a.tries.marks.count ∙ sym b.tries.marks.count)
    (λ i l. let k : i < 32 = omega (arith, a.tries.marks.count) in
    tree_unique e (fld w) i (root_mark e) (root_mark e) (get_or h.tries i leaf) (get_or h'.tries i leaf) (trie_once e r w h [] a i k) (trie_once e r w h' [] b i k)
    (sym (a.tries.linked i k) ∙ b.tries.linked i k) (a.tries.at i k).tree (b.tries.at i k).tree))
  where
    tiles : (h.chunks ≡ h'.chunks) × (h.top ≡ h'.top)
    tiles = heads_unique e w 0 true h.chunks h'.chunks h.top h'.top a.heads b.heads

-- the size of the free chunk at a place
pub one_size : (e : Edition) (w : List ℕ) (cs : List Chunk) (ts p s t : ℕ) → Heads e w cs ts → Starts 0 cs p (free s) → Starts 0 cs p (free t) → s ≡ t
one_size e w cs ts p s t h a b =
    let x = starts_at_lem e w 0 true cs p (free s) h.run a in
    let y = starts_at_lem e w 0 true cs p (free t) h.run b in
    ⊎_elim (λ q. ap size q.1) (λ q. ⊎_elim (λ z. absurd (omega (arith, x.1.least))) (λ z. absurd (omega (arith, y.1.least))) q)
    (starts_apart e w 0 true cs p (free s) p (free t) h.run a b)

-- ---- set-up

empty_bins : {A : Type 0} (nil : A) (fills : A → Bool) (link : A → ℕ) (At : Mem → ℕ → A → Type 0) (v : ℕ) (m : Mem) → fills nil ≡ false → v ≡ link nil → ((i : ℕ) → At m i nil)
    → Bins nil fills link At m 0 (replicate 32 v) (replicate 32 nil)
empty_bins nil fills link At v m f q a =
    record {
      marks = M.map-empty fills nil 32 f;
      count = length-replicate 32 v;
      linked = λ i l. get_or-replicate 32 i v 0 l ∙ q ∙ ap link (sym (get_or-replicate 32 i nil nil l));
      at = λ i l. subst (At m i) (sym (get_or-replicate 32 i nil nil l)) (a i);
    }

empty_trie : (e : Edition) (m : Mem) (i : ℕ) → TrieAt e m i leaf
empty_trie e m i = record { tree = tt; shape = no_shape (trie_bits e i) (trie_low e i) }
  where
    no_shape : (k lo : ℕ) → Shaped k lo leaf
    no_shape zero lo = tt
    no_shape (suc k) lo = tt

pub fresh_holds : (e : Edition) (w : List ℕ) → length w % 2 ≡ 0 → 16 ≤ length w → length w ≤ 8192
    → Holds e (fresh_control e (length w)) (fresh_words e w) (fresh_heap (length w))
fresh_holds e w v l k =
    record {
      even = simp length-set v;
      least = simp length-set l;
      most = simp length-set k;
      long = simp length-set refl;
      heads = fresh e w v l;
      top_place = omega arith;
      top_size_lem = refl;
      spare = (refl, refl);
      small = empty_bins [] holds_some (head_link e) (SmallAt e) (no_link e) (fld (fresh_words e w)) refl refl (λ i. record { headed = tt; links = tt });
      tries = empty_bins leaf grows_some (link e) (TrieAt e) (no_link e) (fld (fresh_words e w)) refl refl (λ i. empty_trie e (fld (fresh_words e w)) i);
      tie = λ x. omega (arith, sum_empty (count_l x) [] 32 refl, sum_empty (count x) leaf 32 refl);
    }

-- ---- no block in use

abbrev pub NoneInUse : List Chunk → Type 0
NoneInUse [] = Unit
NoneInUse (used s ∷ cs) = ⊥
NoneInUse (free s ∷ cs) = NoneInUse cs

-- no two free chunks adjoin, the top counted as free: only the top is left
pub no_chunks : (e : Edition) (w : List ℕ) (cs : List Chunk) (ts : ℕ) → NoneInUse cs → Heads e w cs ts → cs ≡ []
no_chunks e w [] ts a h = refl
no_chunks e w (used s ∷ cs) ts a h = absurd a
no_chunks e w (free s ∷ []) ts a h = false-true h.top.apart
no_chunks e w (free s ∷ used t ∷ cs) ts a h = absurd a
no_chunks e w (free s ∷ free t ∷ cs) ts a h = false-true h.run.1.0.apart

none_counted : (ps : List ℕ) → ((x : ℕ) → count_l x ps ≡ 0) → ps ≡ []
none_counted [] f = refl
none_counted (p ∷ ps) f = absurd (let z : ⊥ = omega (arith, f p, ind_self p) in z)

none_grown : (t : Tree) → ((x : ℕ) → count x t ≡ 0) → t ≡ leaf
none_grown leaf f = refl
none_grown (node p ps s l r) f = absurd (let z : ⊥ = omega (arith, f p, ind_self p) in z)

no_dv_lem : (d : Option ℕ) → ((x : ℕ) → in_dv d x ≡ 0) → d ≡ none
no_dv_lem none f = refl
no_dv_lem (some p) f = absurd (let z : ⊥ = omega (arith, f p, ind_self p) in z)

pub none_in_use : (e : Edition) (r : Control) (w : List ℕ) (h : Heap) → Holds e r w h → NoneInUse h.chunks → h ≡ fresh_heap (length w)
none_in_use e r w h a u =
    heap_eq h.chunks [] h.top (length w - 10) h.dv none h.small (replicate 32 []) h.tries (replicate 32 leaf)
    cs (omega (arith, a.heads.top.ends, ap (end_of 0) cs))
    (no_dv_lem h.dv (λ x. omega (arith, nil x)))
    (list_ext [] h.small (replicate 32 []) (a.small.marks.count ∙ sym (length-replicate {A = List ℕ} 32 []))
    (λ i l. let k : i < 32 = omega (arith, a.small.marks.count) in
    none_counted (get_or h.small i []) (λ x. omega (arith, nil x, sum_at (count_l x) [] h.small i l)) ∙ sym (get_or-replicate {A = List ℕ} 32 i [] [] k)))
    (list_ext leaf h.tries (replicate 32 leaf) (a.tries.marks.count ∙ sym (length-replicate 32 leaf))
    (λ i l. let k : i < 32 = omega (arith, a.tries.marks.count) in
    none_grown (get_or h.tries i leaf) (λ x. omega (arith, nil x, sum_at (count x) leaf h.tries i l)) ∙ sym (get_or-replicate 32 i leaf leaf k)))
  where
    cs : h.chunks ≡ []
    cs = no_chunks e w h.chunks h.top u a.heads

    nil : (x : ℕ) → in_small h.small x + in_tries h.tries x + in_dv h.dv x + count_l x [] ≡ 0
    nil x = a.tie x ∙ ap (λ c. free_at 0 c x) cs

-- ---- the heap settles the record

control_eq : (a a' b b' : ℕ) (c c' d d' : List ℕ) (f f' g g' h h' i i' j j' : ℕ) → a ≡ a' → b ≡ b' → c ≡ c' → d ≡ d' → f ≡ f' → g ≡ g' → h ≡ h' → i ≡ i' → j ≡ j'
    → ◌≡◌ {A = Control} (record { small_map = a; tree_map = b; heads = c; roots = d; dv = f; dv_size = g; top = h; top_size = i; length = j })
    (record { small_map = a'; tree_map = b'; heads = c'; roots = d'; dv = f'; dv_size = g'; top = h'; top_size = i'; length = j' })
control_eq a a' b b' c c' d d' f f' g g' h h' i i' j j' q₁ q₂ q₃ q₄ q₅ q₆ q₇ q₈ q₉ = cc (q₁, q₂, q₃, q₄, q₅, q₆, q₇, q₈, q₉)

spare_one : (e : Edition) (w : List ℕ) (v k v' k' : ℕ) (cs : List Chunk) (ts : ℕ) (d : Option ℕ) → Heads e w cs ts → SpareAt e v k cs d → SpareAt e v' k' cs d → (v ≡ v') × (k ≡ k')
spare_one e w v k v' k' cs ts none h a b = (a.0 ∙ sym b.0, a.1 ∙ sym b.1)
spare_one e w v k v' k' cs ts (some p) h a b = (a.2 ∙ sym b.2, a.3 ∙ ap (λ s. W e * s) (one_size e w cs ts p a.0 b.0 h a.1 b.1) ∙ sym b.3)

same_links : {A : Type 0} (nil : A) (fills : A → Bool) (link : A → ℕ) (At : Mem → ℕ → A → Type 0) (m m' : Mem) (map map' : ℕ) (ls ls' : List ℕ) (bins : List A)
    → Bins nil fills link At m map ls bins → Bins nil fills link At m' map' ls' bins → (map ≡ map') × (ls ≡ ls')
same_links nil fills link At m m' map map' ls ls' bins a b = (
  M.map_one fills nil 32 map map' bins a.marks b.marks,
  list_ext 0 ls ls' (a.count ∙ sym b.count) (λ i l. let k : i < 32 = omega (arith, a.count) in a.linked i k ∙ sym (b.linked i k)),
)

pub control_unique : (e : Edition) (r r' : Control) (w w' : List ℕ) (h : Heap) → length w ≡ length w' → Holds e r w h → Holds e r' w' h → r ≡ r'
control_unique e r r' w w' h l a b =
    control_eq r.small_map r'.small_map r.tree_map r'.tree_map r.heads r'.heads r.roots r'.roots r.dv r'.dv r.dv_size r'.dv_size r.top r'.top r.top_size r'.top_size r.length r'.length
    s.0 t.0 s.1 t.1 d.0 d.1
    (a.top_place ∙ sym b.top_place) (a.top_size_lem ∙ sym b.top_size_lem) (a.long ∙ ap (λ n. W e * n) l ∙ sym b.long)
  where
    d : (r.dv ≡ r'.dv) × (r.dv_size ≡ r'.dv_size)
    d = spare_one e w r.dv r.dv_size r'.dv r'.dv_size h.chunks h.top h.dv a.heads a.spare b.spare

    s : (r.small_map ≡ r'.small_map) × (r.heads ≡ r'.heads)
    s = same_links [] holds_some (head_link e) (SmallAt e) (fld w) (fld w') r.small_map r'.small_map r.heads r'.heads h.small a.small b.small

    t : (r.tree_map ≡ r'.tree_map) × (r.roots ≡ r'.roots)
    t = same_links leaf grows_some (link e) (TrieAt e) (fld w) (fld w') r.tree_map r'.tree_map r.roots r'.roots h.tries a.tries b.tries

-- with no block in use the record is the fresh one
pub fresh_again : (e : Edition) (r : Control) (w : List ℕ) (h : Heap) → Holds e r w h → NoneInUse h.chunks → r ≡ fresh_control e (length w)
fresh_again e r w h a u =
    control_unique e r (fresh_control e (length w)) w (fresh_words e w) (fresh_heap (length w)) (simp length-set refl)
    (subst (Holds e r w) (none_in_use e r w h a u) a) (fresh_holds e w a.even a.least a.most)
