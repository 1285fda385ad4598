-- WHAT GIVING BACK LEAVES, as chunks and top alone: the block is marked free where it stands, then neighbours that are free are joined,
-- and what is free before the top joins it. Joined chunks stay joined, and marking goes by place: so blocks may be marked all at once, in
-- any order, and joined at the end. Bins and the spare chunk play no part. Assumes nothing.
use Rattle.std.specs.Prelude.{◌≡◌, refl, Bool, true, false, List, [], ◌∷◌, ◌++◌, ℕ, ◌+◌, ◌-◌, ◌≤◌, eqb}
use Rattle.std.proofs.Common.{sym, ◌∙◌, ap, subst, append-nil, append_assoc, inl, inr, arith, eqb-true, eq-eqb, ne_eqb}
use Rattle.std.proofs.Math.Option.{Option, none, some}
use Rattle.std.proofs.lemmas.Bool.{eqb-false}
use Rattle.words.specs.Logic.{pick, pick_case, false-true}
use Rattle.words.specs.Edition.{wide}
use Rattle.tiling.specs.Tiling.{Chunk, used, free, end_of, last_use, last_append, Starts}
use Rattle.rules.specs.Heap.{Heap, heap_dv, heap_chunks}
use Rattle.rules.specs.Binning.{is_dv, unbin}
use Rattle.rules.specs.Free.{Found, away, forward, give_found, give_maybe, give_back}
use Rattle.rules.proofs.FreeLaws.{give_changes}
use Rattle.rules.specs.Realloc.{front}
use Rattle.rules.specs.Leaves.{away_leaves, unbin_leaves}
use Rattle.rules.specs.Lookup.{Block, block, front_plain, front_free}
use Rattle.rules.proofs.ReallocLaws.{some_none}
use Rattle.rules.specs.Tidy.{Tidy, TidyHeap, tidy_head, tidy_left, tidy_right, starts_in', starts_size}
use Rattle.rules.specs.Calls.{Free, block_of, place_of, is_in, live_size, free_call, answer_to}
use Rattle.decides.specs.LiveLaws.{live_starts, starts_live}
use Rattle.calls.specs.Histories.{heap_after}
use Rattle.promises.specs.Requests.{gives_back}

-- ---- chunks and the top

pub record Tiles : Type 0 where
  pub chunks : List Chunk
  pub top : ℕ

abbrev pub tiles : List Chunk → ℕ → Tiles
tiles cs ts = record { chunks = cs; top = ts }

abbrev pub tiles_of : Heap → Tiles
tiles_of h = tiles h.chunks h.top

-- s words in use before the rest; s free words before it
abbrev on_used : ℕ → Tiles → Tiles
on_used s t = tiles (used s ∷ t.chunks) t.top

abbrev join_to : ℕ → List Chunk → ℕ → Tiles
join_to s [] ts = tiles [] (s + ts)
join_to s (used n ∷ cs) ts = tiles (free s ∷ used n ∷ cs) ts
join_to s (free b ∷ cs) ts = tiles (free (s + b) ∷ cs) ts

abbrev on_free : ℕ → Tiles → Tiles
on_free s t = join_to s t.chunks t.top

-- free neighbours are joined
abbrev pub merged : List Chunk → ℕ → Tiles
merged [] ts = tiles [] ts
merged (used s ∷ cs) ts = on_used s (merged cs ts)
merged (free s ∷ cs) ts = on_free s (merged cs ts)

-- the blocks at the offsets that f tells are marked free; the list starts at a
abbrev mark : Bool → ℕ → Chunk
mark true s = free s
mark false s = used s

abbrev pub opened : (ℕ → Bool) → ℕ → List Chunk → List Chunk
opened f a [] = []
opened f a (used s ∷ cs) = mark (f (block_of wide a)) s ∷ opened f (a + s) cs
opened f a (free s ∷ cs) = free s ∷ opened f (a + s) cs

-- ---- joined stays joined

join_twice : (s b : ℕ) (cs : List Chunk) (ts : ℕ) → on_free s (join_to b cs ts) ≡ join_to (s + b) cs ts
join_twice s b [] ts = ap (tiles []) (let z : s + (b + ts) ≡ s + b + ts = omega arith in z)
join_twice s b (used n ∷ cs) ts = refl
join_twice s b (free k ∷ cs) ts = ap (λ z. tiles (free z ∷ cs) ts) (let z : s + (b + k) ≡ s + b + k = omega arith in z)

-- marking and joining behind s free words
join_open : (f : ℕ → Bool) (a s : ℕ) (cs : List Chunk) (ts : ℕ) → let m = join_to s cs ts in
    merged (opened f a m.chunks) m.top ≡ on_free s (merged (opened f (a + s) cs) ts)
join_open f a s [] ts = refl
join_open f a s (used n ∷ cs) ts = refl
join_open f a s (free b ∷ cs) ts =
    ap (λ z. on_free (s + b) (merged (opened f z cs) ts)) (let z : a + (s + b) ≡ a + s + b = omega arith in z)
    ∙ sym (join_twice s b (merged (opened f (a + s + b) cs) ts).chunks (merged (opened f (a + s + b) cs) ts).top)

join_merge : (s : ℕ) (cs : List Chunk) (ts : ℕ) → let m = join_to s cs ts in merged m.chunks m.top ≡ on_free s (merged cs ts)
join_merge s [] ts = refl
join_merge s (used n ∷ cs) ts = refl
join_merge s (free b ∷ cs) ts = sym (join_twice s b (merged cs ts).chunks (merged cs ts).top)

merge_twice : (cs : List Chunk) (ts : ℕ) → merged (merged cs ts).chunks (merged cs ts).top ≡ merged cs ts
merge_twice [] ts = refl
merge_twice (used s ∷ cs) ts = ap (on_used s) (merge_twice cs ts)
merge_twice (free s ∷ cs) ts = join_merge s (merged cs ts).chunks (merged cs ts).top ∙ ap (on_free s) (merge_twice cs ts)

-- what is marked after a join might have been marked before it
pub merge_open : (f : ℕ → Bool) (a : ℕ) (cs : List Chunk) (ts : ℕ)
    → merged (opened f a (merged cs ts).chunks) (merged cs ts).top ≡ merged (opened f a cs) ts
merge_open f a [] ts = refl
merge_open f a (used s ∷ cs) ts = go (f (block_of wide a)) (merge_open f (a + s) cs ts)
  where
    go : (b : Bool) → merged (opened f (a + s) (merged cs ts).chunks) (merged cs ts).top ≡ merged (opened f (a + s) cs) ts
        → merged (mark b s ∷ opened f (a + s) (merged cs ts).chunks) (merged cs ts).top ≡ merged (mark b s ∷ opened f (a + s) cs) ts
    go true q = ap (on_free s) q
    go false q = ap (on_used s) q
merge_open f a (free s ∷ cs) ts =
    join_open f a s (merged cs ts).chunks (merged cs ts).top ∙ ap (on_free s) (merge_open f (a + s) cs ts)

-- ---- marking

pub open_open : (f g h : ℕ → Bool) → ((x : ℕ) → h x ≡ pick (g x) true (f x)) → (a : ℕ) (cs : List Chunk)
    → opened f a (opened g a cs) ≡ opened h a cs
open_open f g h q a [] = refl
open_open f g h q a (used s ∷ cs) = go (g (block_of wide a)) (q (block_of wide a)) (open_open f g h q (a + s) cs)
  where
    go : (b : Bool) → h (block_of wide a) ≡ pick b true (f (block_of wide a)) → opened f (a + s) (opened g (a + s) cs) ≡ opened h (a + s) cs
        → opened f a (mark b s ∷ opened g (a + s) cs) ≡ mark (h (block_of wide a)) s ∷ opened h (a + s) cs
    go true z k = rw z (ap (λ y. free s ∷ y) k)
    go false z k = rw z (ap (λ y. mark (f (block_of wide a)) s ∷ y) k)
open_open f g h q a (free s ∷ cs) = ap (λ z. free s ∷ z) (open_open f g h q (a + s) cs)

pub open_same : (f g : ℕ → Bool) → ((x : ℕ) → f x ≡ g x) → (a : ℕ) (cs : List Chunk) → opened f a cs ≡ opened g a cs
open_same f g q a [] = refl
open_same f g q a (used s ∷ cs) = rw (q (block_of wide a)) (ap (λ z. mark (g (block_of wide a)) s ∷ z) (open_same f g q (a + s) cs))
open_same f g q a (free s ∷ cs) = ap (λ z. free s ∷ z) (open_same f g q (a + s) cs)

open_none : (f : ℕ → Bool) (a : ℕ) (cs : List Chunk) → ((x s : ℕ) → Starts a cs x (used s) → f (block_of wide x) ≡ false)
    → opened f a cs ≡ cs
open_none f a [] n = refl
open_none f a (used s ∷ cs) n = rw (n a s (inl (refl, refl))) (ap (λ z. used s ∷ z) (open_none f (a + s) cs (λ x t u. n x t (inr u))))
open_none f a (free s ∷ cs) n = ap (λ z. free s ∷ z) (open_none f (a + s) cs (λ x t u. n x t (inr u)))

open_append : (f : ℕ → Bool) (a : ℕ) (xs ys : List Chunk) → opened f a (xs ++ ys) ≡ opened f a xs ++ opened f (end_of a xs) ys
open_append f a [] ys = refl
open_append f a (used s ∷ xs) ys = ap (λ z. mark (f (block_of wide a)) s ∷ z) (open_append f (a + s) xs ys)
open_append f a (free s ∷ xs) ys = ap (λ z. free s ∷ z) (open_append f (a + s) xs ys)

-- the one block of s words behind xs
open_one : (xs : List Chunk) (s : ℕ) (ys : List Chunk) → Tidy true (xs ++ (used s ∷ ys))
    → opened (λ x. eqb x (block_of wide (end_of 0 xs))) 0 (xs ++ (used s ∷ ys)) ≡ xs ++ (free s ∷ ys)
open_one xs s ys t =
    open_append f 0 xs (used s ∷ ys)
    ∙ ap (λ z. z ++ opened f p (used s ∷ ys)) (open_none f 0 xs (λ x k u. ne_eqb (block_of wide x) (block_of wide p) (before x k u)))
    ∙ ap (λ z. xs ++ z) (here (f (block_of wide p)) (eq-eqb (block_of wide p) (block_of wide p) refl))
  where
    p : ℕ
    p = end_of 0 xs

    f : ℕ → Bool
    f x = eqb x (block_of wide (end_of 0 xs))

    four : 4 ≤ s
    four = (tidy_head (last_use true xs) (used s) ys (tidy_right true xs (used s ∷ ys) t)).1

    before : (x k : ℕ) → Starts 0 xs x (used k) → block_of wide x ≡ block_of wide p → ⊥
    before x k u q = omega (arith, q, starts_in' 0 xs x (used k) u, starts_size true 0 xs x (used k) (tidy_left true xs (used s ∷ ys) t) u)

    here : (b : Bool) → b ≡ true → mark b s ∷ opened f (p + s) ys ≡ free s ∷ ys
    here false q = false-true q
    here true q =
        ap (λ z. free s ∷ z) (open_none f (p + s) ys
        (λ x k u. ne_eqb (block_of wide x) (block_of wide p) (λ z. omega (arith, z, four, starts_in' (p + s) ys x (used k) u))))

-- ---- tidy chunks are joined already

abbrev behind_of : List Chunk → Tiles → Tiles
behind_of xs t = tiles (xs ++ t.chunks) t.top

merge_behind : (pu : Bool) (xs zs : List Chunk) (ts : ℕ) → Tidy pu xs → last_use true xs ≡ true
    → merged (xs ++ zs) ts ≡ behind_of xs (merged zs ts)
merge_behind pu [] zs ts t l = refl
merge_behind pu (used s ∷ xs) zs ts t l = ap (on_used s) (merge_behind true xs zs ts t.2 l)
merge_behind pu (free s ∷ []) zs ts t l = false-true l
merge_behind pu (free s ∷ used n ∷ xs) zs ts t l = ap (λ z. on_free s (on_used n z)) (merge_behind true xs zs ts t.3.2 l)
merge_behind pu (free s ∷ free n ∷ xs) zs ts t l = false-true t.3.0

pub merge_tidy : (pu : Bool) (cs : List Chunk) (ts : ℕ) → Tidy pu cs → last_use pu cs ≡ true → merged cs ts ≡ tiles cs ts
merge_tidy pu [] ts t l = refl
merge_tidy pu (used s ∷ cs) ts t l = ap (on_used s) (merge_tidy true cs ts t.2 l)
merge_tidy pu (free s ∷ []) ts t l = false-true l
merge_tidy pu (free s ∷ used n ∷ cs) ts t l = ap (λ z. on_free s (on_used n z)) (merge_tidy true cs ts t.3.2 l)
merge_tidy pu (free s ∷ free n ∷ cs) ts t l = false-true t.3.0

-- ---- the rule of free

forward-tiles : (mine : Bool) (k : Heap) (xs : List Chunk) (a t : ℕ) (ys : List Chunk)
    → tiles_of (forward wide mine k xs a t ys) ≡ behind_of xs (join_to t ys k.top)
forward-tiles mine k xs a t [] = ap (λ z. tiles z (t + k.top)) (sym (append-nil xs))
forward-tiles mine k xs a t (used n ∷ ys) = same (away_leaves wide mine (heap_chunks k (xs ++ (free t ∷ used n ∷ ys))) a t)
  where
    g : Heap
    g = away wide mine (heap_chunks k (xs ++ (free t ∷ used n ∷ ys))) a t

    same : (g.chunks ≡ xs ++ (free t ∷ used n ∷ ys)) × (g.top ≡ k.top) → tiles_of g ≡ tiles (xs ++ (free t ∷ used n ∷ ys)) k.top
    same l = ap (λ z. tiles z g.top) l.0 ∙ ap (tiles (xs ++ (free t ∷ used n ∷ ys))) l.1
forward-tiles mine k xs a t (free b ∷ ys) =
    pick_case (λ (z : Heap). tiles_of z ≡ tiles cs k.top) (is_dv k (a + t)) (λ _. refl)
    (λ _. same (away_leaves wide mine (heap_chunks (unbin wide k (a + t) b) cs) a (t + b)))
  where
    cs : List Chunk
    cs = xs ++ (free (t + b) ∷ ys)

    g : Heap
    g = away wide mine (heap_chunks (unbin wide k (a + t) b) (xs ++ (free (t + b) ∷ ys))) a (t + b)

    same : (g.chunks ≡ cs) × (g.top ≡ (unbin wide k (a + t) b).top) → tiles_of g ≡ tiles cs k.top
    same l = ap (λ z. tiles z g.top) l.0 ∙ ap (tiles cs) (l.1 ∙ (unbin_leaves wide k (a + t) b).2)

module _ (h : Heap) (t : TidyHeap h) (p s : ℕ) (b : Block h.chunks p s) where
  abbrev f : Found
  f = b.f

  abbrev rest : List Chunk
  rest = f.after

  whole : Tidy true (front f ++ (used s ∷ rest))
  whole = subst (Tidy true) b.whole t.chunks

  joined : merged rest h.top ≡ tiles rest h.top
  joined =
      merge_tidy true rest h.top (tidy_head (last_use true (front f)) (used s) rest (tidy_right true (front f) (used s ∷ rest) whole)).2
      (sym (ap (last_use true) b.whole ∙ last_append true (front f) (used s ∷ rest)) ∙ t.last)

  marked : opened (λ x. eqb x (block_of wide p)) 0 h.chunks ≡ front f ++ (free s ∷ rest)
  marked =
      ap (λ q. opened (λ x. eqb x (block_of wide q)) 0 h.chunks) b.place
      ∙ ap (opened (λ x. eqb x (block_of wide (end_of 0 (front f)))) 0) b.whole ∙ open_one (front f) s rest whole

  -- alone, and behind a free chunk
  plain : f.back ≡ 0 → behind_of f.before (join_to f.words rest h.top) ≡ merged (front f ++ (free s ∷ rest)) h.top
  plain z =
      sym (ap (λ q. merged (q ++ (free s ∷ rest)) h.top) (front_plain f z)
      ∙ merge_behind true f.before (free s ∷ rest) h.top
      (subst (Tidy true) (front_plain f z) (tidy_left true (front f) (used s ∷ rest) whole)) b.before
      ∙ ap (λ q. behind_of f.before (on_free s q)) joined
      ∙ ap (λ q. behind_of f.before (join_to q rest h.top)) (sym b.words))

  backed : (f.back ≡ 0 → ⊥) → behind_of f.before (join_to (f.back + f.words) rest h.top) ≡ merged (front f ++ (free s ∷ rest))
      h.top
  backed z =
      sym (ap (λ q. merged (q ++ (free s ∷ rest)) h.top) (front_free f z)
      ∙ ap (λ q. merged q h.top) (append_assoc f.before (free f.back ∷ []) (free s ∷ rest))
      ∙ merge_behind true f.before (free f.back ∷ free s ∷ rest) h.top
      (tidy_left true f.before (free f.back ∷ [])
      (subst (Tidy true) (front_free f z) (tidy_left true (front f) (used s ∷ rest) whole))) b.before
      ∙ ap (λ q. behind_of f.before (on_free f.back (on_free s q))) joined
      ∙ ap (behind_of f.before) (join_twice f.back s rest h.top)
      ∙ ap (λ q. behind_of f.before (join_to (f.back + q) rest h.top)) (sym b.words))

  given_tiles : tiles_of (give_found wide h f p) ≡ merged (opened (λ x. eqb x (block_of wide p)) 0 h.chunks) h.top
  given_tiles =
      pick_case (λ (z : Heap). tiles_of z ≡ merged (front f ++ (free s ∷ rest)) h.top) (eqb f.back 0)
      (λ z. forward-tiles false h f.before p f.words rest ∙ plain (eqb-true f.back 0 z))
      (λ z. pick_case (λ (y : Heap). tiles_of y ≡ merged (front f ++ (free s ∷ rest)) h.top) (is_dv h (p - f.back))
      (λ _. forward-tiles true (heap_dv h none) f.before (p - f.back) (f.back + f.words) rest ∙ backed (eqb-false f.back 0 z))
      (λ _. forward-tiles false (unbin wide h (p - f.back) f.back) f.before (p - f.back) (f.back + f.words) rest
      ∙ ap (λ q. behind_of f.before (join_to (f.back + f.words) rest q)) (unbin_leaves wide h (p - f.back) f.back).2
      ∙ backed (eqb-false f.back 0 z)))
      ∙ sym (ap (λ z. merged z h.top) marked)

-- ---- the call, and a list of them

module _ (m : ℕ) where
  record Gives (h : Heap) (off : ℕ) (g : Heap) : Type 0 where
    tidy : TidyHeap g
    left : tiles_of g ≡ merged (opened (λ x. eqb x off) 0 h.chunks) h.top

  gives : (h : Heap) (off : ℕ) → TidyHeap h → Gives h off (answer_to wide m h (Free off)).heap
  gives h off t = go (live_size wide 0 h.chunks off) refl
    where
      go : (o : Option ℕ) → live_size wide 0 h.chunks off ≡ o → Gives h off (free_call wide h o off).heap
      go none q =
          record {
            tidy = t;
            left = sym (ap (λ z. merged z h.top) (open_none (λ x. eqb x off) 0 h.chunks
                (λ x s st. ne_eqb (block_of wide x) off (λ z. some_none
                (sym (starts_live wide true 0 h.chunks x s t.chunks st) ∙ ap (live_size wide 0 h.chunks) z ∙ q))))
                ∙ merge_tidy true h.chunks h.top t.chunks t.last);
          }
      go (some s) q = at (live_starts wide 0 h.chunks off s q)
        where
          at : (p : ℕ) × Starts 0 h.chunks p (used s) × (off ≡ block_of wide p) → Gives h off (give_back wide h (place_of wide off))
          at (p, st, z) =
              let y : place_of wide off ≡ p = omega (arith, z) in
              let b = block h.chunks p s t.chunks st in
              rw y (record {
                tidy = (give_changes wide h p s t st).tidy;
                left = ap (λ o. tiles_of (give_maybe wide h o p)) b.finds ∙ given_tiles h t p s b
                    ∙ ap (λ q. merged (opened (λ x. eqb x q) 0 h.chunks) h.top) (sym z);
              })

  -- what stands after all of them is settled by which offsets are in the list
  pub gives_all : (offs : List ℕ) (h : Heap) → TidyHeap h
      → tiles_of (heap_after wide m h (gives_back offs)) ≡ merged (opened (λ x. is_in x offs) 0 h.chunks) h.top
  gives_all [] h t =
      sym (ap (λ z. merged z h.top) (open_none (λ x. false) 0 h.chunks (λ x s st. refl)) ∙ merge_tidy true h.chunks h.top
      t.chunks t.last)
  gives_all (off ∷ offs) h t =
      gives_all offs g a.tidy
      ∙ ap (λ (z : Tiles). merged (opened (λ x. is_in x offs) 0 z.chunks) z.top) a.left
      ∙ merge_open (λ x. is_in x offs) 0 (opened (λ x. eqb x off) 0 h.chunks) h.top
      ∙ ap (λ z. merged z h.top) (open_open (λ x. is_in x offs) (λ x. eqb x off) (λ x. is_in x (off ∷ offs)) (λ x. refl) 0 h.chunks)
    where
      g : Heap
      g = (answer_to wide m h (Free off)).heap

      a : Gives h off (answer_to wide m h (Free off)).heap
      a = gives h off t

  -- so two lists of the same offsets leave the same
  pub same_tiles : (offs offs' : List ℕ) (h : Heap) → TidyHeap h → ((x : ℕ) → is_in x offs ≡ is_in x offs')
      → tiles_of (heap_after wide m h (gives_back offs)) ≡ tiles_of (heap_after wide m h (gives_back offs'))
  same_tiles offs offs' h t q =
      gives_all offs h t ∙ ap (λ z. merged z h.top) (open_same (λ x. is_in x offs) (λ x. is_in x offs') q 0 h.chunks) ∙ sym
      (gives_all offs' h t)
