-- DOCUMENT 02, (vii), ORDER: two lists of the same offsets, given back, leave the same chunks and top (`GivenBack`), and two arenas that
-- hold the same chunks and top agree in every head, every foot of a free chunk and the foot word. Assumes nothing.
use Rattle.std.specs.Prelude.{◌≡◌, refl, Bool, true, false, List, [], ◌∷◌, ℕ, ◌+◌, eqb, length, get_or}
use Rattle.std.proofs.Common.{sym, ◌∙◌, ap, subst, inl, inr, arith}
use Rattle.std.proofs.Math.Option.{some}
use Rattle.words.specs.Logic.{pick}
use Rattle.words.specs.Edition.{wide}
use Rattle.tiling.specs.Tiling.{Chunk, used, free, end_of, Reads, Run, Heads, HeadsReads, Starts}
use Rattle.rules.specs.Heap.{Heap}
use Rattle.rules.specs.Free.{give_back}
use Rattle.rules.proofs.FreeLaws.{give_changes}
use Rattle.rules.specs.Calls.{Free, Answer, done, is_in, block_of, place_of, live_size, free_call, answer_to}
use Rattle.holds.specs.Holds.{Control, Holds}
use Rattle.holds.specs.Unique.{holds_unique}
use Rattle.decides.specs.LiveLaws.{starts_live}
use Rattle.calls.specs.ByValue.{call_a}
use Rattle.calls.specs.Histories.{box, asked, after, answers, heap_after, HeldIn}
use Rattle.calls.proofs.Histories.{calls-held, goes}
use Rattle.promises.specs.Promises.{LiveAt}
use Rattle.promises.specs.Requests.{gives_back, SameChunks}
use Rattle.promises.proofs.GrantedBy.{answer, tidy}
use Rattle.promises.proofs.HistoriesKept.{Block, block_of_lem}
use Rattle.promises.proofs.GivenBack.{Tiles, tiles_of, same_tiles}

-- ---- heads and feet

module _ (w v : List ℕ) where
  one_word : (i k a : ℕ) → i ≡ k → get_or w k 0 ≡ a → get_or v k 0 ≡ a → get_or w i 0 ≡ get_or v i 0
  one_word i k a q x y = ap (λ z. get_or w z 0) q ∙ x ∙ sym y ∙ ap (λ z. get_or v z 0) (sym q)

  run_same : (p : ℕ) (pu : Bool) (cs : List Chunk) → Run wide w p pu cs → Run wide v p pu cs → (i : ℕ) → Reads p cs i
      → get_or w i 0 ≡ get_or v i 0
  run_same p pu [] a b i u = absurd u
  run_same p pu (used s ∷ cs) a b i (inl q) = one_word i (p + 1) _ q a.0.head b.0.head
  run_same p pu (used s ∷ cs) a b i (inr u) = run_same (p + s) true cs a.1 b.1 i u
  run_same p pu (free s ∷ cs) a b i (inl q) = one_word i (p + 1) _ q a.0.head b.0.head
  run_same p pu (free s ∷ cs) a b i (inr (inl q)) = one_word i (p + s) _ q a.0.foot b.0.foot
  run_same p pu (free s ∷ cs) a b i (inr (inr u)) = run_same (p + s) false cs a.1 b.1 i u

  heads_same : (cs : List Chunk) (ts : ℕ) → Heads wide w cs ts → Heads wide v cs ts → (i : ℕ) → HeadsReads 0 cs ts i
      → get_or w i 0 ≡ get_or v i 0
  heads_same cs ts a b i (inl u) = run_same 0 true cs a.run b.run i u
  heads_same cs ts a b i (inr (inl q)) = one_word i (end_of 0 cs + 1) _ q a.top.head b.top.head
  heads_same cs ts a b i (inr (inr q)) = one_word i (end_of 0 cs + ts + 1) _ q a.top.foot b.top.foot

-- ---- the order

module _ (c : Control) (w : List ℕ) (h : Heap) (n : Holds wide c w h) where
  pub any_order : (offs offs' : List ℕ) → ((x : ℕ) → is_in x offs ≡ is_in x offs')
      → SameChunks (after wide (box c w) (gives_back offs)) (after wide (box c w) (gives_back offs'))
  any_order offs offs' q g g' a b = (chunks, top, λ i u. heads_same v v' g.chunks g.top a.heads there i u)
    where
      v : List ℕ
      v = (after wide (box c w) (gives_back offs)).words

      v' : List ℕ
      v' = (after wide (box c w) (gives_back offs')).words

      held_after : (offs : List ℕ) (g : Heap) → HeldIn wide (after wide (box c w) (gives_back offs)) g
          → tiles_of g ≡ tiles_of (heap_after wide (length w) h (gives_back offs))
      held_after offs g a =
          ap tiles_of (holds_unique wide (after wide (box c w) (gives_back offs)).control (after wide (box c w) (gives_back offs)).words g
          (heap_after wide (length w) h (gives_back offs)) a (goes wide (box c w) h n (gives_back offs)).held)

      same : tiles_of g ≡ tiles_of g'
      same = held_after offs g a ∙ same_tiles (length w) offs offs' h (tidy c w h n) q ∙ sym (held_after offs' g' b)

      chunks : g.chunks ≡ g'.chunks
      chunks = ap (λ (t : Tiles). t.chunks) same

      top : g.top ≡ g'.top
      top = ap (λ (t : Tiles). t.top) same

      there : Heads wide (after wide (box c w) (gives_back offs')).words g.chunks g.top
      there = subst (λ (t : Tiles). Heads wide (after wide (box c w) (gives_back offs')).words t.chunks t.top) (sym same) b.heads

  -- what is said of a block in use
  said : (off x s : ℕ) → off ≡ block_of wide x → Starts 0 h.chunks x (used s) → live_size wide 0 h.chunks off ≡ some s
  said off x s q st = ap (live_size wide 0 h.chunks) q ∙ starts_live wide true 0 h.chunks x s (tidy c w h n).chunks st

  pub is_done : (off x s : ℕ) → off ≡ block_of wide x → Starts 0 h.chunks x (used s) → (call_a wide c w (Free off)).answer ≡ done
  is_done off x s q st = answer c w h n (Free off) ∙ ap (λ o. (free_call wide h o off).answer) (said off x s q st)

  pub left_by : (m off x s : ℕ) → off ≡ block_of wide x → Starts 0 h.chunks x (used s)
      → (answer_to wide m h (Free off)).heap ≡ give_back wide h x
  left_by m off x s q st =
      ap (λ o. (free_call wide h o off).heap) (said off x s q st) ∙ ap (give_back wide h)
      (let z : place_of wide off ≡ x = omega (arith, q) in z)

swapped : (a b : Bool) → pick a true (pick b true false) ≡ pick b true (pick a true false)
swapped true true = refl
swapped true false = refl
swapped false true = refl
swapped false false = refl

pub either_order : (c : Control) (w : List ℕ) (h : Heap) (off m off' m' : ℕ) → Holds wide c w h → LiveAt (box c w) off m
    → LiveAt (box c w) off' m'
    → (off ≡ off' → ⊥)
    → (answers wide (box c w) (gives_back (off ∷ off' ∷ [])) ≡ done ∷ done ∷ [])
    × SameChunks (after wide (box c w) (gives_back (off ∷ off' ∷ []))) (after wide (box c w) (gives_back (off' ∷ off ∷ [])))
either_order c w h off m off' m' n p p' ne = (
  both,
  any_order c w h n (off ∷ off' ∷ []) (off' ∷ off ∷ []) (λ x. swapped (eqb x off) (eqb x off')),
)
  where
    b : Block h off m
    b = block_of_lem (box c w) h n off m p

    b' : Block h off' m'
    b' = block_of_lem (box c w) h n off' m' p'

    next : Heap
    next = (answer_to wide (length w) h (Free off)).heap

    kept : Starts 0 (answer_to wide (length w) h (Free off)).heap.chunks b'.at (used b'.words)
    kept =
        subst (λ (g : Heap). Starts 0 g.chunks b'.at (used b'.words))
        (sym (left_by c w h n (length w) off b.at b.words b.place b.starts))
        ((give_changes wide h b.at b.words (tidy c w h n) b.starts).kept b'.at b'.words b'.starts
        (λ z. ne (b.place ∙ ap (block_of wide) (sym z) ∙ sym b'.place)))

    both : answers wide (box c w) (gives_back (off ∷ off' ∷ [])) ≡ done ∷ done ∷ []
    both =
        let s = asked wide (box c w) (Free off) in
        ap (λ (a : Answer). a ∷ (call_a wide s.control s.words (Free off')).answer ∷ [])
        (is_done c w h n off b.at b.words b.place b.starts)
        ∙ ap (λ (a : Answer). done ∷ a ∷ [])
        (is_done s.control s.words next (calls-held wide (box c w) h n (Free off)).held off' b'.at b'.words b'.place kept)
