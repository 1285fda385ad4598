-- The elementary steps that leave the tiling: a loose chunk goes into its bin, a binned one becomes loose, the spare chunk is let go or set.
-- Assumes nothing.
use Rattle.std.specs.Prelude.{◌≡◌, refl, List, [], ◌∷◌, ℕ, ◌+◌, ◌*◌, get_or, set}
use Rattle.std.proofs.Common.{sym, ap, subst, arith}
use Rattle.std.proofs.Math.Option.{none, some}
use Rattle.words.specs.Edition.{Edition, W, no_link, enc}
use Rattle.words.specs.Logic.{pick, by}
use Rattle.words.specs.Fields.{count_l}
use Rattle.words.specs.Places.{remove}
use Rattle.tiling.specs.Tiling.{free, Starts}
use Rattle.tries.specs.Tree.{leaf, insert, unlink}
use Rattle.rules.specs.BinOf.{is_small, small_bin, trie_bin, trie_bits}
use Rattle.rules.specs.Heap.{Heap, heap_dv, heap_small, heap_tries}
use Rattle.rules.specs.Binning.{bin, unbin}
use Rattle.holds.specs.Holds.{Near, in_dv}
use Rattle.holds.specs.Where.{small_index, trie_index, in_small_lem, in_trie}
use Rattle.holds.specs.Ops.{State, state, with_dv, push_small, push_large, cut_small, cut_large, bin_s, unbin_s}
use Rattle.holds.specs.BinSmall.{push_small_lem, cut_small_lem}
use Rattle.holds.specs.BinLarge.{push_large_lem, cut_large_lem}

-- the state t says the heap h, but for `loose`
abbrev pub Says : Edition → State → Heap → List ℕ → Type 0
Says e t h loose = Near e t.ctl t.words h loose

-- only the counts of loose chunks matter
pub reloose : (e : Edition) (t : State) (h : Heap) (l k : List ℕ) → ((x : ℕ) → count_l x l ≡ count_l x k) → Says e t h l → Says e t h k
reloose e t h l k f n =
    record {
      even = n.even;
      least = n.least;
      most = n.most;
      long = n.long;
      heads = n.heads;
      top_place = n.top_place;
      top_size_lem = n.top_size_lem;
      spare = n.spare;
      small = n.small;
      tries = n.tries;
      tie = λ x. omega (arith, n.tie x, f x);
    }

pub bin_step : (e : Edition) (t : State) (h : Heap) (q s : ℕ) (loose : List ℕ) → Says e t h (q ∷ loose) → Starts 0 h.chunks q (free s) → Says e (bin_s e t q s) (bin e h q s) loose
unfolding bin_s
bin_step e t h q s loose n st =
    by (λ b. Says e (pick b (push_small e t q (small_bin e s)) (push_large e t q (trie_bin e s) s)) (pick b small large) loose) (is_small e s)
    (λ z. let i = small_index e t.ctl t.words h (q ∷ loose) n q s st z in
    push_small_lem e t.ctl t.words h q loose (small_bin e s) i.0 n (subst (λ k. Starts 0 h.chunks q (free k)) (sym i.1) st))
    (λ z. let i = trie_index e t.ctl t.words h (q ∷ loose) n q s st z in push_large_lem e t.ctl t.words h q loose (trie_bin e s) s i.0 n st i.1)
  where
    small : Heap
    small = heap_small h (set h.small (small_bin e s) (q ∷ get_or h.small (small_bin e s) []))

    large : Heap
    large = heap_tries h (set h.tries (trie_bin e s) (insert q s (trie_bits e (trie_bin e s)) (get_or h.tries (trie_bin e s) leaf)))

pub unbin_step : (e : Edition) (t : State) (h : Heap) (c s : ℕ) (loose : List ℕ) → Says e t h loose → Starts 0 h.chunks c (free s) → count_l c loose + in_dv h.dv c ≡ 0
    → Says e (unbin_s e t c s) (unbin e h c s) (c ∷ loose)
unfolding unbin_s
unbin_step e t h c s loose n st out =
    by (λ b. Says e (pick b (cut_small e t c (small_bin e s)) (cut_large e t c (trie_bin e s))) (pick b small large) (c ∷ loose)) (is_small e s)
    (λ z. cut_small_lem e t.ctl t.words h c loose (small_bin e s) (small_index e t.ctl t.words h loose n c s st z).0 n (in_small_lem e t.ctl t.words h loose n c s st out z))
    (λ z. cut_large_lem e t.ctl t.words h c loose (trie_bin e s) (trie_index e t.ctl t.words h loose n c s st z).0 n (in_trie e t.ctl t.words h loose n c s st out z))
  where
    small : Heap
    small = heap_small h (set h.small (small_bin e s) (remove c (get_or h.small (small_bin e s) [])))

    large : Heap
    large = heap_tries h (set h.tries (trie_bin e s) (unlink c (get_or h.tries (trie_bin e s) leaf)))

-- ---- the spare chunk

-- the record with no spare chunk, with p of s words as the spare chunk
unfoldable pub no_dv : Edition → State → State
no_dv e t = state (with_dv t.ctl (no_link e) 0) t.words

unfoldable pub set_dv : Edition → State → ℕ → ℕ → State
set_dv e t p s = state (with_dv t.ctl (enc e p) (W e * s)) t.words

pub set_no_dv : (e : Edition) (t : State) (p s : ℕ) → set_dv e (no_dv e t) p s ≡ set_dv e t p s
unfolding set_dv no_dv
set_no_dv e t p s = refl

pub drop_dv : (e : Edition) (t : State) (h : Heap) (p : ℕ) (loose : List ℕ) → h.dv ≡ some p → Says e t h loose → Says e (no_dv e t) (heap_dv h none) (p ∷ loose)
unfolding no_dv
drop_dv e t h p loose q n =
    record {
      even = n.even;
      least = n.least;
      most = n.most;
      long = n.long;
      heads = n.heads;
      top_place = n.top_place;
      top_size_lem = n.top_size_lem;
      spare = (refl, refl);
      small = n.small;
      tries = n.tries;
      tie = λ x. omega (arith, n.tie x, ap (λ d. in_dv d x) q);
    }

-- where it is none, nothing changes
pub drop_none : (e : Edition) (t : State) (h : Heap) (loose : List ℕ) → h.dv ≡ none → Says e t h loose → Says e (no_dv e t) (heap_dv h none) loose
unfolding no_dv
drop_none e t h loose q n =
    record {
      even = n.even;
      least = n.least;
      most = n.most;
      long = n.long;
      heads = n.heads;
      top_place = n.top_place;
      top_size_lem = n.top_size_lem;
      spare = (refl, refl);
      small = n.small;
      tries = n.tries;
      tie = λ x. omega (arith, n.tie x, ap (λ d. in_dv d x) q);
    }

pub set_dv_lem : (e : Edition) (t : State) (h : Heap) (p s : ℕ) (loose : List ℕ) → h.dv ≡ none → Says e t h (p ∷ loose) → Starts 0 h.chunks p (free s)
    → Says e (set_dv e t p s) (heap_dv h (some p)) loose
unfolding set_dv
set_dv_lem e t h p s loose q n st =
    record {
      even = n.even;
      least = n.least;
      most = n.most;
      long = n.long;
      heads = n.heads;
      top_place = n.top_place;
      top_size_lem = n.top_size_lem;
      spare = (s, st, refl, refl);
      small = n.small;
      tries = n.tries;
      tie = λ x. omega (arith, n.tie x, ap (λ d. in_dv d x) q);
    }
