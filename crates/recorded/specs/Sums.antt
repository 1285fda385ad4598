-- A look at the heap, in the code's own numbers and for all inputs: r is the record's image, w the arena's words. Places and sizes are bytes, and
-- their sums wrap; a walk takes at most 4096 chunks. Assumes nothing.
use Rattle.std.specs.Prelude.{◌≡◌, List, ℕ, zero, suc, ◌+◌, ◌-◌, ◌*◌, ◌/◌, ◌%◌, eqb, ltb, get_or}
use Rattle.std.specs.List.{fold, range_with_len}
use Rattle.words.specs.Logic.{pick}
use Rattle.words.specs.Edition.{wide}
use Rattle.chunk.specs.declared.access.ChunkOff.{ChunkOff}
use Rattle.chunk.specs.Bytes.{wrap, word, size_b, cinuse_b}

-- the bound of every walk
abbrev pub walk_turns : ℕ
walk_turns = 4096

-- the spare chunk, the top and its size, as the record has them
abbrev pub spare_at : List ℕ → ℕ
spare_at r = get_or r 2 0

abbrev pub top_at : List ℕ → ℕ
top_at r = get_or r 4 0

abbrev pub top_bytes : List ℕ → ℕ
top_bytes r = get_or r 5 0

-- the chunk after the one at c
abbrev pub after : List ℕ → ℕ → ℕ
after w c = wrap wide (c + size_b wide w c)

-- ---- a walk over the chunks below the top

-- where it ends, and the number that it has made
pub record Walked : Type 0 where
  pub end : ℕ
  pub number : ℕ

abbrev pub walked : ℕ → ℕ → Walked
walked end number = record { end = end; number = number }

-- h makes the next number of the number n so far and of the chunk at c; k turns left
unfoldable pub walk_from : (ℕ → ℕ → ℕ) → List ℕ → List ℕ → ℕ → ℕ → ℕ → Walked
walk_from h r w zero c n = walked c n
walk_from h r w (suc k) c n = pick (eqb c (top_at r)) (walked c n) (walk_from h r w k (after w c) (h n c))

unfoldable pub walk : (ℕ → ℕ → ℕ) → List ℕ → List ℕ → Walked
walk h r w = walk_from h r w walk_turns 0 0

-- what may come out of a call at a number and a chunk is what h makes of them
abbrev pub Makes : (ℕ → ChunkOff → ℕ → Type 0) → (ℕ → ℕ → ℕ) → Type 0
Makes Gives h = (n : ℕ) (c : ChunkOff) (x : ℕ) → Gives n c x → x ≡ h n c.0

-- ---- how many chunks lie below the top: n so far, k turns left at c

unfoldable pub chunks_from : List ℕ → List ℕ → ℕ → ℕ → ℕ → ℕ
chunks_from r w zero c n = n
chunks_from r w (suc k) c n = pick (eqb c (top_at r)) n (chunks_from r w k (after w c) (wrap wide (n + 1)))

unfoldable pub chunks_below : List ℕ → List ℕ → ℕ
chunks_below r w = chunks_from r w walk_turns 0 0

-- ---- sums

-- the sum s with one number more
abbrev pub add_to : ℕ → ℕ → ℕ
add_to s x = (s % 1000003 * 31 + x % 1000003) % 1000003

-- with n words of the chunk at c, from word k on
abbrev pub add_words : List ℕ → ℕ → ℕ → ℕ → ℕ → ℕ
add_words w c n k s = fold (λ all j. add_to all (word wide w c (j % 65536))) s (range_with_len k n)

-- with the links of a free chunk of n bytes: the spare chunk has none, a small one two, a large one six
abbrev pub add_links : List ℕ → List ℕ → ℕ → ℕ → ℕ → ℕ
add_links r w c n s = pick (eqb c (spare_at r)) s (pick (ltb n 256) (add_words w c 2 2 s) (add_words w c 6 2 s))

-- with a chunk of n bytes: its head, and, where it is free, its links and its foot
abbrev pub add_chunk : List ℕ → List ℕ → ℕ → ℕ → ℕ → ℕ
add_chunk r w c n s =
    let head = add_to s (word wide w c 1) in
    pick (cinuse_b wide w c) head (add_to (add_links r w c n head) (word wide w (wrap wide (c + n)) 0))

-- with the head of the top at c, and of what comes after the top
abbrev pub add_top : List ℕ → List ℕ → ℕ → ℕ → ℕ
add_top r w c s = add_to (add_to s (word wide w c 1)) (word wide w (wrap wide (c + top_bytes r)) 1)

-- with the owner's words of a chunk of n bytes, where it is in use
abbrev pub add_owned : List ℕ → ℕ → ℕ → ℕ → ℕ
add_owned w c n s = pick (cinuse_b wide w c) (add_words w c (n / 8 + 1 - 2) 2 s) s

-- over heads, feet and links: s so far, k turns left at c
unfoldable pub heap_from : List ℕ → List ℕ → ℕ → ℕ → ℕ → ℕ
heap_from r w zero c s = add_top r w c s
heap_from r w (suc k) c s = pick (eqb c (top_at r)) (add_top r w c s) (heap_from r w k (after w c) (add_chunk r w c (size_b wide w c) s))

unfoldable pub heap_sum : List ℕ → List ℕ → ℕ
heap_sum r w = heap_from r w walk_turns 0 0

-- over the owners' words
unfoldable pub owned_from : List ℕ → List ℕ → ℕ → ℕ → ℕ → ℕ
owned_from r w zero c s = s
owned_from r w (suc k) c s = pick (eqb c (top_at r)) s (owned_from r w k (after w c) (add_owned w c (size_b wide w c) s))

unfoldable pub owned_sum : List ℕ → List ℕ → ℕ
owned_sum r w = owned_from r w walk_turns 0 0
