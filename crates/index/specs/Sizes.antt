-- The sizes of chunks, in bytes, over the bytes W of a word (8, and 4 in the other edition): a number rounded up, the size that a request needs,
-- in bytes and in words, and the small bin of a size. Plain arithmetic on numbers of any size: nothing here wraps. Definitions only; their
-- laws are in `SizesLaws`. Assumes nothing.
use Rattle.std.specs.Prelude.{ℕ, ◌+◌, ◌-◌, ◌*◌, ◌/◌, nat_lt}
use Rattle.words.specs.Logic.{pick}

-- the least multiple of a that is n or more
unfoldable pub round_up : ℕ → ℕ → ℕ
round_up a n = (n + (a - 1)) / a * a

-- The size of the chunk for a request: the smallest chunk, 4 words, for a request below 3 words less one byte; else the request and the
-- overhead, one word, rounded up to the alignment, 2 words
unfoldable pub need : ℕ → ℕ → ℕ
need W req = pick (nat_lt req (3 * W - 1)) (4 * W) (round_up (2 * W) (req + W))

-- the same in words
unfoldable pub need_words : ℕ → ℕ → ℕ
need_words W req = 2 * (need W req / (2 * W))

-- the small bin of a chunk below 256 bytes, in both editions
abbrev pub small_bin : ℕ → ℕ
small_bin size = size / 8
