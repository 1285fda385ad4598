-- THE RECORD AND ITS 72 WORDS: the words that the core runs on, made of a record's numbers, and the numbers read from them. Assumes nothing.
use Rattle.std.specs.Prelude.{Bool, ◌&&◌, List, [], ◌∷◌, ◌++◌, ℕ, zero, suc, ◌+◌, ◌^◌, ltb, eqb, length, get_or, replicate}
use Rattle.words.specs.Logic.{pick}
use Rattle.words.specs.Edition.{Edition, no_link}
use Rattle.chunk.specs.Bytes.{small, tree, map_of}
use Rattle.holds.specs.Holds.{Control}

-- n numbers of a list from one place on, 0 past its end
unfoldable pub reads : List ℕ → ℕ → ℕ → List ℕ
reads xs k zero = []
reads xs k (suc n) = get_or xs k 0 ∷ reads xs (k + 1) n

-- 32 heads, 32 roots and maps of 32 bits: so is every record of the code (its 72 words are made only of such, `image_of` in `arena`)
abbrev pub fits : Control → Bool
fits c = eqb (length c.heads) 32 && (eqb (length c.roots) 32 && (ltb c.small_map (2 ^ 32) && ltb c.tree_map (2 ^ 32)))

-- the 72 words in their order
abbrev pub words_of : Control → List ℕ
words_of c = c.small_map ∷ c.tree_map ∷ c.dv ∷ c.dv_size ∷ c.top ∷ c.top_size ∷ c.length ∷ 0 ∷ (reads c.heads 0 32 ++ reads c.roots 0 32)

-- numbers that are no record of the code get the words of a record that is sound with no arena
unfoldable pub image : Control → List ℕ
image c = pick (fits c) (words_of c) (replicate 72 0)

-- the numbers of 72 words, the maps cut to 32 bits
abbrev pub numbers_of : List ℕ → Control
numbers_of r =
    record {
      small_map = map_of small r;
      tree_map = map_of tree r;
      heads = reads r 8 32;
      roots = reads r 40 32;
      dv = get_or r 2 0;
      dv_size = get_or r 3 0;
      top = get_or r 4 0;
      top_size = get_or r 5 0;
      length = get_or r 6 0;
    }

-- every bin empty, no spare chunk
abbrev pub empty_control : Edition → ℕ → ℕ → ℕ → Control
empty_control e top top_size length =
    record {
      small_map = 0;
      tree_map = 0;
      heads = replicate 32 (no_link e);
      roots = replicate 32 (no_link e);
      dv = no_link e;
      dv_size = 0;
      top = top;
      top_size = top_size;
      length = length;
    }
