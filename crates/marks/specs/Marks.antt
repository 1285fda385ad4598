-- SETS OF GRANULES. A granule is 2 words of the edition, and an offset in bytes names one where it is a multiple of that; a set is a bitmap, a list
-- of `mark_words` numbers of 64 bits, bit g % 64 of number g / 64 for granule g. What is no granule, or lies past the set, is in no set, and
-- nothing changes for it. Plain arithmetic, for all inputs. Assumes nothing.
use Rattle.std.specs.Prelude.{Bool, true, false, ◌&&◌, List, ◌≡◌, ℕ, zero, suc, ◌+◌, ◌*◌, ◌/◌, ◌%◌, eqb, ltb, get_or, set, replicate, Option, Some, None}
use Rattle.std.proofs.Common.{sym, ap, ◌∙◌}
use Rattle.words.specs.Logic.{pick}
use Rattle.words.specs.Edition.{Edition, W}
use Rattle.index.specs.Bit.{bit}
use Rattle.index.specs.BinMap.{mark, clear}

-- the size of every set: a granule for each 2 words of the largest arena, 8,192 words
abbrev pub mark_words : ℕ
mark_words = 64

-- the bound of every walk: more turns than a set has granules
abbrev pub turns : ℕ
turns = 64 * mark_words + 1

-- the granule of an offset, and whether a set can hold it
abbrev pub granule : Edition → ℕ → ℕ
granule e off = off / (2 * W e)

unfoldable pub holdable : Edition → ℕ → Bool
holdable e off = eqb (off % (2 * W e)) 0 && ltb (granule e off) (64 * mark_words)

-- the number that has a granule's bit, and the bit
abbrev pub mark_word : Edition → List ℕ → ℕ → ℕ
mark_word e m off = get_or m (granule e off / 64) 0

abbrev pub mark_bit : Edition → List ℕ → ℕ → ℕ
mark_bit e m off = bit (granule e off % 64) (mark_word e m off)

-- the bit of a granule that a set can hold; none at another offset
unfoldable pub held_bit : Edition → List ℕ → ℕ → Option ℕ
held_bit e m off = pick (holdable e off) (Some (mark_bit e m off)) None

-- is it in the set; is it a granule that is not
unfoldable pub has_mark : Edition → List ℕ → ℕ → Bool
has_mark e m off = holdable e off && eqb (mark_bit e m off) 1

unfoldable pub lacks_mark : Edition → List ℕ → ℕ → Bool
lacks_mark e m off = holdable e off && eqb (mark_bit e m off) 0

-- the set with it, without it
unfoldable pub set_mark : Edition → List ℕ → ℕ → List ℕ
set_mark e m off = pick (holdable e off) (set m (granule e off / 64) (mark (granule e off % 64) (mark_word e m off))) m

unfoldable pub drop_mark : Edition → List ℕ → ℕ → List ℕ
drop_mark e m off = pick (holdable e off) (set m (granule e off / 64) (clear (granule e off % 64) (mark_word e m off))) m

-- ---- a test that takes marks: what it says, and the marks that are left

pub record Checked : Type 0 where
  pub ok : Bool
  pub marks : List ℕ

abbrev pub checked : Bool → List ℕ → Checked
checked b m = record { ok = b; marks = m }

abbrev pub yes : List ℕ → Checked
yes m = checked true m

abbrev pub no : List ℕ → Checked
no m = checked false m

-- what a test told, and what its answer was
pub answer : {b x : Bool} {m : List ℕ} {c : Checked} → checked x m ≡ c → x ≡ b → c ≡ checked b m
answer {m = m} e q = sym e ∙ ap (λ v. checked v m) q

-- one test after another: the first that says no ends it
abbrev pub and_then : Checked → (List ℕ → Checked) → Checked
and_then c f = pick c.ok (f c.marks) c

-- in the set, and taken out of it
unfoldable pub take_mark : Edition → List ℕ → ℕ → Checked
take_mark e m off = pick (has_mark e m off) (yes (drop_mark e m off)) (no m)

-- ---- the empty set

unfoldable pub no_marks : List ℕ
no_marks = replicate mark_words 0

-- nothing is in the set: k numbers from the i-th on are 0; all are
unfoldable pub empty_from : List ℕ → ℕ → ℕ → Bool
empty_from m zero i = true
empty_from m (suc k) i = eqb (get_or m i 0) 0 && empty_from m k (i + 1)

unfoldable pub is_empty : List ℕ → Bool
is_empty m = empty_from m mark_words 0
