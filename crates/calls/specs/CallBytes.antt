-- THE WORDS LEVEL of the calls: what a call answers, and leaves in the record's image and in the arena's words, for all inputs. The refusals stand
-- in document 01's order; the core's own functions do the rest. A refused call hands back what it was given. Assumes nothing.
use Rattle.std.specs.Prelude.{List, ℕ, ◌+◌, ◌*◌, ltb, eqb, length, get_or}
use Rattle.words.specs.Logic.{pick}
use Rattle.words.specs.Edition.{Edition, W, no_link}
use Rattle.index.specs.Sizes.{need}
use Rattle.rules.specs.Calls.{Call, Malloc, Free, Realloc, Memalign, Usable, Reason, bad_count, unsound, bad_alignment, too_many, not_live, no_room, number, Answer, granted, done, bytes, refused, allowed_count, is_in, alignments}
use Rattle.chunk.specs.Bytes.{Store, wrap, less}
use Rattle.malloc.specs.MallocBytes.{Reply, malloc_b}
use Rattle.free.specs.FreeBytes.{free_b}
use Rattle.realloc.specs.ReallocBytes.{realloc_b}
use Rattle.memalign.specs.MemalignBytes.{memalign_b}
use Rattle.sound.specs.SoundBytes.{sound_b, live_b, usable_b}

pub record Told : Type 0 where
  pub answer : Answer
  pub image : List ℕ
  pub words : List ℕ

abbrev pub told : Answer → List ℕ → List ℕ → Told
told a r w = record { answer = a; image = r; words = w }

abbrev pub refusing : Reason → List ℕ → List ℕ → Told
refusing why r w = told (refused why) r w

-- document 01's number of an answer, 0 where nothing is refused
abbrev pub refusal : Answer → ℕ
refusal (granted b) = 0
refusal done = 0
refusal (bytes n) = 0
refusal (refused why) = number why

-- a refusal, or a look: neither changes anything
abbrev pub Still : Answer → Type 0
Still (granted b) = ⊥
Still done = ⊥
Still (bytes n) = Unit {0}
Still (refused why) = Unit {0}

-- "block = chunk + 16", and back
abbrev pub block_at : Edition → ℕ → ℕ
block_at e c = wrap e (c + 2 * W e)

abbrev pub chunk_at : Edition → ℕ → ℕ
chunk_at e off = less e off (2 * W e)

-- ---- rows 3 to 6

-- row 6: the core found no chunk (and then, on a sound pair, it wrote nothing)
abbrev pub grant_of : Edition → ℕ → Answer
grant_of e c = pick (eqb c (no_link e)) (refused no_room) (granted (block_at e c))

abbrev pub grant_or_no : Edition → Reply → Told
grant_or_no e a = told (grant_of e a.answer) a.image a.words

-- row 5
abbrev pub if_live : Edition → List ℕ → List ℕ → ℕ → Told → Told
if_live e r w off t = pick (live_b e w (get_or r 4 0) off) t (refusing (not_live off) r w)

-- row 4
abbrev pub if_few : Edition → List ℕ → List ℕ → ℕ → Told → Told
if_few e r w n t = pick (ltb (W e * length w) n) (refusing too_many r w) t

abbrev pub freed : Store → Told
freed s = told done s.image s.words

-- a call on a record and an arena that were found sound
abbrev pub core_call : Edition → List ℕ → List ℕ → Call → Told
core_call e r w (Malloc n) = if_few e r w n (grant_or_no e (malloc_b e r w (need (W e) n)))
core_call e r w (Free off) = if_live e r w off (freed (free_b e r w (chunk_at e off)))
core_call e r w (Realloc off n) = if_few e r w n (if_live e r w off (grant_or_no e (realloc_b e r w (chunk_at e off) (need (W e) n))))
core_call e r w (Memalign al n) = pick (is_in al (alignments e)) (if_few e r w n (grant_or_no e (memalign_b e r w al (need (W e) n)))) (refusing bad_alignment r w)
core_call e r w (Usable off) = if_live e r w off (told (bytes (usable_b e w off)) r w)

-- ---- rows 1 and 2 come first

unfoldable pub call_b : Edition → List ℕ → List ℕ → Call → Told
call_b e r w c = pick (allowed_count (length w)) (pick (sound_b e r w) (core_call e r w c) (refusing unsound r w)) (refusing bad_count r w)
