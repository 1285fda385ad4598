-- The calls on the record's words: each as the rows that it asks, one after the other, and then the core. Assumes nothing.
use Rattle.std.proofs.Common.{◌≡◌, ℕ, List, length, ap, ◌∙◌}
use Rattle.words.specs.Edition.{wide}
use Rattle.index.specs.Sizes.{need}
use Rattle.rules.specs.Calls as rules
use Rattle.rules.specs.Calls.{Call, Malloc, Free, Realloc, Memalign, Usable, refused, allowed_count, is_in, alignments}
use Rattle.chunk.specs.Bytes.{less}
use Rattle.chunk.specs.declared.access.BlockOff.{BlockOff}
use Rattle.malloc.specs.MallocBytes.{malloc_b}
use Rattle.free.specs.FreeBytes.{free_b}
use Rattle.realloc.specs.ReallocBytes.{realloc_b}
use Rattle.memalign.specs.MemalignBytes.{memalign_b}
use Rattle.sound.specs.SoundBytes.{sound_b, usable_b}
use Rattle.calls.specs.CallBytes.{told, chunk_at, grant_or_no, freed, core_call, call_b}
use Rattle.arena.specs.Refusals.{rows12, row3, row4, row5}
use Rattle.arena.proofs.RefusalLaws.{heeded, by12, by3, by4, by5, heed}

-- ---- the five calls

module _ (r w : List ℕ) where
  checked : (k : Call) → call_b wide r w k ≡ heeded (rows12 r w) r w (core_call wide r w k)
  unfolding call_b rows12
  checked k = by12 r w (core_call wide r w k) (allowed_count (length w)) (sound_b wide r w)

  pub malloc_rows : (n : ℕ)
      → call_b wide r w (Malloc n) ≡ heeded (rows12 r w) r w (heeded (row4 (length w) n) r w (grant_or_no wide (malloc_b wide r w (need 8 n))))
  malloc_rows n = checked (Malloc n) ∙ heed r w (rows12 r w) (by4 r w _ n)

  pub free_rows : (b : BlockOff)
      → call_b wide r w (Free b.0) ≡ heeded (rows12 r w) r w (heeded (row5 r w b) r w (freed (free_b wide r w (chunk_at wide b.0))))
  free_rows b = checked (Free b.0) ∙ heed r w (rows12 r w) (by5 r w _ b)

  pub usable_rows : (b : BlockOff)
      → call_b wide r w (Usable b.0) ≡ heeded (rows12 r w) r w (heeded (row5 r w b) r w (told (rules.bytes (usable_b wide w b.0)) r w))
  usable_rows b = checked (Usable b.0) ∙ heed r w (rows12 r w) (by5 r w _ b)

  pub realloc_rows : (b : BlockOff) (n : ℕ)
      → call_b wide r w (Realloc b.0 n)
      ≡ heeded (rows12 r w) r w (heeded (row4 (length w) n) r w
      (heeded (row5 r w b) r w (grant_or_no wide (realloc_b wide r w (chunk_at wide b.0) (need 8 n)))))
  realloc_rows b n = checked (Realloc b.0 n) ∙ heed r w (rows12 r w) (by4 r w _ n ∙ heed r w (row4 (length w) n) (by5 r w _ b))

  pub memalign_rows : (al n : ℕ)
      → call_b wide r w (Memalign al n)
      ≡ heeded (rows12 r w) r w (heeded (row3 al) r w (heeded (row4 (length w) n) r w (grant_or_no wide (memalign_b wide r w al (need 8 n)))))
  memalign_rows al n = checked (Memalign al n) ∙ heed r w (rows12 r w) (by3 r w _ al ∙ heed r w (row3 al) (by4 r w _ n))

pub freeing : (r w : List ℕ) (b : BlockOff) {c : ℕ} {r' w' : List ℕ} → c ≡ less wide b.0 16
    → r' ≡ (free_b wide r w c).image → w' ≡ (free_b wide r w c).words → told rules.done r' w' ≡ freed (free_b wide r w (chunk_at wide b.0))
freeing r w b {w' = w'} i j u =
    ap (λ v. told rules.done v w') j ∙ ap (told rules.done (free_b wide r w _).image) u ∙ ap (λ v. freed (free_b wide r w v)) i
