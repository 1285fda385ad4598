-- REFUSAL 6, EXACTLY, OF THE CODE, whose contracts are equations with these words: malloc finds no room exactly when every binned or spare chunk is smaller
-- than the need and the top is not larger than it; realloc exactly when no way in its own place holds and malloc would say so; memalign exactly
-- when malloc's request for the sum would. And then nothing has changed. By what each function obeys, and the rules' own laws. Assumes nothing.
use Rattle.std.specs.Prelude.{◌≡◌, refl, List, [], ℕ, ◌+◌, ◌*◌, ◌%◌, ◌≤◌, ◌<◌}
use Rattle.std.proofs.Common.{sym, ◌∙◌, arith}
use Rattle.std.proofs.Math.Option.{Option, none, some}
use Rattle.words.specs.Edition.{Edition, W, no_link, enc, none_free}
use Rattle.tiling.specs.Tiling.{used, Starts}
use Rattle.rules.specs.BinOf.{huge}
use Rattle.rules.specs.Heap.{Heap}
use Rattle.rules.specs.Malloc.{Grant, malloc}
use Rattle.rules.specs.Realloc.{resize_here, front, realloc}
use Rattle.rules.specs.Memalign.{memalign}
use Rattle.rules.specs.Lookup.{Block}
use Rattle.rules.proofs.ReallocLaws.{some_none, refused_exactly}
use Rattle.rules.proofs.MemalignLaws.{memalign_none}
use Rattle.holds.specs.Ops.{state}
use Rattle.holds.specs.NoRoom.{Tight, no_room_exactly}
use Rattle.chunk.specs.Image.{decode}
use Rattle.chunk.specs.Held.{Held}
use Rattle.malloc.specs.MallocBytes.{Reply, reply, malloc_b}
use Rattle.malloc.specs.MallocObeys.{Obeys}
use Rattle.malloc.proofs.MallocFollows.{malloc_obeys}
use Rattle.realloc.specs.ReallocBytes.{realloc_b}
use Rattle.realloc.proofs.ReallocFollows.{realloc_obeys}
use Rattle.memalign.specs.MemalignBytes.{memalign_b}
use Rattle.memalign.proofs.MemalignObeys.{memalign_obeys}

-- the answer is none exactly when P holds; then image and words are as they were
pub record NoneExactly (e : Edition) (r w : List ℕ) (a : Reply) (P : Type 0) : Type 0 where
  pub only : a.answer ≡ no_link e → P
  pub always : P → a ≡ reply (no_link e) r w

none_when : (e : Edition) (r w : List ℕ) (a : Reply) (o : Option Grant) → Obeys e r w a o → NoneExactly e r w a (o ≡ none)
none_when e r w a none f = record { only = λ _. refl; always = λ _. f }
none_when e r w a (some g) f = record { only = λ q. absurd (none_free e g.place (sym f.0 ∙ q)); always = λ q. some_none q }

for : {e : Edition} {r w : List ℕ} {a : Reply} {P Q : Type 0} → NoneExactly e r w a P → (P → Q) → (Q → P) → NoneExactly e r w a Q
for n f g = record { only = λ q. f (n.only q); always = λ q. n.always (g q) }

module _ (e : Edition) (r w : List ℕ) (h : Heap) (n : Held e r w h []) where
  pub malloc-refuses : (nb : ℕ) → nb % 2 ≡ 0 → 4 ≤ nb → W e * nb < huge → NoneExactly e r w (malloc_b e r w (enc e nb)) (Tight h nb)
  malloc-refuses nb v l hi =
      let x = no_room_exactly e (state (decode r) w) h n.near nb v l hi in
      for (none_when e r w (malloc_b e r w (enc e nb)) (malloc e h nb) (malloc_obeys e r w h n nb v l hi)) x.0 x.1

  pub memalign-refuses : (al m nb : ℕ) → al ≡ 2 * m → 4 ≤ al → al ≤ 1024 → nb % 2 ≡ 0 → 4 ≤ nb → W e * (nb + al + 4) < huge
      → NoneExactly e r w (memalign_b e r w (enc e al) (enc e nb)) (Tight h (nb + al + 4))
  memalign-refuses al m nb q la ha v l hi =
      let x = no_room_exactly e (state (decode r) w) h n.near (nb + al + 4) (omega arith) (omega arith) hi in
      let y = memalign_none e h al nb in
      for (none_when e r w (memalign_b e r w (enc e al) (enc e nb)) (memalign e h al nb) (memalign_obeys e r w h al m nb n q la ha v l hi)) (λ z. x.0 (y.0 z)) (λ z. y.1 (x.1 z))

  -- xs stand before the block at p of s words, ys after it: `resize_here` is none where no way in place holds
  pub realloc-refuses : (p s nb : ℕ) → Starts 0 h.chunks p (used s) → nb % 2 ≡ 0 → 4 ≤ nb → W e * nb < huge → (b : Block h.chunks p s)
      → NoneExactly e r w (realloc_b e r w (enc e p) (enc e nb)) ((resize_here e h (front b.f) p s nb b.f.after ≡ none) × Tight h nb)
  realloc-refuses p s nb st v l hi b =
      let x = no_room_exactly e (state (decode r) w) h n.near nb v l hi in
      let y = refused_exactly e h p s nb b in
      for (none_when e r w (realloc_b e r w (enc e p) (enc e nb)) (realloc e h p nb) (realloc_obeys e r w h n p s nb st v l hi)) (λ z. ((y.0 z).0, x.0 (y.0 z).1)) (λ z. y.1 (z.0, x.1 z.1))
