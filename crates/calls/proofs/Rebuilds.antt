-- THE REBUILD BY VALUE: refused it hands back set-up's empty record and the words as given; on words of an arena that is sound under some
-- record it is granted, the new record holds the rules' heap, blocks stay where they are and keep their owners' words. By `RebuildLaws`
-- (`rebuild`). Both editions. Assumes nothing.
use Rattle.std.specs.Prelude.{◌≡◌, refl, true, false, ◌&&◌, List, [], ℕ, length}
use Rattle.std.proofs.Common.{sym, ◌∙◌, subst}
use Rattle.std.proofs.Math.Path.{ap}
use Rattle.words.specs.Edition.{Edition, no_link}
use Rattle.tiling.specs.Tiling.{Chunk, Heads}
use Rattle.rules.specs.Heap.{Heap}
use Rattle.rules.specs.Calls.{refused, bad_count, unsound}
use Rattle.holds.specs.Holds.{Control, Near, Holds}
use Rattle.sound.specs.SoundBytes.{count_ok}
use Rattle.decides.specs.SoundLaws.{count_there}
use Rattle.rebuild.specs.RebuildBytes.{empty_image, Rebuilt, refuses, allowed_start, rebuild_b}
use Rattle.rebuild.specs.Rebuilding.{rebuilt_heap}
use Rattle.rebuild.proofs.RebuildLaws as R
use Rattle.rebuild.specs.RebuildLaws.{Tiling}
use Rattle.rebuild.proofs.RebuildLaws.{rebuilds, no_tiling}
use Rattle.calls.specs.Record.{reads, numbers_of, empty_control}
use Rattle.calls.specs.RecordLaws.{held_read}
use Rattle.calls.specs.ByValue.{ends, rebuild_says, rebuild_a}
use Rattle.calls.specs.Rebuilds.{Remakes}

-- ---- refused

pub empty_numbers : (e : Edition) → numbers_of (empty_image e (no_link e) 0 0) ≡ empty_control e (no_link e) 0 0
unfolding empty_image reads
empty_numbers e = refl

module _ (e : Edition) (w : List ℕ) (start : ℕ) where
  refused_with : (n : ℕ) → rebuild_b e w start ≡ refuses e n w → rebuild_a e w start ≡ ends (rebuild_says n) (empty_control e (no_link e) 0 0) w
  unfolding rebuild_a
  refused_with n q =
      ap (λ (x : Rebuilt). ends (rebuild_says x.refusal) (numbers_of x.image) x.words) q
      ∙ ap (λ c. ends (rebuild_says n) c w) (empty_numbers e)

  pub rebuild_count : (count_ok (length w) && allowed_start start) ≡ false
      → rebuild_a e w start ≡ ends (refused bad_count) (empty_control e (no_link e) 0 0) w
  rebuild_count q = refused_with 1 (R.bad_count e w start q)

  pub rebuild_unsound : count_ok (length w) ≡ true → allowed_start start ≡ true → (Tiling e w → ⊥)
      → rebuild_a e w start ≡ ends (refused unsound) (empty_control e (no_link e) 0 0) w
  rebuild_unsound c g n = refused_with 2 (no_tiling e w start c g n)

-- ---- granted

pub remakes : (e : Edition) (w : List ℕ) (start : ℕ) → count_ok (length w) ≡ true → allowed_start start ≡ true
    → (cs : List Chunk) (ts : ℕ) → Heads e w cs ts → Remakes e w cs ts (rebuild_a e w start)
unfolding rebuild_a
remakes e w start c g cs ts k =
    let x = rebuild_b e w start in
    let f = rebuilds e w start c g cs ts k in
    let h = rebuilt_heap e cs ts in
    record {
      answer = ap rebuild_says f.granted;
      held = subst (λ d. Near e d x.words h []) (sym (held_read e x.image x.words h [] f.held)) f.held.near;
      chunks = f.stays.chunks;
      count = f.count;
      reach = f.reach;
      keeps = λ q s st i lo hi. f.owners q s st i lo hi;
    }

-- set-up's start, which a history's rebuild is given
pub start_0 : allowed_start 0 ≡ true
unfolding allowed_start
start_0 = refl

-- on an arena that some record makes sound
pub rebuild_held : (e : Edition) (c : Control) (w : List ℕ) (h : Heap) → Holds e c w h → Remakes e w h.chunks h.top (rebuild_a e w 0)
rebuild_held e c w h n =
    remakes e w 0 (count_there (length w) n.least n.most n.even) start_0 h.chunks h.top n.heads
