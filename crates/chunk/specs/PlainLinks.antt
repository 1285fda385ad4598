-- Links in bytes: `none` lies past every arena, so a write through a link needs no test for it. Assumes nothing.
use Rattle.std.specs.Prelude.{◌≡◌, ℕ, ◌+◌, ◌/◌, ◌≤◌, List, length, ◌==◌, refl}
use Rattle.std.proofs.Common.{arith, eqb-true}
use Rattle.std.proofs.Math.Seq.{set_out}
use Rattle.words.specs.Logic.{pick, pick_case}
use Rattle.words.specs.Edition.{Edition, wide, narrow, W, no_link}
use Rattle.words.specs.Fields.{skip, do_w}
use Rattle.words.specs.Fields as Fields
use Rattle.chunk.specs.Bytes.{put}

none_past : (e : Edition) (n k : ℕ) → n ≤ 8192 → n ≤ no_link e / W e + k
none_past wide n k l = omega arith
none_past narrow n k l = omega arith

pub put_none : (e : Edition) (w : List ℕ) (k v : ℕ) → length w ≤ 8192 → put e w (no_link e) k v ≡ w
put_none e w k v l = set_out w (no_link e / W e + k) v (none_past e (length w) k l)

-- a write through the link f, as a list of writes has it
pub link_plain : (e : Edition) (w : List ℕ) (f k v : ℕ) → length w ≤ 8192 → put e w f k v ≡ do_w w (pick (f == no_link e) skip (Fields.put (f / W e) k v))
link_plain e w f k v l =
    pick_case (λ u. put e w f k v ≡ do_w w u) (f == no_link e) (λ z. rw (eqb-true f (no_link e) z) (put_none e w k v l)) (λ z. refl)
