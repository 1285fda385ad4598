-- LENDING IS KEPT: what `lend` and `calls` show of the words of a record, said of the record. Assumes nothing.
use Rattle.std.specs.Prelude.{◌≡◌, List, [], ◌↔◌, ℕ, ◌+◌, ◌-◌, ◌*◌, ◌<◌, length, get_or, take, drop}
use Rattle.std.proofs.Common.{sym, ◌∙◌, arith}
use Rattle.std.proofs.Math.Path.{ap}
use Rattle.words.specs.Edition.{wide}
use Rattle.tiling.specs.Tiling.{used, Starts}
use Rattle.rules.specs.Heap.{Heap}
use Rattle.rules.specs.Calls.{Usable, bytes, block_of}
use Rattle.holds.specs.Holds.{Control, Holds}
use Rattle.lend.specs.LendBytes.{lent, lent_from, lent_words}
use Rattle.lend.proofs.LendLaws.{lent_is}
use Rattle.calls.specs.CallBytes.{refusal}
use Rattle.calls.specs.Record.{image}
use Rattle.calls.specs.RecordLaws.{image-length, held-image}
use Rattle.calls.specs.ByValue.{call_a}
use Rattle.calls.proofs.Lending as lending
use Rattle.calls.proofs.Stores.{lent_long, store_writes}
use Rattle.calls.specs.Histories.{box}
use Rattle.promises.specs.Promises.{says, refused_by, Lends}
use Rattle.promises.proofs.GrantedBy.{value}

module _ (c : Control) (w : List ℕ) (off : ℕ) where
  lent_bytes : (n : ℕ) → says c w (Usable off) ≡ bytes n → 8 * length (lent wide (image c) w off) ≡ n
  unfolding call_a
  lent_bytes n q =
      let l = (lending.lend_as_usable wide (image c) w off).1 (ap refusal q) in
      ap (λ m. 8 * m) (lent_long wide (image c) w off) ∙ ap value (sym (lending.lent_bytes wide (image c) w off (image-length c) l) ∙ q)

  none_lent : lent wide (image c) w off ≡ [] ↔ lent_words wide (image c) w off ≡ 0
  none_lent = (
    λ q. sym (lent_long wide (image c) w off) ∙ ap length q,
    λ q. ap (λ m. take m (drop (lent_from wide (image c) w off) w)) q,
  )

  empty_as_refused : lent wide (image c) w off ≡ [] ↔ (refused_by c w (Usable off) ≡ 0 → ⊥)
  unfolding call_a
  empty_as_refused =
      let a = lending.empty_as_refused wide (image c) w off (image-length c) in
      ((λ q. a.0 (none_lent.0 q)), (λ f. none_lent.1 (a.1 f)))

lent_words_lem : (c : Control) (w : List ℕ) (h : Heap) (x s i : ℕ) → Holds wide c w h → Starts 0 h.chunks x (used s) → 8 * i < 8 * s - 8
    → get_or (lent wide (image c) w (block_of wide x)) i 0 ≡ get_or w (x + 2 + i) 0
lent_words_lem c w h x s i n st l = lent_is wide (image c) w h (held-image wide c w h [] n) x s st i (omega (arith, l))

pub lends : Lends
lends =
    record {
      lent_bytes = lent_bytes;
      empty_as_refused = empty_as_refused;
      lent_words = lent_words_lem;
      store_writes = λ c w h off i v n. store_writes wide (box c w) h n off i v;
    }
