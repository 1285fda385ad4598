-- WHAT MAY SWAY AN ANSWER: words that agree in the list hold one heap, and go on holding one; a heap that is held settles the record and
-- the words of
-- the list. Assumes nothing.
use Rattle.std.specs.Prelude.{◌≡◌, List, [], ℕ, length, get_or}
use Rattle.std.proofs.Common.{sym, ◌∙◌, subst}
use Rattle.words.specs.Edition.{wide}
use Rattle.rules.specs.Heap.{Heap}
use Rattle.holds.specs.Holds.{Control, Holds}
use Rattle.holds.specs.Governed.{Governed, governed_frame}
use Rattle.holds.specs.SameWords.{governed_same}
use Rattle.holds.specs.Unique.{control_unique}
use Rattle.calls.specs.Histories.{box, Event, after, heap_after, HeldIn}
use Rattle.calls.proofs.Histories.{goes, agree_answers}
use Rattle.promises.specs.Promises.{Swayed}

module _ (c : Control) (w v : List ℕ) (h : Heap) (n : Holds wide c w h) (l : length v ≡ length w)
    (f : (i : ℕ) → Governed h i → get_or v i 0 ≡ get_or w i 0) (es : List Event) where
  -- the heap that both hold after es
  abbrev heap : Heap
  heap = heap_after wide (length w) h es

  here : HeldIn wide (after wide (box c w) es) heap
  here = (goes wide (box c w) h n es).held

  there : HeldIn wide (after wide (box c v) es) heap
  there = subst (λ (k : ℕ). HeldIn wide (after wide (box c v) es) (heap_after wide k h es)) l
      (goes wide (box c v) h (governed_frame wide c w h [] n v l f) es).held

  long : length (after wide (box c v) es).words ≡ length (after wide (box c w) es).words
  long = (goes wide (box c v) h (governed_frame wide c w h [] n v l f) es).count ∙ l ∙ sym (goes wide (box c w) h n es).count

  same_record : (after wide (box c v) es).control ≡ (after wide (box c w) es).control
  same_record = control_unique wide (after wide (box c v) es).control (after wide (box c w) es).control (after wide (box c v) es).words
      (after wide (box c w) es).words heap long there here

  same_words : (i : ℕ) → Governed heap i → get_or (after wide (box c v) es).words i 0 ≡ get_or (after wide (box c w) es).words i 0
  same_words i g = governed_same wide (after wide (box c v) es).control (after wide (box c w) es).control
      (after wide (box c v) es).words (after wide (box c w) es).words heap long there here i g

pub swayed : Swayed
swayed =
    record {
      same_answers = λ c w v h n a es. sym (agree_answers wide c w v h n a.0 a.1 es);
      same_record = λ c w v h n a es. same_record c w v h n a.0 a.1 es;
      same_words = λ c w v h n a es. (long c w v h n a.0 a.1 es, same_words c w v h n a.0 a.1 es);
    }
