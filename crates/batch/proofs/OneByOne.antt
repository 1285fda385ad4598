-- ONE EQUATION FOR ALL INPUTS: the batch on a record by value is the same calls made one at a time (`call_a`), each given the record last
-- handed back: the same answers, the same record, every word of the arena. On a sound start no call is refused as unsound (`let_through`),
-- and what a call leaves in the image is the image of the record that it hands back, since no call writes the eighth word (`SpareWord`).
-- Assumes nothing.
use Rattle.std.specs.Prelude.{◌≡◌, refl, List, [], ℕ, ◌/◌, length, get_or}
use Rattle.std.proofs.Common.{sym, ◌∙◌, ap, subst}
use Rattle.words.specs.Logic.{pick_case}
use Rattle.words.specs.Edition.{Edition}
use Rattle.rules.specs.Heap.{Heap}
use Rattle.rules.specs.Calls.{Call, Answer, granted, done, bytes, refused, answer_to}
use Rattle.holds.specs.Holds.{Control}
use Rattle.chunk.specs.Bytes.{Store, store}
use Rattle.calls.specs.CallBytes.{Told, Still, refusal, core_call}
use Rattle.calls.specs.CallObeys.{Follows}
use Rattle.calls.proofs.CallObeys.{call_obeys}
use Rattle.calls.specs.Record.{fits, image, numbers_of}
use Rattle.calls.specs.RecordLaws.{image-length, decode-image, image_near, held_fits, held-image, held_read}
use Rattle.calls.specs.ByValue.{Ends, handed_back, heard, call_a}
use Rattle.calls.specs.Histories.{Box, box, HeldIn}
use Rattle.calls.proofs.Histories.{let_through, calls-held}
use Rattle.batch.specs.BatchBytes.{offset_of, Ran, runs, made, ended, refused_a, ends_as, batch_a, alone, ends_alone, one_by_one}
use Rattle.batch.specs.BatchLaws.{Like, InStep}
use Rattle.batch.proofs.BatchLaws.{in_step, sound_held, guard_same}
use Rattle.batch.specs.SpareWord.{call_spare, image_read}
use Rattle.batch.specs.OneByOne.{Same}

image-spare : (c : Control) → get_or (image c) 7 0 ≡ 0
unfolding image
image-spare c = pick_case (λ (r : List ℕ). get_or r 7 0 ≡ 0) (fits c) (λ _. refl) (λ _. refl)

-- the image that a call leaves is that of the record that it hands back
back_image : (e : Edition) (c : Control) (w : List ℕ) (h : Heap) → HeldIn e (box c w) h → (k : Call)
    → let t = core_call e (image c) w k in t.image ≡ image (handed_back t.answer c t.image)
back_image e c w h n k = go t.answer refl
  where
    t : Told
    t = core_call e (image c) w k

    f : Follows e (image c) w t (answer_to e (length w) h k)
    f = call_obeys e (image c) w h (held-image e c w h [] n) k

    read : t.image ≡ image (numbers_of t.image)
    read =
        sym (image_read e t.image t.words (answer_to e (length w) h k).heap f.held (call_spare 0 e (image c) w k (image-spare c)))

    go : (a : Answer) → t.answer ≡ a → t.image ≡ image (handed_back a c t.image)
    go (granted b) q = read
    go done q = read
    go (bytes n) q = (f.left (subst Still (sym q) tt)).0
    go (refused why) q = (f.left (subst Still (sym q) tt)).0

call_is : (e : Edition) (c : Control) (w : List ℕ) (h : Heap) → HeldIn e (box c w) h → (k : Call)
    → call_a e c w k ≡ heard c (core_call e (image c) w k)
unfolding call_a
call_is e c w h n k = ap (heard c) (let_through e (image c) w h (held-image e c w h [] n) k)

same_like : (e : Edition) (s : Store) (t : Box) → Same e s t → (k : Call) → Like (Same e) (made e s k) (alone e t k)
same_like e s t q k =
    subst (λ r. Like (Same e) (made e (store r s.words) k) (alone e t k)) (sym q.image)
    (subst (λ w. Like (Same e) (made e (store (image t.control) w) k) (alone e t k)) (sym q.words) here)
  where
    c : Control
    c = t.control

    w : List ℕ
    w = t.words

    d : call_a e t.control t.words k ≡ heard t.control (core_call e (image t.control) t.words k)
    d = call_is e t.control t.words q.heap q.held k

    here : Like (Same e) (made e (store (image t.control) t.words) k) (alone e t k)
    here =
        record {
          refusal = sym (ap (λ (x : Ends). refusal x.answer) d);
          offset = sym (ap (λ (x : Ends). offset_of x.answer) d);
          left = record {
            heap = (answer_to e (length t.words) q.heap k).heap;
            image = back_image e t.control t.words q.heap q.held k ∙ sym (ap (λ (x : Ends). image x.control) d);
            words = sym (ap (λ (x : Ends). x.words) d);
            held = (calls-held e t q.heap q.held k).held;
          };
        }

-- a record that is held is what its image says
read_image : (e : Edition) (c : Control) (w : List ℕ) (h : Heap) → HeldIn e (box c w) h → numbers_of (image c) ≡ c
read_image e c w h n = held_read e (image c) w h [] (held-image e c w h [] n) ∙ decode-image c (held_fits e c w h [] n)

pub one_by_one_lem : (e : Edition) (c : Control) (w cs xs : List ℕ) → batch_a e c w cs xs ≡ one_by_one e c w cs xs
unfolding batch_a one_by_one
one_by_one_lem e c w cs xs =
    guard_same e (image c) w cs xs (refused_a c w xs) (ends_as (runs (made e) (store (image c) w) cs xs 0 (length cs / 3)))
    (ends_alone (runs (alone e) (box c w) cs xs 0 (length cs / 3)))
    (λ q. let k = sound_held e (image c) w (image-length c) q in
    ending (in_step (made e) (alone e) (Same e) (same_like e) (store (image c) w) (box c w)
    (record {
      heap = k.0;
      image = refl;
      words = refl;
      held = image_near e c w k.0 k.1.near;
    }) cs xs 0 (length cs / 3)))
  where
    ending : {x : Ran Store} {y : Ran Box} → InStep (Same e) x y → ends_as x ≡ ends_alone y
    ending {x = x} {y = y} s =
        let t = s.left in
        ap (λ z. ended 0 z x.left.words x.answers)
        (ap numbers_of t.image ∙ read_image e y.left.control y.left.words t.heap t.held)
        ∙ ap (λ z. ended 0 y.left.control z x.answers) t.words ∙ ap (ended 0 y.left.control y.left.words) s.answers
