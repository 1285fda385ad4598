-- THE OUTPUT IS `replayed` OF THE LOG, WHATEVER THE PIECES (`whole`). What a program writes that begins, feeds the pieces one after the
-- other, writes after each what stands in the buffer, and at last the end's line, is said with the contracts' own definitions (`output`).
-- Assumes nothing.
use Rattle.std.specs.Prelude.{Option, None, Some, ◌≡◌, ℕ, suc, ◌+◌, ◌*◌, ◌^◌, ◌<◌, ◌≤◌, List, [], ◌∷◌, ◌++◌, length, take, drop}
use mathlib.Core.List.{flatten, append-nil, append_assoc}
use Rattle.std.proofs.Math.Path.{refl, ap}
use Rattle.std.proofs.Common.{sym, ◌∙◌, add-zero, arith, length-append, take_at, le-leb}
use Rattle.std.proofs.lemmas.List.Edits.{sets, sets-eq}
use Rattle.std.proofs.Math.Seq.{length-sets}
use Rattle.box_log.specs.Answers.{header, answer_line, header_put, header_end}
use Rattle.box_log.specs.Cutting.{line_after, step_at, ending, hand_out, handed, out_of, line_of, place_of}
use Rattle.box_log.proofs.CuttingLaws.{cut-whole, in_pieces}
use Rattle.box_log.specs.declared.entry.Entry.{Entry}
use Rattle.box_log.specs.declared.cut.Place.{Place}
use Rattle.player.specs.Replayed as r
use Rattle.player.specs.Replayed.{Work, idle, lines_from, replayed}
use Rattle.player.specs.PlayBytes.{Scene, play_b}
use Rattle.player.specs.PlayObeys.{Plays}
use Rattle.player.proofs.PlayObeys.{plays}
use Rattle.player.specs.LineRoom.{play_words, line_short, put_long, put_far, put_text}
use Rattle.player.specs.FeedBytes.{fresh, Desk, desk, next, tell_b, handed_out, play_all}
use Rattle.player.specs.Pieces.{On, Short, Wrote, cleared, output, shown, work_after, written}

-- ---- what is written

-- ---- records and their lines

same_line : {a b c x y z : ℕ} → a ≡ x → b ≡ y → c ≡ z → answer_line a b c ≡ answer_line x y z
same_line {b = b} {c = c} {x = x} {y = y} p q s = ap (λ n. answer_line n b c) p ∙ ap (λ n. answer_line x n c) q ∙ ap (answer_line x y) s

module _ (d : Desk) (k : ℕ) (s : Work) (e : Entry) (o : On d k s) (l : k + 1 < 2 ^ 64) (room : d.run.at + 64 ≤ length d.out) where
  abbrev t : Scene
  t = play_b e d.run.words d.image d.buffer

  p : Plays (r.line_of s e) d.buffer t
  p = plays s e d.run.words d.image d.buffer o.room o.stands

  number : next d.run.lines ≡ k + 1
  number = omega (arith, o.lines, l)

  short : length (answer_line (next d.run.lines) t.played.refusal t.played.offset) ≤ 64
  short =
      let w = play_words e d.run.words d.image d.buffer in
      line_short (next d.run.lines) t.played.refusal t.played.offset (omega (arith, number, l)) w.refusal w.offset

  pub tell_wrote : Wrote d (tell_b d e) 1 (k + 1) (r.line_of s e).work (answer_line (k + 1) (r.line_of s e).refusal (r.line_of s e).offset)
  unfolding tell_b
  tell_wrote =
      record {
        shows = put_text (next d.run.lines) t.played.refusal t.played.offset d.out d.run.at room short
            ∙ ap (λ z. shown d ++ z) (same_line number p.refusal p.offset);
        on = record { lines = number; room = omega (arith, p.long, o.room); stands = p.stands };
        far = put_far (next d.run.lines) t.played.refusal t.played.offset d.out d.run.at room short;
        long = put_long (next d.run.lines) t.played.refusal t.played.offset d.out d.run.at room short;
      }

pub all_wrote : (d : Desk) (k : ℕ) (s : Work) (es : List Entry) → On d k s → k + length es < 2 ^ 64
    → d.run.at + 64 * length es ≤ length d.out
    → Wrote d (play_all d es) (length es) (k + length es) (work_after s es) (lines_from (k + 1) s es)
unfolding play_all lines_from
all_wrote d k s [] o l room =
    record {
      shows = sym (append-nil (shown d));
      on = record { lines = omega (arith, o.lines); room = o.room; stands = o.stands };
      far = omega arith;
      long = refl;
    }
all_wrote d k s (e ∷ es) o l room =
    let a = tell_wrote d k s e o (omega (arith, l)) (omega (arith, room)) in
    let b = all_wrote (tell_b d e) (k + 1) (r.line_of s e).work es a.on (omega (arith, l)) (omega (arith, room, a.far, a.long)) in
    record {
      shows = b.shows ∙ ap (λ z. z ++ lines_from (k + 1 + 1) (r.line_of s e).work es) a.shows ∙ append_assoc (shown d) _ _;
      on = record { lines = omega (arith, b.on.lines); room = b.on.room; stands = b.on.stands };
      far = omega (arith, a.far, b.far);
      long = b.long ∙ a.long;
    }

pub lines_append : (k : ℕ) (s : Work) (es fs : List Entry)
    → lines_from k s (es ++ fs) ≡ lines_from k s es ++ lines_from (k + length es) (work_after s es) fs
unfolding lines_from
lines_append k s [] fs = ap (λ n. lines_from n s fs) (sym (add-zero k))
lines_append k s (e ∷ es) fs =
    ap (λ z. answer_line k (r.line_of s e).refusal (r.line_of s e).offset ++ z) (lines_append (k + 1) (r.line_of s e).work es fs
    ∙ ap (λ n. lines_from (k + 1) (r.line_of s e).work es ++ lines_from n (work_after s (e ∷ es)) fs)
    (let z : k + 1 + length es ≡ k + suc (length es) = omega arith in z))
    ∙ sym (append_assoc (answer_line k (r.line_of s e).refusal (r.line_of s e).offset) _ _)

-- ---- pieces

hand_short : (g : Option Entry) (es : List Entry) → length (hand_out g es) ≤ suc (length es)
hand_short None es = omega arith
hand_short (Some e) es = omega arith

-- a byte ends one record at most
out_short : (line : List ℕ) (p : Place) (x : List ℕ) → length (out_of line p x) ≤ length x
unfolding out_of
out_short line p [] = omega arith
out_short line p (b ∷ bs) =
    omega (
      arith,
      hand_short (step_at line p b).got (out_of (line_after line p b) (step_at line p b).place bs),
      out_short (line_after line p b) (step_at line p b).place bs,
    )

end_is : (d : Desk) (k : ℕ) (s : Work) (g : Option Entry) → On d k s → k + 1 < 2 ^ 64 → 64 ≤ length d.out
    → shown (handed_out (cleared d) g) ≡ lines_from (k + 1) s (hand_out g [])
unfolding lines_from
end_is d k s None o l room = refl
end_is d k s (Some e) o l room =
    (tell_wrote (cleared d) k s e (record { lines = o.lines; room = o.room; stands = o.stands }) l (omega (arith, room))).shows
    ∙ sym (append-nil (answer_line (k + 1) (r.line_of s e).refusal (r.line_of s e).offset))

pub written_is : (m : ℕ) (line : List ℕ) (p : Place) (d : Desk) (k : ℕ) (s : Work) (xs : List (List ℕ)) → On d k s
    → 1 ≤ m → 64 * m ≤ length d.out → Short m xs → k + length (flatten xs) + 1 < 2 ^ 64
    → written line p d xs ≡ lines_from (k + 1) s (handed line p (flatten xs))
unfolding written handed flatten
written_is m line p d k s [] o n room sh l = end_is d k s (ending line p) o (omega (arith, l)) (omega (arith, n, room))
written_is m line p d k s (x ∷ xs) o n room sh l =
    let es = out_of line p x in
    let f = out_short line p x in
    let j = length-append x (flatten xs) in
    let w = all_wrote (cleared d) k s (out_of line p x) (record { lines = o.lines; room = o.room; stands = o.stands })
    (omega (arith, f, j, l)) (omega (arith, f, room, sh.0)) in
    let ih = written_is m (line_of line p x) (place_of line p x) (play_all (cleared d) (out_of line p x)) (k + length (out_of line p x))
    (work_after s (out_of line p x)) xs w.on n
    (omega (arith, w.long, room)) sh.1 (omega (arith, f, j, l)) in
    ap (λ z. z ++ written (line_of line p x) (place_of line p x) (play_all (cleared d) (out_of line p x)) xs) w.shows
    ∙ ap (λ z. lines_from (k + 1) s (out_of line p x) ++ z) (ih
    ∙ ap (λ z. lines_from z (work_after s (out_of line p x)) (handed (line_of line p x) (place_of line p x) (flatten xs)))
    (let z : k + length (out_of line p x) + 1 ≡ k + 1 + length (out_of line p x) = omega arith in z))
    ∙ sym (lines_append (k + 1) s (out_of line p x) (handed (line_of line p x) (place_of line p x) (flatten xs)))
    ∙ ap (lines_from (k + 1) s) (sym (in_pieces line p x (flatten xs)))

-- ---- the header

module _ (out : List ℕ) (l : 64 ≤ length out) where
  head_end : header_end out ≡ 21
  unfolding header_end
  head_end = rw (le-leb 64 (length out) l) refl

  head_put : header_put out ≡ sets out 0 header
  unfolding header_put
  head_put = rw (le-leb 64 (length out) l) refl

  head_long : length (header_put out) ≡ length out
  head_long = ap length head_put ∙ length-sets out 0 header

  head_text : take (header_end out) (header_put out) ≡ header
  head_text =
      ap (λ z. take z (header_put out)) head_end ∙ ap (take 21) (head_put ∙ sets-eq header out 0 (omega (arith, l)))
      ∙ take_at header (drop 21 out) 21 refl

-- ---- the whole

-- a line of 64 bytes, a buffer of 8,192 words, one of 64 bytes for each byte of the longest piece, pieces of any other kind, a log of fewer
-- than 2^64 - 1 bytes
pub whole : (m : ℕ) (line im v out : List ℕ) (xs : List (List ℕ)) → length line ≡ 64 → 8192 ≤ length v → 1 ≤ m → 64 * m ≤ length out
    → Short m xs
    → length (flatten xs) + 1 < 2 ^ 64 → output line im v out xs ≡ replayed (flatten xs)
unfolding output replayed
whole m line im v out xs a b n room sh l =
    let f : 64 ≤ length out = omega (arith, n, room) in
    ap (λ z. z ++ written line (fresh (header_end out)).place (desk (fresh (header_end out)).run im v (header_put out)) xs) (head_text out f)
    ∙ ap (λ z. header ++ z) (written_is m line (fresh (header_end out)).place
    (desk (fresh (header_end out)).run im v (header_put out)) 0 idle xs
    (record { lines = refl; room = b; stands = refl }) n (omega (arith, room, head_long out f)) sh (omega (arith, l))
    ∙ ap (lines_from 1 idle) (cut-whole line (flatten xs) a))
