-- The run over records and over a piece: one law for each return and for a turn of the loop. Assumes nothing.
use Rattle.std.proofs.Common.{Option, None, Some, ◌≡◌, ℕ, ◌+◌, ◌<◌, ◌≤◌, List, [], ◌∷◌, length, get_or, drop, sym, refl, ap, ◌∙◌, add-one, arith, drop_of_length-le, drop-cons}
use Rattle.box_log.specs.Answers.{line_put, line_end}
use Rattle.box_log.specs.Cutting.{line_after, step_at, hand_out, out_of, line_of, place_of}
use Rattle.box_log.specs.declared.entry.Entry.{Entry}
use Rattle.box_log.specs.declared.cut.Place.{Place}
use Rattle.player.specs.PlayBytes.{scene, play_b}
use Rattle.player.specs.FeedBytes.{run, Desk, desk, next, lined, tell_b, handed_out, play_all}
use Rattle.player.specs.declared.play.Played.{Played}
use Rattle.player.specs.declared.feed.Run.{Run}

-- ---- a record and its line

pub tell_is : (e : Entry) (d : Run) (r v out : List ℕ) (x : Played) (r' v' : List ℕ) {k end : ℕ} {o : List ℕ}
    → scene x r' v' ≡ play_b e d.words r v → k ≡ next d.lines
    → o ≡ line_put out d.at k x.refusal x.offset → end ≡ line_end out d.at k x.refusal x.offset
    → desk (run x.words k end) r' v' o ≡ tell_b (desk d r v out) e
unfolding tell_b
tell_is e d r v out x r' v' {k} q n p s =
    ap (desk (run x.words k _) r' v') p
    ∙ ap (λ z. desk (run x.words k z) r' v' (line_put out d.at k x.refusal x.offset)) s
    ∙ ap (λ z. desk (run x.words z (line_end out d.at z x.refusal x.offset)) r' v'
    (line_put out d.at z x.refusal x.offset)) n
    ∙ ap (lined d out) q

-- ---- a piece: the bytes that are left, fed on, give what the whole piece gives

play_hand : (d : Desk) (g : Option Entry) (es : List Entry) → play_all d (hand_out g es) ≡ play_all (handed_out d g) es
unfolding play_all
play_hand d None es = refl
play_hand d (Some e) es = refl

pub record Feeding (piece line₀ : List ℕ) (p₀ : Place) (d₀ : Desk) (line : List ℕ) (p : Place) (d : Desk) (i : ℕ) : Type 0 where
  pub inside : i ≤ length piece
  pub line_long : length line ≡ length line₀
  pub buffer_long : length d.buffer ≡ length d₀.buffer
  pub out_long : length d.out ≡ length d₀.out
  pub line_same : line_of line p (drop i piece) ≡ line_of line₀ p₀ piece
  pub place_same : place_of line p (drop i piece) ≡ place_of line₀ p₀ piece
  pub desk_same : play_all d (out_of line p (drop i piece)) ≡ play_all d₀ (out_of line₀ p₀ piece)

pub feeding_turn : {piece line₀ : List ℕ} {p₀ : Place} {d₀ : Desk} {line : List ℕ} {p : Place} {d : Desk} {i : ℕ}
    {line' : List ℕ} {p' : Place} {d' : Desk}
    → Feeding piece line₀ p₀ d₀ line p d i → i < length piece
    → line' ≡ line_after line p (get_or piece i 0) → p' ≡ (step_at line p (get_or piece i 0)).place
    → d' ≡ handed_out d (step_at line p (get_or piece i 0)).got
    → length line' ≡ length line → length d'.buffer ≡ length d.buffer → length d'.out ≡ length d.out
    → Feeding piece line₀ p₀ d₀ line' p' d' (i + 1)
unfolding line_of place_of out_of
feeding_turn {piece} {line₀} {p₀} {d₀} {line} {p} {d} {i} {line'} {p'} {d'} f l a b c x y z =
    let n : drop i piece ≡ get_or piece i 0 ∷ drop (i + 1) piece = drop-cons piece i 0 l
    ∙ ap (λ k. get_or piece i 0 ∷ drop k piece) (sym (add-one i)) in
    record {
      inside = omega arith;
      line_long = x ∙ f.line_long;
      buffer_long = y ∙ f.buffer_long;
      out_long = z ∙ f.out_long;
      line_same = ap (λ k. line_of k p' (drop (i + 1) piece)) a
          ∙ ap (λ k. line_of (line_after line p (get_or piece i 0)) k (drop (i + 1) piece)) b
          ∙ ap (line_of line p) (sym n) ∙ f.line_same;
      place_same = ap (λ k. place_of k p' (drop (i + 1) piece)) a
          ∙ ap (λ k. place_of (line_after line p (get_or piece i 0)) k (drop (i + 1) piece)) b
          ∙ ap (place_of line p) (sym n) ∙ f.place_same;
      desk_same = ap (λ k. play_all d' (out_of k p' (drop (i + 1) piece))) a
          ∙ ap (λ k. play_all d' (out_of (line_after line p (get_or piece i 0)) k (drop (i + 1) piece))) b
          ∙ ap (λ k. play_all k (out_of (line_after line p (get_or piece i 0)) (step_at line p (get_or piece i 0)).place (drop (i + 1) piece))) c
          ∙ sym (play_hand d (step_at line p (get_or piece i 0)).got
          (out_of (line_after line p (get_or piece i 0)) (step_at line p (get_or piece i 0)).place (drop (i + 1) piece)))
          ∙ ap (λ k. play_all d (out_of line p k)) (sym n) ∙ f.desk_same;
    }

module _ {piece line₀ : List ℕ} {p₀ : Place} {d₀ : Desk} {line : List ℕ} {p : Place} {d : Desk} {i : ℕ}
    (f : Feeding piece line₀ p₀ d₀ line p d i) (l : length piece ≤ i) where
  none_left : drop i piece ≡ []
  none_left = drop_of_length-le piece l

  pub feeding_line : line ≡ line_of line₀ p₀ piece
  unfolding line_of
  feeding_line = ap (line_of line p) (sym none_left) ∙ f.line_same

  pub feeding_place : p ≡ place_of line₀ p₀ piece
  unfolding place_of
  feeding_place = ap (place_of line p) (sym none_left) ∙ f.place_same

  feeding_desk : d ≡ play_all d₀ (out_of line₀ p₀ piece)
  unfolding play_all out_of
  feeding_desk = ap (λ k. play_all d (out_of line p k)) (sym none_left) ∙ f.desk_same

-- the buffer of lines was emptied first
pub feeding_from : {piece line₀ : List ℕ} {p₀ : Place} {m : Run} (n : Run) {r v out : List ℕ} {line : List ℕ} {p : Place} {d : Desk} {i : ℕ}
    → Feeding piece line₀ p₀ (desk m r v out) line p d i → length piece ≤ i → m ≡ n → d ≡ play_all (desk n r v out) (out_of line₀ p₀ piece)
feeding_from {piece} {line₀} {p₀} n {r} {v} {out} f l q = feeding_desk f l ∙ ap (λ z. play_all (desk z r v out) (out_of line₀ p₀ piece)) q
