-- A buffer that reads fill one after the other begins with what they gave. Assumes nothing.
use Rattle.std.proofs.Common.{◌≡◌, ℕ, ◌+◌, ◌-◌, ◌≤◌, List, ◌++◌, Option, None, Some, length, take, subst, sym, ap, ◌∙◌, append_assoc}
use Rattle.std.proofs.lemmas.List.{take-append-le}
use Rattle.std.proofs.Math.Seq.{take-append-add, length-take-le}
use Rattle.std.specs.Io.KnownBytes.{Consumes}
use borrow.Rule.Slice.PartMut.{put_mid, post_of}

-- one read, and then the next
both : (a b c : Option (List ℕ)) (bs cs : List ℕ) → Consumes a b bs → Consumes b c cs → Consumes a c (bs ++ cs)
both None b c bs cs p q = tt
both (Some x) None c bs cs p q = absurd p
both (Some x) (Some y) None bs cs p q = absurd q
both (Some x) (Some y) (Some z) bs cs p q = p ∙ ap (λ l. bs ++ l) q ∙ sym (append_assoc bs cs z)

-- l held `done` bytes, and then n of p, which is what stood behind them
module _ (l p : List ℕ) (done n : ℕ) (room : done ≤ length l) (few : n ≤ length p) where
  held : take (done + n) (put_mid done (length l - done) l p) ≡ take done l ++ take n p
  held =
      let e : length (take done l) ≡ done = length-take-le done l room in
      ap (λ k. take (k + n) (take done l ++ (p ++ post_of done (length l - done) l))) (sym e)
      ∙ take-append-add (take done l) (p ++ post_of done (length l - done) l) n
      ∙ ap (λ z. take done l ++ z) (take-append-le n p (post_of done (length l - done) l) few)

  pub filled : (a b c : Option (List ℕ)) → Consumes a b (take done l) → Consumes b c (take n p)
      → Consumes a c (take (done + n) (put_mid done (length l - done) l p))
  filled a b c q r = subst (Consumes a c) (sym held) (both a b c (take done l) (take n p) q r)
