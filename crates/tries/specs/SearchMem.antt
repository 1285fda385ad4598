-- Best fit on the fields: L1 of the searches, and that it is the search on the tree.
use Rattle.std.specs.Prelude.{ℕ, zero, suc, ◌/◌, eqb}
use Rattle.words.specs.Fields.{Mem}
use Rattle.words.specs.Logic.{pick}
use Rattle.words.specs.Edition.{Edition, W, no_link}
use Rattle.tries.specs.Bits.{bit}
use Rattle.tries.specs.Search.{Cand, better}

abbrev pub size_m : Edition → Mem → ℕ → ℕ
size_m e m p = m p 1 / W e

-- down the leftmost children, from the link v
abbrev pub down_m : Edition → Mem → ℕ → ℕ → ℕ → Cand → Cand
down_m e m zero need v c = c
down_m e m (suc n) need v c =
    let p = v / W e in
    pick (eqb v (no_link e)) c (down_m e m n need (pick (eqb (m p 4) (no_link e)) (m p 5) (m p 4)) (better need p (size_m e m p) c))

-- along the bits of the need, from the link v; rst is the link to the deepest right subtree that was not taken
abbrev pub walk_m : Edition → Mem → ℕ → ℕ → ℕ → ℕ → ℕ → Cand → Cand
walk_m e m n zero need v rst c = pick (eqb v (no_link e)) (down_m e m n need rst c) (better need (v / W e) (size_m e m (v / W e)) c)
walk_m e m n (suc k) need v rst c =
    let p = v / W e in
    let c₁ = better need p (size_m e m p) c in
    pick (eqb v (no_link e)) (down_m e m n need rst c)
    (pick (eqb (size_m e m p) need) c₁
    (pick (bit k need) (walk_m e m n k need (m p 5) rst c₁) (walk_m e m n k need (m p 4) (pick (eqb (m p 5) (no_link e)) rst (m p 5)) c₁)))
