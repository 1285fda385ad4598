-- A member leaves its ring.
use Rattle.std.specs.Prelude.{◌≡◌, List, [], ◌∷◌, ◌++◌, ℕ, ◌+◌, ◌≤◌}
use Rattle.std.proofs.Common.{sym, ◌∙◌, ap, append-nil, arith}
use Rattle.words.specs.Fields.{Mem, ind, ind_eq, ind_self, count_l}
use Rattle.words.specs.Edition.{Edition, no_link, enc, enc_inj}
use Rattle.tries.specs.TreeAt.{Chain, Knot, Others, RingAt, but_head, but_tail, AgreeBut, keep_knot, keep_member, keep_others, keep_chain, last, last_in, chain_last, chain_append, chain_split, chain_turn}

-- c goes: what changes from m to m'
pub record Cut (e : Edition) (m m' : Mem) (c : ℕ) : Type 0 where
  pub next : (f : ℕ) → m c 2 ≡ enc e f → m' f 3 ≡ m c 3
  pub prev : (r : ℕ) → m c 3 ≡ enc e r → m' r 2 ≡ m c 2
  pub kept : (x j : ℕ) → (m c 2 ≡ enc e x → j ≡ 3 → ⊥) → (m c 3 ≡ enc e x → j ≡ 2 → ⊥) → m' x j ≡ m x j

others-drop : (e : Edition) (m : Mem) (i s : ℕ) (xs : List ℕ) (c : ℕ) (ys : List ℕ) → Others e m i s (xs ++ c ∷ ys) → Others e m i s (xs ++ ys)
others-drop e m i s [] c ys h = h.2
others-drop e m i s (x ∷ xs) c ys h = (h.0, h.1, others-drop e m i s xs c ys h.2)

module _ (e : Edition) (m m' : Mem) (i : ℕ) where
  -- links aside, a ring's cut changes nothing
  steady : (c : ℕ) → Cut e m m' c → (x : ℕ) → AgreeBut (2 ∷ 3 ∷ []) m m' x
  steady c w x j v = w.kept x j (λ _ z. but_head 3 [] j (but_tail 2 (3 ∷ []) j v) z) (λ _ z. but_head 2 (3 ∷ []) j v z)

  -- the tree member goes, and its `next` is the first of the ring that is left
  pub cut_head : (c x : ℕ) (xs : List ℕ) (s : ℕ) → ((y : ℕ) → ind y c + (ind y x + count_l y xs) ≤ 1) → Cut e m m' c → RingAt e m i c (x ∷ xs) s → RingAt e m' i x xs s × Knot m' x (no_link e) (no_link e) (no_link e)
  cut_head c x xs s d w h =
      let a = steady c w x in
      let b = chain_last e m x xs c h.ring.2 in (
        record {
          member = keep_member e m m' (a 1 tt) (a 7 tt) h.others.0;
          others = keep_others e m m' i s xs (λ y _. steady c w y) h.others.2;
          ring = chain_turn e m m' x xs c x (λ y. omega (arith, d y))
              (λ y u n. w.kept y 3 (λ q _. n (enc_inj e y (last x xs) (sym q ∙ b))) (λ _ z. omega arith))
              (λ y u. w.kept y 2 (λ _ z. omega arith) (λ q _. omega (arith, d y, ind_eq y x (enc_inj e y x (sym q ∙ h.ring.0)))))
              (w.next (last x xs) b ∙ h.ring.0) (w.prev x h.ring.0 ∙ b) h.ring.2;
        },
        keep_knot e m m' (a 6 tt) (a 4 tt) (a 5 tt) h.others.1,
      )

  -- another member goes
  pub cut_in : (p c : ℕ) (xs ys : List ℕ) (s : ℕ) → ((y : ℕ) → ind y p + (count_l y xs + (ind y c + count_l y ys)) ≤ 1) → Cut e m m' c → RingAt e m i p (xs ++ c ∷ ys) s → RingAt e m' i p (xs ++ ys) s
  cut_in p c xs ys s d w h =
      record {
        member = keep_member e m m' (a 1 tt) (a 7 tt) h.member;
        others = keep_others e m m' i s (xs ++ ys) (λ y _. steady c w y) (others-drop e m i s xs c ys h.others);
        ring = close ys d q.1;
      }
    where
      a : AgreeBut (2 ∷ 3 ∷ []) m m' p
      a = steady c w p

      q : Chain e m p xs c × Chain e m c ys p
      q = chain_split e m p xs c ys p h.ring

      b : m c 2 ≡ enc e (last p xs)
      b = chain_last e m p xs c q.0

      -- the part before c, led to z
      turned : (z : ℕ) → m c 3 ≡ enc e z → ((y : ℕ) → 1 ≤ count_l y xs → y ≡ z → ⊥) → Chain e m' p xs z
      turned z u n =
          chain_turn e m m' p xs c z (λ y. omega (arith, d y))
          (λ y v k. w.kept y 3 (λ g _. k (enc_inj e y (last p xs) (sym g ∙ b))) (λ _ o. omega arith))
          (λ y v. w.kept y 2 (λ _ o. omega arith) (λ g _. n y v (enc_inj e y z (sym g ∙ u))))
          (w.next (last p xs) b ∙ u) (w.prev z u ∙ b) q.0

      close : (zs : List ℕ) → ((y : ℕ) → ind y p + (count_l y xs + (ind y c + count_l y zs)) ≤ 1) → Chain e m c zs p → Chain e m' p (xs ++ zs) p
      close [] k g = rw (append-nil xs) (turned p g.0 (λ y v o. omega (arith, k y, ind_eq y p o)))
      close (z ∷ zs) k g =
          chain_append e m' p xs z zs p (turned z g.0 (λ y v o. omega (arith, k y, ind_eq y z o)))
          (keep_chain e m m' z zs p
          (λ y v. w.kept y 3 (λ o _. omega (arith, k y, last_in p xs, ap (λ x. ind x p + count_l x xs) (enc_inj e y (last p xs) (sym o ∙ b)))) (λ _ o. omega arith))
          (λ y v. w.kept y 2 (λ _ o. omega arith) (λ o _. omega (arith, k y, ind_eq y z (enc_inj e y z (sym o ∙ g.0)))))
          (w.kept p 2 (λ _ o. omega arith) (λ o _. omega (arith, k p, ind_self p, ind_eq p z (enc_inj e p z (sym o ∙ g.0)))))
          g.2)
