-- One law for each contract that is not found by itself: what the callees have told, put together as the definition says it.
use Rattle.std.proofs.Common.{◌≡◌, ℕ, zero, suc, ◌+◌, ◌-◌, ◌*◌, ◌/◌, ◌%◌, ◌^◌, ◌<◌, ◌≤◌, eqb, List, [], ◌∷◌, length, get_or, set, sym, refl, ap, ◌∙◌, arith, eq-eqb, ne_eqb}
use lib.Seq.{set_out}
use Rattle.words.specs.Edition.{wide}
use Rattle.chunk.specs.Bytes.{wrap, word, put, used_w, top_w, free_w, give_w, pinuse_w, unpin_w, take_w, inuse_w, cinuse_b, pinuse_b, Kind, small, tree, link_at, mark_r, clear_r, set_link, enter_r, relink_r}

pub get_past : (w : List ℕ) (i : ℕ) → length w ≤ i → 0 ≡ get_or w i 0
get_past [] i l = refl
get_past (x ∷ xs) zero l = absurd (omega arith)
get_past (x ∷ xs) (suc i) l = get_past xs i (omega arith)

pub put_past : (w : List ℕ) (i v : ℕ) → length w ≤ i → w ≡ set w i v
put_past w i v l = sym (set_out w i v l)

module _ (w : List ℕ) (c n : ℕ) where
  pub used_w_lem : {w₁ : List ℕ} {s : ℕ} → s ≡ wrap wide (n + 3) → w₁ ≡ put wide w c 1 s → w₁ ≡ used_w wide w c n
  used_w_lem e₁ e₂ = cc

  pub top_w_lem : {w₁ : List ℕ} {s : ℕ} → s ≡ wrap wide (n + 1) → w₁ ≡ put wide w c 1 s → w₁ ≡ top_w wide w c n
  top_w_lem e₁ e₂ = cc

  pub free-w : {w₁ w₂ : List ℕ} {s d : ℕ} → s ≡ wrap wide (n + 1) → w₁ ≡ put wide w c 1 s → d ≡ wrap wide (c + n) → w₂ ≡ put wide w₁ d 0 n → w₂ ≡ free_w wide w c n
  free-w e₁ e₂ e₃ e₄ = cc

  pub give_w_lem : (d : ℕ) {w₁ w₂ w₃ : List ℕ} {s : ℕ} → s ≡ wrap wide (n + 1) → w₁ ≡ put wide w c 1 s → w₂ ≡ put wide w₁ d 0 n → w₃ ≡ unpin_w wide w₂ d → w₃ ≡ give_w wide w c n d
  give_w_lem d e₁ e₂ e₃ e₄ = cc

  pub take-w : {w₁ w₂ : List ℕ} {d : ℕ} → w₁ ≡ used_w wide w c n → d ≡ wrap wide (c + n) → w₂ ≡ pinuse_w wide w₁ d → w₂ ≡ take_w wide w c n
  take-w e₁ e₂ e₃ = cc

  pub inuse_w_lem : {w₁ w₂ : List ℕ} {s d h : ℕ} → h ≡ word wide w c 1 → s ≡ wrap wide (n + (h % 2 + 2)) → w₁ ≡ put wide w c 1 s → d ≡ wrap wide (c + n) → w₂ ≡ pinuse_w wide w₁ d → w₂ ≡ inuse_w wide w c n
  inuse_w_lem e₁ e₂ e₃ e₄ e₅ = cc

module _ (w : List ℕ) (c : ℕ) {w₁ : List ℕ} {h : ℕ} where
  pub pinuse_w_lem : h ≡ word wide w c 1 → w₁ ≡ put wide w c 1 (h / 2 * 2 + 1) → w₁ ≡ pinuse_w wide w c
  pinuse_w_lem e₁ e₂ = cc

  pub unpin_w_lem : h ≡ word wide w c 1 → w₁ ≡ put wide w c 1 (h / 2 * 2) → w₁ ≡ unpin_w wide w c
  unpin_w_lem e₁ e₂ = cc

-- a kind's links stand in the image
pub link_below : (k : Kind) (i : ℕ) → i < 32 → link_at k i < 72
link_below small i l = omega arith
link_below tree i l = omega arith

-- a bin's first member
module _ (k : Kind) (r : List ℕ) (i v : ℕ) {r₁ r₂ : List ℕ} where
  pub enter_r_lem : r₁ ≡ mark_r k r i → r₂ ≡ set_link k r₁ i v → r₂ ≡ enter_r k r i v
  enter_r_lem e₁ e₂ = e₂ ∙ ap (λ z. set_link k z i v) e₁

  pub relink_none : v ≡ 2 ^ 64 - 1 → r₁ ≡ clear_r k r i → r₂ ≡ set_link k r₁ i v → r₂ ≡ relink_r wide k r i v
  relink_none q e₁ e₂ = e₂ ∙ ap (λ z. set_link k z i v) e₁ ∙ sym (rw (eq-eqb v (2 ^ 64 - 1) q) refl)

pub relink_some : (k : Kind) (r : List ℕ) (i v : ℕ) {r₁ : List ℕ} → (v ≡ 2 ^ 64 - 1 → ⊥) → r₁ ≡ set_link k r i v → r₁ ≡ relink_r wide k r i v
relink_some k r i v n e₁ = e₁ ∙ sym (rw (ne_eqb v (2 ^ 64 - 1) n) refl)

-- the flags
module _ (w : List ℕ) (c : ℕ) {h : ℕ} where
  pub cinuse_b_lem : h ≡ word wide w c 1 → eqb (h / 2 % 2) 1 ≡ cinuse_b wide w c
  cinuse_b_lem q = ap (λ x. eqb (x / 2 % 2) 1) q

  pub pinuse_b_lem : h ≡ word wide w c 1 → eqb (h % 2) 1 ≡ pinuse_b wide w c
  pinuse_b_lem q = ap (λ x. eqb (x % 2) 1) q

pub ruleset laws = (get_past, put_past, used_w_lem, top_w_lem, free-w, give_w_lem, take-w, inuse_w_lem, pinuse_w_lem, unpin_w_lem, cinuse_b_lem, pinuse_b_lem, enter_r_lem, relink_none, relink_some)
