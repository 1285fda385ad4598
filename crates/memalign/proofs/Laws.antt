-- One law for each contract clause and branch: what the callees have told, put together as the definition says it.
use Prim.Native.Nat.{ℕ, ◌+◌, ◌-◌, ◌%◌, ◌^◌, ◌≤◌, ◌<◌}
use mathlib.Core.Path.{◌≡◌, refl, sym, ap, ◌∙◌}
use mathlib.Core.List.{List}
use lib.Dec.{ltb}
use borrow.Author.Tests.{le-leb, lt-leb, lt-ltb, le-ltb, eq-eqb, ne_eqb}
use Rattle.words.specs.Logic.{pick}
use Rattle.words.specs.Edition.{wide}
use Rattle.index.specs.Sizes.{need}
use Rattle.chunk.specs.Bytes.{Store, store, wrap, less, size_b, inuse_w}
use Rattle.malloc.specs.MallocBytes.{Reply, reply, malloc_b}
use Rattle.free.specs.FreeBytes.{dispose_b}
use Rattle.realloc.specs.ReallocBytes.{cut_back}
use Rattle.memalign.specs.MemalignBytes.{lead_of, give_lead_b, give_tail_b, trim_b, aligned_b, memalign_b}

-- ---- the lead

module _ (p al : ℕ) where
  pub lead_zero : al ≡ 0 → 0 ≡ lead_of wide p al
  unfolding lead_of
  lead_zero q = rw (eq-eqb al 0 q) refl

  pub lead_none : {b : ℕ} → (al ≡ 0 → ⊥) → b ≡ wrap wide (p + 16) → b % al ≡ 0 → 0 ≡ lead_of wide p al
  unfolding lead_of
  lead_none q e₁ z = rw (ne_eqb al 0 q, sym e₁, eq-eqb (_ % al) 0 z) refl

  pub lead_more : {b l x : ℕ} → (al ≡ 0 → ⊥) → b ≡ wrap wide (p + 16) → (b % al ≡ 0 → ⊥) → l ≡ less wide al (b % al) → l ≤ 32 → x ≡ wrap wide (l + al) → x ≡ lead_of wide p al
  unfolding lead_of
  lead_more q e₁ z e₂ k e₃ = rw (ne_eqb al 0 q, sym e₁, ne_eqb (_ % al) 0 z, sym e₂, le-leb _ 32 k) e₃

  pub lead_some : {b l : ℕ} → (al ≡ 0 → ⊥) → b ≡ wrap wide (p + 16) → (b % al ≡ 0 → ⊥) → l ≡ less wide al (b % al) → 32 < l → l ≡ lead_of wide p al
  unfolding lead_of
  lead_some q e₁ z e₂ k = rw (ne_eqb al 0 q, sym e₁, ne_eqb (_ % al) 0 z, sym e₂, lt-leb _ 32 k) refl

module _ (r w : List ℕ) (p lead n q m : ℕ) (w₁ w₂ : List ℕ) (e₁ : n ≡ size_b wide w p) (e₂ : q ≡ wrap wide (p + lead)) (e₃ : m ≡ less wide n lead) (e₄ : w₁ ≡ inuse_w wide w q m) (e₅ : w₂ ≡ inuse_w wide w₁ p lead) where
  given : dispose_b wide r w₂ p lead ≡ give_lead_b wide r w p lead
  unfolding give_lead_b
  given = rw (e₅, e₄, e₃, e₂, e₁) refl

  pub lead_image : {r₁ : List ℕ} → r₁ ≡ (dispose_b wide r w₂ p lead).image → r₁ ≡ (give_lead_b wide r w p lead).image
  lead_image e = e ∙ ap (λ (t : Store). t.image) given

  pub lead_words : {w₃ : List ℕ} → w₃ ≡ (dispose_b wide r w₂ p lead).words → w₃ ≡ (give_lead_b wide r w p lead).words
  lead_words e = e ∙ ap (λ (t : Store). t.words) given

-- ---- the tail

module _ (r w : List ℕ) (p nb n s : ℕ) (e₁ : n ≡ size_b wide w p) (e₂ : s ≡ wrap wide (nb + 32)) where
  tail_with : Store
  tail_with = pick (ltb s n) (cut_back wide r w p nb (less wide n nb)) (store r w)

  named : tail_with ≡ give_tail_b wide r w p nb
  unfolding give_tail_b tail_with
  named = rw (e₂, e₁) refl

  pub tail_image : {m : ℕ} {r₁ : List ℕ} → s < n → m ≡ less wide n nb → r₁ ≡ (cut_back wide r w p nb m).image → r₁ ≡ (give_tail_b wide r w p nb).image
  unfolding tail_with
  tail_image l e₃ e₄ = e₄ ∙ ap (λ x. (cut_back wide r w p nb x).image) e₃ ∙ sym (rw (lt-ltb s n l) refl) ∙ ap (λ (t : Store). t.image) named

  pub tail_words : {m : ℕ} {w₁ : List ℕ} → s < n → m ≡ less wide n nb → w₁ ≡ (cut_back wide r w p nb m).words → w₁ ≡ (give_tail_b wide r w p nb).words
  unfolding tail_with
  tail_words l e₃ e₄ = e₄ ∙ ap (λ x. (cut_back wide r w p nb x).words) e₃ ∙ sym (rw (lt-ltb s n l) refl) ∙ ap (λ (t : Store). t.words) named

  pub kept_image : {r₁ : List ℕ} → n ≤ s → r₁ ≡ r → r₁ ≡ (give_tail_b wide r w p nb).image
  unfolding tail_with
  kept_image l e = e ∙ sym (rw (le-ltb s n l) refl) ∙ ap (λ (t : Store). t.image) named

  pub kept_words : {w₁ : List ℕ} → n ≤ s → w₁ ≡ w → w₁ ≡ (give_tail_b wide r w p nb).words
  unfolding tail_with
  kept_words l e = e ∙ sym (rw (le-ltb s n l) refl) ∙ ap (λ (t : Store). t.words) named

-- ---- both

module _ (r w : List ℕ) (p lead nb : ℕ) where
  pub trim_none : {r₁ w₁ : List ℕ} → lead ≡ 0 → r₁ ≡ (give_tail_b wide r w p nb).image → w₁ ≡ (give_tail_b wide r w p nb).words → reply p r₁ w₁ ≡ trim_b wide r w p lead nb
  unfolding trim_b
  trim_none q e₁ e₂ = rw (eq-eqb lead 0 q, e₁, e₂) refl

  pub trim_some : {q : ℕ} {r₁ r₂ w₁ w₂ : List ℕ} → (lead ≡ 0 → ⊥) → q ≡ wrap wide (p + lead) → r₁ ≡ (give_lead_b wide r w p lead).image → w₁ ≡ (give_lead_b wide r w p lead).words → r₂ ≡ (give_tail_b wide r₁ w₁ q nb).image
      → w₂ ≡ (give_tail_b wide r₁ w₁ q nb).words → reply q r₂ w₂ ≡ trim_b wide r w p lead nb
  unfolding trim_b
  trim_some z e₁ e₂ e₃ e₄ e₅ = rw (ne_eqb lead 0 z, e₄, e₅, e₂, e₃, e₁) refl

module _ (r w : List ℕ) (al nb : ℕ) where
  -- the request, step by step
  asked : {x y z : ℕ} → x ≡ wrap wide (al + 24) → y ≡ wrap wide (nb + x) → z ≡ need 8 y % 2 ^ 64 → (m : Reply) → m ≡ malloc_b wide r w z → aligned_b wide al nb m ≡ memalign_b wide r w al nb
  unfolding memalign_b
  asked e₁ e₂ e₃ m e₄ = rw (e₄, e₃, e₂, e₁) refl

  pub refused : {x y z a : ℕ} {r₁ w₁ : List ℕ} → x ≡ wrap wide (al + 24) → y ≡ wrap wide (nb + x) → z ≡ need 8 y % 2 ^ 64 → reply a r₁ w₁ ≡ malloc_b wide r w z → a ≡ 2 ^ 64 - 1 → reply a r₁ w₁ ≡ memalign_b wide r w al nb
  unfolding aligned_b
  refused {x} {y} {z} {a} {r₁} {w₁} e₁ e₂ e₃ e₄ q = sym (rw (eq-eqb a (2 ^ 64 - 1) q) refl) ∙ asked e₁ e₂ e₃ (reply a r₁ w₁) e₄

  pub aligned_is : {x y z a k : ℕ} {r₁ w₁ : List ℕ} {t : Reply} → x ≡ wrap wide (al + 24) → y ≡ wrap wide (nb + x) → z ≡ need 8 y % 2 ^ 64 → reply a r₁ w₁ ≡ malloc_b wide r w z → (a ≡ 2 ^ 64 - 1 → ⊥) → k ≡ lead_of wide a al
      → t ≡ trim_b wide r₁ w₁ a k nb → t ≡ memalign_b wide r w al nb
  unfolding aligned_b
  aligned_is {x} {y} {z} {a} {k} {r₁} {w₁} e₁ e₂ e₃ e₄ q e₅ e₆ = e₆ ∙ ap (λ v. trim_b wide r₁ w₁ a v nb) e₅ ∙ sym (rw (ne_eqb a (2 ^ 64 - 1) q) refl) ∙ asked e₁ e₂ e₃ (reply a r₁ w₁) e₄

pub ruleset laws = (lead_zero, lead_none, lead_more, lead_some, lead_image, lead_words, tail_image, tail_words, kept_image, kept_words, trim_none, trim_some, refused, aligned_is)
