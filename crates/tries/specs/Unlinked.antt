-- `unlink_large_chunk` for callers: its two rounds as one list of writes, where these lie, the tree and the root link after it.
-- Assumes nothing.
use Rattle.std.specs.Prelude.{◌≡◌, refl, Bool, true, false, List, ◌++◌, ℕ, ◌≤◌, eqb, length}
use Rattle.std.proofs.Common.{sym, ◌∙◌, ap, subst, arith}
use Rattle.words.specs.Fields.{within_map, within_append, write_w_append, write_m_append, upd_miss, Mem, Write, write_m, write_w, fld, Views, Spaced, view_writes, Within}
use Rattle.words.specs.Logic.{pick, pick_case}
use Rattle.words.specs.Edition.{Edition, no_link, root_mark, enc}
use Rattle.tries.specs.Tree.{Tree, count, Distinct, unlink}
use Rattle.tries.specs.TreeAt.{link, TreeAt, Agree, but_lt}
use Rattle.tries.specs.Unlink.{Child, field_of}
use Rattle.tries.specs.UnlinkWords.{deep_m, clear, round1, heir, round2, new_root, depth, unlink_m}
use Rattle.tries.specs.UnlinkMem.{Step, unlink_mem, unlink_w, round2_same}

-- the two rounds as one list of writes
abbrev pub unlink_writes : Edition → Mem → ℕ → ℕ → List Write
unlink_writes e m n c = round1 e m n c ++ round2 e (write_m m (round1 e m n c)) c (heir e m n c)

-- the first round leaves parent words
pub round1_parent : (e : Edition) (m : Mem) (n c x : ℕ) → write_m m (round1 e m n c) x 6 ≡ m x 6
round1_parent e m n c x =
    pick_case (λ us. write_m m us x 6 ≡ m x 6) (eqb (m c 3) (enc e c))
    (λ _. pick_case (λ us. write_m m us x 6 ≡ m x 6) (eqb (m c 5) (no_link e))
    (λ _. pick_case (λ us. write_m m us x 6 ≡ m x 6) (eqb (m c 4) (no_link e)) (λ _. refl) (λ _. cleared (deep_m e m n c false)))
    (λ _. cleared (deep_m e m n c true)))
    (λ _. refl)
  where
    cleared : (d : Child) → write_m m (clear e d) x 6 ≡ m x 6
    cleared d = upd_miss m d.up (field_of d.side) (no_link e) x 6 (λ _ z. side d.side z)
      where
        side : (b : Bool) → 6 ≡ field_of b → ⊥
        side true z = omega arith
        side false z = omega arith

-- What unlink does, for callers: the words, where they lie, the tree, the root link.
pub record Unlinked (e : Edition) (w : List ℕ) (D : ℕ → Type 0) (i n c : ℕ) (t : Tree) : Type 0 where
  pub words : unlink_w e w n c ≡ write_w w (unlink_writes e (fld w) n c)
  pub within : Within 8 D (unlink_writes e (fld w) n c)
  pub tree : TreeAt e (write_m (fld w) (unlink_writes e (fld w) n c)) i (root_mark e) (unlink c t)
  pub rooted : (h : ℕ) → h ≡ link e t → new_root e (fld w) c (heir e (fld w) n c) h ≡ link e (unlink c t)

pub unlinked : (e : Edition) (w : List ℕ) (C D : ℕ → Type 0) (i n c : ℕ) (t : Tree) → Spaced 8 C (length w) → ((x : ℕ) → D x → C x) → ((x : ℕ) → 1 ≤ count x t → D x) → depth t ≤ n → Distinct t → 1 ≤ count c t
    → TreeAt e (fld w) i (root_mark e) t → Unlinked e w D i n c t
unfolding unlink_w unlink_m
unlinked e w C D i n c t sp g ct k d hc h =
    record {
      words = ap (write_w w₁) (round2_same e m₁ (fld w₁) c v C (agree c (g c (ct c hc))) agree (within_map 8 D C us₂ g st.in2)) ∙ sym (write_w_append w us us₂);
      within = within_append 8 D us us₂ st.in1 st.in2;
      tree = subst (λ m. TreeAt e m i (root_mark e) (unlink c t)) (sym (write_m_append (fld w) us us₂)) st.tree;
      rooted = λ x u. ap (λ y. pick (eqb y (root_mark e)) v x) (sym (round1_parent e (fld w) n c c)) ∙ st.rooted x u;
    }
  where
    st : Step e (fld w) i n c D t (unlink c t)
    st = unlink_mem e (fld w) i n c t D ct k d hc h

    us : List Write
    us = round1 e (fld w) n c

    w₁ : List ℕ
    w₁ = write_w w us

    m₁ : Mem
    m₁ = write_m (fld w) us

    v : ℕ
    v = heir e (fld w) n c

    us₂ : List Write
    us₂ = round2 e m₁ c v

    view₁ : Views 8 C w₁ m₁
    view₁ = view_writes w (fld w) us sp (λ x a j b. refl) (within_map 8 D C us g st.in1)

    agree : (x : ℕ) → C x → Agree m₁ (fld w₁) x
    agree x a j z = view₁ x a j (but_lt j z)
