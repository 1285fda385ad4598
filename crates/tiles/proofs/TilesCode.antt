-- The walk of the heads: one law for each way out of the loop, and one for a turn. Assumes nothing.
use mathlib.Core.Bool.{Bool, true, false, ◌&&◌}
use mathlib.Core.List.{List}
use mathlib.Core.Logic.{⊎_elim}
use mathlib.Core.Path.{◌≡◌, refl, sym, ap, ◌∙◌}
use Prim.Native.Nat.{ℕ, zero, suc, ◌+◌, ◌-◌, ◌*◌, ◌^◌, ◌≤◌, ◌<◌}
use native.Mathlib.Omega.{arith}
use lib.Dec.{eqb, leb}
use borrow.Author.Tests.{eq-eqb, ne_eqb, lt-ltb, le-ltb, le-leb, lt-leb, leb-true}
use Rattle.std.specs.Prelude.{Some, None}
use Rattle.words.specs.Logic.{pick, pick_case, by, same?, le_or_lt, false-true}
use Rattle.words.specs.Edition.{Edition, wide, W, flags_of}
use Rattle.chunk.specs.Bytes.{word}
use Rattle.marks.specs.Marks.{set_mark, checked, turns}
use Rattle.tiles.specs.declared.Tile.{Tile}
use Rattle.tiles.specs.TilesBytes.{Step, step, tile_of, used_flags, head_size, room_for, free_ok, chunk_at, walk_heads}

-- ---- two tests that say the same

pub eqb_same : (a b c d : ℕ) → (a ≡ b → c ≡ d) → (c ≡ d → a ≡ b) → eqb a b ≡ eqb c d
eqb_same a b c d f g = ⊎_elim (λ q. eq-eqb a b q ∙ sym (eq-eqb c d (f q))) (λ n. ne_eqb a b n ∙ sym (ne_eqb c d (λ z. n (g z)))) (same? a b)

pub leb_same : (a b c d : ℕ) → (a ≤ b → c ≤ d) → (b < a → d < c) → leb a b ≡ leb c d
leb_same a b c d f g = ⊎_elim (λ l. le-leb a b l ∙ sym (le-leb c d (f l))) (λ l. lt-leb a b l ∙ sym (lt-leb c d (g l))) (le_or_lt a b)

-- ---- a chunk

-- what lies in the room ends at the top or before it
room_end : (p n top : ℕ) (E : Edition) → room_for E p n top ≡ true → p + n ≤ top
room_end p n top E = go (leb (4 * W E) n) (leb (p + n) top) (leb-true (p + n) top)
  where
    go : (a b : Bool) → (b ≡ true → p + n ≤ top) → a && b ≡ true → p + n ≤ top
    go true b f q = f q
    go false b f q = false-true q

abbrev tile : Step → Tile
tile s = record { size = s.size; used = s.used }

-- what a chunk that is there says
pub tile_there : (s : Step) (t : Tile) → tile_of s ≡ Some t → (eqb s.size 0 ≡ false) × (s ≡ step t.size t.used)
tile_there s t = by (λ b. eqb s.size 0 ≡ b → pick b None (Some (tile s)) ≡ Some t → (eqb s.size 0 ≡ false) × (s ≡ step t.size t.used))
    (eqb s.size 0) (λ _ z q. cc) (λ _ z q. (z, let e : step s.size s.used ≡ step t.size t.used = cc in e)) refl

pub no_tile : (s : Step) → tile_of s ≡ None → eqb s.size 0 ≡ true
no_tile s = by (λ b. eqb s.size 0 ≡ b → pick b None (Some (tile s)) ≡ None → eqb s.size 0 ≡ true)
    (eqb s.size 0) (λ _ z q. z) (λ _ z q. cc) refl

-- the chunk that is there ends at the top or before it
pub chunk_size : (E : Edition) (w : List ℕ) (p : ℕ) (pu : Bool) (top : ℕ) → ((chunk_at E w p pu top).size ≡ 0 → ⊥)
    → p + (chunk_at E w p pu top).size ≤ top
unfolding chunk_at
chunk_size E w p pu top =
    pick_case (λ (s : Step). (s.size ≡ 0 → ⊥) → p + s.size ≤ top) (room_for E p (head_size E w p) top)
    (λ q. pick_case (λ (s : Step). (s.size ≡ 0 → ⊥) → p + s.size ≤ top) (eqb (flags_of E (word E w p 1)) (used_flags pu))
    (λ _ _. room_end p (head_size E w p) top E q)
    (λ _. pick_case (λ (s : Step). (s.size ≡ 0 → ⊥) → p + s.size ≤ top)
    (free_ok E w pu (flags_of E (word E w p 1)) (head_size E w p) (p + head_size E w p))
    (λ _ _. room_end p (head_size E w p) top E q) (λ _ n. absurd (n refl))))
    (λ _ n. absurd (n refl))

-- ---- the walk

-- after i turns the walk from here is the walk
pub record Walks (w : List ℕ) (top : ℕ) (m₀ : List ℕ) (p : ℕ) (pu : Bool) (m : List ℕ) (i : ℕ) : Type 0 where
  pub same : walk_heads wide w top (turns - i) p pu m ≡ walk_heads wide w top turns 0 true m₀

module _ (w : List ℕ) (top : ℕ) where
  pub walk_start : (m : List ℕ) → Walks w top m 0 true m 0
  walk_start m = record { same = refl }

  -- one turn of the definition
  module _ (p : ℕ) (pu : Bool) (m : List ℕ) where
    walk_top : (k : ℕ) → 0 < k → top ≤ p → walk_heads wide w top k p pu m ≡ checked pu m
    unfolding walk_heads
    walk_top zero a l = absurd (omega arith)
    walk_top (suc k) a l = rw (le-ltb p top l) refl

    walk_none : (k : ℕ) → 0 < k → p < top → eqb (chunk_at wide w p pu top).size 0 ≡ true → walk_heads wide w top k p pu m ≡ checked false m
    unfolding walk_heads
    walk_none zero a l q = absurd (omega arith)
    walk_none (suc k) a l q = rw (lt-ltb p top l, q) refl

    walk_next : (k j n : ℕ) (u : Bool) → k ≡ suc j → p < top → eqb (chunk_at wide w p pu top).size 0 ≡ false → chunk_at wide w p pu top ≡ step n u
        → walk_heads wide w top k p pu m ≡ walk_heads wide w top j (p + n) u (pick u m (set_mark wide m p))
    unfolding walk_heads
    walk_next k j n u a l q e =
        ap (λ x. walk_heads wide w top x p pu m) a
        ∙ rw (lt-ltb p top l, q) (ap (λ (s : Step). walk_heads wide w top j (p + s.size) s.used (pick s.used m (set_mark wide m p))) e)

module _ (w : List ℕ) (top : ℕ) (m₀ : List ℕ) (p : ℕ) (pu : Bool) (m : List ℕ) (i : ℕ) (v : Walks w top m₀ p pu m i) where
  pub walk_out : turns ≤ i → checked false m ≡ walk_heads wide w top turns 0 true m₀
  unfolding walk_heads
  walk_out l = sym (ap (λ k. walk_heads wide w top k p pu m) (let z : turns - i ≡ 0 = omega arith in z)) ∙ v.same

  module _ (a : i < turns) where
    pub walk_done : top ≤ p → checked pu m ≡ walk_heads wide w top turns 0 true m₀
    walk_done l = sym (walk_top w top p pu m (turns - i) (omega arith) l) ∙ v.same

    module _ (l : p < top) where
      pub walk_bad : tile_of (chunk_at wide w p pu top) ≡ None → checked false m ≡ walk_heads wide w top turns 0 true m₀
      walk_bad e = sym (walk_none w top p pu m (turns - i) (omega arith) l (no_tile (chunk_at wide w p pu top) e)) ∙ v.same

      module _ (t : Tile) (e : tile_of (chunk_at wide w p pu top) ≡ Some t) where
        pub walk_fits : top < 2 ^ 64 → p + t.size < 2 ^ 64
        walk_fits b =
            let z = tile_there (chunk_at wide w p pu top) t e in
            let n : (chunk_at wide w p pu top).size ≡ t.size = ap (λ (s : Step). s.size) z.1 in
            omega (arith, n, chunk_size wide w p pu top (λ q. false-true (sym z.0 ∙ ap (λ x. eqb x 0) q)))

        pub walk_turn : {m₁ : List ℕ} → m₁ ≡ pick t.used m (set_mark wide m p) → Walks w top m₀ (p + t.size) t.used m₁ (i + 1)
        walk_turn {m₁} q =
            let z = tile_there (chunk_at wide w p pu top) t e in
            record {
              same = ap (walk_heads wide w top (turns - (i + 1)) (p + t.size) t.used) q
                  ∙ sym (walk_next w top p pu m (turns - i) (turns - (i + 1)) t.size t.used (omega arith) l z.0 z.1) ∙ v.same;
            }

pub ruleset laws = (walk_start, walk_out, walk_done, walk_bad, walk_fits, walk_turn)
