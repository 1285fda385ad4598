-- Words as fields of places: the two-index memory `Mem`, counts of places, lists of writes, and that writes to the words are writes to the fields.
-- Everything about overlap of words is here, in `view_set`; the files above only tell places apart.
use Rattle.std.specs.Prelude.{◌≡◌, refl, Bool, true, false, List, [], ◌∷◌, ◌++◌, ◌⊎◌, ℕ, ◌+◌, ◌≤◌, ◌<◌, T, eqb, leb, ltb, length, get_or, set}
use Rattle.std.proofs.Common.{◌∙◌, ⊎_elim, arith, ltb→lt, length-set, get_or-set_same, get_or-set_other, leb-true, eqb-true, eq-eqb, ne_eqb}
use Rattle.words.specs.Logic.{pick_case, same?, pick}

-- what field k of the chunk at place p holds
abbrev pub Mem : Type 0
Mem = ℕ → ℕ → ℕ

-- 1 where the two are equal, else 0
pub ind : ℕ → ℕ → ℕ
ind x y = pick (eqb x y) 1 0

pub ind_eq : (x y : ℕ) → x ≡ y → ind x y ≡ 1
unfolding ind
ind_eq x y h = rw (eq-eqb x y h)

pub ind_self : (x : ℕ) → ind x x ≡ 1
ind_self x = ind_eq x x refl

pub ind_ne : (x y : ℕ) → (x ≡ y → ⊥) → ind x y ≡ 0
unfolding ind
ind_ne x y h = rw (ne_eqb x y h)

pub ind_yes : (x y : ℕ) → 1 ≤ ind x y → x ≡ y
ind_yes x y h = ⊎_elim (λ e. e) (λ n. absurd (omega (arith, ind_ne x y n))) (same? x y)

-- the field's test comes first: at numerals it computes
abbrev pub upd : Mem → ℕ → ℕ → ℕ → Mem
upd m p k v x j = pick (eqb j k) (pick (eqb x p) v (m x j)) (m x j)

-- the words as fields
unfoldable pub fld : List ℕ → Mem
fld w p k = get_or w (p + k) 0

abbrev pub Far : ℕ → ℕ → ℕ → Type 0
Far d x y = (x + d ≤ y) ⊎ (y + d ≤ x)

-- The places C: any two are the same or far apart, and lie within n words
pub record Spaced (d : ℕ) (C : ℕ → Type 0) (n : ℕ) : Type 0 where
  pub apart : (x y : ℕ) → C x → C y → (x ≡ y → ⊥) → Far d x y
  pub inside : (x : ℕ) → C x → x + d ≤ n

abbrev pub Views : ℕ → (ℕ → Type 0) → List ℕ → Mem → Type 0
Views d C w m = (x : ℕ) → C x → (j : ℕ) → j < d → fld w x j ≡ m x j

pub view_set : {d : ℕ} {C : ℕ → Type 0} (w : List ℕ) (m : Mem) (p k v : ℕ) → Spaced d C (length w) → Views d C w m → C p → k < d → Views d C (set w (p + k) v) (upd m p k v)
unfolding fld
view_set {d} {C} w m p k v sp vw cp hk x cx j hj = ⊎_elim same_field other_field (same? j k)
  where
    miss : (x + j ≡ p + k → ⊥) → get_or (set w (p + k) v) (x + j) 0 ≡ m x j
    miss n = get_or-set_other w (p + k) (x + j) v 0 n ∙ vw x cx j hj

    other_field : (j ≡ k → ⊥) → get_or (set w (p + k) v) (x + j) 0 ≡ upd m p k v x j
    other_field n = rw (ne_eqb j k n) (miss (⊎_elim (λ e. omega arith) (λ d. ⊎_elim (λ f. omega arith) (λ f. omega arith) (sp.apart x p cx cp d)) (same? x p)))

    same_field : j ≡ k → get_or (set w (p + k) v) (x + j) 0 ≡ upd m p k v x j
    same_field e = rw (eq-eqb j k e) (⊎_elim
        (λ (f : x ≡ p). rw (eq-eqb x p f, e, f) (get_or-set_same w (p + k) v 0 (omega (arith, sp.inside p cp))))
        (λ (d : x ≡ p → ⊥). rw (ne_eqb x p d) (miss (⊎_elim (λ f. omega arith) (λ f. omega arith) (sp.apart x p cx cp d))))
        (same? x p))

-- a list of writes, as words and as fields; `skip` is for a write that a test leaves out
pub data Write : Type 0 where
  skip : Write
  put : ℕ → ℕ → ℕ → Write

abbrev pub do_w : List ℕ → Write → List ℕ
do_w w skip = w
do_w w (put p k v) = set w (p + k) v

abbrev pub do_m : Mem → Write → Mem
do_m m skip = m
do_m m (put p k v) = upd m p k v

abbrev pub write_w : List ℕ → List Write → List ℕ
write_w w [] = w
write_w w (u ∷ us) = write_w (do_w w u) us

abbrev pub write_m : Mem → List Write → Mem
write_m m [] = m
write_m m (u ∷ us) = write_m (do_m m u) us

-- the fields that a binned chunk may have written, of d: the links, never word 0 or the head
abbrev pub inner : ℕ → ℕ → Bool
inner d k = pick (leb 2 k) (ltb k d) false

pub inner_lt : (d k : ℕ) → T (inner d k) → k < d
inner_lt d k = pick_case (λ b. T b → k < d) (leb 2 k) (λ e h. ltb→lt k d h) (λ e h. absurd h)

pub inner_ge : (d k : ℕ) → T (inner d k) → 2 ≤ k
inner_ge d k = pick_case (λ b. T b → 2 ≤ k) (leb 2 k) (λ e h. leb-true 2 k e) (λ e h. absurd h)

-- the places written are in C
abbrev pub Inside : ℕ → (ℕ → Type 0) → Write → Type 0
Inside d C skip = Unit
Inside d C (put p k v) = C p × T (inner d k)

abbrev pub Within : ℕ → (ℕ → Type 0) → List Write → Type 0
Within d C [] = Unit
Within d C (u ∷ us) = Inside d C u × Within d C us

pub length-do_w : (w : List ℕ) (u : Write) → length (do_w w u) ≡ length w
length-do_w w skip = refl
length-do_w w (put p k v) = length-set w (p + k) v

pub length-write_w : (w : List ℕ) (us : List Write) → length (write_w w us) ≡ length w
length-write_w w [] = refl
length-write_w w (u ∷ us) = length-write_w (do_w w u) us ∙ length-do_w w u

view_do : {d : ℕ} {C : ℕ → Type 0} (w : List ℕ) (m : Mem) (u : Write) → Spaced d C (length w) → Views d C w m → Inside d C u → Views d C (do_w w u) (do_m m u)
view_do {d} w m skip sp vw ok = vw
view_do {d} w m (put p k v) sp vw ok = view_set w m p k v sp vw ok.0 (inner_lt d k ok.1)

pub view_writes : {d : ℕ} {C : ℕ → Type 0} (w : List ℕ) (m : Mem) (us : List Write) → Spaced d C (length w) → Views d C w m → Within d C us → Views d C (write_w w us) (write_m m us)
view_writes w m [] sp vw ok = vw
view_writes {d} {C} w m (u ∷ us) sp vw ok = view_writes (do_w w u) (do_m m u) us (rw (length-do_w w u) sp) (view_do w m u sp vw ok.0) ok.1

-- reads after writes
pub self : (x : ℕ) → eqb x x ≡ true
self x = eq-eqb x x refl

pub upd_miss : (m : Mem) (p k v x j : ℕ) → (x ≡ p → j ≡ k → ⊥) → upd m p k v x j ≡ m x j
upd_miss m p k v x j n =
    pick_case (λ z. z ≡ m x j) (eqb j k) (λ e. pick_case (λ z. z ≡ m x j) (eqb x p) (λ f. absurd (n (eqb-true x p f) (eqb-true j k e))) (λ f. refl)) (λ e. refl)

abbrev pub Miss : ℕ → ℕ → Write → Type 0
Miss x j skip = Unit
Miss x j (put p k v) = x ≡ p → j ≡ k → ⊥

abbrev pub Misses : ℕ → ℕ → List Write → Type 0
Misses x j [] = Unit
Misses x j (u ∷ us) = Miss x j u × Misses x j us

pub do_miss : (m : Mem) (u : Write) (x j : ℕ) → Miss x j u → do_m m u x j ≡ m x j
do_miss m skip x j h = refl
do_miss m (put p k v) x j h = upd_miss m p k v x j h

pub writes_miss : (m : Mem) (us : List Write) (x j : ℕ) → Misses x j us → write_m m us x j ≡ m x j
writes_miss m [] x j h = refl
writes_miss m (u ∷ us) x j h = writes_miss (do_m m u) us x j h.1 ∙ do_miss m u x j h.0

-- a write that a test leaves out
pub opt_miss : (b : Bool) (p k v x j : ℕ) → (b ≡ false → x ≡ p → j ≡ k → ⊥) → Miss x j (pick b skip (put p k v))
opt_miss b p k v x j n = pick_case (Miss x j) b (λ _. tt) (λ e. n e)

pub opt_hit : (m : Mem) (b : Bool) (p k v x j : ℕ) → b ≡ false → x ≡ p → j ≡ k → do_m m (pick b skip (put p k v)) x j ≡ v
opt_hit m b p k v x j e q r = rw (e, eq-eqb j k r, eq-eqb x p q)

pub opt_inside : (d : ℕ) (C : ℕ → Type 0) (b : Bool) (p k v : ℕ) → (b ≡ false → C p) → T (inner d k) → Inside d C (pick b skip (put p k v))
opt_inside d C b p k v c h = pick_case (Inside d C) b (λ _. tt) (λ e. (c e, h))

-- ---- counts of a place in a list of places

abbrev pub count_l : ℕ → List ℕ → ℕ
count_l x [] = 0
count_l x (y ∷ ys) = ind x y + count_l x ys

pub count_l_append : (x : ℕ) (xs ys : List ℕ) → count_l x (xs ++ ys) ≡ count_l x xs + count_l x ys
count_l_append x [] ys = omega arith
count_l_append x (y ∷ xs) ys = omega (arith, count_l_append x xs ys)

-- ---- the words that a list of writes leaves

abbrev pub Spare : ℕ → Write → Type 0
Spare i skip = Unit
Spare i (put p k v) = i ≡ p + k → ⊥

abbrev pub Spares : ℕ → List Write → Type 0
Spares i [] = Unit
Spares i (u ∷ us) = Spare i u × Spares i us

pub do_spare : (w : List ℕ) (u : Write) (i : ℕ) → Spare i u → get_or (do_w w u) i 0 ≡ get_or w i 0
do_spare w skip i h = refl
do_spare w (put p k v) i h = get_or-set_other w (p + k) i v 0 h

pub writes_spare : (w : List ℕ) (us : List Write) (i : ℕ) → Spares i us → get_or (write_w w us) i 0 ≡ get_or w i 0
writes_spare w [] i h = refl
writes_spare w (u ∷ us) i h = writes_spare (do_w w u) us i h.1 ∙ do_spare w u i h.0

-- from where the writes go: a word that is no inner field of a place in C is spared
pub within_spares : (d : ℕ) (C : ℕ → Type 0) (us : List Write) (i : ℕ) → Within d C us
    → ((p k : ℕ) → C p → 2 ≤ k → k < d → i ≡ p + k → ⊥) → Spares i us
within_spares d C [] i h f = tt
within_spares d C (skip ∷ us) i h f = (tt, within_spares d C us i h.1 f)
within_spares d C (put p k v ∷ us) i h f = ((λ z. f p k h.0.0 (inner_ge d k h.0.1) (inner_lt d k h.0.1) z), within_spares d C us i h.1 f)

pub within_map : (d : ℕ) (C D : ℕ → Type 0) (us : List Write) → ((x : ℕ) → C x → D x) → Within d C us → Within d D us
within_map d C D [] f h = tt
within_map d C D (skip ∷ us) f h = (tt, within_map d C D us f h.1)
within_map d C D (put p k v ∷ us) f h = ((f p h.0.0, h.0.1), within_map d C D us f h.1)

-- ---- one list of writes after another

pub write_w_append : (w : List ℕ) (us vs : List Write) → write_w w (us ++ vs) ≡ write_w (write_w w us) vs
write_w_append w [] vs = refl
write_w_append w (u ∷ us) vs = write_w_append (do_w w u) us vs

pub write_m_append : (m : Mem) (us vs : List Write) → write_m m (us ++ vs) ≡ write_m (write_m m us) vs
write_m_append m [] vs = refl
write_m_append m (u ∷ us) vs = write_m_append (do_m m u) us vs

pub within_append : (d : ℕ) (C : ℕ → Type 0) (us vs : List Write) → Within d C us → Within d C vs → Within d C (us ++ vs)
within_append d C [] vs h k = k
within_append d C (u ∷ us) vs h k = (h.0, within_append d C us vs h.1 k)
