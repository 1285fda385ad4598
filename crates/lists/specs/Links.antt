-- A small bin in memory: places from the newest, word 2 leads to the next older, word 3 to the next newer, none at the ends; and every head
-- says the bin's size. What the two operations write, and that this makes the longer and the shorter list. Over fields of places.
-- Assumes nothing.
use Rattle.std.specs.Prelude.{◌≡◌, refl, true, false, List, [], ◌∷◌, ◌++◌, ◌⊎◌, ℕ, ◌+◌, ◌≤◌, ◌/◌, eqb}
use Rattle.std.proofs.Common.{sym, ◌∙◌, ap, subst, inl, inr, ⊎_elim, arith, eqb-true, eq-eqb, ne_eqb}
use Rattle.std.proofs.lemmas.Bool.{eqb-false}
use Rattle.words.specs.Edition.{Edition, W, no_link, none_free, enc, head, enc_inj, dec_enc}
use Rattle.words.specs.Fields.{Mem, ind, ind_eq, ind_ne, ind_self, Write, put, skip, write_m, Within, self, upd_miss, opt_miss, opt_hit, opt_inside, writes_miss, do_miss, do_m, count_l, count_l_append}
use Rattle.words.specs.Logic.{pick, same?}
use Rattle.words.specs.Places.{remove, Parted, part, AgreeTo}

-- the link to the newest of ps, and `old` where there is none; to the oldest, and `new` where there is none
abbrev pub newest : Edition → List ℕ → ℕ → ℕ
newest e [] old = old
newest e (p ∷ ps) old = enc e p

abbrev pub oldest : Edition → ℕ → List ℕ → ℕ
oldest e new [] = new
oldest e new (p ∷ ps) = oldest e (enc e p) ps

-- a stretch of the list, between the newer neighbour `new` and the older neighbour `old`
abbrev pub Links : Edition → Mem → ℕ → List ℕ → ℕ → Type 0
Links e m new [] old = Unit
Links e m new (p ∷ ps) old = (m p 3 ≡ new) × (m p 2 ≡ newest e ps old) × Links e m (enc e p) ps old

-- every head is that of a free chunk of s words
abbrev pub Headed : Edition → Mem → ℕ → List ℕ → Type 0
Headed e m s [] = Unit
Headed e m s (p ∷ ps) = (m p 1 ≡ head e s) × Headed e m s ps

pub record ListAt (e : Edition) (m : Mem) (s : ℕ) (ps : List ℕ) : Type 0 where
  pub headed : Headed e m s ps
  pub links : Links e m (no_link e) ps (no_link e)

-- ---- frame

pub keep_links : (e : Edition) (m m' : Mem) (new : ℕ) (ps : List ℕ) (old : ℕ)
    → ((x : ℕ) → 1 ≤ count_l x ps → (m' x 2 ≡ m x 2) × (m' x 3 ≡ m x 3)) → Links e m new ps old → Links e m' new ps old
keep_links e m m' new [] old k h = tt
keep_links e m m' new (p ∷ ps) old k h =
    let a = k p (omega (arith, ind_self p)) in
    (a.1 ∙ h.0, a.0 ∙ h.1, keep_links e m m' (enc e p) ps old (λ x u. k x (omega arith)) h.2)

pub keep_headed : (e : Edition) (m m' : Mem) (s : ℕ) (ps : List ℕ) → ((x : ℕ) → 1 ≤ count_l x ps → m' x 1 ≡ m x 1) → Headed e m s ps → Headed e m' s ps
keep_headed e m m' s [] k h = tt
keep_headed e m m' s (p ∷ ps) k h = (k p (omega (arith, ind_self p)) ∙ h.0, keep_headed e m m' s ps (λ x u. k x (omega arith)) h.1)

pub keep_list : (e : Edition) (m m' : Mem) (s : ℕ) (ps : List ℕ) → ((x : ℕ) → 1 ≤ count_l x ps → AgreeTo 4 m m' x) → ListAt e m s ps → ListAt e m' s ps
keep_list e m m' s ps k h =
    record {
      headed = keep_headed e m m' s ps (λ x u. k x u 1 (omega arith) (omega arith)) h.headed;
      links = keep_links e m m' (no_link e) ps (no_link e) (λ x u. (k x u 2 (omega arith) (omega arith), k x u 3 (omega arith) (omega arith))) h.links;
    }

pub headed_at : (e : Edition) (m : Mem) (s x : ℕ) (ps : List ℕ) → 1 ≤ count_l x ps → Headed e m s ps → m x 1 ≡ head e s
headed_at e m s x [] u h = absurd (omega arith)
headed_at e m s x (p ∷ ps) u h =
    ⊎_elim (λ q. ap (λ z. m z 1) q ∙ h.0) (λ n. headed_at e m s x ps (omega (arith, ind_ne x p n)) h.1) (same? x p)

-- ---- push: q goes in front; f is the bin's head

abbrev pub push_writes : Edition → ℕ → ℕ → List Write
push_writes e q f = pick (eqb f (no_link e)) skip (put (f / W e) 3 (enc e q)) ∷ put q 2 f ∷ put q 3 (no_link e) ∷ []

headed_miss : (e : Edition) (m : Mem) (s q f : ℕ) (ps : List ℕ) → Headed e m s ps → Headed e (write_m m (push_writes e q f)) s ps
headed_miss e m s q f ps h =
    keep_headed e m (write_m m (push_writes e q f)) s ps
    (λ x u. writes_miss m (push_writes e q f) x 1 (opt_miss (eqb f (no_link e)) (f / W e) 3 (enc e q) x 1 (λ _ _ z. omega arith), ((λ _ z. omega arith), ((λ _ z. omega arith), tt)))) h

pub push_mem : (e : Edition) (m : Mem) (s q f : ℕ) (ps : List ℕ) → ((x : ℕ) → count_l x ps ≤ 1) → count_l q ps ≡ 0 → m q 1 ≡ head e s → f ≡ newest e ps (no_link e)
    → ListAt e m s ps → ListAt e (write_m m (push_writes e q f)) s (q ∷ ps)
push_mem e m s q f [] d n hq u h =
    record {
      headed = (do_miss m (pick (eqb f (no_link e)) skip (put (f / W e) 3 (enc e q))) q 1 (opt_miss (eqb f (no_link e)) (f / W e) 3 (enc e q) q 1 (λ _ _ z. omega arith)) ∙ hq, tt);
      links = (rw (self q), rw (self q) u, tt);
    }
push_mem e m s q f (p ∷ ps) d n hq u h =
    record {
      headed = (do_miss m (pick (eqb f (no_link e)) skip (put (f / W e) 3 (enc e q))) q 1 (opt_miss (eqb f (no_link e)) (f / W e) 3 (enc e q) q 1 (λ _ _ z. omega arith)) ∙ hq, headed_miss e m s q f (p ∷ ps) h.headed);
      links = (
        rw (self q),
        rw (self q) u,
        (
          upd_miss (do_m (do_m m u₁) (put q 2 f)) q 3 (no_link e) p 3 (λ z _. np z) ∙ upd_miss (do_m m u₁) q 2 f p 3 (λ z _. np z)
              ∙ opt_hit m (eqb f (no_link e)) (f / W e) 3 (enc e q) p 3 some (sym at) refl,
          rest p 2 (λ z. np z) (λ _ z. omega arith) ∙ h.links.1,
          keep_links e m m' (enc e p) ps (no_link e)
              (λ x v. (rest x 2 (λ z. nx x v z) (λ _ z. omega arith), rest x 3 (λ z. nx x v z) (λ z _. omega (arith, d x, ind_eq x p z)))) h.links.2,
        ),
      );
    }
  where
    u₁ : Write
    u₁ = pick (eqb f (no_link e)) skip (put (f / W e) 3 (enc e q))

    m' : Mem
    m' = write_m m (push_writes e q f)

    at : f / W e ≡ p
    at = ap (λ z. z / W e) u ∙ dec_enc e p

    some : eqb f (no_link e) ≡ false
    some = ne_eqb f (no_link e) (λ z. none_free e p (sym u ∙ z))

    np : p ≡ q → ⊥
    np z = omega (arith, n, ind_eq q p (sym z))

    nx : (x : ℕ) → 1 ≤ count_l x ps → x ≡ q → ⊥
    nx x v z = omega (arith, n, ap (λ y. count_l y ps) z)

    rest : (x j : ℕ) → (x ≡ q → ⊥) → (x ≡ p → j ≡ 3 → ⊥) → m' x j ≡ m x j
    rest x j a b =
        writes_miss m (push_writes e q f) x j (opt_miss (eqb f (no_link e)) (f / W e) 3 (enc e q) x j (λ _ z w. b (z ∙ at) w), ((λ z _. a z), ((λ z _. a z), tt)))

pub push_within : (e : Edition) (C : ℕ → Type 0) (q f : ℕ) (ps : List ℕ) → C q → ((x : ℕ) → 1 ≤ count_l x ps → C x) → f ≡ newest e ps (no_link e) → Within 4 C (push_writes e q f)
push_within e C q f [] cq c u = (rw (eq-eqb f (no_link e) u) tt, ((cq, tt), ((cq, tt), tt)))
push_within e C q f (p ∷ ps) cq c u =
    (opt_inside 4 C (eqb f (no_link e)) (f / W e) 3 (enc e q) (λ _. subst C (sym (ap (λ z. z / W e) u ∙ dec_enc e p)) (c p (omega (arith, ind_self p)))) tt, ((cq, tt), ((cq, tt), tt)))

-- ---- unlink: c goes out, wherever it stands; its neighbours, as its words 2 and 3 name them, are linked to each other

abbrev pub cut_writes : Edition → Mem → ℕ → List Write
cut_writes e m c =
    pick (eqb (m c 2) (no_link e)) skip (put (m c 2 / W e) 3 (m c 3))
    ∷ pick (eqb (m c 3) (no_link e)) skip (put (m c 3 / W e) 2 (m c 2)) ∷ []

-- the same as a relation of two memories
pub record CutOut (e : Edition) (m m' : Mem) (c : ℕ) : Type 0 where
  pub older : (f : ℕ) → m c 2 ≡ enc e f → m' f 3 ≡ m c 3
  pub newer : (b : ℕ) → m c 3 ≡ enc e b → m' b 2 ≡ m c 2
  pub kept : (x j : ℕ) → (m c 2 ≡ enc e x → j ≡ 3 → ⊥) → (m c 3 ≡ enc e x → j ≡ 2 → ⊥) → m' x j ≡ m x j

-- a word that is a place's link, or none
abbrev pub Linkish : Edition → ℕ → Type 0
Linkish e v = (v ≡ no_link e) ⊎ ((x : ℕ) × (v ≡ enc e x))

place_of_lem : (e : Edition) (v x : ℕ) → Linkish e v → eqb v (no_link e) ≡ false → x ≡ v / W e → v ≡ enc e x
place_of_lem e v x (inl u) n q = absurd (eqb-false v (no_link e) n u)
place_of_lem e v x (inr u) n q = u.1 ∙ ap (enc e) (sym (q ∙ ap (λ z. z / W e) u.1 ∙ dec_enc e u.0))

pub cut_out : (e : Edition) (m : Mem) (c : ℕ) → Linkish e (m c 2) → Linkish e (m c 3) → CutOut e m (write_m m (cut_writes e m c)) c
cut_out e m c l₂ l₃ =
    record {
      older = λ f u. do_miss (do_m m u₁) u₂ f 3 (opt_miss (eqb (m c 3) (no_link e)) (m c 3 / W e) 2 (m c 2) f 3 (λ _ _ z. omega arith))
          ∙ opt_hit m (eqb (m c 2) (no_link e)) (m c 2 / W e) 3 (m c 3) f 3 (ne_eqb (m c 2) (no_link e) (λ z. none_free e f (sym u ∙ z))) (sym (ap (λ z. z / W e) u ∙ dec_enc e f)) refl;
      newer = λ b u. opt_hit (do_m m u₁) (eqb (m c 3) (no_link e)) (m c 3 / W e) 2 (m c 2) b 2 (ne_eqb (m c 3) (no_link e) (λ z. none_free e b (sym u ∙ z))) (sym (ap (λ z. z / W e) u ∙ dec_enc e b)) refl;
      kept = λ x j n₂ n₃. do_miss (do_m m u₁) u₂ x j (opt_miss (eqb (m c 3) (no_link e)) (m c 3 / W e) 2 (m c 2) x j (λ t q. n₃ (place_of_lem e (m c 3) x l₃ t q)))
          ∙ do_miss m u₁ x j (opt_miss (eqb (m c 2) (no_link e)) (m c 2 / W e) 3 (m c 3) x j (λ t q. n₂ (place_of_lem e (m c 2) x l₂ t q)));
    }
  where
    u₁ : Write
    u₁ = pick (eqb (m c 2) (no_link e)) skip (put (m c 2 / W e) 3 (m c 3))

    u₂ : Write
    u₂ = pick (eqb (m c 3) (no_link e)) skip (put (m c 3 / W e) 2 (m c 2))

-- what c's words name
pub links_older : (e : Edition) (m : Mem) (new : ℕ) (xs : List ℕ) (c : ℕ) (ys : List ℕ) (old : ℕ) → Links e m new (xs ++ c ∷ ys) old → m c 2 ≡ newest e ys old
links_older e m new [] c ys old h = h.1
links_older e m new (x ∷ xs) c ys old h = links_older e m (enc e x) xs c ys old h.2

pub links_newer : (e : Edition) (m : Mem) (new : ℕ) (xs : List ℕ) (c : ℕ) (ys : List ℕ) (old : ℕ) → Links e m new (xs ++ c ∷ ys) old → m c 3 ≡ oldest e new xs
links_newer e m new [] c ys old h = h.0
links_newer e m new (x ∷ xs) c ys old h = links_newer e m (enc e x) xs c ys old h.2

pub newest_in : (e : Edition) (ps : List ℕ) (x : ℕ) → newest e ps (no_link e) ≡ enc e x → 1 ≤ count_l x ps
newest_in e [] x u = absurd (none_free e x (sym u))
newest_in e (p ∷ ps) x u = omega (arith, ind_eq x p (enc_inj e x p (sym u)))

pub oldest_in : (e : Edition) (p : ℕ) (ps : List ℕ) (x : ℕ) → oldest e (enc e p) ps ≡ enc e x → 1 ≤ ind x p + count_l x ps
oldest_in e p [] x u = omega (arith, ind_eq x p (enc_inj e x p (sym u)))
oldest_in e p (q ∷ ps) x u = omega (arith, oldest_in e q ps x u)

pub oldest_in_none : (e : Edition) (ps : List ℕ) (x : ℕ) → oldest e (no_link e) ps ≡ enc e x → 1 ≤ count_l x ps
oldest_in_none e [] x u = absurd (none_free e x (sym u))
oldest_in_none e (p ∷ ps) x u = oldest_in e p ps x u

newest_linkish : (e : Edition) (ps : List ℕ) → Linkish e (newest e ps (no_link e))
newest_linkish e [] = inl refl
newest_linkish e (p ∷ ps) = inr (p, refl)

oldest_linkish : (e : Edition) (new : ℕ) (ps : List ℕ) → Linkish e new → Linkish e (oldest e new ps)
oldest_linkish e new [] l = l
oldest_linkish e new (p ∷ ps) l = oldest_linkish e (enc e p) ps (inr (p, refl))

module _ (e : Edition) (m m' : Mem) (c : ℕ) (w : CutOut e m m' c) where
  -- the stretch behind c, now led by what led to c
  cut-behind : (new : ℕ) (ys : List ℕ) (old : ℕ) → ((x : ℕ) → count_l x ys ≤ 1) → ((x : ℕ) → 1 ≤ count_l x ys → m c 3 ≡ enc e x → ⊥)
      → m c 3 ≡ new → m c 2 ≡ newest e ys old → Links e m (enc e c) ys old → Links e m' new ys old
  cut-behind new [] old d n u v h = tt
  cut-behind new (y ∷ ys) old d n u v h = (
    w.older y v ∙ u,
    w.kept y 2 (λ _ z. omega arith) (λ z _. n y (omega (arith, ind_self y)) z) ∙ h.1,
    keep_links e m m' (enc e y) ys old
        (λ x k. (
          w.kept x 2 (λ _ z. omega arith) (λ z _. n x (omega arith) z),
          w.kept x 3 (λ z _. omega (arith, d x, ind_eq x y (enc_inj e x y (sym z ∙ v)))) (λ _ z. omega arith),
        )) h.2,
  )

  cut-links : (new : ℕ) (xs ys : List ℕ) (old : ℕ) → ((x : ℕ) → count_l x xs + (ind x c + count_l x ys) ≤ 1)
      → ((x : ℕ) → 1 ≤ count_l x ys → m c 3 ≡ enc e x → ⊥) → ((x : ℕ) → 1 ≤ count_l x xs → m c 2 ≡ enc e x → ⊥)
      → Links e m new (xs ++ c ∷ ys) old → Links e m' new (xs ++ ys) old
  cut-links new [] ys old d n a h = cut-behind new ys old (λ x. omega (arith, d x)) n h.0 h.1 h.2
  cut-links new (x ∷ []) ys old d n a h = (
    w.kept x 3 (λ z _. a x (omega (arith, ind_self x)) z) (λ _ z. omega arith) ∙ h.0,
    w.newer x h.2.0 ∙ h.2.1,
    cut-links (enc e x) [] ys old (λ y. omega (arith, d y)) n (λ y u. absurd (omega arith)) h.2,
  )
  cut-links new (x ∷ y ∷ xs) ys old d n a h = (
    w.kept x 3 (λ z _. a x (omega (arith, ind_self x)) z) (λ _ z. omega arith) ∙ h.0,
    w.kept x 2 (λ _ z. omega arith) (λ z _. omega (arith, d x, ind_self x, oldest_in e y xs x (sym (links_newer e m (enc e x) (y ∷ xs) c ys old h.2) ∙ z))) ∙ h.1,
    cut-links (enc e x) (y ∷ xs) ys old (λ z. omega (arith, d z)) n (λ z u. a z (omega arith)) h.2,
  )

headed_drop : (e : Edition) (m : Mem) (s : ℕ) (xs : List ℕ) (c : ℕ) (ys : List ℕ) → Headed e m s (xs ++ c ∷ ys) → Headed e m s (xs ++ ys)
headed_drop e m s [] c ys h = h.1
headed_drop e m s (x ∷ xs) c ys h = (h.0, headed_drop e m s xs c ys h.1)

-- what unlink does: the list without c, where its writes go, and the words that it reads
pub record Cut (e : Edition) (m : Mem) (s c : ℕ) (ps : List ℕ) (C : ℕ → Type 0) : Type 0 where
  pub list : ListAt e (write_m m (cut_writes e m c)) s (remove c ps)
  pub within : Within 4 C (cut_writes e m c)
  pub first : eqb (m c 3) (no_link e) ≡ true → newest e (remove c ps) (no_link e) ≡ m c 2
  pub later : eqb (m c 3) (no_link e) ≡ false → newest e (remove c ps) (no_link e) ≡ newest e ps (no_link e)

first_of : (e : Edition) (xs ys : List ℕ) → oldest e (no_link e) xs ≡ no_link e → newest e (xs ++ ys) (no_link e) ≡ newest e ys (no_link e)
first_of e [] ys u = refl
first_of e (x ∷ xs) ys u = absurd (no_end x xs u)
  where
    no_end : (x : ℕ) (xs : List ℕ) → oldest e (enc e x) xs ≡ no_link e → ⊥
    no_end x [] u = none_free e x u
    no_end x (y ∷ ys) u = no_end y ys u

later_of : (e : Edition) (xs : List ℕ) (c : ℕ) (ys : List ℕ) → (oldest e (no_link e) xs ≡ no_link e → ⊥) → newest e (xs ++ ys) (no_link e) ≡ newest e (xs ++ c ∷ ys) (no_link e)
later_of e [] c ys u = absurd (u refl)
later_of e (x ∷ xs) c ys u = refl

pub cut_mem : (e : Edition) (m : Mem) (s c : ℕ) (ps : List ℕ) (C : ℕ → Type 0) → ((x : ℕ) → 1 ≤ count_l x ps → C x) → ((x : ℕ) → count_l x ps ≤ 1) → 1 ≤ count_l c ps
    → ListAt e m s ps → Cut e m s c ps C
cut_mem e m s c ps C g d hc h = go (part c ps hc)
  where
    go : Parted c ps → Cut e m s c ps C
    go q =
        record {
          list = subst (ListAt e m' s) (sym q.after) (record {
            headed = keep_headed e m m' s (xs ++ ys) (λ x _. w.kept x 1 (λ _ z. omega arith) (λ _ z. omega arith)) (headed_drop e m s xs c ys (subst (Headed e m s) q.whole h.headed));
            links = cut-links e m m' c w (no_link e) xs ys (no_link e) one
                (λ x u v. omega (arith, one x, oldest_in_none e xs x (sym new ∙ v))) (λ x u v. omega (arith, one x, newest_in e ys x (sym old ∙ v))) l;
          });
          within = (
            opt_inside 4 C (eqb (m c 2) (no_link e)) (m c 2 / W e) 3 (m c 3) (λ t. g _ (omega (arith, cnt (m c 2 / W e), newest_in e ys _ (sym old ∙ place_of_lem e (m c 2) _ l₂ t refl)))) tt,
            (opt_inside 4 C (eqb (m c 3) (no_link e)) (m c 3 / W e) 2 (m c 2) (λ t. g _ (omega (arith, cnt (m c 3 / W e), oldest_in_none e xs _ (sym new ∙ place_of_lem e (m c 3) _ l₃ t refl)))) tt, tt),
          );
          first = λ t. ap (λ z. newest e z (no_link e)) q.after ∙ first_of e xs ys (sym new ∙ eqb-true (m c 3) (no_link e) t) ∙ sym old;
          later = λ t. ap (λ z. newest e z (no_link e)) q.after ∙ later_of e xs c ys (λ z. eqb-false (m c 3) (no_link e) t (new ∙ z)) ∙ ap (λ z. newest e z (no_link e)) (sym q.whole);
        }
      where
        xs : List ℕ
        xs = q.before

        ys : List ℕ
        ys = q.behind

        m' : Mem
        m' = write_m m (cut_writes e m c)

        l : Links e m (no_link e) (xs ++ c ∷ ys) (no_link e)
        l = subst (λ z. Links e m (no_link e) z (no_link e)) q.whole h.links

        old : m c 2 ≡ newest e ys (no_link e)
        old = links_older e m (no_link e) xs c ys (no_link e) l

        new : m c 3 ≡ oldest e (no_link e) xs
        new = links_newer e m (no_link e) xs c ys (no_link e) l

        l₂ : Linkish e (m c 2)
        l₂ = subst (Linkish e) (sym old) (newest_linkish e ys)

        l₃ : Linkish e (m c 3)
        l₃ = subst (Linkish e) (sym new) (oldest_linkish e (no_link e) xs (inl refl))

        w : CutOut e m m' c
        w = cut_out e m c l₂ l₃

        cnt : (x : ℕ) → count_l x ps ≡ count_l x xs + (ind x c + count_l x ys)
        cnt x = ap (count_l x) q.whole ∙ count_l_append x xs (c ∷ ys)

        one : (x : ℕ) → count_l x xs + (ind x c + count_l x ys) ≤ 1
        one x = omega (arith, d x, cnt x)

-- ---- the memory settles the list

links_unique : (e : Edition) (m : Mem) (new new' : ℕ) (ps qs : List ℕ) → newest e ps (no_link e) ≡ newest e qs (no_link e) → Links e m new ps (no_link e) → Links e m new' qs (no_link e) → ps ≡ qs
links_unique e m new new' [] [] u h g = refl
links_unique e m new new' [] (q ∷ qs) u h g = absurd (none_free e q (sym u))
links_unique e m new new' (p ∷ ps) [] u h g = absurd (none_free e p u)
links_unique e m new new' (p ∷ ps) (q ∷ qs) u h g =
    let z : p ≡ q = enc_inj e p q u in
    let r : ps ≡ qs = links_unique e m (enc e p) (enc e q) ps qs (sym h.1 ∙ ap (λ v. m v 2) z ∙ g.1) h.2 g.2 in
    cc (z, r)

pub list_unique : (e : Edition) (m : Mem) (s : ℕ) (ps qs : List ℕ) → newest e ps (no_link e) ≡ newest e qs (no_link e) → ListAt e m s ps → ListAt e m s qs → ps ≡ qs
list_unique e m s ps qs u h g = links_unique e m (no_link e) (no_link e) ps qs u h.links g.links
