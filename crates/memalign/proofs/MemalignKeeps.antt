-- MEMALIGN LEAVES THE OWNER'S WORDS of every block in use: the block stands in use in every heap that the call passes through, so its owner's words
-- are governed in none of them, and memalign reaches no others. Assumes nothing.
use Rattle.std.specs.Prelude.{◌≡◌, refl, true, List, [], ℕ, ◌+◌, ◌*◌, ◌%◌, ◌≤◌, ◌<◌}
use Rattle.std.proofs.Common.{subst, inl, inr, ⊎_elim, arith, eq-eqb}
use Rattle.std.proofs.Math.Option.{Option, none, some}
use Rattle.words.specs.Logic.{same?}
use Rattle.words.specs.Edition.{Edition, W, enc}
use Rattle.tiling.specs.Tiling.{used, Starts, starts_split}
use Rattle.tiling.specs.Spares.{Spares}
use Rattle.rules.specs.BinOf.{huge}
use Rattle.rules.specs.Heap.{Heap}
use Rattle.rules.specs.Binning.{size_at}
use Rattle.rules.specs.Malloc.{Grant, malloc}
use Rattle.rules.specs.Memalign.{lead_to, give_lead, aligned}
use Rattle.rules.specs.Tidy.{starts_even'}
use Rattle.rules.specs.Lookup.{split_size}
use Rattle.rules.specs.Blocks.{Grants}
use Rattle.rules.specs.Source.{Source}
use Rattle.rules.specs.MallocLaws.{malloc-grants}
use Rattle.rules.specs.MemalignLaws.{Lead, GrantsAligned}
use Rattle.rules.proofs.MemalignLaws.{lead_is, lead_grants, memalign-grants}
use Rattle.holds.specs.Ops.{state}
use Rattle.holds.specs.Lookup.{heads_tidy}
use Rattle.holds.specs.MallocSource.{malloc_source}
use Rattle.holds.specs.Governed.{Governed, GovernedIn, owner_apart}
use Rattle.chunk.specs.Image.{decode}
use Rattle.chunk.specs.Held.{Held}
use Rattle.malloc.specs.MallocBytes.{Reply, malloc_b}
use Rattle.malloc.specs.MallocObeys.{Obeys}
use Rattle.malloc.proofs.MallocFollows.{malloc_obeys}
use Rattle.memalign.specs.MemalignBytes.{give_lead_b, memalign_b}
use Rattle.memalign.proofs.MemalignObeys.{lead_step, memalign_obeys}
use Rattle.memalign.specs.MemalignReach.{aligned_via, memalign_via}
use Rattle.memalign.proofs.MemalignReach.{memalign_reaches}

pub memalign_spares : (e : Edition) (r w : List ℕ) (h : Heap) → Held e r w h [] → (al m nb : ℕ) → al ≡ 2 * m → 4 ≤ al → al ≤ 1024 → nb % 2 ≡ 0 → 4 ≤ nb → W e * (nb + al + 4) < huge
    → (x s : ℕ) → Starts 0 h.chunks x (used s) → Spares x s w (memalign_b e r w (enc e al) (enc e nb)).words
memalign_spares e r w h n al m nb q la ha v l hi x t sx i lo up = memalign_reaches e r w h n al m nb q la ha v l hi i via
  where
    all : ℕ
    all = nb + al + 4

    -- the block stands in use in a heap that is held
    out : (r' w' : List ℕ) (g : Heap) → Held e r' w' g [] → Starts 0 g.chunks x (used t) → Governed g i → ⊥
    out r' w' g k sg = owner_apart e (decode r') w' g [] k.near x t sg i lo up

    go : (a b : Reply) (o : Option Grant) → Obeys e r w a o → Grants h all (all + 4) (λ y. ⊥) o → Obeys e r w b (aligned e o al nb) → GrantsAligned h al nb (aligned e o al nb) → GovernedIn (aligned_via e o al nb) i → ⊥
    go a b none f g ok gr u = u
    go a b (some k) f g ok gr (inl u) = out a.image a.words k.heap f.1 (g.changes.kept x t sx (λ z. z)) u
    go a b (some k) f g ok gr (inr (inr (inl u))) = out b.image b.words _ ok.1 (gr.0.changes.kept x t sx (λ z. z)) u
    go a b (some k) f g ok gr (inr (inr (inr u))) = u
    go a b (some k) f g ok gr (inr (inl u)) =
        ⊎_elim (λ z. out a.image a.words k.heap f.1 kept (rw (eq-eqb lead 0 z) at u))
        (λ z. out (give_lead_b e a.image a.words (enc e p) (enc e lead)).image (give_lead_b e a.image a.words (enc e p) (enc e lead)).words (give_lead e k.heap p g.words lead)
        (lead_step e a.image a.words k.heap f.1 p g.words g.block lead ld.even (ld.more z) (omega (arith, ld.most, g.large)))
        ((lead_grants e k.heap g.changes.tidy p g.words g.block lead ld.even ld.more (omega (arith, ld.most, g.large))).changes.kept x t kept (g.apart x t sx (λ y. y)))
        (subst (λ s. Governed (give_lead e k.heap p s lead) i) sz u))
        (same? lead 0)
      where
        p : ℕ
        p = k.place

        lead : ℕ
        lead = lead_to p al

        ld : Lead p al lead
        ld = lead_is p al m (starts_even' true 0 k.heap.chunks p (used g.words) g.changes.tidy.chunks refl g.block) q la

        kept : Starts 0 k.heap.chunks x (used t)
        kept = g.changes.kept x t sx (λ z. z)

        sz : size_at 0 k.heap.chunks p ≡ g.words
        sz = split_size k.heap.chunks p (used g.words) g.changes.tidy.chunks (starts_split 0 k.heap.chunks p (used g.words) g.block)

    via : GovernedIn (memalign_via e h al nb) i → ⊥
    via (inl u) = out r w h n sx u
    via (inr u) =
        let src : Source e h all (malloc e h all) = malloc_source e (state (decode r) w) h n.near all (omega arith) (omega arith) hi in
        let tidy = heads_tidy e w h n.near.heads in
        go (malloc_b e r w (enc e all)) (memalign_b e r w (enc e al) (enc e nb)) (malloc e h all) (malloc_obeys e r w h n all (omega arith) (omega arith) hi) (malloc-grants e h all tidy (omega arith) (omega arith) (malloc e h all) src)
        (memalign_obeys e r w h al m nb n q la ha v l hi) (memalign-grants e h al m nb tidy q la v l src) u
