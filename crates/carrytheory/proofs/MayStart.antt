-- Which job may start: one that can and that none outranks, on a core that is free. The job that starts next in a carry is the first of
-- these in the order of rank, task and job; there is one if any can start. Assumes nothing.
use Rattle.std.specs.Prelude.{None, Option, Some}
use Prim.Native.Nat.{ℕ, zero, suc, ◌+◌, ◌≤◌, ◌<◌}
use mathlib.Core.Path.{◌≡◌, refl, sym, ◌∙◌, ap}
use mathlib.Core.Logic.{◌⊎◌, inl, inr, ◌↔◌}
use native.Mathlib.Omega.{arith}
use native.Mathlib.Decide.{dec_le}
use Rattle.base.specs.First.{Lex}
use Rattle.base.proofs.Test.{Says, says_ltb, says_eqb, says_and, says_or, says_not, decides, stable}
use Rattle.base.proofs.Find.{some≢none}
use Rattle.base.proofs.Searches.{Finds, total_number, total_lex, finds_none, finds_some, first_finds, finds_same, found_says}
use Rattle.model.specs.Model.{Run, IsRecord, rec, job_of, rank}
use Rattle.model.specs.Rules.{IsCore, Busy}
use Rattle.model.specs.Carry.{ReadyBy, can_start, goes_before, outdone, next, both, starts_for}
use Rattle.model.specs.Compute.Places.{size, idle_core}
use Rattle.model.specs.Compute.Jumps.{start_at, waiting}
use Rattle.model.proofs.RuleTests.{says_busy}
use Rattle.model.proofs.Places.{idle_core_finds}
use Rattle.carrytheory.proofs.Readiness.{says_ready_by}
use Rattle.carrytheory.proofs.Waiting.{below_suc, fewer_wait}

-- The best of finitely many
-- -------------------------
abbrev Transitive : {A : Type 0} → (A → A → Type 0) → Type 0
Transitive {A} B = (x y z : A) → B x y → B y z → B x z

abbrev Irreflexive : {A : Type 0} → (A → A → Type 0) → Type 0
Irreflexive {A} B = (x : A) → ¬ B x x

module _ {A : Type 0} (B : A → A → Type 0) where
  lex_transitive : Transitive B → Transitive (Lex B)
  lex_transitive t x y z (inl h) (inl l) = inl (omega arith)
  lex_transitive t x y z (inl h) (inr (e, l)) = inl (omega arith)
  lex_transitive t x y z (inr (d, h)) (inl l) = inl (omega arith)
  lex_transitive t x y z (inr (d, h)) (inr (e, l)) = inr (d ∙ e, t _ _ _ h l)

  lex_irreflexive : Irreflexive B → Irreflexive (Lex B)
  lex_irreflexive i x (inl h) = omega arith
  lex_irreflexive i x (inr (e, h)) = i _ h

-- Of finitely many numbers that pass C, if there are any, one has none before it.
data Best (C : ℕ → Type 0) (B : ℕ → ℕ → Type 0) (n : ℕ) : Type 0 where
  nobody : ((k : ℕ) → k < n → ¬ C k) → Best C B n
  best : (k : ℕ) → k < n → C k → ((j : ℕ) → j < n → C j → ¬ B j k) → Best C B n

module _ (C : ℕ → Type 0) (C? : (k : ℕ) → Dec (C k)) (B : ℕ → ℕ → Type 0) (B? : (j k : ℕ) → Dec (B j k)) (tr : Transitive B)
    (ir : Irreflexive B) where
  -- the last number against the best before it
  last_or : (n : ℕ) → Best C B n → Dec (C n) → Best C B (suc n)
  last_or n (nobody f) (yes c) = best n (omega arith) c (below_suc (λ j. C j → ¬ B j n) n (λ j h d. absurd (f j h d)) (λ d. ir n))
  last_or n (nobody f) (no c) = nobody (below_suc (λ k. ¬ C k) n f c)
  last_or n (best k h c f) (no d) = best k (omega arith) c (below_suc (λ j. C j → ¬ B j k) n f (λ e. absurd (d e)))
  last_or n (best k h c f) (yes d) = go (B? n k)
    where
      go : Dec (B n k) → Best C B (suc n)
      go (yes b) = best n (omega arith) d (below_suc (λ j. C j → ¬ B j n) n (λ j l e w. f j l e (tr j n k w b)) (λ e. ir n))
      go (no b) = best k (omega arith) c (below_suc (λ j. C j → ¬ B j k) n f (λ e. b))

  a_best : (n : ℕ) → Best C B n
  a_best zero = nobody (λ k h c. omega arith)
  a_best (suc n) = last_or n (a_best n) (C? n)

-- The next job
-- ------------
module _ (σ : Run) where
  -- job k is ready and has not begun
  abbrev pub CanStart : ℕ → ℕ → Type 0
  CanStart t k = ((rec σ k).core ≡ 0) × ReadyBy σ k t

  says_can_start : (t k : ℕ) → Says (can_start σ t k) (CanStart t k)
  says_can_start t k = says_and (says_eqb _ _) (says_ready_by σ k t)

  abbrev key : ℕ → ℕ × (ℕ × ℕ)
  key k = (rank σ k, ((rec σ k).task, (rec σ k).job))

  -- job a goes before job b
  abbrev pub GoesBefore : ℕ → ℕ → Type 0
  GoesBefore a b = Lex (Lex ◌<◌) (key a) (key b)

  says_goes_before : (a b : ℕ) → Says (goes_before σ a b) (GoesBefore a b)
  says_goes_before a b =
      says_or (says_ltb _ _) (says_and (says_eqb _ _) (says_or (says_ltb _ _) (says_and (says_eqb _ _) (says_ltb _ _))))

  -- k can start at t, and no job that can start goes before it
  pub record IsNext (t k : ℕ) : Type 0 where
    pub range : IsRecord σ k
    pub can : CanStart t k
    pub first : (j : ℕ) → IsRecord σ j → CanStart t j → ¬ GoesBefore j k

  pub next_finds : (t : ℕ) → Finds ◌<◌ (IsNext t) (next σ t)
  next_finds t =
      finds_same
      (λ k h. record { range = omega (arith, h.1); can = h.2.0; first = λ j l c b. h.2.1 (j, (omega arith, omega (arith, l), (c, b))) })
      (λ k h. (omega arith, omega (arith, h.range), (h.can, λ (j, w). h.first j (omega (arith, w.1)) w.2.0 w.2.1)))
      (first_finds _ _ (λ k. says_and (says_can_start t k) (says_not (outdone_says k))) 0 (size σ))
    where
      outdone_says : (k : ℕ) → Says (outdone σ t k) ((j : ℕ) × ((0 ≤ j) × (j < 0 + size σ) × (CanStart t j × GoesBefore j k)))
      outdone_says k = found_says (first_finds _ _ (λ j. says_and (says_can_start t j) (says_goes_before j k)) 0 (size σ))

  some_next : (t a : ℕ) → IsRecord σ a → CanStart t a → (k : ℕ) × IsNext t k
  some_next t a h c = go (a_best (CanStart t) can? GoesBefore before? transitive irreflexive (size σ))
    where
      can? : (k : ℕ) → Dec (CanStart t k)
      can? k = decides (says_can_start t k)

      before? : (j k : ℕ) → Dec (GoesBefore j k)
      before? j k = decides (says_goes_before j k)

      transitive : Transitive GoesBefore
      transitive i j k = lex_transitive (Lex ◌<◌) (lex_transitive ◌<◌ (λ x y z u v. omega arith)) (key i) (key j) (key k)

      irreflexive : Irreflexive GoesBefore
      irreflexive k = lex_irreflexive (Lex ◌<◌) (lex_irreflexive ◌<◌ (λ x u. omega arith)) (key k)

      go : Best (CanStart t) GoesBefore (size σ) → (k : ℕ) × IsNext t k
      go (nobody f) = absurd (f a h c)
      go (best k l d f) = (k, record { range = l; can = d; first = f })

  pub next_is : (t k : ℕ) → next σ t ≡ Some k → IsNext t k
  next_is t k e = ((finds_some (IsNext t) (next σ t) (next_finds t) total_number k).0 e).here

  -- where no job has two records, k is found exactly if it is the next
  pub next_iff : ((a b : ℕ) → IsRecord σ a → IsRecord σ b → job_of (rec σ a) ≡ job_of (rec σ b) → a ≡ b) → (t k : ℕ) → (next σ t ≡ Some k) ↔ IsNext t k
  next_iff one t k = (next_is t k, back (next_finds t))
    where
      same : (j : ℕ) → IsNext t j → IsNext t k → GoesBefore j k ⊎ ((key j ≡ key k) ⊎ GoesBefore k j) → j ≡ k
      same j J K (inl b) = absurd (K.first j J.range J.can b)
      same j J K (inr (inl e)) = one j k J.range K.range (ap (λ x. x.1) e)
      same j J K (inr (inr b)) = absurd (J.first k K.range K.can b)

      back : Finds ◌<◌ (IsNext t) (next σ t) → IsNext t k → next σ t ≡ Some k
      back (Finds.none_passes e f) K = absurd (f k K)
      back (Finds.passes j e F) K = e ∙ ap Some (same j F.here K (total_lex (total_lex total_number) (key j) (key k)))

  -- What may start at t
  -- -------------------

  -- k can start at t, and no job that can start ranks lower
  pub record BestPlaced (t k : ℕ) : Type 0 where
    pub range : IsRecord σ k
    pub can : CanStart t k
    pub best : (j : ℕ) → IsRecord σ j → CanStart t j → rank σ k ≤ rank σ j

  -- a best-placed job and a core that is free
  pub record MayStart (t k c : ℕ) : Type 0 where
    pub job : BestPlaced t k
    pub core : IsCore σ c
    pub free : ¬ Busy σ c t

  -- a job that has begun is another
  pub begun_other : (t k c : ℕ) → MayStart t k c → (a : ℕ) → 1 ≤ (rec σ a).core → ¬ (a ≡ k)
  begun_other t k c S a b e = let w : (rec σ a).core ≡ 0 = rw e S.job.can.0 in omega arith

  -- when it has started, one job less waits
  pub fewer_then : (t k c l : ℕ) → MayStart t k c → waiting σ ≡ suc (waiting (starts_for σ t k c l))
  fewer_then t k c l S = fewer_wait σ t k c l S.job.range S.job.can.0 S.core.0

  -- every core is busy while a job can start
  abbrev pub NoneIdles : ℕ → Type 0
  NoneIdles t = (a : ℕ) → IsRecord σ a → CanStart t a → (c : ℕ) → IsCore σ c → Busy σ c t

  -- the next job is best placed
  pub next_best : (t k : ℕ) → IsNext t k → BestPlaced t k
  next_best t k N = record { range = N.range; can = N.can; best = λ j h c. go j h c (dec_le (rank σ k) (rank σ j)) }
    where
      go : (j : ℕ) → IsRecord σ j → CanStart t j → Dec (rank σ k ≤ rank σ j) → rank σ k ≤ rank σ j
      go j h c (yes l) = l
      go j h c (no l) = absurd (N.first j h c (inl (omega (arith, l))))

  pub start_at_lem : (t k c : ℕ) → start_at σ t ≡ Some (k, c) → MayStart t k c
  unfolding start_at
  start_at_lem t k c e = go (next σ t) (idle_core σ t) (next_finds t) (idle_core_finds σ t) e
    where
      go : (o p : Option ℕ) → Finds ◌<◌ (IsNext t) o → Finds ◌<◌ (λ d. IsCore σ d × ¬ Busy σ d t) p → both o p ≡ Some (k, c) → MayStart t k c
      go None p F G e = absurd (some≢none (sym e))
      go (Some j) None F G e = absurd (some≢none (sym e))
      go (Some j) (Some d) F G e =
          let q : ◌≡◌ {A = ℕ × ℕ} (j, d) (k, c) = cc in
          let f : Some j ≡ Some k = ap (λ x. Some x.0) q in
          let g : Some d ≡ Some c = ap (λ x. Some x.1) q in
          let D = ((finds_some _ _ G total_number c).0 g).here in
          record { job = next_best t k ((finds_some _ _ F total_number k).0 f).here; core = D.0; free = D.1 }

  pub nothing_starts : (t : ℕ) → start_at σ t ≡ None → NoneIdles t
  unfolding start_at
  nothing_starts t e a h w c i = go (next σ t) (idle_core σ t) (next_finds t) (idle_core_finds σ t) e
    where
      go : (o p : Option ℕ) → Finds ◌<◌ (IsNext t) o → Finds ◌<◌ (λ d. IsCore σ d × ¬ Busy σ d t) p → both o p ≡ None → Busy σ c t
      go None p F G e = let (k, N) = some_next t a h w in absurd ((finds_none _ _ F).0 refl k N)
      go (Some k) None F G e = stable (says_busy σ c t) (λ b. (finds_none _ _ G).0 refl c (i, b))
      go (Some k) (Some d) F G e = absurd (some≢none e)
