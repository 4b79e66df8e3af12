-- A run that is longer than another only by jobs that arrive at H' or later: at each instant below H' the same job starts in both, on
-- the same core. Assumes nothing.
use Rattle.std.specs.Prelude.{None, Option, Some}
use Prim.Native.Nat.{ℕ, ◌+◌, ◌≤◌, ◌<◌}
use mathlib.Core.Path.{◌≡◌, refl, sym, subst, ◌∙◌, ap}
use mathlib.Core.Bool.{not}
use native.Mathlib.Omega.{arith}
use native.Mathlib.Decide.{ℕ_discrete}
use Rattle.base.specs.Find.{first}
use Rattle.base.proofs.Test.{says_same}
use Rattle.base.proofs.Searches.{Finds, finds_none}
use Rattle.model.specs.Model.{Run, Job, IsRecord, rec, task, task_of, job_of, arrival}
use Rattle.model.specs.Rules.{Jobs, Busy}
use Rattle.model.specs.Carry.{unbegun, next, begun, starts_for, starts, both}
use Rattle.model.specs.Compute.Places.{busy, idle_core}
use Rattle.model.specs.Compute.Jumps.{start_at}
use Rattle.model.proofs.RuleTests.{says_busy}
use Rattle.carrytheory.proofs.Depends.{same_rank}
use Rattle.carrytheory.proofs.Recorded.{one_record}
use Rattle.carrytheory.proofs.Preceding.{BothAfter, both_after}
use Rattle.carrytheory.proofs.Readiness.{SameBefore, same_back, same_ready_by, release_ready}
use Rattle.carrytheory.proofs.MayStart.{CanStart, GoesBefore, IsNext, next_finds, next_iff}
use Rattle.carrytheory.proofs.StartChanges.{is_record, still_record, rule1_stays, here, elsewhere}

-- Where the records of two runs are the same
-- ------------------------------------------
module _ (σ τ : Run) (t : ℕ) (tasks : τ.tasks ≡ σ.tasks) where
  can_start_too : (k j : ℕ) → rec τ j ≡ rec σ k → SameBefore σ k τ j → CanStart σ t k → CanStart τ t j
  can_start_too k j e S c = (ap (λ x. x.core) e ∙ c.0, same_ready_by σ τ k j (ap (λ x. x.release) (sym e)) t S c.1)

  goes_before_too : (a k i j : ℕ) → rec τ i ≡ rec σ a → rec τ j ≡ rec σ k → GoesBefore σ a k → GoesBefore τ i j
  goes_before_too a k i j d e b =
      let x = same_rank τ σ i a tasks (ap job_of d) (ap (λ x. x.release) d) in
      let y = same_rank τ σ j k tasks (ap job_of e) (ap (λ x. x.release) e) in
      rw (x, y, d, e) b

-- before the same record in both the same stands
abbrev AlikeBefore : Run → Run → Type 0
AlikeBefore σ τ = (k j : ℕ) → IsRecord σ k → IsRecord τ j → rec τ j ≡ rec σ k → SameBefore σ k τ j

-- the next job of σ is the next of τ, where what can start in τ is a job of σ
next_too : (σ τ : Run) (t : ℕ) → τ.tasks ≡ σ.tasks → AlikeBefore σ τ
    → ((i : ℕ) → IsRecord τ i → CanStart τ t i → (a : ℕ) × IsRecord σ a × (rec τ i ≡ rec σ a))
    → (k j : ℕ) → IsRecord τ j → rec τ j ≡ rec σ k → IsNext σ t k → IsNext τ t j
next_too σ τ t tasks S f k j h e N =
    record {
      range = h;
      can = can_start_too σ τ t tasks k j e (S k j N.range h e) N.can;
      first = λ i l c b.
          let (a, m, d) = f i l c in
          N.first a m (can_start_too τ σ t (sym tasks) i a (sym d) (same_back (S a i m l d)) c) (goes_before_too τ σ t (sym tasks) i j a k (sym d) (sym e) b);
    }

-- Longer
-- ------
module _ (H' : ℕ) (σ τ : Run) where
  -- record j of τ is one of σ, or is added: a job that arrives at H' or later and has not begun
  pub data SharedOrAdded (j : ℕ) : Type 0 where
    shared : (k : ℕ) → IsRecord σ k → rec τ j ≡ rec σ k → SharedOrAdded j
    added : (q : Job) → H' ≤ arrival (task τ.tasks q.0) q.1 → rec τ j ≡ unbegun q (arrival (task τ.tasks q.0) q.1)
        → SharedOrAdded j

  pub record Longer : Type 0 where
    pub cores : τ.setting.cores ≡ σ.setting.cores
    pub tasks : τ.tasks ≡ σ.tasks
    pub shorter_jobs : Jobs σ
    pub longer_jobs : Jobs τ
    pub into : (k : ℕ) → IsRecord σ k → (j : ℕ) × IsRecord τ j × (rec τ j ≡ rec σ k)
    pub back : (j : ℕ) → IsRecord τ j → SharedOrAdded j

  -- what starts at t in both
  pub data Together (t : ℕ) : Type 0 where
    nothing : start_at σ t ≡ None → start_at τ t ≡ None → Together t
    one : (k j c : ℕ) → start_at σ t ≡ Some (k, c) → start_at τ t ≡ Some (j, c) → rec τ j ≡ rec σ k → Together t

  data NextTogether (t : ℕ) : Type 0 where
    no_next : next σ t ≡ None → next τ t ≡ None → NextTogether t
    a_next : (k j : ℕ) → next σ t ≡ Some k → next τ t ≡ Some j → rec τ j ≡ rec σ k → NextTogether t

-- What starts below H'
-- --------------------
module _ (H' : ℕ) (σ τ : Run) (X : Longer H' σ τ) (t : ℕ) (below : t < H') where
  same_busy : (c : ℕ) → busy τ c t ≡ busy σ c t
  same_busy c = says_same (says_busy τ c t) (says_busy σ c t) less more
    where
      less : Busy τ c t → Busy σ c t
      less (j, l, e, p, q) = go (X.back j l)
        where
          go : SharedOrAdded H' σ τ j → Busy σ c t
          go (shared k h s) = (k, h, rw s at e, rw s at p, rw s at q)
          go (added x h s) = let z : (rec τ j).end ≡ 0 = ap (λ r. r.end) s in absurd (omega arith)

      more : Busy σ c t → Busy τ c t
      more (k, h, e, p, q) = let (j, l, s) = X.into k h in (j, l, rw s e, rw s p, rw s q)

  same_idle_core : idle_core τ t ≡ idle_core σ t
  same_idle_core = λ κ. first (λ c. not (same_busy c κ)) 1 (X.cores κ)

  -- what can start below H' is shared
  can_shared : (j : ℕ) → IsRecord τ j → CanStart τ t j → (k : ℕ) × IsRecord σ k × (rec τ j ≡ rec σ k)
  can_shared j l c = go (X.back j l)
    where
      go : SharedOrAdded H' σ τ j → (k : ℕ) × IsRecord σ k × (rec τ j ≡ rec σ k)
      go (shared k h s) = (k, h, s)
      go (added q h s) =
          let r : (rec τ j).release ≡ arrival (task τ.tasks q.0) q.1 = ap (λ x. x.release) s in
          absurd (omega (arith, release_ready τ j, c.1.instant))

  alike_before : AlikeBefore σ τ
  alike_before k j h l s = go (both_after σ τ X.shorter_jobs X.longer_jobs k j h l (ap job_of (sym s)))
    where
      go : BothAfter σ k τ j → SameBefore σ k τ j
      go (BothAfter.no_job d e) = SameBefore.no_job d e
      go (BothAfter.one_job p q d e g m w) =
          let (i, n, z) = X.into p g in
          let y = one_record τ X.longer_jobs i q n m (ap job_of z ∙ w) in
          SameBefore.one_job p q d e (sym z ∙ ap (rec τ) y)

  next_together : NextTogether H' σ τ t
  next_together = go (next_finds σ t)
    where
      go : Finds ◌<◌ (IsNext σ t) (next σ t) → NextTogether H' σ τ t
      go (Finds.none_passes e f) = no_next e ((finds_none _ _ (next_finds τ t)).1 nobody)
        where
          nobody : (j : ℕ) → ¬ IsNext τ t j
          nobody j N =
              let (k, h, s) = can_shared j N.range N.can in
              f k (next_too τ σ t (sym X.tasks) (λ i a l m d. same_back (alike_before a i m l (sym d))) (λ i l c. let (a, m, d) = X.into i l in (a, m, sym d)) j k h (sym s) N)
      go (Finds.passes k e F) =
          let (j, l, s) = X.into k F.here.range in
          a_next k j e ((next_iff τ (one_record τ X.longer_jobs) t j).1 (next_too σ τ t X.tasks alike_before can_shared k j l s F.here)) s

  pub together : Together H' σ τ t
  unfolding start_at
  together = go next_together (idle_core σ t) refl
    where
      go : NextTogether H' σ τ t → (o : Option ℕ) → idle_core σ t ≡ o → Together H' σ τ t
      go (no_next e d) o q = nothing (ap (λ x. both x (idle_core σ t)) e) (ap (λ x. both x (idle_core τ t)) d)
      go (a_next k j e d s) None q = nothing (λ κ. both (e κ) (q κ)) (λ κ. both (d κ) ((same_idle_core ∙ q) κ))
      go (a_next k j e d s) (Some c) q = one k j c (λ κ. both (e κ) (q κ)) (λ κ. both (d κ) ((same_idle_core ∙ q) κ)) s

-- A start keeps it so
-- -------------------
module _ (H' : ℕ) (σ τ : Run) (X : Longer H' σ τ) (t k j c l : ℕ) (h : IsRecord σ k) (g : IsRecord τ j) (s : rec τ j ≡ rec σ k) where
  abbrev σ' : Run
  σ' = starts_for σ t k c l

  abbrev τ' : Run
  τ' = starts_for τ t j c l

  same_begun : begun τ t j c l ≡ begun σ t k c l
  same_begun = λ κ. record { task = (s κ).task; job = (s κ).job; release = (s κ).release; start = t; end = t + l; core = c }

  same_start : rec τ' j ≡ rec σ' k
  same_start = here τ t j c l g ∙ same_begun ∙ sym (here σ t k c l h)

  into⁺ : (a : ℕ) → IsRecord σ' a → (i : ℕ) × IsRecord τ' i × (rec τ' i ≡ rec σ' a)
  into⁺ a m = go (ℕ_discrete a k)
    where
      go : Dec (a ≡ k) → (i : ℕ) × IsRecord τ' i × (rec τ' i ≡ rec σ' a)
      go (yes e) = (j, still_record τ t j c l j g, rw e same_start)
      go (no f) =
          let n = is_record σ t k c l a m in
          let (i, z, d) = X.into a n in
          let other : ¬ (i ≡ j) = λ e. f (one_record σ X.shorter_jobs a k n h (ap job_of (sym d ∙ ap (rec τ) e ∙ s))) in
          (i, still_record τ t j c l i z, elsewhere τ t j c l i other ∙ d ∙ sym (elsewhere σ t k c l a f))

  back⁺ : (i : ℕ) → IsRecord τ' i → SharedOrAdded H' σ' τ' i
  back⁺ i m = go (ℕ_discrete i j)
    where
      n : IsRecord τ i
      n = is_record τ t j c l i m

      stays : ¬ (i ≡ j) → SharedOrAdded H' σ τ i → SharedOrAdded H' σ' τ' i
      stays f (shared a z d) =
          let other : ¬ (a ≡ k) = λ e. f (one_record τ X.longer_jobs i j n g (ap job_of (d ∙ ap (rec σ) e ∙ sym s))) in
          shared a (still_record σ t k c l a z) (elsewhere τ t j c l i f ∙ d ∙ sym (elsewhere σ t k c l a other))
      stays f (added q z d) = added q z (elsewhere τ t j c l i f ∙ d)

      go : Dec (i ≡ j) → SharedOrAdded H' σ' τ' i
      go (yes e) = shared k (still_record σ t k c l k h) (rw e same_start)
      go (no f) = stays f (X.back i n)

  pub longer_for : Longer H' (starts_for σ t k c l) (starts_for τ t j c l)
  longer_for =
      record {
        cores = X.cores;
        tasks = X.tasks;
        shorter_jobs = rule1_stays σ t k c l X.shorter_jobs;
        longer_jobs = rule1_stays τ t j c l X.longer_jobs;
        into = into⁺;
        back = back⁺;
      }

-- the same job has the same W
pub longer_on : (H' : ℕ) (σ τ : Run) → Longer H' σ τ → (t k j c : ℕ) → IsRecord σ k → IsRecord τ j → rec τ j ≡ rec σ k
    → Longer H' (starts σ t k c) (starts τ t j c)
longer_on H' σ τ X t k j c h g s =
    let same : (task_of σ k).greatest ≡ (task_of τ j).greatest = λ κ. (task (sym X.tasks κ) (sym s κ).task).greatest in
    subst (λ w. Longer H' (starts σ t k c) (starts_for τ t j c w)) same (longer_for H' σ τ X t k j c (task_of σ k).greatest h g s)
