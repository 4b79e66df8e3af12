-- Widening: with more jitter, a smaller B and a larger W a run that obeys the rules goes on obeying them, and is told the same.
-- Assumes nothing.
use Prim.Native.Nat.{ℕ, zero, suc, ◌<◌}
use mathlib.Core.Path.{◌≡◌, refl, sym, subst, ◌∙◌, ap}
use mathlib.Core.Logic.{◌↔◌}
use mathlib.Core.Bool.{◌&&◌}
use mathlib.Core.List.{List}
use native.Mathlib.Omega.{arith}
use lib.Dec.{ltb}
use lib.ListN.{length}
use Rattle.base.specs.Find.{first, count}
use Rattle.base.specs.First.{Number}
use Rattle.model.specs.declared.task.Task.{Task}
use Rattle.model.specs.Model.{Run, rec, task, arrival, job_count, counts, jobs_from, existing, due, rank, ready}
use Rattle.model.specs.Rules.{rule1, rule2, rule3, rule4, rule5, rule6, rule7, rule8, rule9, Obeys}
use Rattle.model.specs.Answers.{Late, LateRecords}
use Rattle.model.specs.Widen.{WiderTask, Wider, none_left, wider, with_tasks}
use Rattle.model.specs.Compute.Places.{size}
use Rattle.model.specs.Compute.Verdict.{late_count, timely_of, timely, verdict}
use Rattle.model.proofs.Jobs.{existing_jobs}
use Rattle.model.proofs.Verdict.{accepted}
use Rattle.carrytheory.proofs.Readiness.{SameBefore, same_records, same_end, same_ready as ready_alike}

wider_at : {τs σs : List Task} → Wider τs σs → (i : ℕ) → WiderTask (task τs i) (task σs i)
wider_at none_left i = record { period = refl; offset = refl; jitter = omega arith; least = omega arith; greatest = omega arith }
wider_at (wider w v) zero = w
wider_at (wider w v) (suc i) = wider_at v i

same_count : {τ σ : Task} → WiderTask τ σ → (H : ℕ) → job_count σ H ≡ job_count τ H
unfolding job_count
same_count w H = rw (w.period, w.offset)

pub same_counts : {τs σs : List Task} → Wider τs σs → (H : ℕ) → counts σs H ≡ counts τs H
same_counts none_left H = refl
same_counts (wider w v) H = rw (same_count w H, same_counts v H)

same_arrival : {τ σ : Task} → WiderTask τ σ → (j : ℕ) → arrival σ j ≡ arrival τ j
same_arrival w j = rw (w.period, w.offset)

module _ (ρ : Run) (σs : List Task) (v : Wider ρ.tasks σs) where
  abbrev σ : Run
  σ = with_tasks ρ σs

  -- what widening leaves alone
  same_existing : (H : ℕ) → existing σ H ≡ existing ρ H
  same_existing H = existing_jobs σ H ∙ ap (jobs_from 0) (same_counts v H) ∙ sym (existing_jobs ρ H)

  same_due : (k : ℕ) → due σ k ≡ due ρ k
  unfolding due
  same_due k = let w = wider_at v (rec ρ k).task in cc

  same_rank : (k : ℕ) → rank σ k ≡ rank ρ k
  unfolding rank
  same_rank = same_due

  before : (k : ℕ) → SameBefore σ k ρ k
  before = same_records σ ρ refl (λ k. refl)

  same_ready : (k : ℕ) → ready σ k ≡ ready ρ k
  same_ready k = ready_alike σ ρ k k refl (before k)

  pub widened_obeys : Obeys ρ → Obeys (with_tasks ρ σs)
  widened_obeys O rule1 = O rule1 ∙ sym (same_existing ρ.setting.horizon)
  widened_obeys O rule2 = λ k h.
      let w = wider_at v (rec ρ k).task in
      let g = O rule2 k h in
      let e = same_arrival w (rec ρ k).job in
      (omega arith, omega arith)
  widened_obeys O rule3 = O rule3
  widened_obeys O rule4 = λ k h.
      let w = wider_at v (rec ρ k).task in
      let g = O rule4 k h in
      (g.0, omega arith, omega arith)
  widened_obeys O rule5 = O rule5
  widened_obeys O rule6 = O rule6
  widened_obeys O rule7 = λ a b h l s. rw (same_rank a, same_rank b, same_ready b) (O rule7 a b h l s)
  widened_obeys O rule8 = λ a h t w c i. O rule8 a h t (rw same_ready at w.0, w.1) c i
  widened_obeys O rule9 = λ k h. rw (same_end (before k)) (O rule9 k h)

  all_due : due σ ≡ due ρ
  all_due κ k = same_due k κ

  -- The same records are late, and as many.
  pub widened_same_late : (k : ℕ) → Late (with_tasks ρ σs) k ↔ Late ρ k
  widened_same_late k = (λ l. rw same_due at l, λ l. rw same_due l)

  pub widened_late_count : (n : ℕ) → LateRecords (with_tasks ρ σs) n ↔ LateRecords ρ n
  widened_late_count n = (subst Counts all_due, subst Counts (sym all_due))
    where
      -- n records end after the deadline that d gives
      Counts : (ℕ → ℕ) → Type 0
      Counts d = Number (λ k. d k < (rec ρ k).end) (length ρ.records) n

  same_timely : timely σ ≡ timely ρ
  unfolding timely late_count
  same_timely =
      ap (λ (d : ℕ → ℕ).
      timely_of
      (first (λ k. ltb (d k) (rec ρ k).end && ltb (rec ρ k).start ρ.setting.horizon) 0 (size ρ))
      (first (λ k. ltb (d k) (rec ρ k).end) 0 (size ρ))
      (count (λ k. ltb (d k) (rec ρ k).end) (size ρ)))
      all_due

  -- It is told the same.
  pub widened_verdict : Obeys ρ → verdict (with_tasks ρ σs) ≡ verdict ρ
  widened_verdict O = accepted σ (widened_obeys O) ∙ same_timely ∙ sym (accepted ρ O)
