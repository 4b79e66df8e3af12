-- The tasks of a file, gone through one after the other. Assumes nothing.
use Rattle.std.specs.Prelude.{None, Some, Result, Ok, Err}
use Prim.Native.Nat.{ℕ, ◌+◌, ◌*◌, ◌≤◌, ◌<◌}
use mathlib.Core.Path.{◌≡◌, refl, sym, ◌∙◌, ap}
use mathlib.Core.Bool.{Bool, true, false, not}
use mathlib.Core.List.{List}
use lib.ListN.{length}
use native.Mathlib.Omega.{arith}
use Rattle.base.proofs.Loop.{NoneTo, none_yet, none_on, first_hit, first_miss}
use Rattle.model.specs.declared.task.Task.{Task}
use Rattle.model.specs.Model.{task, no_task, total_jobs, job_count}
use Rattle.model.specs.File.{task_at, tasks_in, tasks_place, task_size}
use Rattle.model.specs.Compute.Limits.{task_in_range, bad_task}
use Rattle.model.proofs.Jobs.{jobs_on}
use Rattle.model.proofs.Reading.{length-entries, entries_at, entries_on}
use Rattle.model.specs.declared.refusal.Refusal.{Refusal}
use Rattle.model.specs.declared.refusal.Refusal.TheVariants.{TaskRange}
use Rattle.openfile.specs.Head.{Tallies}
use Rattle.openfile.proofs.WholeOrRefused.{ok≢err}

-- What was found
-- --------------
module _ {τs : List Task} {H : ℕ} {r : Result ℕ Refusal} (T : Tallies τs H r) where
  pub tallied_err : {e : Refusal} → r ≡ Err e → (i : ℕ) × (e ≡ TaskRange i) × (bad_task τs ≡ Some i)
  tallied_err {e} = go r T
    where
      go : (r : Result ℕ Refusal) → Tallies τs H r → r ≡ Err e → (i : ℕ) × (e ≡ TaskRange i) × (bad_task τs ≡ Some i)
      go r (Tallies.out_of_range {i = i} b) q = (i, cc, b)
      go r (Tallies.all_in_range b j) q = absurd (ok≢err q)

  pub tallied_jobs : {n : ℕ} → r ≡ Ok n → (bad_task τs ≡ None) × (n ≡ total_jobs τs H)
  tallied_jobs {n} = go r T
    where
      go : (r : Result ℕ Refusal) → Tallies τs H r → r ≡ Ok n → (bad_task τs ≡ None) × (n ≡ total_jobs τs H)
      go r (Tallies.out_of_range e) q = absurd (ok≢err (sym q))
      go r (Tallies.all_in_range e j) q = (e, (cc))

-- two tallies of the same tasks are the same
pub tallied_once : {τs : List Task} {H : ℕ} {r r' : Result ℕ Refusal} → Tallies τs H r → Tallies τs H r' → r ≡ r'
tallied_once {τs} {H} {r} {r'} = go r r'
  where
    go : (r r' : Result ℕ Refusal) → Tallies τs H r → Tallies τs H r' → r ≡ r'
    go r r' (Tallies.out_of_range e) (Tallies.out_of_range q) = cc
    go r r' (Tallies.out_of_range e) (Tallies.all_in_range q k) = let z : ◌≡◌ {A = ℕ} 0 1 = cc in absurd (omega arith)
    go r r' (Tallies.all_in_range e j) (Tallies.out_of_range q) = let z : ◌≡◌ {A = ℕ} 0 1 = cc in absurd (omega arith)
    go r r' (Tallies.all_in_range e j) (Tallies.all_in_range q k) = cc

-- The loop
-- --------
abbrev file_task : List ℕ → ℕ → Task
file_task b i = task_at b (tasks_place + 4 + task_size * i)

-- task i of n is out of its ranges
abbrev out : List ℕ → ℕ → ℕ → Bool
out b n i = not (task_in_range (task (tasks_in b n) i))

-- the first i of n tasks are within their ranges, and have so many jobs
pub record TalliedTo (b : List ℕ) (H n i sum : ℕ) : Type 0 where
  pub none_out : NoneTo (out b n) 0 i
  pub counted : sum ≡ total_jobs (tasks_in b i) H
  pub fits : sum ≤ 4294967295 * i

pub tally_yet : {b : List ℕ} {H n : ℕ} → TalliedTo b H n 0 0
tally_yet {b} {H} {n} = record { none_out = none_yet (out b n); counted = refl; fits = omega arith }

module _ {b : List ℕ} {H n i sum : ℕ} (I : TalliedTo b H n i sum) where
  long : length (tasks_in b n) ≡ n
  long = length-entries (task_at b) task_size (tasks_place + 4) n

  out_is : i < n → out b n i ≡ not (task_in_range (file_task b i))
  out_is h = ap (λ τ. not (task_in_range τ)) (entries_at (task_at b) task_size (tasks_place + 4) n i no_task h)

  pub tally_on : {k : ℕ} → i < n → not (task_in_range (file_task b i)) ≡ false → k ≡ job_count (file_task b i) H → k ≤ 4294967295 → TalliedTo b H n (i + 1) (sum + k)
  tally_on {k} h e j f =
      let more : total_jobs (tasks_in b (i + 1)) H ≡ total_jobs (tasks_in b i) H + job_count (file_task b i) H =
      rw (entries_on (task_at b) task_size (tasks_place + 4) i) (jobs_on (tasks_in b i) (file_task b i) H) in
      record { none_out = none_on (out b n) I.none_out (out_is h ∙ e); counted = omega (arith, I.counted); fits = omega (arith, I.fits) }

  pub tally_out : i < n → not (task_in_range (file_task b i)) ≡ true → Tallies (tasks_in b n) H (Err (TaskRange i))
  unfolding bad_task
  tally_out h e =
      let l = long in
      Tallies.out_of_range (sym (first_hit (out b n) 0 (length (tasks_in b n)) (omega arith) (omega arith) I.none_out (out_is h ∙ e)))

  pub tally_all : i ≡ n → Tallies (tasks_in b n) H (Ok sum)
  unfolding bad_task
  tally_all q =
      let l = long in
      Tallies.all_in_range
      (sym (first_miss (out b n) 0 (length (tasks_in b n)) (omega arith) I.none_out))
      (I.counted ∙ ap (λ m. total_jobs (tasks_in b m) H) q)
