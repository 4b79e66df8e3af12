-- What stands at H, row by row, into a table that has the jobs. Assumes nothing.
use Rattle.std.specs.Prelude.{Some}
use Prim.Native.Nat.{ℕ, ◌+◌, ◌*◌, ◌≤◌, ◌<◌}
use mathlib.Core.Path.{◌≡◌, refl, sym, subst, ◌∙◌, ap}
use mathlib.Core.List.{List, [], ◌∷◌}
use native.Mathlib.Omega.{arith}
use lib.ListN.{length, get_or}
use Rattle.carrytheory.proofs.AtH.{at_opening, job_exists}
use Rattle.model.specs.declared.record.Record.{Record}
use Rattle.model.specs.declared.task.Task.{Task}
use Rattle.model.specs.Carry.{at_H, opening}
use Rattle.model.specs.File.{FourBytes}
use Rattle.model.specs.Model.{Run, Job, IsRecord, Exists, most_tasks, most_records, arrival, job_of, rec, task, place_of}
use Rattle.model.specs.Rules.{Jobs}
use Rattle.openfile.specs.declared.head.Head.{Head}
use Rattle.openfile.specs.Head.{Tells}
use Rattle.openfile.proofs.WholeOrRefused.{tells_limits}
use Rattle.table.specs.Table.{Lent, Rows, PutRow, Sized, recorded}
use Rattle.table.proofs.LentLaws.{sized_as, number_of, rows_with}
use Rattle.standing.specs.Carriable.{Carriable}
use Rattle.standing.proofs.OfJob.{found_record}

-- the first k rows are there, in a table t that was t₀
pub record Opening (b : List ℕ) (h : Head) (l : List Task) (t₀ : List ℕ) (m : ℕ) (t : List ℕ) (k : ℕ) : Type 0 where
  pub within : k ≤ m
  pub long : length t ≡ length t₀
  pub sized : Sized t m
  pub run : Run
  pub to : ℕ
  pub carriable : Carriable b h l to m run
  pub listed : Lent 2 (opening run to) t₀ m
  pub rows : (ρ : Run) (H' : ℕ) → Carriable b h l H' m ρ → Lent 2 (opening ρ H') t₀ m → Rows 2 recorded k (opening ρ H') t m

-- Row k: its job is job j of task i.
module _ {b : List ℕ} {h : Head} {l : List Task} {t₀ : List ℕ} {m : ℕ} {t : List ℕ} {k : ℕ} (O : Opening b h l t₀ m t k) (is : k < m) where
  abbrev i : ℕ
  i = get_or t k 0

  abbrev j : ℕ
  j = get_or t (1 * m + k) 0

  module _ (ρ : Run) (H' : ℕ) (C : Carriable b h l H' m ρ) (L : Lent 2 (opening ρ H') t₀ m) where
    abbrev σ : Run
    σ = opening ρ H'

    R : Rows 2 recorded k σ t m
    R = O.rows ρ H' C L

    is_record : IsRecord σ k
    is_record = omega (arith, R.lent.count)

    is_job : job_of (rec σ k) ≡ (i, j)
    is_job =
        let p = number_of R.lent 0 k k (omega arith) is (omega arith) in
        let q = number_of R.lent 1 k (1 * m + k) (omega arith) is refl in
        λ κ. (sym p κ, sym q κ)

    job_is : (i < length ρ.tasks) × Exists (task ρ.tasks i) H' j
    job_is =
        subst (λ (q : Job). (q.0 < length ρ.tasks) × Exists (task ρ.tasks q.0) H' q.1) is_job
        (job_exists ρ (λ a g. ((tells_limits C.tells).tasks a g).period.0) H' k is_record)

    -- its task is the entry of the list
    told : task ρ.tasks i ≡ task l i
    told = sym (C.tasks.each i job_is.0)

  pub task_there : i < most_tasks
  task_there =
      let C = O.carriable in
      omega (arith, (job_is O.run O.to C O.listed).0, (tells_limits C.tells).task_total)

  -- what is computed of it fits
  pub arrival_fits : FourBytes (arrival (task l i) j)
  arrival_fits =
      let C = O.carriable in
      let x : Exists (task l i) O.to j = rw (told O.run O.to C O.listed) at (job_is O.run O.to C O.listed).1 in
      omega (arith, C.allowed.most)

  pub place_fits : {p : ℕ} → ((ρ : Run) → Tells b h ρ → Jobs ρ → task ρ.tasks i ≡ task l i → Some p ≡ place_of ρ (i, j)) → p < most_records
  place_fits f =
      let C = O.carriable in
      let w = f O.run C.tells C.jobs (told O.run O.to C O.listed) in
      omega (arith, found_record O.run (i, j) _ w, (tells_limits C.tells).record_total)

  pub opening_on : {x : Record} {t' : List ℕ} → ((ρ : Run) → Tells b h ρ → Jobs ρ → task ρ.tasks i ≡ task l i → x ≡ at_H ρ (i, j))
      → PutRow m k 2 (x.release ∷ x.start ∷ x.end ∷ x.core ∷ []) t t' → Opening b h l t₀ m t' (k + 1)
  opening_on {x} f P =
      record {
        within = omega arith;
        long = P.long ∙ O.long;
        sized = sized_as P.long O.sized;
        run = O.run;
        to = O.to;
        carriable = O.carriable;
        listed = O.listed;
        rows = λ ρ H' C L. rows_with (R ρ H' C L) 4 is P (ap (λ y. y.release ∷ y.start ∷ y.end ∷ y.core ∷ []) (same ρ H' C L)) refl;
      }
    where
      same : (ρ : Run) (H' : ℕ) (C : Carriable b h l H' m ρ) (L : Lent 2 (opening ρ H') t₀ m) → x ≡ rec (opening ρ H') k
      same ρ H' C L =
          f ρ C.tells C.jobs (told ρ H' C L)
          ∙ sym (at_opening ρ H' k (is_record ρ H' C L) ∙ ap (at_H ρ) (is_job ρ H' C L))
