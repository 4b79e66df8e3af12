-- Document 01, "Carrying a run to H'", and document 02, request 3: carrying starts ready jobs only.
use Rattle.std.specs.Prelude.{ℕ, zero, suc, ◌+◌, ◌-◌, ◌^◌, ◌≤◌, ◌≡◌, Bool, true, false, not, ◌&&◌, ◌||◌, List, map, leb, ltb, eqb, length, set, None, Option, Some}
use Rattle.base.specs.Find.{first, found}
use Rattle.model.specs.declared.record.Record.{Record}
use Rattle.model.specs.Model.{Run, Job, most_horizon, most_jobs, total_jobs, arrival, existing, place_of, task, task_of, rec, rank, preceding, ready}
use Rattle.model.specs.File.{Read, refused, whole, read, bytes, Part, empty_part, record_part}
use Rattle.model.specs.Answers.{Outcome, refused_with, gate_outcome, written_out}
use Rattle.model.specs.Compute.Places.{size, idle_core}
use Rattle.model.specs.Compute.Verdict.{verdict}

-- What stands at H.
-- -----------------

-- a job that has not begun: it has no core yet
abbrev pub unbegun : Job → ℕ → Record
unbegun q r = record { task = q.0; job = q.1; release = r; start = 0; end = 0; core = 0 }

-- Every record that starts before H is kept. Every other old record keeps its release.
abbrev pub kept_if : Bool → Job → Record → Record
kept_if true q x = x
kept_if false q x = unbegun q x.release

-- New jobs are released at jP + O.
abbrev pub at_H_of : Run → Job → Option ℕ → Record
at_H_of ρ q (Some k) = kept_if (ltb (rec ρ k).start ρ.setting.horizon) q (rec ρ k)
at_H_of ρ q None = unbegun q (arrival (task ρ.tasks q.0) q.1)

abbrev pub at_H : Run → Job → Record
at_H ρ q = at_H_of ρ q (place_of ρ q)

-- the jobs that exist at H', with H' in place of H
unfoldable pub opening : Run → ℕ → Run
opening ρ H' =
    record {
      setting = record { cores = ρ.setting.cores; horizon = H' };
      tasks = ρ.tasks;
      records = map (at_H ρ) (existing ρ H');
    }

-- When a job of a run that is being carried is ready: its record says so only once its task's preceding job, if there is one, has begun.
-- --------------------------------------------------------------------------------------------------------------------------------------
module _ (σ : Run) where
  abbrev pub Begun : ℕ → Type 0
  Begun k = 1 ≤ (rec σ k).core

  -- its task's preceding job, if there is one, has begun
  abbrev pub BegunBefore : ℕ → Type 0
  BegunBefore k = (p : ℕ) → preceding σ k ≡ Some p → Begun p

  -- by instant t job k is ready: whatever stands in the record of a preceding job that has not begun is no end
  pub record ReadyBy (k t : ℕ) : Type 0 where
    pub begun_before : BegunBefore k
    pub instant : ready σ k ≤ t

-- Then from instant H on, at each instant, while a core is free and a ready job has not begun, the job with the earliest deadline starts
-- (ties: lower task, then lower job) on the lowest free core, and runs for its W.
-- --------------------------------------------------------------------------------------------------------------------------------------
module _ (σ : Run) where
  abbrev pub not_begun : ℕ → Bool
  not_begun k = eqb (rec σ k).core 0

  abbrev pub begun_if : Option ℕ → Bool
  begun_if None = true
  begun_if (Some p) = not (not_begun p)

  abbrev pub ready_by : ℕ → ℕ → Bool
  ready_by k t = begun_if (preceding σ k) && leb (ready σ k) t

  -- a ready job that has not begun
  abbrev pub can_start : ℕ → ℕ → Bool
  can_start t k = not_begun k && ready_by k t

  -- earlier deadline; ties: lower task, then lower job
  abbrev pub goes_before : ℕ → ℕ → Bool
  goes_before a b =
      ltb (rank σ a) (rank σ b)
      || (eqb (rank σ a) (rank σ b)
      && (ltb (rec σ a).task (rec σ b).task
      || (eqb (rec σ a).task (rec σ b).task && ltb (rec σ a).job (rec σ b).job)))

  -- some job that can start at t goes before k
  abbrev pub outdone : ℕ → ℕ → Bool
  outdone t k = found (first (λ j. can_start t j && goes_before j k) 0 (size σ))

  -- the job that starts at t, if a core is free
  abbrev pub next : ℕ → Option ℕ
  next t = first (λ k. can_start t k && not (outdone t k)) 0 (size σ)

  -- job k starts at t on core c and runs for l ticks
  abbrev pub begun : ℕ → ℕ → ℕ → ℕ → Record
  begun t k c l =
      record {
        task = (rec σ k).task;
        job = (rec σ k).job;
        release = (rec σ k).release;
        start = t;
        end = t + l;
        core = c;
      }

  abbrev pub starts_for : ℕ → ℕ → ℕ → ℕ → Run
  starts_for t k c l = record { setting = σ.setting; tasks = σ.tasks; records = set σ.records k (begun t k c l) }

  -- it runs for its W
  abbrev pub starts : ℕ → ℕ → ℕ → Run
  starts t k c = starts_for t k c (task_of σ k).greatest

  abbrev pub some_waits : Bool
  some_waits = found (first not_begun 0 (size σ))

-- a job and a core, if there are both
abbrev pub both : Option ℕ → Option ℕ → Option (ℕ × ℕ)
both None c = None
both (Some k) None = None
both (Some k) (Some c) = Some (k, c)

-- At instant t, while a core is free and a ready job has not begun: at most m jobs start.
unfoldable pub at_instant : ℕ → ℕ → Run → Run
at_instant zero t σ = σ
at_instant (suc m) t σ = elim (both (next σ t) (idle_core σ t)) [ None ↦ σ | Some p ↦ at_instant m t (starts σ t p.0 p.1) ]

-- At each of the n instants from t on, until every job has begun.
unfoldable pub at_each_instant : ℕ → ℕ → Run → Run
at_each_instant zero t σ = σ
at_each_instant (suc n) t σ = elim (some_waits σ) [ false ↦ σ | true ↦ at_each_instant n (suc t) (at_instant (size σ) t σ) ]

-- An instant is a number of four bytes.
abbrev pub instants_from : ℕ → ℕ
instants_from H = 2 ^ 32 - H

unfoldable pub carried : Run → ℕ → Run
carried ρ H' = at_each_instant (instants_from ρ.setting.horizon) ρ.setting.horizon (opening ρ H')

-- What a carry says and writes: a whole run file with H' in place of H. The file's own refusals; 9 H' below H or above 1,000,000; 6 more
-- than 512 jobs at H'; 10 the run to be carried breaks a rule; 11 the output is too short.
-- --------------------------------------------------------------------------------------------------------------------------------------
unfoldable pub carry_run : Run → ℕ → ℕ → Outcome
carry_run ρ H' room =
    let out = bytes (carried ρ H') in
    gate_outcome 9 (leb ρ.setting.horizon H' && leb H' most_horizon)
    (gate_outcome 6 (leb (total_jobs ρ.tasks H') most_jobs)
    (gate_outcome 10 (leb (verdict ρ).answer 2)
    (gate_outcome 11 (leb (length out) room)
    (written_out out))))

abbrev pub carry_of : Read → ℕ → ℕ → Outcome
carry_of (refused ν i) H' room = refused_with ν i
carry_of (whole ρ) H' room = carry_run ρ H' room

-- of a file, carried to H', where the output has room for so many bytes
unfoldable pub carry : List ℕ → ℕ → ℕ → Outcome
carry b H' room = carry_of (read b) H' room

-- A job, named by task and job number, can be shown from its source.
-- ------------------------------------------------------------------
pub data Source : Type 0 where
  in_recorded : Part → Source
  in_carried : Part → Source

-- its least record in a file, if it has one: a refused file has none
abbrev pub least_of : Read → Job → Option ℕ
least_of (refused ν i) q = None
least_of (whole ρ) q = place_of ρ q

-- it began before H
abbrev pub began_before : Read → ℕ → Bool
began_before (refused ν i) k = false
began_before (whole ρ) k = ltb (rec ρ k).start ρ.setting.horizon

-- From the carried file: the record, or the empty front part.
abbrev pub shown_carried : List ℕ → Option ℕ → Source
shown_carried c None = in_carried empty_part
shown_carried c (Some k) = in_carried (record_part c k)

-- From the recorded file when it began before H.
abbrev pub shown_if : Bool → List ℕ → ℕ → Source → Source
shown_if true b k otherwise = in_recorded (record_part b k)
shown_if false b k otherwise = otherwise

abbrev pub shown_of : List ℕ → Option ℕ → Source → Source
shown_of b None otherwise = otherwise
shown_of b (Some k) otherwise = shown_if (began_before (read b) k) b k otherwise

unfoldable pub shown : List ℕ → List ℕ → Job → Source
shown b c q = shown_of b (least_of (read b) q) (shown_carried c (least_of (read c) q))
