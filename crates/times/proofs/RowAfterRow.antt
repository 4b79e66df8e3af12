-- The times filled in row by row, from a list that begins with a run's tasks. Assumes nothing.
use Prim.Native.Nat.{ℕ, ◌+◌, ◌*◌, ◌≤◌, ◌<◌}
use mathlib.Core.Path.{◌≡◌, refl, sym, ◌∙◌, ap}
use mathlib.Core.List.{List}
use native.Mathlib.Omega.{arith}
use lib.ListN.{length, get_or}
use Rattle.model.specs.declared.task.Task.{Task}
use Rattle.model.specs.Model.{Run, rec, task_of, task, no_task}
use Rattle.model.specs.Rules.{Jobs}
use Rattle.openfile.specs.Head.{Leads}
use Rattle.table.specs.Table.{Sized, Lent, Loads, Rows, recorded}
use Rattle.table.proofs.LentLaws.{sized_as, lent_fewer, number_of, rows_none, rows_all}
use Rattle.times.specs.declared.Stage.{Stage}
use Rattle.times.specs.Times.{begins, up_to, KeptFrom, Listed}
use Rattle.times.proofs.TimesOfRecord.{task_below, past}

-- the first k rows are there, of a table t that was t₀
pub record Filling (s : Stage) (list : List Task) (t₀ : List ℕ) (n : ℕ) (t : List ℕ) (k : ℕ) : Type 0 where
  pub run : Run
  pub listed : Listed run list (begins s) t₀ n
  pub within : k ≤ n
  pub long : length t ≡ length t₀
  pub sized : Sized t n
  pub rows : (σ : Run) → Listed σ list (begins s) t₀ n → Rows (begins s) (up_to s) k σ t n
  pub kept : KeptFrom (up_to s * n) t₀ t

pub filling_none : (s : Stage) {list : List Task} {t : List ℕ} {n : ℕ} (σ : Run) → Listed σ list (begins s) t n → Filling s list t n t 0
filling_none s σ I =
    record {
      run = σ;
      listed = I;
      within = omega arith;
      long = refl;
      sized = I.table.sized;
      rows = λ ρ K. rows_none K.table (up_to s);
      kept = record { kept = λ p h. refl };
    }

module _ {s : Stage} {list : List Task} {t₀ : List ℕ} {n : ℕ} {t : List ℕ} {k : ℕ} (F : Filling s list t₀ n t k) (l : k < n) where
  -- the task of record k, by its number
  module _ (σ : Run) (I : Listed σ list (begins s) t₀ n) where
    L : Lent recorded σ t n
    L = lent_fewer (F.rows σ I).lent recorded (past s)

    number : get_or t k 0 ≡ (rec σ k).task
    number = number_of L 0 k k (omega arith) l (omega arith)

    below : get_or t k 0 < length σ.tasks
    below = rw number (task_below σ L.limits I.jobs k (omega (arith, L.count)))

    is_task : task_of σ k ≡ get_or list (get_or t k 0) no_task
    is_task = ap (λ i. task σ.tasks i) (sym number) ∙ sym (I.tasks.each (get_or t k 0) below)

  pub number_below : get_or t k 0 < length list
  number_below = omega (arith, below F.run F.listed, F.listed.tasks.room)

  -- what is asked of the row, and what it gives
  pub asks : (k < n) × ((σ : Run) × Jobs σ × Rows (begins s) (up_to s) k σ t n × (task_of σ k ≡ get_or list (get_or t k 0) no_task))
  asks = (l, (F.run, F.listed.jobs, F.rows F.run F.listed, is_task F.run F.listed))

  pub filling_on : {t' : List ℕ} → length t' ≡ length t
      → ((σ : Run) → Jobs σ → Rows (begins s) (up_to s) k σ t n → task_of σ k ≡ get_or list (get_or t k 0) no_task → Rows (begins s) (up_to s) (k + 1) σ t' n × KeptFrom (up_to s * n) t t')
      → Filling s list t₀ n t' (k + 1)
  filling_on {t'} e put =
      let on : (σ : Run) → Listed σ list (begins s) t₀ n → Rows (begins s) (up_to s) (k + 1) σ t' n × KeptFrom (up_to s * n) t t' =
      λ σ I. put σ I.jobs (F.rows σ I) (is_task σ I) in
      record {
        run = F.run;
        listed = F.listed;
        within = omega arith;
        long = e ∙ F.long;
        sized = sized_as e F.sized;
        rows = λ σ I. (on σ I).0;
        kept = record { kept = λ p h. (on F.run F.listed).1.kept p h ∙ F.kept.kept p h };
      }

pub filling_all : {s : Stage} {list : List Task} {t₀ t : List ℕ} {n : ℕ} → Filling s list t₀ n t n → (σ : Run) → Listed σ list (begins s) t₀ n
    → Loads (up_to s) σ n t₀ t
filling_all F σ I = record { lent = rows_all (F.rows σ I); kept = F.kept.kept }

-- what the first stage begins with, and where a stage ends, the next begins
pub listed_first : {σ : Run} {list : List Task} {m : ℕ} {t t' : List ℕ} {n : ℕ} → Leads σ list → Jobs σ → Loads m σ n t t' → Listed σ list m t' n
listed_first L J F = record { tasks = L; jobs = J; table = F.lent }

pub listed_next : {σ : Run} {list : List Task} {m m' : ℕ} {t t' : List ℕ} {n : ℕ} → Listed σ list m t n → Loads m' σ n t t' → Listed σ list m' t' n
listed_next I F = listed_first I.tasks I.jobs F
