-- All turns of the carry: what holds between two of them, and what is left at the end. Assumes nothing.
use Prim.Native.Nat.{ℕ, zero, ◌+◌, ◌*◌, ◌^◌, ◌≤◌, ◌<◌, max}
use mathlib.Core.Path.{◌≡◌, refl, sym, ◌∙◌, ap, subst}
use mathlib.Core.List.{List}
use native.Mathlib.Omega.{arith}
use native.Mathlib.Decide.{dec_lt}
use lib.Dec.{eqb}
use lib.ListN.{length, get_or, get_or-eq_default}
use Rattle.base.specs.Find.{count}
use Rattle.base.proofs.Same.{count_same}
use Rattle.model.specs.Model.{Run, rec, task_of, most_time, most_cores}
use Rattle.model.specs.Rules.{Jobs}
use Rattle.model.specs.Carry.{starts, not_begun, opening, carried}
use Rattle.model.specs.Compute.Jumps.{waiting, start_all, carry_by_starts}
use Rattle.carrytheory.proofs.Waiting.{Waits, waits}
use Rattle.carrytheory.proofs.Readiness.{some_least_waits}
use Rattle.carrytheory.proofs.StartChanges.{rule1_stays}
use Rattle.carrytheory.proofs.ByStarts.{carried_by_starts}
use Rattle.carrytheory.proofs.Begin.{Going, going_done}
use Rattle.carrytheory.proofs.AtH.{opening_jobs}
use Rattle.carrytheory.proofs.CarryEnds.{going₀}
use Rattle.table.specs.Table.{Sized, Lent, columns, column_of}
use Rattle.table.proofs.LentLaws.{number_of}
use Rattle.starts.specs.Opened.{Opened}
use Rattle.starts.specs.Choice.{HasTurn, Chosen}
use Rattle.starts.specs.Cores.{Lasts, LeastOf}
use Rattle.starts.specs.CoreGiven.{Takes}
use Rattle.starts.specs.declared.cores.Cores.{Cores}
use Rattle.starts.proofs.State.{core_of}
use Rattle.starts.proofs.LastEnds.{Ends, ends_of, ends_then}
use Rattle.starts.proofs.OneTurn.{begun_turn, chosen_record, chosen_waits, turn, turn_fits}

-- how many of the n jobs of a table have not begun
pub left_in : ℕ → List ℕ → ℕ
left_in n t = count (λ k. eqb (get_or t (5 * n + k) 0) 0) n

left_is : {σ : Run} {t : List ℕ} {n : ℕ} → Lent columns σ t n → left_in n t ≡ waiting σ
unfolding left_in waiting
left_is {σ} {t} {n} L =
    count_same (λ k. eqb (get_or t (5 * n + k) 0) 0) (not_begun σ) n (λ k h. ap (λ c. eqb c 0) (L.number 5 k (omega arith) h))
    ∙ ap (count (not_begun σ)) L.count

-- The carry of σ₀ from H on has come to a run with this table at instant v; and the last ends on its cores are known.
pub record Reached (σ₀ : Run) (H : ℕ) (t : List ℕ) (n : ℕ) (T : Cores) (v : ℕ) : Type 0 where
  pub run : Run
  pub jobs_left : ℕ
  pub going : Going σ₀ H most_time jobs_left v run
  pub table : Lent columns run t n
  pub jobs : Jobs run
  pub cores : T.n ≡ run.setting.cores
  pub ends : Ends run T.ends
  pub least : LeastOf T.ends (T.n + 1) T.least

-- Before the first turn
-- ---------------------
module _ {ρ : Run} {H' N H : ℕ} {t : List ℕ} {n : ℕ} (X : Opened ρ H' N H t n) where
  abbrev σ : Run
  σ = opening ρ H'

  going : Going σ H most_time (waiting σ) H σ
  going =
      rw X.horizon
      (going₀ ρ X.limits H' X.obeys X.allowed.longer X.allowed.most X.allowed.few)

  cores_then : N ≡ σ.setting.cores
  unfolding opening
  cores_then = X.cores

  module _ {es cs : List ℕ} (ends : es ≡ column_of n t 4) (on : cs ≡ column_of n t 5) (long : length cs ≡ n) where
    pub on_core : (k : ℕ) → get_or cs k 0 ≤ most_cores
    on_core k = go (dec_lt k n)
      where
        go : Dec (k < n) → get_or cs k 0 ≤ most_cores
        go (yes h) =
            let c : get_or cs k 0 ≡ (rec σ k).core = rw on (core_of X.table k h) in
            omega (arith, going.inv.cores k (omega (arith, X.table.count)), X.table.limits.setting.cores)
        go (no h) = omega (arith, get_or-eq_default cs 0 {n = k} (omega (arith, h)))

    pub reached_first : {T : Cores} → T.n ≡ N → Lasts (length cs) cs es T.ends → LeastOf T.ends (T.n + 1) T.least → Reached (opening ρ H') H t n T H
    reached_first few L F =
        record {
          run = σ;
          jobs_left = waiting σ;
          going = going;
          table = X.table;
          jobs = opening_jobs ρ H';
          cores = few ∙ cores_then;
          ends = ends_of X.table ends on long L;
          least = F;
        }

-- From turn to turn
-- -----------------
module _ {σ₀ : Run} {H : ℕ} {t : List ℕ} {n : ℕ} {T : Cores} {v : ℕ} (R : Reached σ₀ H t n T v) where
  module _ {u k : ℕ} (C : Chosen n (max v T.least) (column_of n t 5) (column_of n t 1) (column_of n t 12) (column_of n t 11) u k) where
    time : get_or t (9 * n + k) 0 ≡ (task_of R.run k).greatest
    time = number_of R.table 9 k (9 * n + k) (omega arith) C.range refl

    -- the job's row is in the table, and its end is a number of four bytes
    pub in_table : (k < n) × Sized t n × (u + get_or t (9 * n + k) 0 < 2 ^ 32)
    in_table =
        let l = R.going.able.most (rec R.run k).task in
        let f = turn_fits R.going R.table R.jobs R.cores R.ends R.least C in
        (C.range, R.table.sized, omega (arith, time))

    pub core_free : (d : ℕ) × (1 ≤ d) × (d ≤ T.n) × (get_or T.ends d 0 ≤ u)
    core_free = let F = R.least in (F.core, F.core_is.0, omega (arith, F.core_is.1), omega (arith, F.here, C.at))

    module _ {T' : Cores} {c : ℕ} (K : Takes T.ends T.n u (u + get_or t (9 * n + k) 0) c T') {t' : List ℕ}
        (put : (σ : Run) → Jobs σ → Lent columns σ t n → u + get_or t (9 * n + k) 0 ≡ u + (task_of σ k).greatest → Lent columns (starts σ u k c) t' n) where
      ends : u + get_or t (9 * n + k) 0 ≡ u + (task_of R.run k).greatest
      ends = ap (λ x. u + x) time

      table_then : Lent columns (starts R.run u k c) t' n
      table_then = put R.run R.jobs R.table ends

      pub reached_on : Reached σ₀ H t' n T' u
      reached_on =
          let (m, e, G) = turn R.going R.table R.jobs R.cores R.ends R.least C K in
          record {
            run = starts R.run u k c;
            jobs_left = m;
            going = G;
            table = table_then;
            jobs = rule1_stays R.run u k c (task_of R.run k).greatest R.jobs;
            cores = K.count ∙ R.cores;
            ends =
                rw (K.ends, ends)
                (ends_then R.run u k c (chosen_record R.jobs R.table C) (chosen_waits R.jobs R.table C) R.ends K.core.0
                (omega (arith, K.core.1, T.range)) K.free);
            least = rw K.count K.least;
          }

      -- one job fewer is left
      pub fewer_left : left_in n t' < left_in n t
      fewer_left =
          let (m, e, G) = turn R.going R.table R.jobs R.cores R.ends R.least C K in
          omega (arith, left_is table_then, left_is R.table, R.going.left, G.left)

  -- it is no job's turn
  pub all_begun : ((j : ℕ) → j < n → ¬ HasTurn (column_of n t 5) (column_of n t 1) j) → Lent columns (start_all (waiting σ₀) H σ₀) t n
  all_begun f =
      let G : Going σ₀ H most_time zero v R.run = subst (λ m. Going σ₀ H most_time m v R.run) (over (waits R.run)) R.going in
      rw (going_done σ₀ H most_time v R.run G).1 R.table
    where
      over : Waits R.run → R.jobs_left ≡ 0
      over (Waits.nobody z g) = omega (arith, R.going.left)
      over (Waits.one i z j h c) =
          let (k, g, w, b) = some_least_waits R.run j h c in
          let l : k < n = omega (arith, R.table.count) in
          absurd (f k l (begun_turn R.jobs R.table k l w b))

-- From the table of what stands at H, of whatever run, the carry has come to the present one.
pub record Comes (N H : ℕ) (t₀ : List ℕ) (n : ℕ) (t : List ℕ) (T : Cores) (v : ℕ) : Type 0 where
  pub reached : (ρ : Run) (H' : ℕ) → Opened ρ H' N H t₀ n → Reached (opening ρ H') H t n T v

pub comes_done : {N H : ℕ} {t₀ : List ℕ} {n : ℕ} {t : List ℕ} {T : Cores} {v : ℕ} → Comes N H t₀ n t T v
    → ((j : ℕ) → j < n → ¬ HasTurn (column_of n t 5) (column_of n t 1) j)
    → (ρ : Run) (H' : ℕ) → Opened ρ H' N H t₀ n → Lent columns (carried ρ H') t n
unfolding carry_by_starts
comes_done Z f ρ H' X =
    rw (carried_by_starts ρ H' ∙ ap (λ h. start_all (waiting (opening ρ H')) h (opening ρ H')) (sym X.horizon)) (all_begun (Z.reached ρ H' X) f)
