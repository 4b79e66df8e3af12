-- What the carry of a file is, one law for each answer: the file's own refusals, 9, 6, 10, 11, and the file that is written.
-- Assumes nothing.
use Prim.Native.Nat.{ℕ}
use mathlib.Core.Path.{◌≡◌, refl, sym, ◌∙◌, ap}
use mathlib.Core.Bool.{Bool, true, false, not, ◌&&◌}
use mathlib.Core.List.{List}
use native.Mathlib.Omega.{arith}
use borrow.Author.Tests.{not-true, not-false}
use lib.Dec.{leb}
use lib.ListN.{length}
use Rattle.base.proofs.Test.{says_leb, says_and, says_true}
use Rattle.model.proofs.Gates.{gate_opens, gate_closes, leaves, leaves_refused}
use Rattle.carrytheory.proofs.Demand3.{carried_size}
use Rattle.model.specs.declared.task.Task.{Task}
use Rattle.model.specs.Answers.{refusal, bytes_written, Outcome, gate_outcome, written_out}
use Rattle.model.specs.Calls.{front}
use Rattle.model.specs.Carry.{carried, carry_run, carry_of, carry}
use Rattle.model.specs.Compute.Verdict.{verdict}
use Rattle.model.specs.File.{read, refused, bytes, size_of}
use Rattle.model.specs.Model.{Run, most_horizon, most_jobs, total_jobs, existing}
use Rattle.model.specs.Rules.{Obeys, rule1}
use Rattle.model.proofs.Demand2.{accepted_exactly_if_obeyed}
use Rattle.model.proofs.Jobs.{existing_total}
use Rattle.openfile.specs.declared.head.Head.{Head}
use Rattle.openfile.specs.Head.{Tells, Leads}
use Rattle.openfile.proofs.WholeOrRefused.{tells_limits, tells_setting, tells_task_count}
use Rattle.carrytheory.specs.Allowed.{Allowed}
use Rattle.carryrun.specs.Writable.{Writable}
use Rattle.carryfile.specs.ToldAndWritten.{Carries}

-- The file's own refusals
-- -----------------------
pub says_refused : (b : List ℕ) (H' : ℕ) (output : List ℕ) (ν i : ℕ) → read b ≡ refused ν i → Carries b H' output (refusal ν i) output
unfolding carry
says_refused b H' output ν i e = leaves_refused output (ap (λ r. carry_of r H' (length output)) e)

-- What the tests say of a run that is told
-- ----------------------------------------
pub obeys : (ρ : Run) {t : Bool} → t ≡ leb (verdict ρ).answer 2 → not t ≡ false → Obeys ρ
obeys ρ e n = (accepted_exactly_if_obeyed ρ).0 ((says_leb (verdict ρ).answer 2).sound (sym e ∙ not-false _ n))

module _ {b : List ℕ} {h : Head} {ρ : Run} (T : Tells b h ρ) where
  pub writable : {l : List Task} {H' m : ℕ} (room : ℕ) {s : ℕ} → Leads ρ l → Obeys ρ → Allowed ρ H' → m ≡ length (existing ρ H')
      → s ≡ size_of h.tasks m → not (leb s room) ≡ false → Writable b h l H' m room ρ
  writable room {s} L O R count size n =
      record {
        obeys = O;
        carriable = record { tells = T; tasks = L; jobs = O rule1; allowed = R; count = count };
        fits = rw size at ((says_leb s room).sound (not-false _ n));
      }

  module _ (H' : ℕ) {t : Bool} (e : t ≡ (leb h.setting.horizon H' && leb H' most_horizon)) where
    far : t ≡ (leb ρ.setting.horizon H' && leb H' most_horizon)
    far = e ∙ ap (λ σ. leb σ.horizon H' && leb H' most_horizon) (tells_setting T)

    pub allowed : {m : ℕ} → not t ≡ false → m ≡ total_jobs ρ.tasks H' → not (leb m most_jobs) ≡ false → Allowed ρ H'
    allowed {m} n count l =
        let (longer, most) = (says_and (says_leb ρ.setting.horizon H') (says_leb H' most_horizon)).sound (sym far ∙ not-false _ n) in
        record { longer = longer; most = most; few = rw count at ((says_leb m most_jobs).sound (not-false _ l)) }

-- the jobs that are counted are those that exist
pub counted : (ρ : Run) (H' : ℕ) {m : ℕ} → m ≡ total_jobs ρ.tasks H' → m ≡ length (existing ρ H')
counted ρ H' e = e ∙ sym (existing_total ρ H')

-- What the carry is then
-- ----------------------
module _ {b : List ℕ} {h : Head} {ρ : Run} (T : Tells b h ρ) (H' : ℕ) (output : List ℕ) where
  whole_is : carry b H' (length output) ≡ carry_run ρ H' (length output)
  unfolding carry
  whole_is = ap (λ r. carry_of r H' (length output)) T.reads

  -- by the test of the horizon and the number of jobs
  module _ {t : Bool} (e : t ≡ (leb h.setting.horizon H' && leb H' most_horizon)) where
    pub says_9 : not t ≡ true → Carries b H' output (refusal 9 0) output
    unfolding carry_run
    says_9 n = leaves_refused output (whole_is ∙ gate_closes 9 _ _ (sym (far T H' e) ∙ not-true _ n))

    pub says_6 : {m : ℕ} → not t ≡ false → m ≡ total_jobs ρ.tasks H' → not (leb m most_jobs) ≡ true → Carries b H' output (refusal 6 0) output
    unfolding carry_run
    says_6 n count l =
        leaves_refused output
        (whole_is ∙ gate_opens 9 _ _ _ (sym (far T H' e) ∙ not-false _ n) (gate_closes 6 _ _ (ap (λ k. leb k most_jobs) (sym count) ∙ not-true _ l)))

  -- by the run's own answer, and the size of the file that is to be written
  module _ (R : Allowed ρ H') where
    abbrev out : List ℕ
    out = bytes (carried ρ H')

    past_6 : {o : Outcome} → gate_outcome 10 (leb (verdict ρ).answer 2) (gate_outcome 11 (leb (length out) (length output)) (written_out out)) ≡ o
        → carry b H' (length output) ≡ o
    unfolding carry_run
    past_6 q =
        whole_is
        ∙ gate_opens 9 _ _ _ (says_true (says_and (says_leb ρ.setting.horizon H') (says_leb H' most_horizon)) (R.longer, R.most))
        (gate_opens 6 _ _ _ (says_true (says_leb (total_jobs ρ.tasks H') most_jobs) R.few) q)

    pub says_10 : {t : Bool} → t ≡ leb (verdict ρ).answer 2 → not t ≡ true → Carries b H' output (refusal 10 0) output
    says_10 e n = leaves_refused output (past_6 (gate_closes 10 _ _ (sym e ∙ not-true _ n)))

    module _ (O : Obeys ρ) {m : ℕ} (count : m ≡ length (existing ρ H')) {s : ℕ} (size : s ≡ size_of h.tasks m) where
      past_10 : {o : Outcome} → gate_outcome 11 (leb (length out) (length output)) (written_out out) ≡ o → carry b H' (length output) ≡ o
      past_10 q = past_6 (gate_opens 10 _ _ _ (says_true (says_leb (verdict ρ).answer 2) ((accepted_exactly_if_obeyed ρ).1 O)) q)

      is_size : length out ≡ s
      is_size =
          let n = carried_size ρ H' (tells_limits T) O R.longer R.most R.few in
          omega (arith, count, tells_task_count T)

      is_room : leb (length out) (length output) ≡ leb s (length output)
      is_room = ap (λ k. leb k (length output)) is_size

      pub says_11 : not (leb s (length output)) ≡ true → Carries b H' output (refusal 11 0) output
      says_11 n = leaves_refused output (past_10 (gate_closes 11 _ _ (is_room ∙ not-true _ n)))

      pub says_5 : {after : List ℕ} → not (leb s (length output)) ≡ false → after ≡ front out output → Carries b H' output (bytes_written s) after
      unfolding written_out
      says_5 {after} n w = leaves output after (past_10 (gate_opens 11 _ _ _ (is_room ∙ not-false _ n) refl)) (ap bytes_written (sym is_size)) w
