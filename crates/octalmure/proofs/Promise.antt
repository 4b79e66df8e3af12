-- What Octalmure promises: demands 1 to 3, of what octalmure_check and octalmure_carry return and leave. Every statement is over the
-- calls' own contracts, `Pre` and `Post`, the toolchain's reading of their `requires` and `ensures`; the words are those of
-- crates/model/specs, and docs/MODEL.md sets them against the paper's sentences. Assumes nothing.
use Prim.Native.Nat.{ℕ, ◌≤◌, ◌<◌}
use mathlib.Core.Path.{◌≡◌, sym, subst, ◌∙◌, ap}
use mathlib.Core.Logic.{◌↔◌, ⊎_elim}
use mathlib.Core.List.{List}
use native.Mathlib.Omega.{arith}
use native.Mathlib.Decide.{dec_lt}
use lib.ListN.{length, take, drop}
use lib.Seq.{take-append_seam}
use contract.Lifetimes.{Lfts}
use denote.Triple.Clauses.{AtExit}
use borrow.Fn.Kinds.{Dens, ended_of}
use Rattle.model.specs.declared.task.Task.{Task}
use Rattle.model.specs.Model.{IsRecord, TaskInRange, rec, task}
use Rattle.model.specs.Rules.{Rule, Place, Holds, Obeys, FirstPlace}
use Rattle.model.specs.Answers.{Five, number, rule_broken, refusal, Late, BeginsBeforeH, LateRecords, Verdict, Row, CarryRow}
use Rattle.model.specs.File.{Bytes, bytes, whole, read, part_of, record_part}
use Rattle.model.specs.Refusals.{FirstFault, NoFault, run_in, asked_of_file, asked_of_both, Names}
use Rattle.model.specs.Carry.{carried, carry}
use Rattle.model.specs.Calls.{answer_size, front, five_in, file_in, check_call, carry_call}
use Rattle.model.specs.Widen.{Wider, with_tasks}
use Rattle.model.specs.Compute.Verdict.{verdict, check}
use Rattle.model.proofs.Calls.{check_short, output_short, rest_kept}
use Rattle.model.proofs.FiveFit.{check_told, short_or_long}
use Rattle.model.proofs.Refusals.{check_refuses, judged, accepted_reads}
use Rattle.model.proofs.Verdict.{verdict_iff}
use Rattle.model.proofs.Demand1.{every_file_answered}
use Rattle.model.proofs.Demand2.{accepted_exactly_if_obeyed, lowest_broken_rule_named, broken_rule_named, late_jobs_counted}
use Rattle.carrytheory.proofs.CarryRefusals.{carry_refuses, every_carry_answered}
use Rattle.carrytheory.proofs.CarryForHost.{Carriable, carriable, refused_writes_nothing, carries_exactly, carried_out, carry_told, file_accepted, file_keeps, file_late, file_shows}
use Rattle.carrytheory.proofs.WidenedRun.{widened_same_late}
use Rattle.carrytheory.proofs.WidenedFile.{widened_file}
use Rattle.octalmure.proofs.check.octalmure_check.Kinds as check_kinds
use Rattle.octalmure.proofs.check.octalmure_check.Reads as check_contract
use Rattle.octalmure.proofs.carry.octalmure_carry.Kinds as carry_kinds
use Rattle.octalmure.proofs.carry.octalmure_carry.Reads as carry_contract

-- A call of check: lent a file b, which is of bytes, and an answer slice a, it may return r and leave a' in the slice.
pub record Checks (b a : List ℕ) (r : ℕ) (a' : List ℕ) : Type 0 where
  pub of_bytes : Bytes b
  pub lifetimes : Lfts 2
  pub lent : Dens lifetimes check_kinds.ps
  pub back : AtExit (ended_of 2 check_kinds.ps check_kinds.r) lifetimes
  pub permitted : check_contract.Post lifetimes lent r back
  pub file : lent.0.now ≡ b
  pub answer : lent.1.0.now ≡ a
  pub left : back.1.0.now ≡ a'

-- A call of carry: lent a file b, a horizon H', an output o and an answer slice a, it may return r and leave o' and a' in the two.
pub record Carries (b : List ℕ) (H' : ℕ) (o a : List ℕ) (r : ℕ) (o' a' : List ℕ) : Type 0 where
  pub of_bytes : Bytes b
  pub lifetimes : Lfts 3
  pub lent : Dens lifetimes carry_kinds.ps
  pub back : AtExit (ended_of 3 carry_kinds.ps carry_kinds.r) lifetimes
  pub permitted : carry_contract.Post lifetimes lent r back
  pub file : lent.0.now ≡ b
  pub horizon : lent.1.0 ≡ H'
  pub output : lent.1.1.0.now ≡ o
  pub answer : lent.1.1.1.0.now ≡ a
  pub written : back.1.1.0.now ≡ o'
  pub left : back.1.1.1.0.now ≡ a'

-- What is known of a call: it is the definition's.
-- ------------------------------------------------
module _ {b a a' : List ℕ} {r : ℕ} (C : Checks b a r a') where
  is_check : record { returns = r; answer = a' } ≡ check_call b a
  is_check =
      let (p, q) = C.permitted in
      (λ κ. record { returns = p κ; answer = (sym C.left ∙ q) κ }) ∙ (λ κ. check_call (C.file κ) (C.answer κ))

  -- what is not answered 4 has an answer slice that is long enough
  long_enough : ¬ (r ≡ 4) → answer_size ≤ length a
  long_enough other = go (dec_lt (length a) answer_size)
    where
      go : Dec (length a < answer_size) → answer_size ≤ length a
      go (yes h) = absurd (other (ap (λ c. c.returns) (is_check ∙ check_short b a h)))
      go (no h) = omega (arith, h)

  pub says : answer_size ≤ length a → (five_in a' ≡ check b) × (r ≡ (check b).answer) × (drop answer_size a' ≡ drop answer_size a)
  says = check_told b C.of_bytes a _ is_check

  -- what the call accepts the checker accepts
  pub call_accepts : r ≤ 2 → (check b).answer ≤ 2
  call_accepts accepted = subst (λ n. n ≤ 2) (says (long_enough (λ e. omega (arith, e)))).1 accepted

module _ {b o a o' a' : List ℕ} {H' r : ℕ} (C : Carries b H' o a r o' a') where
  is_carry : record { returns = r; output = o'; answer = a' } ≡ carry_call b H' o a
  is_carry =
      let (p, q, s) = C.permitted in
      (λ κ. record { returns = p κ; output = (sym C.written ∙ q) κ; answer = (sym C.left ∙ s) κ })
      ∙ (λ κ. carry_call (C.file κ) (C.horizon κ) (C.output κ) (C.answer κ))

  tells : answer_size ≤ length a
      → let w = carry b H' (length o) in
      (five_in a' ≡ w.told) × (r ≡ w.told.answer) × (o' ≡ front w.writes o) × (drop answer_size a' ≡ drop answer_size a)
  tells = carry_told b H' o a _ is_carry C.of_bytes

-- Demand 1. Every sequence of bytes gets one of the listed answers. Nothing is assumed of the caller. A refusal carries its number
-- wherever there is room to write it, and a refused carry changes no byte of the output.
-- ---------------------------------------------------------------------------------------------------------------------------------
pub check_asks_nothing : (κs : Lfts 2) (lent : Dens κs check_kinds.ps) → check_contract.Pre κs lent
check_asks_nothing κs lent = tt

pub carry_asks_nothing : (κs : Lfts 3) (lent : Dens κs carry_kinds.ps) → carry_contract.Pre κs lent
carry_asks_nothing κs lent = tt

module _ {b a a' : List ℕ} {r : ℕ} (C : Checks b a r a') where
  -- A shorter answer slice is met first of all: the call returns 4 and no byte changes.
  pub check_met_short : length a < answer_size → (r ≡ 4) × (a' ≡ a)
  check_met_short h = let e = is_check C ∙ check_short b a h in (ap (λ c. c.returns) e, ap (λ c. c.answer) e)

  -- Else the five numbers in the answer slice are a row of the table, the first of them is returned, and the bytes after the 20th keep
  -- their values.
  pub check_answers : answer_size ≤ length a → Row (five_in a') × (r ≡ (five_in a').answer) × (drop answer_size a' ≡ drop answer_size a)
  check_answers long =
      let (f, n, k) = says C long in
      (subst Row (sym f) (every_file_answered b), n ∙ sym (ap (λ f. f.answer) f), k)

  -- A refusal is given exactly when the first fault of the file has its number.
  pub check_refuses_exactly : answer_size ≤ length a → (ν i : ℕ) → (five_in a' ≡ refusal ν i) ↔ (FirstFault (asked_of_file b) ν × Names b ν i)
  check_refuses_exactly long ν i = rw (says C long).0 (check_refuses b ν i)

module _ {b o a o' a' : List ℕ} {H' r : ℕ} (C : Carries b H' o a r o' a') where
  pub carry_met_short : length a < answer_size → (r ≡ 4) × (o' ≡ o) × (a' ≡ a)
  carry_met_short h =
      let e = is_carry C ∙ output_short (carry b H' (length o)) o a h in
      (ap (λ c. c.returns) e, ap (λ c. c.output) e, ap (λ c. c.answer) e)

  -- An answer other than 5 is 4, and no byte of the output changes.
  pub carry_refused_keeps : ¬ (r ≡ 5) → (r ≡ 4) × (o' ≡ o)
  carry_refused_keeps other = ⊎_elim (λ h. h) refused (short_or_long (carry b H' (length o)) o a _ (is_carry C))
    where
      refused : answer_size ≤ length a → (r ≡ 4) × (o' ≡ o)
      refused long =
          let (f, n, out, k) = tells C long in
          let (four, nothing) = refused_writes_nothing b H' (length o) (λ five. other (n ∙ five)) in
          (n ∙ four, out ∙ ap (λ bytes. front bytes o) nothing)

  pub carry_answers : answer_size ≤ length a → CarryRow (five_in a') × (r ≡ (five_in a').answer) × (drop answer_size a' ≡ drop answer_size a)
  carry_answers long =
      let (f, n, out, k) = tells C long in
      (subst CarryRow (sym f) (every_carry_answered b H' (length o)), n ∙ sym (ap (λ f. f.answer) f), k)

  pub carry_refuses_exactly : answer_size ≤ length a → (ν i : ℕ)
      → (five_in a' ≡ refusal ν i) ↔ (FirstFault (asked_of_both b H' (length o)) ν × Names b ν i)
  carry_refuses_exactly long ν i = rw (tells C long).0 (carry_refuses b H' (length o) ν i)

-- Demand 2. A run in a file that isn't refused is accepted exactly if it obeys all rules. Otherwise the answer names the lowest-numbered
-- broken rule and its first place. For an accepted run the late jobs are counted exactly.
-- ---------------------------------------------------------------------------------------------------------------------------------------
module _ {b a a' : List ℕ} {r : ℕ} (C : Checks b a r a') (long : answer_size ≤ length a) (not-refused : NoFault (asked_of_file b)) where
  five_of_run : five_in a' ≡ verdict (run_in b)
  five_of_run = (says C long).0 ∙ judged b not-refused

  pub check_accepts : (r ≤ 2) ↔ Obeys (run_in b)
  check_accepts = rw ((says C long).1, judged b not-refused) (accepted_exactly_if_obeyed (run_in b))

  pub check_names_rule : (ν : Rule) (p : Place)
      → (five_in a' ≡ rule_broken (number ν) p) ↔ (((μ : Rule) → number μ < number ν → Holds μ (run_in b)) × FirstPlace ν (run_in b) p)
  check_names_rule ν p = rw five_of_run (lowest_broken_rule_named (run_in b) ν p)

  pub check_names_some : ¬ Obeys (run_in b) → (ν : Rule) × (p : Place) × (five_in a' ≡ rule_broken (number ν) p)
  check_names_some h = let (ν, p, e) = broken_rule_named (run_in b) h in (ν, p, five_of_run ∙ e)

  pub check_counts : Obeys (run_in b) → LateRecords (run_in b) (five_in a').code
  check_counts O = subst (λ f. LateRecords (run_in b) f.code) (sym five_of_run) (late_jobs_counted (run_in b) O)

  -- All rows at once: the five numbers are those that the table of answers says of the run.
  pub check_says : (f : Five) → (five_in a' ≡ f) ↔ Verdict (run_in b) f
  check_says f = rw five_of_run (verdict_iff (run_in b) f)

-- Demand 3. Shown lateness stays shown. An accepted run to H, carried to any H' from H up to the limits at which the jobs fit, given room,
-- is written as a run that demand 2 accepts, in which each job begun before H stands unchanged.
-- ---------------------------------------------------------------------------------------------------------------------------------------
module _ {b o a o' a' : List ℕ} {H' r : ℕ} (C : Carries b H' o a r o' a') where
  -- 5 is answered exactly if the file is not refused, H ≤ H' ≤ 1,000,000, the jobs fit, the run obeys all rules and there is room.
  pub carry_carries_exactly : answer_size ≤ length a → (r ≡ 5) ↔ NoFault (asked_of_both b H' (length o))
  carry_carries_exactly long = rw (tells C long).1 (carries_exactly b H' (length o))

  module _ (five : r ≡ 5) where
    long : answer_size ≤ length a
    long = ⊎_elim (λ h. absurd (omega (arith, h.0))) (λ h. h) (short_or_long (carry b H' (length o)) o a _ (is_carry C))

    no_fault : NoFault (asked_of_both b H' (length o))
    no_fault = (carry_carries_exactly long).0 five

    known : Carriable b H'
    known = carriable b H' (length o) no_fault

    -- As many bytes of the output as the code in the answer slice says are the file of the carried run; those after it keep their values.
    pub carry_writes : (file_in o' a' ≡ bytes (carried (run_in b) H')) × (drop (five_in a').code o' ≡ drop (five_in a').code o)
    carry_writes =
        let (f, n, out, k) = tells C long in
        let (code, file) = carried_out b H' (length o) no_fault in
        let c : List ℕ = bytes (carried (run_in b) H') in
        let size : (five_in a').code ≡ length c = ap (λ f. f.code) f ∙ code in
        let front_of : o' ≡ front c o = out ∙ ap (λ bytes. front bytes o) file in
        ((λ κ. take (size κ) (front_of κ)) ∙ take-append_seam c _, (λ κ. drop (size κ) (front_of κ)) ∙ rest_kept c o ∙ (λ κ. drop (sym size κ) o))

    -- It is a file that a check accepts, ..
    pub carried_is_accepted : {a₂ a₂' : List ℕ} {r₂ : ℕ} → Checks (file_in o' a') a₂ r₂ a₂' → answer_size ≤ length a₂ → r₂ ≤ 2
    carried_is_accepted D long₂ = rw (says D long₂).1 (file_accepted b C.of_bytes H' known (file_in o' a') carry_writes.0)

    -- .. in which each record that starts before H stands unchanged, in its numbers and in its 24 bytes, ..
    pub carried_keeps : (k : ℕ) → IsRecord (run_in b) k → BeginsBeforeH (run_in b) k
        → let c = file_in o' a' in
        (j : ℕ) × IsRecord (run_in c) j × (rec (run_in c) j ≡ rec (run_in b) k) × (part_of c (record_part c j) ≡ part_of b (record_part b k))
    carried_keeps = file_keeps b C.of_bytes H' known (file_in o' a') carry_writes.0

    -- .. each late job that begins before H is late and begins before H', ..
    pub carried_stays_late : (k : ℕ) → IsRecord (run_in b) k → Late (run_in b) k → BeginsBeforeH (run_in b) k
        → let c = file_in o' a' in
        (j : ℕ) × IsRecord (run_in c) j × Late (run_in c) j × BeginsBeforeH (run_in c) j × (rec (run_in c) j ≡ rec (run_in b) k)
    carried_stays_late = file_late b C.of_bytes H' known (file_in o' a') carry_writes.0

    -- .. and where a check of the recorded file answers 1, so does one of the carried file.
    pub carried_shows : {a₁ a₁' a₂ a₂' : List ℕ} {r₂ : ℕ} → Checks b a₁ 1 a₁' → Checks (file_in o' a') a₂ r₂ a₂' → answer_size ≤ length a₂ → r₂ ≡ 1
    carried_shows D E long₂ =
        let one = sym (says D (long_enough D (λ e. omega (arith, e)))).1 in
        (says E long₂).1 ∙ file_shows b C.of_bytes H' known (file_in o' a') carry_writes.0 one

-- And if any task is allowed more jitter, a shorter least time or a longer greatest time within the limits, the first run is still
-- accepted with the same late jobs.
module _ {b a a' : List ℕ} {r : ℕ} (C : Checks b a r a') (accepted : r ≤ 2) (σs : List Task)
    (wider : Wider (run_in b).tasks σs) (within : (i : ℕ) → i < length σs → TaskInRange (task σs i)) where
  pub widened_is_told_the_same : {a₂ a₂' : List ℕ} {r₂ : ℕ} → Checks (bytes (with_tasks (run_in b) σs)) a₂ r₂ a₂' → answer_size ≤ length a₂
      → (r₂ ≡ r) × (five_in a₂' ≡ five_in a')
  widened_is_told_the_same D long₂ =
      let (f, n, k) = says C (long_enough C (λ e. omega (arith, e))) in
      let (f₂, n₂, k₂) = says D long₂ in
      let e = widened_file b C.of_bytes (run_in b) reads σs wider within (rw n at accepted) in
      (n₂ ∙ ap (λ f. f.answer) e ∙ sym n, f₂ ∙ e ∙ sym f)
    where
      reads : read b ≡ whole (run_in b)
      reads = accepted_reads b (call_accepts C accepted)

  pub widened_is_late_the_same : (k : ℕ) → Late (with_tasks (run_in b) σs) k ↔ Late (run_in b) k
  widened_is_late_the_same = widened_same_late (run_in b) σs wider
