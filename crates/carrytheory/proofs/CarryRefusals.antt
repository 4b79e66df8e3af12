-- What a carry is refused with: the number of the first fault of the file, the horizon, the run or the room; else it writes the file of
-- the carried run. Assumes nothing.
use Prim.Native.Nat.{ℕ}
use mathlib.Core.Path.{◌≡◌, refl, sym, subst, ◌∙◌, ap}
use mathlib.Core.Logic.{◌↔◌}
use mathlib.Core.Bool.{Bool}
use mathlib.Core.List.{List, ◌∷◌}
use native.Mathlib.Omega.{arith}
use lib.ListN.{length}
use Rattle.base.proofs.Test.{Says, says_leb, says_and, says_map}
use Rattle.model.specs.Model.{Run, WithinLimits, most_horizon, most_jobs, total_jobs}
use Rattle.model.specs.Answers.{refusal, bytes_written, refused_with, Listed, CarryRow, carry4, carry5, Outcome, gate_outcome, written_out}
use Rattle.model.specs.File.{refused, whole, read, bytes}
use Rattle.model.specs.Refusals.{Asked, FirstFault, NoFault, run_in, asked_of_file, asked_of_carry, asked_of_both, Names}
use Rattle.model.specs.Carry.{carried, carry_run, carry_of, carry}
use Rattle.model.specs.Compute.Verdict.{verdict}
use Rattle.model.proofs.Demand1.{fault_listed}
use Rattle.model.proofs.Demand2.{accepted_exactly_if_obeyed}
use Rattle.model.proofs.Reading.{read_limits}
use Rattle.model.proofs.Refusals.{fault_front, fault_back, no_fault_both, Comes, comes_asked, comes_refused, comes_good, names_none, names_once, five_told, read_comes}
use Rattle.carrytheory.proofs.Demand3.{carried_size}

-- A refused carry writes nothing.
module _ (b : List ℕ) (H' room : ℕ) where
  abbrev CarryComes : Run → Asked → Outcome → Type 0
  CarryComes ρ = Comes refused_with (written_out (bytes (carried ρ H'))) (Names b)

  asked : (ρ : Run) (ν : ℕ) → ¬ (ν ≡ 5) → (A : Type 0) (qs : Asked) (t : Bool) (o : Outcome) → Says t A → (A → CarryComes ρ qs o)
      → CarryComes ρ ((ν, A) ∷ qs) (gate_outcome ν t o)
  unfolding gate_outcome
  asked ρ ν n A qs t o =
      comes_asked refused_with (written_out (bytes (carried ρ H'))) (Names b) ν A qs (gate_outcome ν) (λ q. refl) (λ q. refl) (names_none b ν n) t o

  run_comes : (ρ : Run) → WithinLimits ρ → CarryComes ρ (asked_of_carry ρ H' room) (carry_run ρ H' room)
  unfolding carry_run
  run_comes ρ L =
      asked ρ 9 (λ e. omega (arith, e)) _ _ _ _ (says_and (says_leb ρ.setting.horizon H') (says_leb H' most_horizon)) (λ far.
      asked ρ 6 (λ e. omega (arith, e)) _ _ _ _ (says_leb (total_jobs ρ.tasks H') most_jobs) (λ few.
      asked ρ 10 (λ e. omega (arith, e)) _ _ _ _
      (says_map (accepted_exactly_if_obeyed ρ).0 (accepted_exactly_if_obeyed ρ).1 (says_leb (verdict ρ).answer 2)) (λ O.
      let n = carried_size ρ H' L O far.0 far.1 few in
      asked ρ 11 (λ e. omega (arith, e)) _ _ _ _
      (says_map (λ h. rw n at h) (λ h. rw n h) (says_leb (length (bytes (carried ρ H'))) room)) (λ h. Comes.passes tt refl))))

  pub carry_comes : CarryComes (run_in b) (asked_of_both b H' room) (carry b H' room)
  unfolding carry
  carry_comes = go (read_comes b)
    where
      ρ : Run
      ρ = run_in b

      cs : Asked
      cs = asked_of_carry ρ H' room

      after : NoFault (asked_of_file b) → read b ≡ whole ρ → CarryComes ρ cs (carry_run ρ H' room) → CarryComes ρ (asked_of_both b H' room) (carry_of (read b) H' room)
      after h e (Comes.refuses ν i f m q) = Comes.refuses ν i (fault_back (asked_of_file b) cs ν h f) m (ap (λ r. carry_of r H' room) e ∙ q)
      after h e (Comes.passes g q) = Comes.passes ((no_fault_both (asked_of_file b) cs).1 (h, g)) (ap (λ r. carry_of r H' room) e ∙ q)

      go : Comes refused (whole ρ) (Names b) (asked_of_file b) (read b) → CarryComes ρ (asked_of_both b H' room) (carry_of (read b) H' room)
      go (Comes.refuses ν i f m e) = Comes.refuses ν i (fault_front (asked_of_file b) cs ν f) m (ap (λ r. carry_of r H' room) e)
      go (Comes.passes h e) = after h e (run_comes ρ (read_limits b ρ e))

  -- the five numbers
  told_comes : Comes refusal (bytes_written (length (bytes (carried (run_in b) H')))) (Names b) (asked_of_both b H' room) (carry b H' room).told
  unfolding written_out
  told_comes = go carry_comes
    where
      go : CarryComes (run_in b) (asked_of_both b H' room) (carry b H' room)
          → Comes refusal (bytes_written (length (bytes (carried (run_in b) H')))) (Names b) (asked_of_both b H' room) (carry b H' room).told
      go (Comes.refuses ν i f m e) = Comes.refuses ν i f m (ap (λ o. o.told) e)
      go (Comes.passes h e) = Comes.passes h (ap (λ o. o.told) e)

  carried≢refused : (n ν i : ℕ) → ¬ (bytes_written n ≡ refusal ν i)
  carried≢refused n ν i e = omega (arith, ap (λ f. f.answer) e)

  -- A carry is refused with a number exactly if it is that of the first fault, and carries exactly if there is none.
  pub carry_refuses : (ν i : ℕ) → ((carry b H' room).told ≡ refusal ν i) ↔ (FirstFault (asked_of_both b H' room) ν × Names b ν i)
  carry_refuses =
      comes_refused refusal (bytes_written (length (bytes (carried (run_in b) H')))) (Names b) five_told (λ ν i. refl) (λ ν i. carried≢refused _ ν i) (names_once b)
      (asked_of_both b H' room) (carry b H' room).told told_comes

  pub carry_carries : ((carry b H' room).told ≡ bytes_written (length (bytes (carried (run_in b) H')))) ↔ NoFault (asked_of_both b H' room)
  carry_carries =
      comes_good refusal (bytes_written (length (bytes (carried (run_in b) H')))) (Names b) five_told (λ ν i. refl) (λ ν i. carried≢refused _ ν i) (names_once b)
      (asked_of_both b H' room) (carry b H' room).told told_comes

-- Demand 1 of a carry: it is refused with a listed number, or it carries.
-- -----------------------------------------------------------------------
pub fault_listed_both : (b : List ℕ) (H' room ν i : ℕ) → FirstFault (asked_of_both b H' room) ν → Names b ν i → Listed 11 ν i
fault_listed_both b H' room = fault_listed b 11 (asked_of_both b H' room) refl

pub every_carry_answered : (b : List ℕ) (H' room : ℕ) → CarryRow (carry b H' room).told
every_carry_answered b H' room = go (told_comes b H' room)
  where
    go : Comes refusal (bytes_written (length (bytes (carried (run_in b) H')))) (Names b) (asked_of_both b H' room) (carry b H' room).told
        → CarryRow (carry b H' room).told
    go (Comes.refuses ν i f m e) = subst CarryRow (sym e) (carry4 (fault_listed_both b H' room ν i f m))
    go (Comes.passes h e) = subst CarryRow (sym e) (carry5 _)
