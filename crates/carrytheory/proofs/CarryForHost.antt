-- What a carry says and writes, and what holds of the file that it writes: for the calls of a host. Assumes nothing.
use Prim.Native.Nat.{ℕ, ◌≤◌}
use mathlib.Core.Path.{◌≡◌, sym, subst, ◌∙◌, ap}
use mathlib.Core.Logic.{◌↔◌}
use mathlib.Core.List.{List, []}
use native.Mathlib.Omega.{arith}
use lib.ListN.{length, drop}
use Rattle.model.specs.Model.{Run, IsRecord, WithinLimits, most_horizon, most_jobs, total_jobs, rec}
use Rattle.model.specs.Rules.{Obeys}
use Rattle.model.specs.Answers.{bytes_written, refused_with, Late, BeginsBeforeH, written_out}
use Rattle.model.specs.File.{Bytes, bytes_of, bytes, record_numbers, whole, read, part_of, record_part}
use Rattle.model.specs.Refusals.{NoFault, run_in, asked_of_file, asked_of_carry, asked_of_both, Names}
use Rattle.model.specs.Calls.{answer_size, front, five_in, OutputCall, carry_call}
use Rattle.model.specs.Carry.{carried, carry}
use Rattle.model.specs.Compute.Verdict.{verdict, check_of, check}
use Rattle.model.proofs.Demand2.{accepted_exactly_if_obeyed}
use Rattle.model.proofs.Reading.{read_limits, read_is}
use Rattle.model.proofs.Refusals.{no_fault, no_fault_both, told_exactly_when, Comes}
use Rattle.model.proofs.RoundTrip.{length-bytes}
use Rattle.model.proofs.FiveFit.{FiveFit, refusal_fits, output_told}
use Rattle.carrytheory.proofs.ShowsLate.{one_exactly_if_shown}
use Rattle.model.proofs.RecordBytes.{written_are_bytes, record_bytes}
use Rattle.carrytheory.proofs.Demand3.{carried_within, carried_obeys, carried_reads, kept, lateness_stays}
use Rattle.carrytheory.proofs.CarryRefusals.{fault_listed_both, carry_comes, carry_carries}

-- What is known of a file that is carried.
pub record Carriable (b : List ℕ) (H' : ℕ) : Type 0 where
  pub reads : read b ≡ whole (run_in b)
  pub limits : WithinLimits (run_in b)
  pub obeys : Obeys (run_in b)
  pub longer : (run_in b).setting.horizon ≤ H'
  pub most : H' ≤ most_horizon
  pub few : total_jobs (run_in b).tasks H' ≤ most_jobs

pub carriable : (b : List ℕ) (H' room : ℕ) → NoFault (asked_of_both b H' room) → Carriable b H'
carriable b H' room h =
    let (file, rest) = (no_fault_both (asked_of_file b) (asked_of_carry (run_in b) H' room)).0 h in
    let reads = (told_exactly_when b).1 file in
    record { reads = reads; limits = read_limits b (run_in b) reads; obeys = rest.1.1.0; longer = rest.0.0; most = rest.0.1; few = rest.1.0 }

-- What a carry says and writes: 4 and nothing, or 5 and the file of the carried run.
-- ----------------------------------------------------------------------------------
module _ (b : List ℕ) (H' room : ℕ) where
  abbrev Comes_carry : Type 0
  Comes_carry = Comes refused_with (written_out (bytes (carried (run_in b) H'))) (Names b) (asked_of_both b H' room) (carry b H' room)

  pub refused_writes_nothing : ¬ ((carry b H' room).told.answer ≡ 5) → ((carry b H' room).told.answer ≡ 4) × ((carry b H' room).writes ≡ [])
  unfolding written_out
  refused_writes_nothing other = go (carry_comes b H' room)
    where
      go : Comes_carry → ((carry b H' room).told.answer ≡ 4) × ((carry b H' room).writes ≡ [])
      go (Comes.refuses ν i f m e) = (ap (λ o. o.told.answer) e, ap (λ o. o.writes) e)
      go (Comes.passes h e) = absurd (other (ap (λ o. o.told.answer) e))

  pub carries_exactly : ((carry b H' room).told.answer ≡ 5) ↔ NoFault (asked_of_both b H' room)
  unfolding written_out
  carries_exactly = (λ five. to five (carry_comes b H' room), λ h. ap (λ f. f.answer) ((carry_carries b H' room).1 h))
    where
      to : (carry b H' room).told.answer ≡ 5 → Comes_carry → NoFault (asked_of_both b H' room)
      to five (Comes.refuses ν i f m e) = absurd (omega (arith, five, ap (λ o. o.told.answer) e))
      to five (Comes.passes h e) = h

  -- the code is the size of what is written
  pub carried_out : NoFault (asked_of_both b H' room)
      → ((carry b H' room).told.code ≡ length (bytes (carried (run_in b) H'))) × ((carry b H' room).writes ≡ bytes (carried (run_in b) H'))
  unfolding written_out
  carried_out h = go (carry_comes b H' room)
    where
      go : Comes_carry → ((carry b H' room).told.code ≡ length (bytes (carried (run_in b) H'))) × ((carry b H' room).writes ≡ bytes (carried (run_in b) H'))
      go (Comes.refuses ν i f m e) = absurd (no_fault (asked_of_both b H' room) ν h f)
      go (Comes.passes g e) = (ap (λ o. o.told.code) e, ap (λ o. o.writes) e)

  -- Of a file of bytes the five numbers are of four bytes.
  size_fits : NoFault (asked_of_both b H' room) → FiveFit (bytes_written (length (bytes (carried (run_in b) H'))))
  size_fits h =
      let C = carriable b H' room h in
      let L = carried_within (run_in b) H' C.limits C.obeys C.longer C.most C.few in
      let n = length-bytes (carried (run_in b) H') in
      record { answer = omega arith; code = omega (arith, n, L.task_total, L.record_total); x = omega arith; y = omega arith; z = omega arith }

  pub carry_fits : Bytes b → FiveFit (carry b H' room).told
  unfolding written_out
  carry_fits B = go (carry_comes b H' room)
    where
      go : Comes_carry → FiveFit (carry b H' room).told
      go (Comes.refuses ν i f m e) =
          subst (λ o. FiveFit o.told) (sym e) (refusal_fits b B 11 ν i (omega arith) (fault_listed_both b H' room ν i f m) m)
      go (Comes.passes h e) = subst (λ o. FiveFit o.told) (sym e) (size_fits h)

-- What a host reads after a carry.
-- --------------------------------
pub carry_told : (b : List ℕ) (H' : ℕ) (o a : List ℕ) (c : OutputCall) → c ≡ carry_call b H' o a → Bytes b → answer_size ≤ length a
    → (five_in c.answer ≡ (carry b H' (length o)).told)
    × (c.returns ≡ (carry b H' (length o)).told.answer)
    × (c.output ≡ front (carry b H' (length o)).writes o)
    × (drop answer_size c.answer ≡ drop answer_size a)
carry_told b H' o a c e B = output_told (carry b H' (length o)) o a c e (carry_fits b H' (length o) B)

-- Of the file that is written
-- ---------------------------
module _ (b : List ℕ) (B : Bytes b) (H' : ℕ) (K : Carriable b H') (c : List ℕ) (e : c ≡ bytes (carried (run_in b) H')) where
  abbrev ρ : Run
  ρ = run_in b

  abbrev σ : Run
  σ = carried (run_in b) H'

  reads_carried : read c ≡ whole (carried (run_in b) H')
  reads_carried = ap read e ∙ carried_reads ρ H' K.limits K.obeys K.longer K.most K.few

  pub run_carried : run_in c ≡ carried (run_in b) H'
  unfolding run_in
  run_carried = read_is c (carried (run_in b) H') reads_carried

  told_carried : check c ≡ verdict (carried (run_in b) H')
  unfolding check
  told_carried = ap check_of reads_carried

  obeys_carried : Obeys (carried (run_in b) H')
  obeys_carried = carried_obeys ρ H' K.limits K.obeys K.longer K.most K.few

  pub file_accepted : (check c).answer ≤ 2
  file_accepted = rw told_carried ((accepted_exactly_if_obeyed σ).1 obeys_carried)

  -- a late job that begins before H is late, begins before the horizon, and is the same record
  pub file_late : (k : ℕ) → IsRecord (run_in b) k → Late (run_in b) k → BeginsBeforeH (run_in b) k
      → (j : ℕ) × IsRecord (run_in c) j × Late (run_in c) j × BeginsBeforeH (run_in c) j × (rec (run_in c) j ≡ rec (run_in b) k)
  file_late k h late early =
      subst (λ χ. (j : ℕ) × IsRecord χ j × Late χ j × BeginsBeforeH χ j × (rec χ j ≡ rec (run_in b) k)) (sym run_carried)
      (lateness_stays ρ H' K.limits K.obeys K.longer K.most K.few k h late early)

  pub file_shows : (check b).answer ≡ 1 → (check c).answer ≡ 1
  unfolding check
  file_shows s =
      let (O, (k, h, late, early)) = (one_exactly_if_shown ρ).0 (rw K.reads at s) in
      let (j, h', late', early', same) = lateness_stays ρ H' K.limits O K.longer K.most K.few k h late early in
      ap (λ f. f.answer) told_carried ∙ (one_exactly_if_shown σ).1 (obeys_carried, (j, h', late', early'))

  -- each record that starts before H stands unchanged: its numbers, and its 24 bytes
  pub file_keeps : (k : ℕ) → IsRecord (run_in b) k → BeginsBeforeH (run_in b) k
      → (j : ℕ) × IsRecord (run_in c) j × (rec (run_in c) j ≡ rec (run_in b) k) × (part_of c (record_part c j) ≡ part_of b (record_part b k))
  file_keeps k h early =
      let (j, m, s) = kept ρ H' K.limits K.obeys K.longer K.most K.few k h early in
      let C : Bytes c = subst Bytes (sym e) (written_are_bytes σ) in
      let same = record_bytes c C σ reads_carried j m ∙ ap (λ x. bytes_of (record_numbers x)) s ∙ sym (record_bytes b B ρ K.reads k h) in
      subst (λ χ. (j : ℕ) × IsRecord χ j × (rec χ j ≡ rec (run_in b) k) × (part_of c (record_part c j) ≡ part_of b (record_part b k))) (sym run_carried)
      (j, m, s, same)
