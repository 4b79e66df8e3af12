-- Demand 3 on definitions: a run that obeys the rules, carried, obeys them; every record that starts before H is kept; a late job
-- that begins before H stays late. Of files: what a carry writes is accepted, and what showed a late job shows one. Assumes nothing.
use Prim.Native.Nat.{ℕ, zero, ◌*◌, ◌≤◌, ◌<◌}
use mathlib.Core.Path.{◌≡◌, sym, ◌∙◌, ap}
use mathlib.Core.Logic.{inl, inr}
use mathlib.Core.List.{List}
use native.Mathlib.Omega.{arith}
use native.Mathlib.Decide.{dec_le}
use native.Mathlib.Nat.{le-mul_of_pos_right}
use lib.ListN.{length, length-map}
use Rattle.model.specs.Model.{Run, IsRecord, WithinLimits, rec, task_of, job_of, ready, existing, most_horizon, most_time, most_jobs, total_jobs}
use Rattle.model.specs.Rules.{rule1, rule2, rule3, rule4, rule5, rule6, rule7, rule8, rule9, Obeys, Jobs, InOrder}
use Rattle.model.specs.Answers.{Late, BeginsBeforeH, written_out}
use Rattle.model.specs.File.{record_numbers, RecordFits, whole, read, bytes, size_of}
use Rattle.model.specs.Carry.{Begun, opening, carried, carry}
use Rattle.model.specs.Compute.Verdict.{verdict, check_of, check}
use Rattle.model.proofs.Jobs.{existing_few}
use Rattle.model.proofs.Demand2.{accepted_exactly_if_obeyed}
use Rattle.model.proofs.Reading.{read_limits}
use Rattle.model.proofs.RoundTrip.{Fits, fits_nil, fits_cons, length-bytes, read_back}
use Rattle.carrytheory.proofs.Depends.{same_due, existing_same}
use Rattle.carrytheory.proofs.Recorded.{record_exists}
use Rattle.carrytheory.proofs.Readiness.{ready_is, release_ready, ready_then}
use Rattle.carrytheory.proofs.Step.{NotPassed, Inv}
use Rattle.carrytheory.proofs.Begin.{Going, going_done, latest_end}
use Rattle.carrytheory.proofs.AtH.{opening_recorded, opening_jobs, place}
use Rattle.carrytheory.proofs.CarryGates.{Carries, carries, carry_passes}
use Rattle.carrytheory.proofs.ShowsLate.{one_exactly_if_shown}
use Rattle.carrytheory.proofs.CarryEnds.{good_tasks, done}

-- A run whose every job has begun, under the invariant of the carry, obeys the rules.
all_begun : (σ : Run) (t : ℕ) → Jobs σ → Inv t σ → ((k : ℕ) → IsRecord σ k → Begun σ k) → Obeys σ
all_begun σ t J I b rule1 = J
all_begun σ t J I b rule2 = I.releases
all_begun σ t J I b rule3 = λ k h. omega (arith, release_ready σ k, (I.started k h (b k h)).instant)
all_begun σ t J I b rule4 = λ k h. I.lengths k h (b k h)
all_begun σ t J I b rule5 = λ k h. (b k h, I.cores k h)
all_begun σ t J I b rule6 = λ x y l h. I.apart x y l h (b x (omega arith))
all_begun σ t J I b rule7 = λ x y h l e. in_order x y (I.order x y h l (b x h) (λ w. e))
  where
    in_order : (x y : ℕ) → NotPassed σ x y → InOrder σ x y
    in_order x y (inl r) = inl r
    in_order x y (inr f) = late (dec_le (ready σ y) (rec σ x).start)
      where
        late : Dec (ready σ y ≤ (rec σ x).start) → InOrder σ x y
        late (yes l) = absurd (f (ready_then σ b y (rec σ x).start l))
        late (no l) = inr (omega (arith, l))
all_begun σ t J I b rule8 = λ a h v w c i. I.no_idling a h v (ready_then σ b a v w.0, λ z. w.1, λ z. absurd (z (b a h))) c i
all_begun σ t J I b rule9 = λ k h. omega (arith, ready_is σ k, (I.started k h (b k h)).instant)

module _ (ρ : Run) (H' : ℕ) (L : WithinLimits ρ) (O : Obeys ρ) (longer : ρ.setting.horizon ≤ H') (most : H' ≤ most_horizon)
    (few : total_jobs ρ.tasks H' ≤ most_jobs) where
  abbrev σ : Run
  σ = carried ρ H'

  abbrev D : Going (opening ρ H') ρ.setting.horizon most_time zero (done ρ L H' O longer most few).0 σ
  D = (done ρ L H' O longer most few).1

  -- the output has H' in place of H, and the same tasks
  pub carried_setting : (carried ρ H').setting ≡ record { cores = ρ.setting.cores; horizon = H' }
  unfolding opening
  carried_setting = D.setting

  pub carried_tasks : (carried ρ H').tasks ≡ ρ.tasks
  unfolding opening
  carried_tasks = D.tasks

  pub carried_jobs : Jobs (carried ρ H')
  unfolding opening
  carried_jobs =
      D.jobs
      ∙ opening_jobs ρ H'
      ∙ existing_same (opening ρ H') σ H' (sym D.tasks) (sym D.jobs)
      ∙ (λ κ. existing σ (sym carried_setting κ).horizon)

  pub carried_obeys : Obeys (carried ρ H')
  carried_obeys = all_begun σ _ carried_jobs D.inv (going_done _ _ most_time _ σ D).0

  -- Every record that starts before H is kept.
  pub kept : (k : ℕ) → IsRecord ρ k → (rec ρ k).start < ρ.setting.horizon
      → (j : ℕ) × IsRecord (carried ρ H') j × (rec (carried ρ H') j ≡ rec ρ k)
  kept k h l =
      let (j, m, e) = place ρ H' O (good_tasks ρ L) longer k h l in
      let n : length σ.records ≡ length (opening ρ H').records =
      sym (length-map σ.records job_of) ∙ ap length D.jobs ∙ length-map (opening ρ H').records job_of
      in
      (j, rw n m, D.kept j (rw e (O rule5 k h).0) ∙ e)

  carried_count : length σ.records ≡ length (existing ρ H')
  carried_count = sym (length-map σ.records job_of) ∙ ap length (D.jobs ∙ opening_recorded ρ H')

  -- the size of the output
  pub carried_size : length (bytes (carried ρ H')) ≡ size_of (length ρ.tasks) (length (existing ρ H'))
  carried_size = omega (arith, length-bytes σ, carried_count, ap length carried_tasks)

  pub carried_within : WithinLimits (carried ρ H')
  carried_within =
      record {
        setting = rw carried_setting (record { cores = L.setting.cores; horizon = (omega (arith, L.setting), most) });
        task_total = rw carried_tasks L.task_total;
        tasks = rw carried_tasks L.tasks;
        job_total = rw (carried_tasks, carried_setting) few;
        record_total = omega (arith, carried_count, existing_few ρ H');
      }

  -- No job of the output ends later than 514,000,000.
  pub carried_ends : (k : ℕ) → IsRecord (carried ρ H') k → (rec (carried ρ H') k).end ≤ latest_end
  carried_ends k h = omega (arith, (D.below k h).1, D.fits)

  -- So every number of the output is of four bytes: no other time is later than an end.
  numbers_fit : (k : ℕ) → IsRecord σ k → Fits (record_numbers (rec σ k))
  numbers_fit k h =
      let L' = carried_within in
      let O' = carried_obeys in
      let (r, x) = record_exists σ carried_jobs (good_tasks σ L') k h in
      let p : (rec σ k).job ≤ (rec σ k).job * (task_of σ k).period = le-mul_of_pos_right (rec σ k).job (good_tasks σ L' (rec σ k).task r) in
      let e = carried_ends k h in
      let s = O' rule3 k h in
      let l = (O' rule4 k h).0 in
      fits_cons (omega (arith, L'.task_total))
      (fits_cons (omega (arith, L'.setting))
      (fits_cons (omega arith)
      (fits_cons (omega arith)
      (fits_cons (omega arith)
      (fits_cons (omega (arith, O' rule5 k h, L'.setting)) fits_nil)))))

  pub carried_fits : (k : ℕ) → IsRecord (carried ρ H') k → RecordFits (rec (carried ρ H') k)
  carried_fits k h = (numbers_fit k h).at

  -- The file that is written is read back as the carried run.
  pub carried_reads : read (bytes (carried ρ H')) ≡ whole (carried ρ H')
  carried_reads = read_back σ carried_within carried_fits

  -- A late job that begins before H is late, and begins before the horizon, in the longer run too.
  pub lateness_stays : (k : ℕ) → IsRecord ρ k → Late ρ k → BeginsBeforeH ρ k
      → (j : ℕ) × IsRecord (carried ρ H') j × Late (carried ρ H') j × BeginsBeforeH (carried ρ H') j × (rec (carried ρ H') j ≡ rec ρ k)
  lateness_stays k h late early =
      let (j, m, e) = kept k h early in
      let d = same_due σ ρ j k carried_tasks (ap job_of e) (ap (λ x. x.release) e) in
      (j, m, rw (d, e) late, rw (carried_setting, e) (omega arith), e)

-- Of files
-- --------

-- what is said of the file that a carry writes
written : (b : List ℕ) (H' room : ℕ) (C : Carries b H' room) → check (carry b H' room).writes ≡ verdict (carried C.run H')
unfolding check written_out
written b H' room C =
    let ρ = C.run in
    let P = C.passes in
    ap (λ o. check o.writes) (carry_passes b H' room ρ C.reads P)
    ∙ ap check_of (carried_reads ρ H' (read_limits b ρ C.reads) P.obeys P.longer P.most P.few)

-- What a carry writes when it answers 5 is accepted.
pub carry_accepted : (b : List ℕ) (H' room : ℕ) → (carry b H' room).told.answer ≡ 5 → (check (carry b H' room).writes).answer ≤ 2
carry_accepted b H' room e =
    let C = carries b H' room e in
    let ρ = C.run in
    let P = C.passes in
    let O' = carried_obeys ρ H' (read_limits b ρ C.reads) P.obeys P.longer P.most P.few in
    rw (written b H' room C) ((accepted_exactly_if_obeyed (carried ρ H')).1 O')

-- A file that shows a late job which begins before H shows one when it is carried.
pub shown_stays_shown : (b : List ℕ) (H' room : ℕ) → (check b).answer ≡ 1 → (carry b H' room).told.answer ≡ 5
    → (check (carry b H' room).writes).answer ≡ 1
unfolding check
shown_stays_shown b H' room s e =
    let C = carries b H' room e in
    let ρ = C.run in
    let P = C.passes in
    let L = read_limits b ρ C.reads in
    let (O, (k, h, late, early)) = (one_exactly_if_shown ρ).0 (rw C.reads at s) in
    let (j, h', late', early', same) = lateness_stays ρ H' L O P.longer P.most P.few k h late early in
    let O' = carried_obeys ρ H' L O P.longer P.most P.few in
    rw (written b H' room C) ((one_exactly_if_shown (carried ρ H')).1 (O', (j, h', late', early')))

-- With room for the longer run, every run that obeys the rules is carried.
pub carry_given_room : (b : List ℕ) (H' room : ℕ) (ρ : Run) → read b ≡ whole ρ → Obeys ρ → ρ.setting.horizon ≤ H' → H' ≤ most_horizon
    → total_jobs ρ.tasks H' ≤ most_jobs → size_of (length ρ.tasks) (length (existing ρ H')) ≤ room
    → ((carry b H' room).told.answer ≡ 5) × ((carry b H' room).writes ≡ bytes (carried ρ H'))
unfolding written_out
carry_given_room b H' room ρ q O longer most few space =
    let L = read_limits b ρ q in
    let fits : length (bytes (carried ρ H')) ≤ room = omega (arith, carried_size ρ H' L O longer most few) in
    let P = carry_passes b H' room ρ q (record { longer = longer; most = most; few = few; obeys = O; fits = fits }) in
    (ap (λ o. o.told.answer) P, ap (λ o. o.writes) P)
