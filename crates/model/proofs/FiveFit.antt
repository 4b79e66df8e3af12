-- The five numbers of a check and of a carry are of four bytes, so that a host reads them in the answer slice. Assumes that the file is a
-- list of bytes.
use Prim.Native.Nat.{ℕ, ◌+◌, ◌≤◌, ◌<◌, ◌^◌, max}
use mathlib.Core.Path.{◌≡◌, refl, sym, subst, ◌∙◌, ap}
use mathlib.Core.Logic.{◌⊎◌, inl, inr}
use mathlib.Core.List.{List}
use native.Mathlib.Omega.{arith}
use native.Mathlib.Decide.{dec_lt}
use lib.ListN.{length, drop, length-map}
use Rattle.base.specs.First.{Number}
use Rattle.model.specs.Model.{Run, IsRecord, rec, job_of, existing, WithinLimits}
use Rattle.model.specs.File.{Bytes, FourBytes, RecordFits, num, task_size, tasks_place, task_at, record_numbers, record_at, record_place, whole, read}
use Rattle.model.specs.Rules.{Rule, rule1, rule2, rule3, rule4, rule5, rule6, rule7, rule8, rule9, Place, BrokenAt, jobs_recorded}
use Rattle.model.specs.Answers.{Five, five, refusal, Outcome, Listed, Verdict, Answered}
use Rattle.model.specs.Refusals.{task_count, Names}
use Rattle.model.specs.Calls.{answer_size, numbers, written, front, five_in, CheckCall, check_call, OutputCall, output_call}
use Rattle.model.specs.Compute.Verdict.{check}
use Rattle.model.proofs.Jobs.{existing_few}
use Rattle.model.proofs.Lowest.{number_range}
use Rattle.model.proofs.Reading.{length-entries, read_limits, read_records_lem}
use Rattle.model.proofs.RoundTrip.{Fits, fits_nil, fits_cons, digits}
use Rattle.model.proofs.Places.{differ_within}
use Rattle.model.proofs.Verdict.{check_iff}
use Rattle.model.proofs.Refusals.{refused_exactly_when}
use Rattle.model.proofs.Demand1.{refused_listed}
use Rattle.model.proofs.Calls.{check_filled, output_short, output_filled, answer_kept}

-- Five numbers of four bytes, written into an answer slice, are read there.
pub record FiveFit (f : Five) : Type 0 where
  pub answer : FourBytes f.answer
  pub code : FourBytes f.code
  pub x : FourBytes f.place.x
  pub y : FourBytes f.place.y
  pub z : FourBytes f.place.z

pub five_read : (f : Five) (slice : List ℕ) → FiveFit f → five_in (written f slice) ≡ f
unfolding written numbers
five_read f slice F = λ κ.
    record {
      answer = digits f.answer F.answer κ;
      code = digits f.code F.code κ;
      place =
          record {
            x = digits f.place.x F.x κ;
            y = digits f.place.y F.y κ;
            z = digits f.place.z F.z κ;
          };
    }

-- of n no more than n are counted
count_fits : {P : ℕ → Type 0} {n c : ℕ} → Number P n c → c ≤ n
count_fits Number.nothing = omega arith
count_fits (Number.passes u h) = omega (arith, count_fits u)
count_fits (Number.fails u h) = omega (arith, count_fits u)

-- Of a file of bytes
-- ------------------
module _ (b : List ℕ) (B : Bytes b) where
  four : (i : ℕ) → FourBytes (num b i)
  four i = omega (arith, B i, B (i + 1), B (i + 2), B (i + 3))

  entry_fits : (i : ℕ) → Fits (record_numbers (record_at b i))
  entry_fits i =
      fits_cons (four i) (fits_cons (four (i + 4)) (fits_cons (four (i + 8))
      (fits_cons (four (i + 12)) (fits_cons (four (i + 16)) (fits_cons (four (i + 20)) fits_nil)))))

  -- any four-byte value may stand in a record, and no other does
  pub record_fits : (ρ : Run) → read b ≡ whole ρ → (k : ℕ) → IsRecord ρ k → RecordFits (rec ρ k)
  record_fits ρ reads k h = (subst (λ x. Fits (record_numbers x)) (sym (read_records_lem b ρ reads k h)) (entry_fits (record_place ρ k))).at

  -- a refusal's number and task
  pub refusal_fits : (last ν i : ℕ) → last < 2 ^ 32 → Listed last ν i → Names b ν i → FiveFit (refusal ν i)
  refusal_fits last ν i h L N =
      record { answer = omega arith; code = omega (arith, L.high); x = go L.task; y = omega arith; z = omega arith }
    where
      go : (ν ≡ 5) ⊎ (i ≡ 0) → FourBytes i
      go (inl e) = omega (arith, (N.0 e).here.0, length-entries (task_at b) task_size (tasks_place + 4) (task_count b), four 12)
      go (inr e) = omega (arith, e)

  module _ (ρ : Run) (reads : read b ≡ whole ρ) where
    abbrev L : WithinLimits ρ
    L = read_limits b ρ reads

    record_number : (k : ℕ) → IsRecord ρ k → FourBytes k
    record_number k h = omega (arith, h, L.record_total)

    job_number : (k : ℕ) → k < max (length (jobs_recorded ρ)) (length (existing ρ ρ.setting.horizon)) → FourBytes k
    job_number k h =
        omega (arith, h, length-map ρ.records job_of, existing_few ρ ρ.setting.horizon, L.record_total, L.job_total)

    -- the place of a rule that is broken
    place_fits : (ν : Rule) (p : Place) → BrokenAt ν ρ p → FourBytes p.x × FourBytes p.y × FourBytes p.z
    place_fits rule1 p h = (job_number p.x (differ_within ρ p.x h.0), omega (arith, h.1), omega (arith, h.2))
    place_fits rule2 p h = (record_number p.x h.0.0, omega (arith, h.1), omega (arith, h.2))
    place_fits rule3 p h = (record_number p.x h.0.0, omega (arith, h.1), omega (arith, h.2))
    place_fits rule4 p h = (record_number p.x h.0.0, omega (arith, h.1), omega (arith, h.2))
    place_fits rule5 p h = (record_number p.x h.0.0, omega (arith, h.1), omega (arith, h.2))
    place_fits rule6 p h = (record_number p.x (omega (arith, h.0.0, h.0.1)), record_number p.y h.0.1, omega (arith, h.1))
    place_fits rule7 p h = (record_number p.x h.0.0, record_number p.y h.0.1, omega (arith, h.1))
    place_fits rule8 p h =
        (record_number p.x h.0, omega (arith, h.1.1, record_fits ρ reads p.x h.0 3), omega (arith, h.2, L.setting.cores))
    place_fits rule9 p h = (record_number p.x h.0.0, omega (arith, h.1), omega (arith, h.2))

    -- a number of late records, and one of them
    late_fits : (a n k : ℕ) → a ≤ 2 → n ≤ length ρ.records → IsRecord ρ k → FiveFit (five a n k 0 0)
    late_fits a n k small few h =
        record { answer = omega arith; code = omega (arith, L.record_total); x = record_number k h; y = omega arith; z = omega arith }

    verdict_fits : (f : Five) → Verdict ρ f → FiveFit f
    verdict_fits f (Verdict.in_time_row O h) = record { answer = omega arith; code = omega arith; x = omega arith; y = omega arith; z = omega arith }
    verdict_fits f (Verdict.late_before_H_row {n = n} {k = k} O N F) = late_fits 1 n k (omega arith) (count_fits N) F.here.0
    verdict_fits f (Verdict.late_from_H_row {n = n} {k = k} O N h F) = late_fits 2 n k (omega arith) (count_fits N) F.here.0
    verdict_fits f (Verdict.rule_broken_row {p = p} ν l F) =
        let (x, y, z) = place_fits ν p F.here in
        record { answer = omega arith; code = omega (arith, number_range ν); x = x; y = y; z = z }

  pub check_fits : FiveFit (check b)
  check_fits = go (check b) ((check_iff b (check b)).0 refl)
    where
      go : (f : Five) → Answered b f → FiveFit f
      go f (Answered.not_read {ν = ν} {i = i} e) = refusal_fits 8 ν i (omega arith) (refused_listed b ν i e) ((refused_exactly_when b ν i).0 e).1
      go f (Answered.judged {ρ = ρ} e v) = verdict_fits ρ e f v

  -- What a host reads after a check.
  pub check_told : (a : List ℕ) (c : CheckCall) → c ≡ check_call b a → answer_size ≤ length a
      → (five_in c.answer ≡ check b) × (c.returns ≡ (check b).answer) × (drop answer_size c.answer ≡ drop answer_size a)
  check_told a c e long =
      let q = e ∙ check_filled b a long in (
        ap (λ c. five_in c.answer) q ∙ five_read (check b) a check_fits,
        ap (λ c. c.returns) q,
        ap (λ c. drop answer_size c.answer) q ∙ answer_kept (check b) a,
      )

-- What a host reads after a call that has an output, whose outcome is of four-byte numbers.
-- -----------------------------------------------------------------------------------------
module _ (w : Outcome) (o a : List ℕ) (c : OutputCall) (e : c ≡ output_call w o a) where
  pub output_told : FiveFit w.told → answer_size ≤ length a
      → (five_in c.answer ≡ w.told)
      × (c.returns ≡ w.told.answer)
      × (c.output ≡ front w.writes o)
      × (drop answer_size c.answer ≡ drop answer_size a)
  output_told F long =
      let q = e ∙ output_filled w o a long in (
        ap (λ c. five_in c.answer) q ∙ five_read w.told a F,
        ap (λ c. c.returns) q,
        ap (λ c. c.output) q,
        ap (λ c. drop answer_size c.answer) q ∙ answer_kept w.told a,
      )

  -- the answer slice is too short, or it is not
  pub short_or_long : ((c.returns ≡ 4) × (c.output ≡ o)) ⊎ (answer_size ≤ length a)
  short_or_long = go (dec_lt (length a) answer_size)
    where
      go : Dec (length a < answer_size) → ((c.returns ≡ 4) × (c.output ≡ o)) ⊎ (answer_size ≤ length a)
      go (yes h) = let q = e ∙ output_short w o a h in inl (ap (λ c. c.returns) q, ap (λ c. c.output) q)
      go (no h) = inr (omega (arith, h))
