-- The five numbers that are computed are those of the table, and no others. Assumes nothing.
use Rattle.std.specs.Prelude.{None, Option, Some}
use Prim.Native.Nat.{ℕ, ◌<◌}
use mathlib.Core.Path.{◌≡◌, refl, ◌∙◌}
use mathlib.Core.Logic.{◌↔◌}
use mathlib.Core.List.{List}
use native.Mathlib.Omega.{arith}
use Rattle.base.specs.Find.{first}
use Rattle.base.proofs.Test.{says_ltb, says_and}
use Rattle.base.proofs.Count.{count_number, number_count}
use Rattle.base.proofs.Searches.{Finds, total_number, finds_none, finds_some, first_finds, finds_same}
use Rattle.model.specs.Model.{Run, IsRecord}
use Rattle.model.specs.File.{Read, refused, whole, read}
use Rattle.model.specs.Rules.{Place, Obeys}
use Rattle.model.specs.Answers.{Five, number, Late, BeginsBeforeH, LateRecords, Verdict, Answered, rule_broken}
use Rattle.model.specs.Compute.Places.{size, lowest}
use Rattle.model.specs.Compute.Verdict.{late, late_early, late_count, timely_of, timely, verdict_of, verdict, check_of, check}
use Rattle.model.proofs.Lowest.{lowest_none, lowest_some, some_lowest}

module _ (ρ : Run) where
  abbrev LateRecord : ℕ → Type 0
  LateRecord k = IsRecord ρ k × Late ρ k

  abbrev EarlyLate : ℕ → Type 0
  EarlyLate k = IsRecord ρ k × Late ρ k × BeginsBeforeH ρ k

  abbrev early : Option ℕ
  early = first (late_early ρ) 0 (size ρ)

  abbrev any : Option ℕ
  any = first (late ρ) 0 (size ρ)

  any_finds : Finds ◌<◌ LateRecord any
  any_finds =
      finds_same (λ k h. (omega (arith, h.1), h.2)) (λ k h. (omega arith, omega (arith, h.0), h.1))
      (first_finds (late ρ) (Late ρ) (λ k. says_ltb _ _) 0 (size ρ))

  early_finds : Finds ◌<◌ EarlyLate early
  early_finds =
      finds_same (λ k h. (omega (arith, h.1), h.2.0, h.2.1)) (λ k h. (omega arith, omega (arith, h.0), (h.1, h.2)))
      (first_finds (late_early ρ) _ (λ k. says_and (says_ltb _ _) (says_ltb _ _)) 0 (size ρ))

  -- the count is the number of late records, and no other number is
  pub late_counted : LateRecords ρ (late_count ρ)
  unfolding late_count
  late_counted = count_number (late ρ) (Late ρ) (λ k. says_ltb _ _) (size ρ)

  pub late_count_only : {n : ℕ} → LateRecords ρ n → late_count ρ ≡ n
  unfolding late_count
  late_count_only h = number_count (late ρ) (Late ρ) (λ k. says_ltb _ _) h

  -- accepted: answers 0, 1 and 2
  timely_said : Obeys ρ → Verdict ρ (timely ρ)
  unfolding timely
  timely_said O = go early any early_finds any_finds
    where
      go : (o p : Option ℕ) → Finds ◌<◌ EarlyLate o → Finds ◌<◌ LateRecord p → Verdict ρ (timely_of o p (late_count ρ))
      go (Some k) p E A = Verdict.late_before_H_row O late_counted ((finds_some EarlyLate (Some k) E total_number k).0 refl)
      go None (Some k) E A =
          Verdict.late_from_H_row O late_counted (λ j h l b. (finds_none EarlyLate None E).0 refl j (h, l, b))
          ((finds_some LateRecord (Some k) A total_number k).0 refl)
      go None None E A = Verdict.in_time_row O (λ k h l. (finds_none LateRecord None A).0 refl k (h, l))

  pub accepted : Obeys ρ → verdict ρ ≡ timely ρ
  unfolding verdict
  accepted O = rw ((lowest_none ρ).1 O)

  none_early : ((k : ℕ) → ¬ EarlyLate k) → early ≡ None
  none_early = (finds_none EarlyLate early early_finds).1

  -- what is said is computed
  pub said_computed : (f : Five) → Verdict ρ f → verdict ρ ≡ f
  unfolding timely verdict
  said_computed f (Verdict.in_time_row O h) =
      accepted O ∙ rw (none_early (λ k w. h k w.0 w.1), (finds_none LateRecord any any_finds).1 (λ k w. h k w.0 w.1))
  said_computed f (Verdict.late_before_H_row {n = n} {k = k} O N F) =
      accepted O ∙ rw ((finds_some EarlyLate early early_finds total_number k).1 F, late_count_only N)
  said_computed f (Verdict.late_from_H_row {n = n} {k = k} O N h F) =
      accepted O ∙ rw (none_early (λ j w. h j w.0 w.1 w.2), (finds_some LateRecord any any_finds total_number k).1 F, late_count_only N)
  said_computed f (Verdict.rule_broken_row {p = p} ν L F) = rw (lowest_some ρ ν p (record { lower = L; place = F }))

  -- what is computed is said
  computed_said_lem : Verdict ρ (verdict ρ)
  unfolding verdict
  computed_said_lem = go (lowest ρ) refl
    where
      go : (o : Option (ℕ × Place)) → lowest ρ ≡ o → Verdict ρ (verdict_of o ρ)
      go None e = timely_said ((lowest_none ρ).0 e)
      go (Some (i, p)) e =
          let (ν, n, L) = some_lowest ρ i p e in
          let v : Verdict ρ (rule_broken (number ν) p) = Verdict.rule_broken_row ν L.lower L.place in
          rw n at v

  pub verdict_iff : (f : Five) → (verdict ρ ≡ f) ↔ Verdict ρ f
  verdict_iff f = (λ e. rw e at computed_said_lem, said_computed f)

pub check_iff : (b : List ℕ) (f : Five) → (check b ≡ f) ↔ Answered b f
unfolding check
check_iff b f = (λ e. rw e at (go (read b) refl), back f)
  where
    go : (r : Read) → read b ≡ r → Answered b (check_of r)
    go (refused ν i) e = Answered.not_read e
    go (whole ρ) e = Answered.judged e ((verdict_iff ρ (verdict ρ)).0 refl)

    back : (g : Five) → Answered b g → check_of (read b) ≡ g
    back g (Answered.not_read e) = rw e
    back g (Answered.judged {ρ = ρ} e v) = rw e (said_computed ρ g v)
