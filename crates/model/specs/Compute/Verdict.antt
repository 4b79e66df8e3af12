-- The five numbers, computed: `verdict ρ` is the five numbers that `Verdict ρ` says, `check b` those of `Answered b`
-- (proofs/Verdict.antt).
use Rattle.std.specs.Prelude.{ℕ, Bool, ◌&&◌, List, ltb, None, Option, Some}
use Rattle.base.specs.Find.{first, count}
use Rattle.model.specs.Model.{Run, rec, due}
use Rattle.model.specs.File.{Read, refused, whole, read}
use Rattle.model.specs.Rules.{Place}
use Rattle.model.specs.Answers.{Five, in_time, late_before_H, late_from_H, rule_broken, refusal}
use Rattle.model.specs.Compute.Places.{size, lowest}

module _ (ρ : Run) where
  abbrev pub late : ℕ → Bool
  late k = ltb (due ρ k) (rec ρ k).end

  abbrev pub late_early : ℕ → Bool
  late_early k = late k && ltb (rec ρ k).start ρ.setting.horizon

  unfoldable pub late_count : ℕ
  late_count = count late (size ρ)

-- the first late record that begins before H, the first late record, the number of late records
abbrev pub timely_of : Option ℕ → Option ℕ → ℕ → Five
timely_of (Some k) l n = late_before_H n k
timely_of None (Some k) n = late_from_H n k
timely_of None None n = in_time

unfoldable pub timely : Run → Five
timely ρ = timely_of (first (late_early ρ) 0 (size ρ)) (first (late ρ) 0 (size ρ)) (late_count ρ)

abbrev pub verdict_of : Option (ℕ × Place) → Run → Five
verdict_of (Some p) ρ = rule_broken p.0 p.1
verdict_of None ρ = timely ρ

unfoldable pub verdict : Run → Five
verdict ρ = verdict_of (lowest ρ) ρ

abbrev pub check_of : Read → Five
check_of (refused ν i) = refusal ν i
check_of (whole ρ) = verdict ρ

unfoldable pub check : List ℕ → Five
check b = check_of (read b)
