-- Demand 1 on definitions: every sequence of bytes gets one of the listed answers. Assumes nothing.
use Prim.Native.Nat.{ℕ, ◌≤◌}
use mathlib.Core.Path.{◌≡◌, refl}
use mathlib.Core.Logic.{◌⊎◌, inl, inr}
use mathlib.Core.Bool.{Bool, true, ◌&&◌}
use mathlib.Core.List.{List, [], ◌∷◌}
use native.Mathlib.Omega.{arith}
use Rattle.base.proofs.Test.{says_eqb, says_and, says_true_is, decides}
use Rattle.model.specs.Model.{Run}
use Rattle.model.specs.File.{refused, read}
use Rattle.model.specs.Answers.{Five, Listed, Row, row0, row1, row2, row3, row4, Verdict, Answered}
use Rattle.model.specs.Refusals.{Asked, FirstFault, asked_of_file, Names}
use Rattle.model.specs.Compute.Limits.{within}
use Rattle.model.specs.Compute.Verdict.{check}
use Rattle.model.proofs.Limits.{says_within}
use Rattle.model.proofs.Verdict.{check_iff}
use Rattle.model.proofs.Refusals.{refused_exactly_when}

-- The numbers of what is asked are those of the table.
abbrev pub numbered : ℕ → Asked → Bool
numbered last [] = true
numbered last ((μ, A) ∷ qs) = within 1 last μ && numbered last qs

fault_numbered : (last : ℕ) (qs : Asked) (ν : ℕ) → numbered last qs ≡ true → FirstFault qs ν → (1 ≤ ν) × (ν ≤ last)
fault_numbered last [] ν h f = absurd f
fault_numbered last ((μ, A) ∷ qs) ν h (inl f) =
    let w = (says_and (says_within 1 last μ) (says_true_is (numbered last qs))).sound h in
    (omega (arith, w.0, f.1), omega (arith, w.0, f.1))
fault_numbered last ((μ, A) ∷ qs) ν h (inr f) =
    fault_numbered last qs ν ((says_and (says_within 1 last μ) (says_true_is (numbered last qs))).sound h).1 f.1

pub fault_listed : (b : List ℕ) (last : ℕ) (qs : Asked) → numbered last qs ≡ true → (ν i : ℕ) → FirstFault qs ν → Names b ν i → Listed last ν i
fault_listed b last qs h ν i f n =
    let (l, m) = fault_numbered last qs ν h f in
    record { low = l; high = m; task = go (decides (says_eqb ν 5)) }
  where
    go : Dec (ν ≡ 5) → (ν ≡ 5) ⊎ (i ≡ 0)
    go (yes e) = inl e
    go (no e) = inr (n.1 e)

module _ (b : List ℕ) where
  pub refused_listed : (ν i : ℕ) → read b ≡ refused ν i → Listed 8 ν i
  refused_listed ν i e =
      let (f, n) = (refused_exactly_when b ν i).0 e in
      fault_listed b 8 (asked_of_file b) refl ν i f n

verdict_row : (ρ : Run) (f : Five) → Verdict ρ f → Row f
verdict_row ρ f (Verdict.in_time_row O h) = row0
verdict_row ρ f (Verdict.late_before_H_row {n = n} {k = k} O N F) = row1 n k
verdict_row ρ f (Verdict.late_from_H_row {n = n} {k = k} O N h F) = row2 n k
verdict_row ρ f (Verdict.rule_broken_row {p = p} ν L F) = row3 ν p

pub every_file_answered : (b : List ℕ) → Row (check b)
every_file_answered b = go (check b) ((check_iff b (check b)).0 refl)
  where
    go : (f : Five) → Answered b f → Row f
    go f (Answered.not_read {ν = ν} {i = i} e) = row4 (refused_listed b ν i e)
    go f (Answered.judged {ρ = ρ} e v) = verdict_row ρ f v
