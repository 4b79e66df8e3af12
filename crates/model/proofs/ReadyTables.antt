-- Document 02, request 3, "A block never runs beside itself": small runs and carries in which a job waits for its task's preceding job. Two
-- tables, each under a single statement. Assumes nothing.
use Prim.Native.Nat.{ℕ}
use mathlib.Core.Path.{◌≡◌, refl}
use mathlib.Core.List.{List, [], ◌∷◌, map}
use Rattle.model.specs.Answers.{Five, five, Outcome}
use Rattle.model.specs.Compute.Verdict.{check}
use Rattle.model.proofs.Worked.{Call, carries, outcome, computed, computed_carry, file, wrote}

-- Two cores and a horizon, one task: P 2, B 1, W 5, O 0, J 0. Its jobs arrive at 0, 2, 4, .. and are due at 2, 4, 6, ..
abbrev often : ℕ → List ℕ → List ℕ
often H records = file 2 H (1 ∷ 2 ∷ 1 ∷ 5 ∷ 0 ∷ 0 ∷ []) records

-- H = 3: job 0 from 0 to 5 on core 1, and job 1, released at 2, with this start, end and core.
abbrev after5 : ℕ → ℕ → ℕ → List ℕ
after5 s e core = often 3 (2 ∷ 0 ∷ 0 ∷ 0 ∷ 0 ∷ 5 ∷ 1 ∷ 0 ∷ 1 ∷ 2 ∷ s ∷ e ∷ core ∷ [])

-- The same with another task, P 100, B 1, W 5, O 0, J 0, and the start, end and core of its job 0, released at 0.
abbrev with_another : ℕ → List ℕ → List ℕ
with_another H records = file 2 H (2 ∷ 2 ∷ 1 ∷ 5 ∷ 0 ∷ 0 ∷ 100 ∷ 1 ∷ 5 ∷ 0 ∷ 0 ∷ []) records

-- N cores, H = 6. Task 0: P 4, B 1, W 6, O 0, J 0, job 0 from 0 to 6 on core 1, due at 4, and job 1, released at 4, due at 8. Task 1: P 20,
-- B 1, W 5, O 5, J 0, job 0, released at 5, due at 25. These starts, ends and cores of the two.
abbrev due8_due25 : ℕ → ℕ × ℕ × ℕ → ℕ × ℕ × ℕ → List ℕ
due8_due25 N (s₁, e₁, c₁) (s₂, e₂, c₂) =
    file N 6 (2 ∷ 4 ∷ 1 ∷ 6 ∷ 0 ∷ 0 ∷ 20 ∷ 1 ∷ 5 ∷ 5 ∷ 0 ∷ [])
    (3 ∷ 0 ∷ 0 ∷ 0 ∷ 0 ∷ 6 ∷ 1 ∷ 0 ∷ 1 ∷ 4 ∷ s₁ ∷ e₁ ∷ c₁ ∷ 1 ∷ 0 ∷ 5 ∷ s₂ ∷ e₂ ∷ c₂ ∷ [])

abbrev pub table : List (List ℕ × Five)
table =
    -- rule 9: two jobs of one task side by side; one may start as the one before ends, and no sooner
    (after5 2 3 2, five 3 9 1 0 0)
    ∷ (after5 4 5 2, five 3 9 1 0 0)
    ∷ (after5 5 6 2, five 1 2 0 0 0)
    -- the least offending record, and of its task the one before, not the first
    ∷ (often 5 (3 ∷ 0 ∷ 0 ∷ 0 ∷ 0 ∷ 2 ∷ 1 ∷ 0 ∷ 1 ∷ 2 ∷ 2 ∷ 7 ∷ 1 ∷ 0 ∷ 2 ∷ 4 ∷ 4 ∷ 5 ∷ 2 ∷ []), five 3 9 2 0 0)
    ∷ (often 5 (3 ∷ 0 ∷ 0 ∷ 0 ∷ 0 ∷ 3 ∷ 1 ∷ 0 ∷ 1 ∷ 2 ∷ 2 ∷ 7 ∷ 2 ∷ 0 ∷ 2 ∷ 4 ∷ 4 ∷ 5 ∷ 1 ∷ []), five 3 9 1 0 0)
    -- jobs of two tasks may run beside each other
    ∷ (with_another 1 (2 ∷ 0 ∷ 0 ∷ 0 ∷ 0 ∷ 2 ∷ 1 ∷ 1 ∷ 0 ∷ 0 ∷ 0 ∷ 2 ∷ 2 ∷ []), five 0 0 0 0 0)
    -- rule 8: a core may idle while a job waits for the one before it, and from its end on no more
    ∷ (after5 5 10 1, five 1 2 0 0 0)
    ∷ (after5 6 7 2, five 3 8 1 5 1)
    ∷ (after5 7 8 1, five 3 8 1 5 1)
    -- 8 before 9: the other task's job waits at 0 while core 2 idles, and job 1 starts before job 0 ends
    ∷ (with_another 3 (3 ∷ 0 ∷ 0 ∷ 0 ∷ 0 ∷ 5 ∷ 1 ∷ 0 ∷ 1 ∷ 2 ∷ 3 ∷ 4 ∷ 2 ∷ 1 ∷ 0 ∷ 0 ∷ 1 ∷ 2 ∷ 2 ∷ []), five 3 8 2 0 2)
    -- rule 7: at 5 the job due at 8 is released and not ready, so that the one due at 25 may start; at 6 it is ready
    ∷ (due8_due25 2 (6, 7, 1) (5, 6, 2), five 1 1 0 0 0)
    ∷ (due8_due25 1 (7, 8, 1) (6, 7, 1), five 3 7 2 1 0)
    ∷ (due8_due25 1 (6, 7, 1) (7, 8, 1), five 1 1 0 0 0)
    ∷ []

pub ready_judged : map (λ row. check row.0) table ≡ map (λ row. row.1) table
unfolding computed
ready_judged = refl

abbrev pub carried : List (Call × Outcome)
carried =
    -- core 2 falls free at 1 and stays idle: job 1, released at 2, waits for the end of job 0
    (
      carries (with_another 1 (2 ∷ 0 ∷ 0 ∷ 0 ∷ 0 ∷ 5 ∷ 1 ∷ 1 ∷ 0 ∷ 0 ∷ 0 ∷ 1 ∷ 2 ∷ [])) 3 12948,
      wrote 132 (with_another 3 (3 ∷ 0 ∷ 0 ∷ 0 ∷ 0 ∷ 5 ∷ 1 ∷ 0 ∷ 1 ∷ 2 ∷ 5 ∷ 10 ∷ 1 ∷ 1 ∷ 0 ∷ 0 ∷ 0 ∷ 1 ∷ 2 ∷ [])),
    )
    -- job 2 waits for job 1, which has not begun when job 2 is released
    ∷ (
      carries (often 1 (1 ∷ 0 ∷ 0 ∷ 0 ∷ 0 ∷ 5 ∷ 1 ∷ [])) 5 12948,
      wrote 112 (often 5 (3 ∷ 0 ∷ 0 ∷ 0 ∷ 0 ∷ 5 ∷ 1 ∷ 0 ∷ 1 ∷ 2 ∷ 5 ∷ 10 ∷ 1 ∷ 0 ∷ 2 ∷ 4 ∷ 10 ∷ 15 ∷ 1 ∷ [])),
    )
    ∷ []

pub ready_carried : map (λ row. outcome row.0) carried ≡ map (λ row. row.1) carried
unfolding computed_carry
ready_carried = refl
