-- Document 01, "Runs worked by hand": C1 to C8, C11 and C12, one table under a single statement. Assumes nothing.
use Prim.Native.Nat.{ℕ}
use mathlib.Core.Path.{◌≡◌, refl}
use mathlib.Core.List.{List, [], ◌∷◌, ◌++◌, map}
use Rattle.base.specs.Find.{first, first_of, count}
use Rattle.model.specs.Model.{job_count, due, rank, preceding, end_before, ready, existing}
use Rattle.model.specs.File.{bytes_of, bytes, gate, gate_task, run_at, read_records, read_tasks, read}
use Rattle.model.specs.Answers.{Five, five, Outcome, gate_outcome, written_out}
use Rattle.model.specs.Carry.{opening, at_instant, at_each_instant, carried, carry_run, carry}
use Rattle.model.specs.Compute.Limits.{setting_in_range, task_in_range, bad_task}
use Rattle.model.specs.Compute.Places.{find, lowest}
use Rattle.model.specs.Compute.Verdict.{late_count, timely, verdict, check}

-- A call of the library, and what comes of it: the five numbers, and the bytes written to an output with room for so many.
pub data Call : Type 0 where
  checks : List ℕ → Call
  carries : List ℕ → ℕ → ℕ → Call

-- the checker, with all that it computes by laid open: a statement that unfolds this name computes
unfoldable pub computed : List ℕ → Five
unfolding first first_of count job_count due rank preceding end_before ready existing gate gate_task run_at read_records read_tasks read setting_in_range task_in_range bad_task find lowest late_count timely verdict check
computed b = check b

-- the carry, likewise
unfoldable pub computed_carry : List ℕ → ℕ → ℕ → Outcome
unfolding computed bytes opening at_instant at_each_instant carried gate_outcome written_out carry_run carry
computed_carry b H' room = carry b H' room

abbrev pub outcome : Call → Outcome
outcome (checks b) = record { told = check b; writes = [] }
outcome (carries b H' room) = carry b H' room

abbrev pub told : Five → Outcome
told f = record { told = f; writes = [] }

-- carried: so many bytes, and these
abbrev pub wrote : ℕ → List ℕ → Outcome
wrote n b = record { told = five 5 n 0 0 0; writes = b }

-- A file: the setting's count and numbers, the tasks' count and numbers, the records' count and numbers.
abbrev pub file : ℕ → ℕ → List ℕ → List ℕ → List ℕ
file N H tasks records = bytes_of ((2 ∷ N ∷ H ∷ []) ++ tasks ++ records)

-- Set S: P, B, W, O, J.
abbrev S : List ℕ
S =
    4
    ∷ 10 ∷ 1 ∷ 2 ∷ 0 ∷ 1
    ∷ 30 ∷ 6 ∷ 8 ∷ 0 ∷ 1
    ∷ 60 ∷ 15 ∷ 17 ∷ 0 ∷ 2
    ∷ 60 ∷ 15 ∷ 20 ∷ 0 ∷ 2
    ∷ []

-- Records: task, job, r, s, e, core.
abbrev last_two : List ℕ
last_two =
    2 ∷ 0 ∷ 0 ∷ 0 ∷ 17 ∷ 1
    ∷ 3 ∷ 0 ∷ 0 ∷ 0 ∷ 15 ∷ 2
    ∷ []

abbrev pub C1 : List ℕ
C1 =
    file 2 20 S
    ((5
    ∷ 0 ∷ 0 ∷ 1 ∷ 15 ∷ 17 ∷ 2
    ∷ 0 ∷ 1 ∷ 10 ∷ 17 ∷ 19 ∷ 1
    ∷ 1 ∷ 0 ∷ 1 ∷ 17 ∷ 25 ∷ 2
    ∷ []) ++ last_two)

abbrev C2 : List ℕ
C2 =
    file 2 10 S
    ((4
    ∷ 0 ∷ 0 ∷ 1 ∷ 15 ∷ 17 ∷ 2
    ∷ 1 ∷ 0 ∷ 1 ∷ 17 ∷ 25 ∷ 1
    ∷ []) ++ last_two)

-- C1 with H 30 and one more record after record 1
abbrev C4 : List ℕ
C4 =
    file 2 30 S
    ((6
    ∷ 0 ∷ 0 ∷ 1 ∷ 15 ∷ 17 ∷ 2
    ∷ 0 ∷ 1 ∷ 10 ∷ 17 ∷ 19 ∷ 1
    ∷ 0 ∷ 2 ∷ 20 ∷ 20 ∷ 22 ∷ 1
    ∷ 1 ∷ 0 ∷ 1 ∷ 17 ∷ 25 ∷ 2
    ∷ []) ++ last_two)

abbrev pub C5 : List ℕ
C5 =
    file 2 10
    (4
    ∷ 20 ∷ 5 ∷ 5 ∷ 0 ∷ 0
    ∷ 20 ∷ 5 ∷ 5 ∷ 5 ∷ 0
    ∷ 20 ∷ 1 ∷ 1 ∷ 5 ∷ 0
    ∷ 100 ∷ 3 ∷ 3 ∷ 2 ∷ 0
    ∷ [])
    (4
    ∷ 0 ∷ 0 ∷ 0 ∷ 0 ∷ 5 ∷ 1
    ∷ 1 ∷ 0 ∷ 5 ∷ 5 ∷ 10 ∷ 1
    ∷ 2 ∷ 0 ∷ 5 ∷ 5 ∷ 6 ∷ 2
    ∷ 3 ∷ 0 ∷ 2 ∷ 6 ∷ 9 ∷ 2
    ∷ [])

-- C1 with record 0 ending at 18
abbrev pub C6 : List ℕ
C6 =
    file 2 20 S
    ((5
    ∷ 0 ∷ 0 ∷ 1 ∷ 15 ∷ 18 ∷ 2
    ∷ 0 ∷ 1 ∷ 10 ∷ 17 ∷ 19 ∷ 1
    ∷ 1 ∷ 0 ∷ 1 ∷ 17 ∷ 25 ∷ 2
    ∷ []) ++ last_two)

-- C1 without its last record
abbrev C7 : List ℕ
C7 =
    file 2 20 S
    (4
    ∷ 0 ∷ 0 ∷ 1 ∷ 15 ∷ 17 ∷ 2
    ∷ 0 ∷ 1 ∷ 10 ∷ 17 ∷ 19 ∷ 1
    ∷ 1 ∷ 0 ∷ 1 ∷ 17 ∷ 25 ∷ 2
    ∷ 2 ∷ 0 ∷ 0 ∷ 0 ∷ 17 ∷ 1
    ∷ [])

abbrev C11 : List ℕ
C11 = file 1 1 (1 ∷ 1 ∷ 1 ∷ 1 ∷ 1 ∷ 0 ∷ []) (0 ∷ [])

abbrev pub table : List (Call × Outcome)
table =
    (checks C1, told (five 1 1 0 0 0))
    ∷ (checks C2, told (five 2 1 0 0 0))
    -- C3
    ∷ (carries C2 20 12948, wrote 220 C1)
    ∷ (carries C1 30 12948, wrote 244 C4)
    ∷ (checks C5, told (five 3 8 3 2 2))
    ∷ (checks C6, told (five 3 4 0 0 0))
    ∷ (checks C7, told (five 3 1 4 0 0))
    -- C8: no bytes
    ∷ (checks [], told (five 4 1 0 0 0))
    ∷ (checks C11, told (five 0 0 0 0 0))
    -- C12
    ∷ (carries C1 19 12948, told (five 4 9 0 0 0))
    ∷ []

pub worked : map (λ row. outcome row.0) table ≡ map (λ row. row.1) table
unfolding computed_carry
worked = refl
