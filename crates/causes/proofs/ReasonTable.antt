-- Document 02, request 4: the chains of document 01's C1 and of other small runs, and each refusal at its border. One table under a single
-- statement. Assumes nothing.
use Prim.Native.Nat.{ℕ}
use mathlib.Core.Path.{◌≡◌, refl}
use mathlib.Core.List.{List, [], ◌∷◌, map}
use Rattle.model.specs.Answers.{Outcome, refused_with, gate_outcome}
use Rattle.model.proofs.Worked.{computed, file, C1, C6}
use Rattle.causes.specs.FoundCause.{at_release, own_ended, core_ended, cause_of, chain_in, chain_of}
use Rattle.causes.specs.Why.{chain_out, chain_room, why_run, why}

-- a question: the file, the record asked about, and the room
pub record Question : Type 0 where
  pub asked_of : List ℕ
  pub number : ℕ
  pub room : ℕ

abbrev ask : List ℕ → ℕ → ℕ → Question
ask b k room = record { asked_of = b; number = k; room = room }

unfoldable computed_why : List ℕ → ℕ → ℕ → Outcome
unfolding computed gate_outcome at_release own_ended core_ended cause_of chain_in chain_of chain_out chain_room why_run why
computed_why b k room = why b k room

-- One core, H = 6. Task 0: P 10, B 5, W 5, O 0, J 0. Task 1: P 10, B 1, W 1, O 5, J 0, released as the other ends.
abbrev on_time : List ℕ
on_time = file 1 6 (2 ∷ 10 ∷ 5 ∷ 5 ∷ 0 ∷ 0 ∷ 10 ∷ 1 ∷ 1 ∷ 5 ∷ 0 ∷ []) (2 ∷ 0 ∷ 0 ∷ 0 ∷ 0 ∷ 5 ∷ 1 ∷ 1 ∷ 0 ∷ 5 ∷ 5 ∷ 6 ∷ 1 ∷ [])

-- One core, H = 6, one task: P 3, B 3, W 3, O 0, J 0. Job 1 is released as job 0 ends.
abbrev in_step : List ℕ
in_step = file 1 6 (1 ∷ 3 ∷ 3 ∷ 3 ∷ 0 ∷ 0 ∷ []) (2 ∷ 0 ∷ 0 ∷ 0 ∷ 0 ∷ 3 ∷ 1 ∷ 0 ∷ 1 ∷ 3 ∷ 3 ∷ 6 ∷ 1 ∷ [])

abbrev pub table : List (Question × Outcome)
table =
    -- a job that started at its release ends the chain
    (ask C1 3 4, chain_out (3 ∷ []))
    ∷ (ask C1 4 4, chain_out (4 ∷ []))
    -- also where another job ended then, on its core or of its task
    ∷ (ask on_time 1 4, chain_out (1 ∷ []))
    ∷ (ask in_step 1 4, chain_out (1 ∷ []))
    -- the job on the same core that ended at this start
    ∷ (ask C1 0 8, chain_out (0 ∷ 4 ∷ []))
    ∷ (ask C1 2 12, chain_out (2 ∷ 0 ∷ 4 ∷ []))
    -- the preceding job of its task, though one on its core, record 3, ended at this start, too
    ∷ (ask C1 1 12, chain_out (1 ∷ 0 ∷ 4 ∷ []))
    -- 11: a chain that does not fit
    ∷ (ask C1 1 11, refused_with 11 0)
    ∷ (ask C1 3 3, refused_with 11 0)
    -- 20 before 11, 10 before 20, and the file's own before all
    ∷ (ask C1 5 0, refused_with 20 0)
    ∷ (ask C1 4294967295 12, refused_with 20 0)
    ∷ (ask C6 0 12, refused_with 10 0)
    ∷ (ask C6 5 0, refused_with 10 0)
    ∷ (ask [] 0 12, refused_with 1 0)
    ∷ []

pub reasons_told : map (λ row. why row.0.asked_of row.0.number row.0.room) table ≡ map (λ row. row.1) table
unfolding computed_why
reasons_told = refl
