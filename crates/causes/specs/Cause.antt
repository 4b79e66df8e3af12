-- Document 02, request 4: why a job began when it did, whose end it waited for, and the chain of causes.
use Rattle.std.specs.Prelude.{ℕ, ◌≡◌, List, [], ◌∷◌, Some}
use Rattle.model.specs.Model.{Run, IsRecord, rec, preceding}
use Rattle.model.specs.Rules.{OnOneCore}

module _ (ρ : Run) where
  -- job k started at its release
  abbrev pub AtRelease : ℕ → Type 0
  AtRelease k = (rec ρ k).start ≡ (rec ρ k).release

  -- job j ended at the start of k
  abbrev pub EndedAt : ℕ → ℕ → Type 0
  EndedAt j k = (rec ρ j).end ≡ (rec ρ k).start

  -- p is the preceding job of k's task, and ended at this start
  abbrev pub OwnEnded : ℕ → ℕ → Type 0
  OwnEnded k p = (preceding ρ k ≡ Some p) × EndedAt p k

  -- j is a job on k's core, and ended at this start
  abbrev pub CoreEnded : ℕ → ℕ → Type 0
  CoreEnded k j = IsRecord ρ j × OnOneCore ρ j k × EndedAt j k

  -- A job that started at its release has no cause. Otherwise the cause is the preceding job of its task if that ended at this start, else
  -- the job on the same core that ended at this start.
  pub data Cause (k : ℕ) : ℕ → Type 0 where
    own_job : {p : ℕ} → ¬ AtRelease k → OwnEnded k p → Cause k p
    core_job : {j : ℕ} → ¬ AtRelease k → ((p : ℕ) → ¬ OwnEnded k p) → CoreEnded k j → Cause k j

  -- The chain: from the record asked about back to the first. A job that started at its release ends the chain.
  pub data Chain : ℕ → List ℕ → Type 0 where
    first_job_lem : {k : ℕ} → AtRelease k → Chain k (k ∷ [])
    waited : {k j : ℕ} {l : List ℕ} → Cause k j → Chain j l → Chain k (k ∷ l)

-- The first job of a chain, which is the last of the list.
abbrev pub first_job : ℕ → List ℕ → ℕ
first_job k [] = k
first_job k (j ∷ l) = first_job j l
