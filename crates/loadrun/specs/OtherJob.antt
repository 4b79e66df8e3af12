-- What rule 1 asks of the columns of tasks and of job numbers at one place.
use Rattle.std.specs.Prelude.{ℕ, ◌-◌, Bool, not, ◌&&◌, List, ltb, eqb, length, get_or}

-- at place k stands no record, or not that of the job of task i which is k - at
unfoldable pub other_job : List ℕ → List ℕ → ℕ → ℕ → ℕ → Bool
other_job is js i at k = not (ltb k (length is) && (eqb (get_or is k 0) i && eqb (get_or js k 0) (k - at)))
