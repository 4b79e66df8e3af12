-- What is chosen of the columns: the job that starts next.
use Rattle.std.specs.Prelude.{ℕ, ◌-◌, ◌≤◌, ◌<◌, max, ◌≡◌, ◌⊎◌, Bool, not, ◌&&◌, ◌||◌, List, [], ◌∷◌, eqb, get_or, None, Option, Some}
use Rattle.base.specs.Columns.{Columns}
use Rattle.model.specs.Model.{most_records}

-- by instant, then rank, then place
abbrev pub NoLater : ℕ → ℕ → ℕ → ℕ → ℕ → ℕ → Type 0
NoLater u d k v e j = (u < v) ⊎ ((u ≡ v) × ((d < e) ⊎ ((d ≡ e) × (k ≤ j))))

-- Job k has not begun, and is the first of its task or comes after one that has: cores, job numbers.
abbrev pub HasTurn : List ℕ → List ℕ → ℕ → Type 0
HasTurn cs js k = (get_or cs k 0 ≡ 0) × ((get_or js k 0 ≡ 0) ⊎ ¬ (get_or cs (k - 1) 0 ≡ 0))

unfoldable pub has_turn : List ℕ → List ℕ → ℕ → Bool
has_turn cs js k = eqb (get_or cs k 0) 0 && (eqb (get_or js k 0) 0 || not (eqb (get_or cs (k - 1) 0) 0))

-- Of the first n jobs, from v on, job k is the first to start, at u: of those whose turn it is, none can start sooner, and of those that
-- can start at u none goes before it. Cores, job numbers, ready instants, ranks.
pub record Chosen (n v : ℕ) (cs js rs ds : List ℕ) (u k : ℕ) : Type 0 where
  pub range : k < n
  pub turn : HasTurn cs js k
  pub at : max v (get_or rs k 0) ≡ u
  pub first : (j : ℕ) → j < n → HasTurn cs js j → NoLater u (get_or ds k 0) k (max v (get_or rs j 0)) (get_or ds j 0) j

-- What is found is chosen, and where nothing is found it is no job's turn.
pub record Choice (n v : ℕ) (cs js rs ds : List ℕ) (o : Option (ℕ × ℕ)) : Type 0 where
  pub chosen : (u k : ℕ) → o ≡ Some (u, k) → Chosen n v cs js rs ds u k
  pub nobody : o ≡ None → (j : ℕ) → j < n → ¬ HasTurn cs js j

-- The columns that a choice is made of, side by side; the first record is of its task's first job.
pub record Choosable (cs js rs ds : List ℕ) : Type 0 where
  pub beside : Columns most_records cs (js ∷ rs ∷ ds ∷ [])
  pub first_job_lem : get_or js 0 0 ≡ 0
