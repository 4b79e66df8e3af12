-- The cores' last ends, and the least of them.
use Rattle.std.specs.Prelude.{ℕ, ◌+◌, ◌≤◌, ◌<◌, ◌≡◌, ◌⊎◌, List, [], ◌∷◌, length, get_or}
use Rattle.base.specs.Columns.{Beside}
use Rattle.model.specs.Model.{most_cores}

-- ends, and the cores on which: none above the most
pub record Ran (es cs : List ℕ) : Type 0 where
  pub beside : Beside cs (es ∷ [])
  pub cores : (k : ℕ) → get_or cs k 0 ≤ most_cores

-- of the first n jobs one ends at e on core c, or e is 0: cores, ends
abbrev pub EndsAt : ℕ → List ℕ → List ℕ → ℕ → ℕ → Type 0
EndsAt n cs es c e = (e ≡ 0) ⊎ ((k : ℕ) × (k < n) × (get_or cs k 0 ≡ c) × (get_or es k 0 ≡ e))

-- e is the latest end on core c, or 0 where nothing has begun
pub record LastOf (n : ℕ) (cs es : List ℕ) (c e : ℕ) : Type 0 where
  pub none_later : (k : ℕ) → k < n → get_or cs k 0 ≡ c → get_or es k 0 ≤ e
  pub reached : EndsAt n cs es c e

-- entry c is the last end on core c, for each core
pub record Lasts (n : ℕ) (cs es xs : List ℕ) : Type 0 where
  pub count : length xs ≡ most_cores + 1
  pub each : (c : ℕ) → 1 ≤ c → c ≤ most_cores → LastOf n cs es c (get_or xs c 0)

-- f is the least of the last ends on the cores below m
pub record LeastOf (xs : List ℕ) (m f : ℕ) : Type 0 where
  pub core : ℕ
  pub core_is : (1 ≤ core) × (core < m)
  pub here : get_or xs core 0 ≡ f
  pub least : (d : ℕ) → 1 ≤ d → d < m → f ≤ get_or xs d 0
