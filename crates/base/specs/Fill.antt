-- A slice of which some entries were written.
use Rattle.std.specs.Prelude.{ℕ, ◌+◌, ◌≤◌, ◌<◌, ◌≡◌, ◌⊎◌, List, length, get_or}

-- n entries from a place on were written, entry k with f k; every other entry keeps its value
pub record Fills (t : List ℕ) (from n : ℕ) (f : ℕ → ℕ) (t' : List ℕ) : Type 0 where
  pub long : length t' ≡ length t
  pub here : (k : ℕ) → k < n → get_or t' (from + k) 0 ≡ f k
  pub kept : (p : ℕ) → (p < from) ⊎ (from + n ≤ p) → get_or t' p 0 ≡ get_or t p 0
