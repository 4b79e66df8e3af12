-- The core that is taken.
use Rattle.std.specs.Prelude.{ℕ, ◌+◌, ◌≤◌, ◌<◌, ◌≡◌, List, get_or, set}
use Rattle.starts.specs.Cores.{LeastOf}
use Rattle.starts.specs.declared.cores.Cores.{Cores}

-- The lowest of the cores 1 to n that is free at t, core c, is taken until e.
pub record Takes (xs : List ℕ) (n t e c : ℕ) (s : Cores) : Type 0 where
  pub count : s.n ≡ n
  pub core : (1 ≤ c) × (c ≤ n)
  pub ends : s.ends ≡ set xs c e
  pub free : get_or xs c 0 ≤ t
  pub lowest : (d : ℕ) → 1 ≤ d → d < c → t < get_or xs d 0
  pub least : LeastOf s.ends (n + 1) s.least
