-- What rule 8 asks of the columns: the least record that waits while a core idles, the least such instant, the least such core.
use Rattle.std.specs.Prelude.{ℕ, ◌+◌, ◌-◌, ◌≤◌, ◌<◌, ◌≡◌, Bool, true, false, not, ◌&&◌, List, [], ◌∷◌, leb, ltb, eqb, length, get_or, Option}
use Rattle.base.specs.Columns.{Beside}
use Rattle.base.specs.Find.{first, first_of, found}
use Rattle.model.specs.Model.{most_cores}
use Rattle.idle.specs.FirstFrom.{FirstFrom, Within, Among}

-- a record that is on a core from a start to an end is on core c at x
abbrev pub Runs : ℕ → ℕ → ℕ → ℕ → ℕ → Type 0
Runs start end core c x = (core ≡ c) × Within start end x

-- x lies in one of the first n stretches, each from an end up to the instant beside it
abbrev pub Stretches : List ℕ → List ℕ → ℕ → ℕ → Type 0
Stretches es us n x = Among (λ k. Within (get_or es k 0) (get_or us k 0)) n x

-- starts, ends and cores of the records
module _ (ss es cs : List ℕ) where
  -- record k is on core c at instant t
  unfoldable pub holds_in : ℕ → ℕ → ℕ → Bool
  holds_in c t k = eqb (get_or cs k 0) c && (leb (get_or ss k 0) t && ltb t (get_or es k 0))

  unfoldable pub busy_in : ℕ → ℕ → Bool
  busy_in c t = found (first (holds_in c t) 0 (length ss))

  -- the least of the cores 1 to N that idles at t
  unfoldable pub idle_core_in : ℕ → ℕ → Option ℕ
  idle_core_in N t = first (λ c. not (busy_in c t)) 1 N

  -- record a waits from the instant at which it is ready to its start
  unfoldable pub idle_in : ℕ → List ℕ → ℕ → Option (ℕ × ℕ)
  idle_in N rs a = first_of (idle_core_in N) (get_or rs a 0) (get_or ss a 0 - get_or rs a 0)

  -- r is the first instant from t on at which core c is busy
  abbrev pub BusyFrom : ℕ → ℕ → ℕ → Type 0
  BusyFrom c t r = FirstFrom (λ x. busy_in c x ≡ true) t r

  -- core c idles from t until u, if it is one of the cores 1 to N; else u is 0
  pub record IdleUntil (N c t u : ℕ) : Type 0 where
    pub a_core : 1 ≤ c → c ≤ N → BusyFrom c t u
    pub no_core : ¬ ((1 ≤ c) × (c ≤ N)) → u ≡ 0

  -- until when the core of each of the first n records idles from its end on
  pub record Untils (N n : ℕ) (us : List ℕ) : Type 0 where
    pub until : (k : ℕ) → k < n → IdleUntil N (get_or cs k 0) (get_or es k 0) (get_or us k 0)

  -- each of the cores from 1 up to m is busy for the first time at b or before it, and until b one idles
  pub record Begun (m b : ℕ) : Type 0 where
    pub each : (c : ℕ) → 1 ≤ c → c < m → (x : ℕ) × ((x ≤ b) × BusyFrom c 0 x)
    pub before : (x : ℕ) → x < b → (c : ℕ) × ((1 ≤ c) × ((c < m) × (busy_in c x ≡ false)))

  -- what is found once for all waits on the cores 1 to N: from when on each of them has begun, and until when they idle
  pub record Prepared (N begun : ℕ) (us : List ℕ) : Type 0 where
    pub few : N ≤ most_cores
    pub beside : Beside ss (es ∷ cs ∷ [])
    pub room : length es ≤ length us
    pub starts : Begun (N + 1) begun
    pub untils : Untils N (length es) us
