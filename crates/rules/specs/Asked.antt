-- What rules 2 to 5 and 9 ask of one record, by the numbers that stand at its place of the columns.
use Rattle.std.specs.Prelude.{ℕ, ◌-◌, Bool, ◌&&◌, List, leb, get_or}

-- rule 2: earliest, release, latest
abbrev pub release_in : List ℕ → List ℕ → List ℕ → ℕ → Bool
release_in bs rs ls k = leb (get_or bs k 0) (get_or rs k 0) && leb (get_or rs k 0) (get_or ls k 0)

-- rule 3: release, start; rule 9: ready, start
abbrev pub start_in : List ℕ → List ℕ → ℕ → Bool
start_in rs ss k = leb (get_or rs k 0) (get_or ss k 0)

-- rule 4: start, end, least and greatest time
abbrev pub length_in : List ℕ → List ℕ → List ℕ → List ℕ → ℕ → Bool
length_in ss es bs ws k =
    leb (get_or ss k 0) (get_or es k 0)
    && (leb (get_or bs k 0) (get_or es k 0 - get_or ss k 0) && leb (get_or es k 0 - get_or ss k 0) (get_or ws k 0))

-- rule 5: how many cores, core
abbrev pub core_in : ℕ → List ℕ → ℕ → Bool
core_in N cs k = leb 1 (get_or cs k 0) && leb (get_or cs k 0) N
