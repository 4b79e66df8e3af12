-- What lateness asks of the numbers that stand at one place of the columns: deadlines, starts, ends.
use Rattle.std.specs.Prelude.{ℕ, ◌≡◌, Bool, ◌&&◌, List, ltb, length, get_or}
use Rattle.base.specs.Find.{first, count}
use Rattle.model.specs.Answers.{Five}
use Rattle.model.specs.Compute.Verdict.{timely_of}
use Rattle.verdict.specs.declared.late.Late.{Late}

-- a record is late that ends after its deadline
abbrev pub late_in : List ℕ → List ℕ → ℕ → Bool
late_in ds es k = ltb (get_or ds k 0) (get_or es k 0)

abbrev pub early_in : ℕ → List ℕ → List ℕ → List ℕ → ℕ → Bool
early_in H ds ss es k = late_in ds es k && ltb (get_or ss k 0) H

-- Of the first n records: how many are late, the first that is, and the first that is and begins before H.
pub record LateOf (H : ℕ) (ds ss es : List ℕ) (n : ℕ) (l : Late) : Type 0 where
  pub late_counted : l.count ≡ count (late_in ds es) n
  pub first_late : l.first ≡ first (late_in ds es) 0 n
  pub first_early : l.early ≡ first (early_in H ds ss es) 0 n

unfoldable pub timely_in : ℕ → List ℕ → List ℕ → List ℕ → Five
timely_in H ds ss es = timely_of (first (early_in H ds ss es) 0 (length es)) (first (late_in ds es) 0 (length es)) (count (late_in ds es) (length es))
