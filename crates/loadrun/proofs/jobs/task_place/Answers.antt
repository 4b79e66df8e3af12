use Rattle.std.specs.Prelude.{None, Some, Option, MatchOption}
use borrow.Author.Rules.{rules}
use Prim.Native.Nat.{ℕ, ◌+◌, ◌<◌, ◌≤◌}
use mathlib.Core.Path.{◌≡◌, ◌∙◌}
use mathlib.Core.Bool.{Bool, true, false}
use native.Mathlib.Omega.{arith}
use Rattle.std.proofs.lemmas.Iterator.{first_from_Range}
use Rattle.base.specs.Find.{first}
use Rattle.base.proofs.Loop.{first_hit, first_miss}
use Rattle.loadrun.specs.OtherJob.{other_job}
use Rattle.loadrun.proofs.jobs.task_place.Goals as goal

-- what `find` says of a range
first_is : (p : ℕ → Bool) (i n : ℕ) (r : Option ℕ)
    → MatchOption r ((k : ℕ) → i ≤ k → k < i + n → p k ≡ false) (λ k. (i ≤ k) × (k < i + n) × (p k ≡ true) × ((j : ℕ) → i ≤ j → j < k → p j ≡ false))
    → r ≡ first p i n
first_is p i n None h = first_miss p i n (omega arith) (record { below = h })
first_is p i n (Some k) (a, b, e, h) = first_hit p i n a b (record { below = h }) e

pub returns : goal.returns
unfolding other_job
returns c =
    let a = c.args in
    let p : ℕ → Bool = other_job a.task.now a.job.now a.i a.at in
    let e : c.map.result ≡ c.find.result = search rules in
    e
    ∙ first_is p a.at a.count c.find.result
    (first_from_Range _ _ _ c.find.result (λ k. p k ≡ true) (λ k. p k ≡ false) c.find.ensures.ran (λ k q h. search rules) (λ k q h. search rules))
