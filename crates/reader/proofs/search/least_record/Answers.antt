-- What `find` finds in a range is the first that passes. Assumes nothing.
use Rattle.std.proofs.Common.{rules, ◌≡◌, ℕ, ◌+◌, ◌*◌, ◌<◌, ◌≤◌, Bool, true, false, Option, Some, None, arith}
use Rattle.std.specs.Option.{MatchOption}
use Rattle.std.proofs.lemmas.Iterator.{first_from_Range}
use borrow.Author.Tests.{tests}
use Rattle.base.specs.Find.{first}
use Rattle.base.proofs.Loop.{first_hit, first_miss}
use Rattle.model.specs.Model.{job_of, same_job}
use Rattle.model.specs.File.{record_at, record_size}
use Rattle.reader.proofs.search.least_record.Goals as goal

first_told : (p : ℕ → Bool) (n : ℕ) (r : Option ℕ)
    → MatchOption r ((k : ℕ) → 0 ≤ k → k < n → p k ≡ false) (λ i. (0 ≤ i) × (i < n) × (p i ≡ true) × ((k : ℕ) → 0 ≤ k → k < i → p k ≡ false))
    → r ≡ first p 0 n
first_told p n None none = first_miss p 0 n (omega arith) (record { below = none })
first_told p n (Some k) (low, high, here, before) = first_hit p 0 n low (omega arith) (record { below = before }) here

pub returns : goal.returns
returns c =
    let p = λ (k : ℕ). same_job (job_of (record_at c.args.file.now (c.args.at + record_size * k))) (c.args.task, c.args.job) in
    first_told p c.args.n _
    (first_from_Range _ _ _ _ (λ k. p k ≡ true) (λ k. p k ≡ false) c.find.ensures.ran (λ x q k. search (rules, tests)) (λ x q k. search (rules, tests)))
