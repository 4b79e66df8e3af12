-- One that has not begun, or the record that is kept. Assumes nothing.
use mathlib.Core.Path.{◌≡◌, ◌∙◌}
use Prim.Native.Nat.{◌+◌, ◌*◌}
use borrow.Author.Rules.{rules}
use Rattle.std.specs.Prelude.{Some, option_map}
use Rattle.model.specs.File.{record_at, record_size}
use Rattle.standing.proofs.OfJob.{old_is, kept_is}
use Rattle.standing.proofs.records.standing.Goals as goal
use Rattle.standing.proofs.records.standing.Goals.{In-Some}

-- the record that is found
there : (c : In-Some)
    → option_map (λ k. record_at c.args.o.file.now (c.args.o.head.records_at + record_size * k)) c.args.found ≡ Some c.in-Some.x
there c = search rules

pub returns-in-Some : goal.returns-in-Some
returns-in-Some c = λ ρ T e w. kept_is T _ (there ((goal.at.returns-in-Some c).In-Some)) w c.if-x-o.true

pub returns-in-Some-2 : goal.returns-in-Some-2
returns-in-Some-2 c = λ ρ T e w.
    c.waiting-in-Some-2.ensures ∙ old_is T _ (there ((goal.at.returns-in-Some-2 c).In-Some)) w c.if-x-o.false
