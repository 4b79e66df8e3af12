use mathlib.Core.Path.{◌≡◌}
use mathlib.Core.Bool.{false, not}
use borrow.Author.Rules.{rules}
use Rattle.openfile.proofs.Leading.{leads_front}
use Rattle.whyfile.proofs.EachReason.{obeys, known, told_so, says_10, says_20, says_chain}
use Rattle.whyfile.proofs.file.why_run.Goals as goal

pub accepts_run-accepted-requires : goal.accepts_run-accepted-requires
accepts_run-accepted-requires c = leads_front _ c.tasks_of.ensures

pub returns-then-not-accepted : goal.returns-then-not-accepted
returns-then-not-accepted c = told_so _ _ _ _ _ _ (says_10 c.args.o.tells c.accepts_run-accepted.ensures _ _ (search rules)) (search rules)

pub returns-then-not-known : goal.returns-then-not-known
returns-then-not-known c = told_so _ _ _ _ _ _ (says_20 c.args.o.tells c.accepts_run-accepted.ensures _ _ (search rules) (search rules)) (search rules)

pub trace_run-requires : goal.trace_run-requires
trace_run-requires c = (known _ _ (search rules), obeys c.args.o.tells c.accepts_run-accepted.ensures (search rules))

pub returns : goal.returns
returns c =
    let n : not c.accepts_run-accepted.result ≡ false = search rules in
    says_chain c.args.o.tells c.accepts_run-accepted.ensures _ c.args.output.now n (known _ _ (search rules)) c.trace_run.ensures
