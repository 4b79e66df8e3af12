-- A turn takes in the next job's end. Assumes nothing.
use mathlib.Core.Path.{refl}
use borrow.Author.Rules.{rules}
use lib.ListN.{length, length-append}
use Rattle.std.proofs.lemmas.Slice.Zip.{zip_turn}
use Rattle.starts.proofs.Taking.{one_end}
use Rattle.starts.proofs.cores.last_ends.Goals as goal

pub loop-c-preserved : goal.loop-c-preserved
loop-c-preserved c =
    let l = c.loop-c in
    let x = c.in-Some in
    let turn =
    zip_turn c.args.core.now c.args.end.now l.yielded c.into_iter-c-iterator.result l.c-iterator c.next.new.self c.next.result (search rules) (search rules) l.yielded_by (x.field-0-0, x.field-0-1) x.is c.next.ensures.steps in
    rw (length-append, c.later.ensures, turn.2 0, turn.3 0) (one_end l.invariant refl (c.requires.cores (length l.yielded)))
