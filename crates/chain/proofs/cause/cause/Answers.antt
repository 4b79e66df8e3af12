-- The job of the record before if that is of its task and ended at this start, else what is found on its core. Assumes nothing.
use mathlib.Core.Path.{refl, sym, ◌∙◌}
use Rattle.chain.proofs.FoundInTable.{own_before, own_is, core_is, core_tied}
use Rattle.chain.proofs.cause.cause.Goals as goal

pub overflow_sub-result : goal.overflow_sub-result
overflow_sub-result c =
    let (l, (ρ, J, L)) = c.requires in
    (own_before L l J (sym (c.if-own_ended.ensures ρ J L))).0

pub returns-then-own_ended : goal.returns-then-own_ended
returns-then-own_ended c ρ J L late =
    let e = sym (c.if-own_ended.ensures ρ J L) in
    own_is ρ _ late _ e (own_before L c.requires.0 J e).1

pub returns : goal.returns
returns c ρ J L late =
    core_is ρ _ late (sym (c.if-own_ended.ensures ρ J L))
    (c.core_ended.ensures
    ∙ core_tied L c.requires.0 c.column.ensures.0 c.column-2.ensures.0 refl refl)
