-- The two questions, each of which asks the other: at each round the start is lower. Assumes nothing.
use native.Mathlib.Omega.{arith}
use Rattle.model.specs.Rules.{rule1}
use Rattle.causes.proofs.WhoseEnd.{cause_waited}
use Rattle.chain.proofs.PutChain.{told_one, told_more, told_cause}
use Rattle.chain.proofs.Rounds.{traced_limits, cause_is, start_falls, cause_lost, started_then, started_later}
use Rattle.chain.proofs.write.+whose_end_why_began.Goals as goal

-- Whose end it waited for
-- -----------------------
pub whose_end-cause-requires : goal.whose_end-cause-requires
whose_end-cause-requires t c = let (l, b, (ρ, T, late)) = c.requires in (l, (ρ, T.obeys rule1, T.table))

pub whose_end-returns-in_default : goal.whose_end-returns-in_default
whose_end-returns-in_default t c ρ j l T C D =
    absurd (cause_lost T (c.cause.ensures ρ (T.obeys rule1) T.table (cause_waited ρ (traced_limits T) T.obeys C)) c.in_default.is C)

pub whose_end-why_began-requires : goal.whose_end-why_began-requires
whose_end-why_began-requires t c =
    let (l, b, (ρ, T, late)) = c.requires in
    let C = cause_is T l late (c.cause.ensures ρ (T.obeys rule1) T.table late) c.in-Some.is in
    let (h, s) = start_falls T l C in
    (omega (arith, s), (h, omega (arith, s, b), (ρ, T)))

pub whose_end-returns : goal.whose_end-returns
whose_end-returns t c ρ j l T C D =
    let late = cause_waited ρ (traced_limits T) T.obeys C in
    let B = cause_is T c.requires.0 late (c.cause.ensures ρ (T.obeys rule1) T.table late) c.in-Some.is in
    told_cause ρ (traced_limits T) T.obeys B C D (λ m E. c.why_began.ensures ρ m T E)

-- Why it began
-- ------------
pub why_began-returns-then-at_release : goal.why_began-returns-then-at_release
why_began-returns-then-at_release t c ρ l T C =
    told_one ρ (started_then ρ _ (c.at_release.ensures ρ T.table) c.if-at_release.true) C c.put_if.ensures

pub why_began-whose_end-requires : goal.why_began-whose_end-requires
why_began-whose_end-requires t c =
    let (l, b, (ρ, T)) = c.requires in
    (omega arith, (l, omega (arith, b), (ρ, T, started_later ρ _ (c.at_release.ensures ρ T.table) c.if-at_release.false)))

pub why_began-returns : goal.why_began-returns
why_began-returns t c ρ l T C =
    let late = started_later ρ _ (c.at_release.ensures ρ T.table) c.if-at_release.false in
    told_more ρ late C c.put_if.ensures (λ j m D E. c.whose_end.ensures ρ j m T D E)
