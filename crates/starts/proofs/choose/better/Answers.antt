-- What one more job changes of the choice. Assumes nothing.
use mathlib.Core.Path.{sym, ◌∙◌}
use mathlib.Core.Logic.{inl, inr}
use native.Mathlib.Omega.{arith}
use borrow.Author.Rules.{rules}
use Rattle.starts.proofs.Choosing.{says_turn, passed, kept, first_waits, sooner}
use Rattle.starts.proofs.choose.better.Goals as goal
use Rattle.starts.proofs.choose.better.Goals.{then-at-found, else-at-found+then-at-found-2, else-at-found+else-at-found-2}

pub returns-then-not-has_turn : goal.returns-then-not-has_turn
returns-then-not-has_turn c = passed c.requires.2 ((says_turn _ _ _).refutes (sym c.has_turn.ensures ∙ c.if-not-has_turn.true))

pub returns-in_default : goal.returns-in_default
returns-in_default c = first_waits c.requires.2 ((says_turn _ _ _).sound (sym c.has_turn.ensures ∙ c.if-not-has_turn.false)) c.later-at.ensures c.in_default.is

pub bounds-rank-j : goal.bounds-rank-j
bounds-rank-j c = let C = c.requires.2.chosen _ _ c.in-Some.is in omega (arith, C.range)

pub offset_bounds-rank-j : goal.offset_bounds-rank-j
offset_bounds-rank-j c =
    let C = c.requires.2.chosen _ _ c.in-Some.is in
    let few = c.requires.0.beside.few in
    record { fits = omega (arith, C.range, c.requires.1, few) }

pub returns-then-rank-k : goal.returns-then-rank-k
returns-then-rank-k c =
    sooner c.requires.2 ((says_turn _ _ _).sound (sym c.has_turn.ensures ∙ c.if-not-has_turn.false)) c.later-at.ensures c.in-Some.is
    (elim c.if-at-found.branch [
      | then-at-found w ↦ inl w.if-at-found.true
      | else-at-found+then-at-found-2 w ↦ inr (w.if-at-found-2.true, search rules)
      | else-at-found+else-at-found-2 w ↦ absurd (search rules)
    ])

pub returns-else-rank-k : goal.returns-else-rank-k
returns-else-rank-k c =
    kept c.requires.2 c.in-Some.is c.later-at.ensures
    (elim c.if-at-found.branch [
      | then-at-found w ↦ absurd (search rules)
      | else-at-found+then-at-found-2 w ↦ inr (sym w.if-at-found-2.true, search rules)
      | else-at-found+else-at-found-2 w ↦ inl (search rules)
    ])
