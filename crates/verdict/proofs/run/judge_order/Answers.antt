-- Rules 7 to 9 in order, and then the late records. Assumes nothing.
use Rattle.std.specs.Prelude.{ℕ, None, Option, option_map}
use mathlib.Core.Path.{◌≡◌, sym, ◌∙◌, ap}
use native.Mathlib.Omega.{arith}
use Rattle.model.specs.Compute.Places.{find, one, two, three}
use Rattle.model.specs.Model.{Run}
use Rattle.model.specs.Rules.{rule7, rule8, rule9}
use Rattle.verdict.specs.RulesFrom.{verdict_from}
use Rattle.verdict.proofs.RulesFrom.{verdict_last, broken, passed}
use Rattle.verdict.proofs.Tied.{column_is, timely_tied}
use Rattle.verdict.proofs.run.judge_order.Goals as goal

-- a rule that found nothing
past-7 : (ρ : Run) {o : Option (ℕ × ℕ)} → option_map two o ≡ find rule7 ρ → o ≡ None → verdict_from 7 ρ ≡ verdict_from 8 ρ
past-7 ρ e h = passed ρ two 7 (omega arith) e h

past-8 : (ρ : Run) {o : Option (ℕ × (ℕ × ℕ))} → option_map three o ≡ find rule8 ρ → o ≡ None → verdict_from 8 ρ ≡ verdict_from 9 ρ
past-8 ρ e h = passed ρ three 8 (omega arith) e h

past-9 : (ρ : Run) {o : Option ℕ} → option_map one o ≡ find rule9 ρ → o ≡ None → verdict_from 9 ρ ≡ verdict_from 10 ρ
past-9 ρ e h = passed ρ one 9 (omega arith) e h

pub returns-in-Some : goal.returns-in-Some
returns-in-Some c ρ L e s = c.from.ensures ∙ broken ρ two 7 (omega arith) (c.out_of_order.ensures ρ L) c.in-Some.is

pub idling-requires : goal.idling-requires
idling-requires c = let (ρ, L, e) = c.requires in (ρ, L, ap (λ σ. σ.cores) e)

pub returns-in-Some-idling : goal.returns-in-Some-idling
returns-in-Some-idling c ρ L e s =
    c.from-in-Some-idling.ensures
    ∙ broken ρ three 8 (omega arith) (c.idling.ensures ρ L (ap (λ σ. σ.cores) e)) c.in-Some-idling.is
    ∙ sym (past-7 ρ (c.out_of_order.ensures ρ L) c.in_default.is)

pub out_of_turn-requires : goal.out_of_turn-requires
out_of_turn-requires c = let (ρ, L, e) = c.requires in (ρ, L)

pub returns-in-Some-out_of_turn : goal.returns-in-Some-out_of_turn
returns-in-Some-out_of_turn c ρ L e s =
    c.from-in-Some-out_of_turn.ensures
    ∙ broken ρ one 9 (omega arith) (c.out_of_turn.ensures ρ L s) c.in-Some-out_of_turn.is
    ∙ sym (past-7 ρ (c.out_of_order.ensures ρ L) c.in_default.is ∙ past-8 ρ (c.idling.ensures ρ L (ap (λ σ. σ.cores) e)) c.in_default-idling.is)

pub returns : goal.returns
returns c ρ L e s =
    let start = column_is L 3 (omega arith) (omega arith) c.column-2.ensures.0 in
    let end = column_is L 4 (omega arith) (omega arith) c.column-3.ensures.0 in
    let past =
    past-7 ρ (c.out_of_order.ensures ρ L) c.in_default.is
    ∙ past-8 ρ (c.idling.ensures ρ L (ap (λ σ. σ.cores) e)) c.in_default-idling.is
    ∙ past-9 ρ (c.out_of_turn.ensures ρ L s) c.in_default-out_of_turn.is
    in
    c.timely.ensures ∙ timely_tied (ap (λ σ. σ.horizon) e) (column_is L 10 (omega arith) (omega arith) c.column.ensures.0) start end ∙ sym (past ∙ verdict_last ρ)
