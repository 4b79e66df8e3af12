-- How long a record may last is filled in, rules 4 to 6 are judged in order, and what the order goes by is filled in for the rest. Assumes nothing.
use Rattle.std.specs.Prelude.{ℕ, None, Option, option_map}
use mathlib.Core.Path.{◌≡◌, sym, ◌∙◌, ap}
use native.Mathlib.Omega.{arith}
use Rattle.model.specs.Compute.Places.{find, one, two}
use Rattle.model.specs.Rules.{rule4, rule5, rule6}
use Rattle.model.specs.Model.{Run}
use Rattle.times.proofs.RowAfterRow.{listed_next}
use Rattle.verdict.specs.RulesFrom.{verdict_from}
use Rattle.verdict.proofs.RulesFrom.{broken, passed}
use Rattle.verdict.proofs.run.judge_lengths.Goals as goal

-- a rule that found nothing
past_4 : (ρ : Run) {o : Option ℕ} → option_map one o ≡ find rule4 ρ → o ≡ None → verdict_from 4 ρ ≡ verdict_from 5 ρ
past_4 ρ e h = passed ρ one 4 (omega arith) e h

past_5 : (ρ : Run) {o : Option ℕ} → option_map one o ≡ find rule5 ρ → o ≡ None → verdict_from 5 ρ ≡ verdict_from 6 ρ
past_5 ρ e h = passed ρ one 5 (omega arith) e h

past_6 : (ρ : Run) {o : Option (ℕ × ℕ)} → option_map two o ≡ find rule6 ρ → o ≡ None → verdict_from 6 ρ ≡ verdict_from 7 ρ
past_6 ρ e h = passed ρ two 6 (omega arith) e h

pub lasted-wrong_length-requires : goal.lasted-wrong_length-requires
lasted-wrong_length-requires c =
    let (ρ, I, e) = c.requires in
    (ρ, (c.fill_times.ensures ρ I).lent)

pub on_core-no_core-requires : goal.on_core-no_core-requires
on_core-no_core-requires c =
    let (ρ, I, e) = c.requires in
    (ρ, (c.fill_times.ensures ρ I).lent, ap (λ σ. σ.cores) e)

pub returns-in-Some : goal.returns-in-Some
returns-in-Some c ρ I e s =
    c.from.ensures
    ∙ broken ρ one 4 (omega arith) (c.lasted-wrong_length.ensures ρ (c.fill_times.ensures ρ I).lent) c.in-Some.is

pub returns-in-Some-no_core : goal.returns-in-Some-no_core
returns-in-Some-no_core c ρ I e s =
    let filled = (c.fill_times.ensures ρ I).lent in
    c.from-in-Some-no_core.ensures
    ∙ broken ρ one 5 (omega arith) (c.on_core-no_core.ensures ρ filled (ap (λ σ. σ.cores) e)) c.in-Some-no_core.is
    ∙ sym (past_4 ρ (c.lasted-wrong_length.ensures ρ filled) c.in_default.is)

pub overlapping-requires : goal.overlapping-requires
overlapping-requires c =
    let (ρ, I, e) = c.requires in
    (ρ, (c.fill_times.ensures ρ I).lent)

pub returns-in-Some-overlapping : goal.returns-in-Some-overlapping
returns-in-Some-overlapping c ρ I e s =
    let filled = (c.fill_times.ensures ρ I).lent in
    c.from-in-Some-overlapping.ensures
    ∙ broken ρ two 6 (omega arith) (c.overlapping.ensures ρ filled) c.in-Some-overlapping.is
    ∙ sym (past_4 ρ (c.lasted-wrong_length.ensures ρ filled) c.in_default.is ∙ past_5 ρ (c.on_core-no_core.ensures ρ filled (ap (λ σ. σ.cores) e)) c.in_default-no_core.is)

pub fill_times-requires-2 : goal.fill_times-requires-2
fill_times-requires-2 c =
    let (ρ, I, e) = c.requires in
    (ρ, listed_next I (c.fill_times.ensures ρ I))

pub judge_order-requires : goal.judge_order-requires
judge_order-requires c =
    let (ρ, I, e) = c.requires in
    (ρ, (c.fill_times-2.ensures ρ (listed_next I (c.fill_times.ensures ρ I))).lent, e)

pub returns : goal.returns
returns c ρ I e s =
    let filled = (c.fill_times.ensures ρ I).lent in
    let past =
    past_4 ρ (c.lasted-wrong_length.ensures ρ filled) c.in_default.is
    ∙ past_5 ρ (c.on_core-no_core.ensures ρ filled (ap (λ σ. σ.cores) e)) c.in_default-no_core.is
    ∙ past_6 ρ (c.overlapping.ensures ρ filled) c.in_default-overlapping.is
    in
    c.judge_order.ensures ρ (c.fill_times-2.ensures ρ (listed_next I (c.fill_times.ensures ρ I))).lent e s ∙ sym past
