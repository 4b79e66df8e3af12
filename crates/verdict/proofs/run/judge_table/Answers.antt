-- The table is loaded, rule 1 judged over the tasks, until when each record may be released is filled in, and rules 2 and 3 are judged before the rest. Assumes nothing.
use Rattle.std.specs.Prelude.{ℕ, None, Option, option_map}
use mathlib.Core.Path.{◌≡◌, sym, ◌∙◌, ap}
use native.Mathlib.Omega.{arith}
use Rattle.model.specs.Model.{Run}
use Rattle.model.specs.Rules.{Jobs, Start, rule1, rule2, rule3}
use Rattle.model.specs.Compute.Places.{one, find}
use Rattle.model.proofs.Places.{found_nothing}
use Rattle.openfile.specs.Head.{run_in}
use Rattle.openfile.proofs.Leading.{tells_known}
use Rattle.openfile.proofs.WholeOrRefused.{tells_setting}
use Rattle.times.proofs.RowAfterRow.{listed_first, listed_next}
use Rattle.verdict.specs.RulesFrom.{verdict_from}
use Rattle.verdict.proofs.RulesFrom.{verdict_first, broken, passed}
use Rattle.verdict.proofs.run.judge_table.Goals as goal

-- rules 1 to 3 found nothing
past_1 : (ρ : Run) {o : Option ℕ} → option_map one o ≡ find rule1 ρ → o ≡ None → verdict_from 1 ρ ≡ verdict_from 2 ρ
past_1 ρ e h = passed ρ one 1 (omega arith) e h

past_2 : (ρ : Run) {o : Option ℕ} → option_map one o ≡ find rule2 ρ → o ≡ None → verdict_from 2 ρ ≡ verdict_from 3 ρ
past_2 ρ e h = passed ρ one 2 (omega arith) e h

past_3 : (ρ : Run) {o : Option ℕ} → option_map one o ≡ find rule3 ρ → o ≡ None → verdict_from 3 ρ ≡ verdict_from 4 ρ
past_3 ρ e h = passed ρ one 3 (omega arith) e h

-- rule 1 holds, and rule 3 does
jobs : (ρ : Run) {o : Option ℕ} → option_map one o ≡ find rule1 ρ → o ≡ None → Jobs ρ
jobs ρ e h = (found_nothing rule1 ρ).0 (sym e ∙ ap (option_map one) h)

starts : (ρ : Run) {o : Option ℕ} → option_map one o ≡ find rule3 ρ → o ≡ None → Start ρ
starts ρ e h = (found_nothing rule3 ρ).0 (sym e ∙ ap (option_map one) h)

pub jobs_place-requires : goal.jobs_place-requires
jobs_place-requires c =
    let ρ = run_in c.args.o.file.now in
    let T = c.args.o.tells in
    let L = c.requires.1 in
    (ρ, tells_known T L, (c.read_table.ensures).lent)

pub returns-in-Some : goal.returns-in-Some
returns-in-Some c =
    let ρ = run_in c.args.o.file.now in
    let T = c.args.o.tells in
    let L = c.requires.1 in
    c.from.ensures
    ∙ broken ρ one 1 (omega arith) (c.jobs_place.ensures ρ (tells_known T L) (c.read_table.ensures).lent) c.in-Some.is
    ∙ sym (verdict_first ρ)

pub fill_times-requires : goal.fill_times-requires
fill_times-requires c =
    let ρ = run_in c.args.o.file.now in
    let T = c.args.o.tells in
    let L = c.requires.1 in
    let read = c.read_table.ensures in
    (ρ, listed_first L (jobs ρ (c.jobs_place.ensures ρ (tells_known T L) read.lent) c.in_default.is) read)

pub released-requires : goal.released-requires
released-requires c =
    let ρ = run_in c.args.o.file.now in
    let T = c.args.o.tells in
    let L = c.requires.1 in
    let read = c.read_table.ensures in
    let I = listed_first L (jobs ρ (c.jobs_place.ensures ρ (tells_known T L) read.lent) c.in_default.is) read in
    (ρ, (c.fill_times.ensures ρ I).lent)

pub returns-in-Some-released : goal.returns-in-Some-released
returns-in-Some-released c =
    let ρ = run_in c.args.o.file.now in
    let T = c.args.o.tells in
    let L = c.requires.1 in
    let read = c.read_table.ensures in
    let found = c.jobs_place.ensures ρ (tells_known T L) read.lent in
    let I = listed_first L (jobs ρ found c.in_default.is) read in
    c.from-in-Some-released.ensures
    ∙ broken ρ one 2 (omega arith) (c.released.ensures ρ (c.fill_times.ensures ρ I).lent) c.in-Some-released.is
    ∙ sym (verdict_first ρ ∙ past_1 ρ found c.in_default.is)

pub started-requires : goal.started-requires
started-requires c =
    let ρ = run_in c.args.o.file.now in
    let T = c.args.o.tells in
    let L = c.requires.1 in
    let read = c.read_table.ensures in
    let I = listed_first L (jobs ρ (c.jobs_place.ensures ρ (tells_known T L) read.lent) c.in_default.is) read in
    (ρ, (c.fill_times.ensures ρ I).lent)

pub returns-in-Some-started : goal.returns-in-Some-started
returns-in-Some-started c =
    let ρ = run_in c.args.o.file.now in
    let T = c.args.o.tells in
    let L = c.requires.1 in
    let read = c.read_table.ensures in
    let found = c.jobs_place.ensures ρ (tells_known T L) read.lent in
    let filled = (c.fill_times.ensures ρ (listed_first L (jobs ρ found c.in_default.is) read)).lent in
    c.from-in-Some-started.ensures
    ∙ broken ρ one 3 (omega arith) (c.started.ensures ρ filled) c.in-Some-started.is
    ∙ sym (verdict_first ρ ∙ past_1 ρ found c.in_default.is ∙ past_2 ρ (c.released.ensures ρ filled) c.in_default-released.is)

pub judge_lengths-requires : goal.judge_lengths-requires
judge_lengths-requires c =
    let ρ = run_in c.args.o.file.now in
    let T = c.args.o.tells in
    let L = c.requires.1 in
    let read = c.read_table.ensures in
    let I = listed_first L (jobs ρ (c.jobs_place.ensures ρ (tells_known T L) read.lent) c.in_default.is) read in
    (ρ, listed_next I (c.fill_times.ensures ρ I), tells_setting T)

pub returns : goal.returns
returns c =
    let ρ = run_in c.args.o.file.now in
    let T = c.args.o.tells in
    let L = c.requires.1 in
    let read = c.read_table.ensures in
    let found = c.jobs_place.ensures ρ (tells_known T L) read.lent in
    let I = listed_first L (jobs ρ found c.in_default.is) read in
    let filled = c.fill_times.ensures ρ I in
    let past =
    past_1 ρ found c.in_default.is
    ∙ past_2 ρ (c.released.ensures ρ filled.lent) c.in_default-released.is
    ∙ past_3 ρ (c.started.ensures ρ filled.lent) c.in_default-started.is
    in
    c.judge_lengths.ensures ρ (listed_next I filled) (tells_setting T) (starts ρ (c.started.ensures ρ filled.lent) c.in_default-started.is)
    ∙ sym (verdict_first ρ ∙ past)
