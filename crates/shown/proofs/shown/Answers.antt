-- Of the recorded file where it began before H, else of the carried one. Assumes nothing.
use Rattle.std.proofs.Common.{None}
use mathlib.Core.Path.{◌≡◌, refl, sym, ◌∙◌}
use native.Mathlib.Omega.{arith}
use Rattle.reader.proofs.Parts.{gives_record}
use Rattle.shown.proofs.Least.{least_below}
use Rattle.shown.proofs.ShownFrom.{sections, least_said, before_said, not_recorded, not_before, shown_recorded, shown_later, shown_nowhere}
use Rattle.shown.proofs.shown.Goals as goal
use Rattle.shown.proofs.shown.Goals.{in_default-via-in-None-1, in_default-via-in-Some+else-began_before}

pub began_before-requires : goal.began_before-requires
began_before-requires c =
    let s = sections c.open-from.ensures in
    (s, least_below _ s _ c.in-Some.ensures)

pub returns : goal.returns
returns c =
    let O = c.open-from.ensures in
    shown_recorded _ _ _ _ (least_said O _ c.in-Some.ensures) (before_said O _ c.if-began_before.ensures) (gives_record _ O c.record.ensures)

pub returns-in-Some-least_in : goal.returns-in-Some-least_in
returns-in-Some-least_in c =
    let O = c.open-from.ensures in
    let T = c.open-to.ensures in
    shown_later _ _ _ _
    (elim c.in_default.branch [
      | in_default-via-in-None-1 w ↦ not_recorded _ _ _ (least_said O _ (let e : c.least_in.result ≡ None = cc in sym e ∙ c.least_in.ensures))
      | in_default-via-in-Some+else-began_before w ↦ not_before _ _ _ (least_said O _ w.in-Some.ensures) (before_said O _ w.if-began_before.ensures)
    ])
    (least_said T _ c.in-Some-least_in.ensures) (gives_record _ T c.record-in-Some-least_in.ensures)

pub returns-in-None : goal.returns-in-None
returns-in-None c =
    let O = c.open-from.ensures in
    shown_nowhere _ _ _ _
    (elim c.in_default.branch [
      | in_default-via-in-None-1 w ↦ not_recorded _ _ _ (least_said O _ (let e : c.least_in.result ≡ None = cc in sym e ∙ c.least_in.ensures))
      | in_default-via-in-Some+else-began_before w ↦ not_before _ _ _ (least_said O _ w.in-Some.ensures) (before_said O _ w.if-began_before.ensures)
    ])
    (least_said c.open-to.ensures _ c.in-None.ensures) (record { bytes = refl; block = refl; place = omega arith })
