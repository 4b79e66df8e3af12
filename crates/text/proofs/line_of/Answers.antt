use Rattle.text.proofs.Lined.{wrote_lined, lined_within}
use Rattle.text.proofs.line_of.Goals as goal

pub returns : goal.returns
returns c =
    let (long, within, text) = c.put_line-size.ensures in
    let e = wrote_lined _ long within text in
    (e, lined_within _ _ e)
