use mathlib.Core.Path.{ap}
use mathlib.Core.List.{[], ◌∷◌}
use lib.ListN.{get_or}
use Rattle.model.specs.Answers.{five_of}
use Rattle.model.specs.Calls.{numbers}
use Rattle.wire.proofs.Put.{five_put}
use Rattle.wire.proofs.write_answer.Goals as goal

pub returns : goal.returns
unfolding numbers
returns c =
    let e = c.numbers_of.ensures in (
      ap (λ l. get_or l 0 0) e,
      cc (five_put (five_of c.args.a) c.args.answer.now _ _ _ _ _
          (λ κ. get_or (e κ) 0 0 ∷ get_or (e κ) 1 0 ∷ get_or (e κ) 2 0 ∷ get_or (e κ) 3 0 ∷ get_or (e κ) 4 0 ∷ [])),
    )
