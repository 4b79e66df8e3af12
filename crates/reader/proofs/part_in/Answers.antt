use mathlib.Core.Path.{refl}
use native.Mathlib.Omega.{arith}
use Rattle.reader.proofs.Parts.{is_front, is_there}
use Rattle.reader.proofs.part_in.Goals as goal
use Rattle.reader.proofs.part_in.Goals.{else-k-n-via-then-k-n+else-to-file, else-k-n-via-else-k-n}

pub returns-then-to-file : goal.returns-then-to-file
returns-then-to-file c = is_there _ _ _ _ _ _ (omega arith) (omega arith) refl refl refl refl

pub returns : goal.returns
returns c =
    is_front _ _ _ _ _ _
    (λ h. elim c.else-k-n.branch [ else-k-n-via-then-k-n+else-to-file w ↦ omega (arith, h.1) | else-k-n-via-else-k-n w ↦ omega (arith, h.0) ]) refl
    refl
