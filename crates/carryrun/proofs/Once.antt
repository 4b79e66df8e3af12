-- Two results that a contract permits are the same: of `write_carry`. Assumes nothing.
use Prim.Native.Nat.{ℕ}
use mathlib.Core.Path.{◌≡◌, sym, ◌∙◌}
use mathlib.Core.List.{List}
use Rattle.base.proofs.Once.{Once}
use Rattle.carryrun.specs.Writable.{WritesCarry}
use Rattle.carryrun.proofs.write_carry.Reads as write_carry

-- the carry of the run of a file, written
pub writes_once : (file : List ℕ) (H' : ℕ) (before after after' : List ℕ) → WritesCarry file H' before after
    → WritesCarry file H' before after' → after ≡ after'
writes_once file H' before after after' p q = p ∙ sym q

pub write_carry_once : Once write_carry.Pre write_carry.Post (λ r exit. exit.1.1.1.1.0.now)
write_carry_once κs args _ r r' exit exit' p q = writes_once _ _ _ _ _ p q
