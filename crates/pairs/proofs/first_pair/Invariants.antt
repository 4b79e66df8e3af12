-- For no a before this one is anything found. Assumes nothing.
use Rattle.std.specs.Prelude.{Option}
use Prim.Native.Nat.{ℕ, ◌<◌}
use mathlib.Core.Path.{◌≡◌}
use Rattle.base.proofs.Loop.{NothingTo}
use Rattle.pairs.proofs.first_pair.Given as goal

abbrev pub invariant-loop-a : goal.invariant-loop-a
invariant-loop-a g l = (f : ℕ → Option ℕ) → ((a : ℕ) (o : Option ℕ) → a < l.n → goal.F-post g l.find a o → o ≡ f a) → NothingTo f 0 l.a
