-- The first core of which it is not true that it is busy. Assumes nothing.
use Rattle.std.proofs.Common.{rules}
use Rattle.std.proofs.lemmas.Iterator.Adapters.{option_map_id}
use Rattle.std.proofs.lemmas.Iterator.Search.{find_from_yields_List}
use mathlib.Core.Path.{◌∙◌, sym}
use Prim.Native.Nat.{ℕ}
use mathlib.Core.Bool.{not}
use Rattle.idle.specs.Idle.{busy_in, idle_core_in}
use Rattle.idle.proofs.Ranges.{YieldsList-from_inclusive, find_first, numbers_from_one}
use Rattle.idle.proofs.running.Records.idle_core.Goals as goal

pub returns : goal.returns
unfolding idle_core_in
returns c =
    let a = c.args in
    let p = λ (k : ℕ). not (busy_in a.self.start.now a.self.end.now a.self.core.now k a.t) in
    sym (option_map_id _) ∙ find_from_yields_List p _ _ _ c.find.ensures.ran (YieldsList-from_inclusive _) (λ x b q h. search rules) ∙ rw (numbers_from_one c.new.result a.self.cores c.new.ensures.start c.new.ensures.end c.new.ensures.exhausted) (find_first p a.self.cores 1)
