-- One of the cores is free, and the first that is is taken. Assumes nothing.
use Prim.Native.Nat.{◌≤◌, ◌<◌}
use borrow.Author.Rules.{rules}
use native.Mathlib.Omega.{arith}
use lib.ListN.{get_or}
use Rattle.std.proofs.lemmas.Iterator.{first_from_Range}
use Rattle.starts.proofs.Taking.{Tried, some_free, free_at}
use Rattle.starts.proofs.cores.Cores.take.Goals as goal
use Rattle.starts.proofs.cores.Cores.take.Goals.{After-find}

tried : (c : After-find) → Tried c.args.self.now.ends c.args.self.now.n c.args.t c.find.result
tried c =
    let xs = c.args.self.now.ends in
    let t = c.args.t in
    first_from_Range _ _ _ c.find.result (λ k. get_or xs k 0 ≤ t) (λ k. t < get_or xs k 0) c.find.ensures.ran
    (λ k q h. search rules) (λ k q h. search rules)

pub unwrap-core-requires : goal.unwrap-core-requires
unwrap-core-requires c = some_free _ _ _ c.find.result (tried ((goal.at.unwrap-core-requires c).After-find)) c.requires

pub bounds-self-core : goal.bounds-self-core
bounds-self-core c =
    let f = free_at _ _ _ c.unwrap-core.ensures (tried ((goal.at.bounds-self-core c).After-find)) in
    omega (arith, f.1, c.args.self.now.range)
