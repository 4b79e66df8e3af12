-- The least of the last ends, as one of them. Assumes nothing.
use Prim.Native.Nat.{ℕ, ◌≤◌, ◌<◌}
use mathlib.Core.Path.{◌≡◌}
use borrow.Author.Rules.{rules}
use native.Mathlib.Omega.{arith}
use lib.ListN.{length, get_or}
use Rattle.starts.proofs.Taking.{least_in}
use Rattle.starts.proofs.cores.Cores.least_end.Goals as goal

pub returns : goal.returns
returns c =
    let ys = c.iter.result.rest.now in
    let here : (k : ℕ) × (k < length ys) × (get_or ys k 0 ≡ c.unwrap.result) = search rules in
    let least : (k : ℕ) → k < length ys → c.unwrap.result ≤ get_or ys k 0 = search rules in
    least_in c.args.self.now.n c.iter.ensures.rest (omega arith) here least
