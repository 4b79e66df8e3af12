-- Two results that a contract permits are the same: of `open_table`. Assumes nothing.
use Prim.Native.Nat.{ℕ}
use mathlib.Core.Path.{◌≡◌}
use mathlib.Core.List.{List}
use Rattle.base.proofs.Once.{Once}
use Rattle.table.proofs.LentLaws.{lent_same}
use Rattle.standing.specs.Carriable.{OpensTable}
use Rattle.standing.proofs.open_table.Reads as open_table

-- the table of what stands at H
pub opens_once : (file : List ℕ) (H' m : ℕ) (t t' : List ℕ) → OpensTable file H' m t → OpensTable file H' m t' → t ≡ t'
opens_once file H' m t t' p q = lent_same p q

pub open_table_once : Once open_table.Pre open_table.Post (λ r exit. exit.1.1.1.0.now)
open_table_once κs args _ r r' exit exit' p q = opens_once _ _ _ _ _ p q
