-- Two results that a contract permits are the same: of `shown`, where the part lies and its bytes. Assumes nothing.
use Prim.Native.Nat.{ℕ}
use mathlib.Core.Path.{◌≡◌}
use mathlib.Core.List.{List}
use denote.Ref.{Bor}
use Rattle.base.proofs.Once.{Once, ◌also◌}
use Rattle.model.specs.Carry.{Source, in_recorded, in_carried, shown}
use Rattle.reader.proofs.Once.{part_once}
use Rattle.shown.specs.Shown.{IsShown}
use Rattle.shown.proofs.shown.Reads as shows

source_once : (recorded carried r r' : Bor (List ℕ)) (s : Source) → IsShown r recorded carried s → IsShown r' recorded carried s
    → (r.ref_ptr also r.now) ≡ (r'.ref_ptr also r'.now)
source_once recorded carried r r' (in_recorded p) = part_once recorded r r' p
source_once recorded carried r r' (in_carried p) = part_once carried r r' p

pub shown_once : Once shows.Pre shows.Post (λ r exit. r.ref_ptr also r.now)
shown_once κs args _ r r' exit exit' =
    source_once args.0 args.1.0 r r' (shown args.0.now args.1.0.now (args.1.1.0, args.1.1.1.0))
