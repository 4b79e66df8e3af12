-- Two results that a contract permits are the same: of the function of this crate that others call. Assumes nothing.
use Prim.Native.Nat.{ℕ}
use mathlib.Core.Path.{◌≡◌, sym, ◌∙◌}
use mathlib.Core.List.{List}
use Rattle.std.specs.Prelude.{Result}
use Rattle.base.proofs.Once.{Once, ◌also◌, both}
use Rattle.model.specs.declared.record.Record.{Record}
use Rattle.model.specs.declared.refusal.Refusal.{Refusal}
use Rattle.model.proofs.Once.{numbered_once}
use Rattle.readlines.specs.Scan.{Scans}
use Rattle.readlines.proofs.scan.read_lines.Reads as read_lines

-- what is said of a table, and its records at the front of a list
pub scans_once : (table : List ℕ) (before : List Record) (r r' : Result ℕ Refusal) (rows rows' : List Record) → Scans table before r rows
    → Scans table before r' rows' → (r also rows) ≡ (r' also rows')
scans_once table before r r' rows rows' p q = both (numbered_once r r' _ p.0 q.0) (p.1 ∙ sym q.1)

pub read_lines_once : Once read_lines.Pre read_lines.Post (λ r exit. r also exit.1.0.now)
read_lines_once κs args _ r r' exit exit' p q = scans_once _ _ r r' _ _ p q
