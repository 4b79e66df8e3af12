-- What it is to be shown, from the one file or from the other.
use Rattle.std.specs.Prelude.{ℕ, List}
use Rattle.std.specs.Borrow.{Bor}
use Rattle.model.specs.Carry.{Source, in_recorded, in_carried}
use Rattle.reader.specs.LentFile.{IsPart}

-- r is the part that a source names of the one file or of the other: it has the part's bytes, and lies in that file at the part's place
abbrev pub IsShown : Bor (List ℕ) → Bor (List ℕ) → Bor (List ℕ) → Source → Type 0
IsShown r recorded carried (in_recorded p) = IsPart r recorded p
IsShown r recorded carried (in_carried p) = IsPart r carried p
