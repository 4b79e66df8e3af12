-- A line as 64 bytes and its size: the line, and zeros after it.
use Rattle.std.specs.Prelude.{ℕ, ◌-◌, List, ◌++◌, length, replicate}
use Rattle.text.specs.declared.Line.{Line}

unfoldable pub lined : List ℕ → Line
lined bs = record { text = bs ++ replicate (64 - length bs) 0; size = length bs }
