-- What is asked for to write a carry: a run that obeys the rules and can be carried, and room for the file.
use Rattle.std.specs.Prelude.{ℕ, ◌≤◌, ◌≡◌, List}
use Rattle.model.specs.declared.task.Task.{Task}
use Rattle.model.specs.Calls.{front}
use Rattle.model.specs.Carry.{carried}
use Rattle.model.specs.File.{size_of, bytes}
use Rattle.model.specs.Model.{Run}
use Rattle.model.specs.Rules.{Obeys}
use Rattle.openfile.specs.declared.head.Head.{Head}
use Rattle.openfile.specs.Head.{run_in}
use Rattle.standing.specs.Carriable.{Carriable}

pub record Writable (b : List ℕ) (h : Head) (l : List Task) (H' m room : ℕ) (ρ : Run) : Type 0 where
  pub obeys : Obeys ρ
  pub carriable : Carriable b h l H' m ρ
  pub fits : size_of h.tasks m ≤ room

-- the file of the carry of the run that a file tells, at the front of an output
abbrev pub WritesCarry : List ℕ → ℕ → List ℕ → List ℕ → Type 0
WritesCarry b H' before after = after ≡ front (bytes (carried (run_in b) H')) before
