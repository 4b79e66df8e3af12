-- A file opened, and the run that it tells.
use Rattle.std.specs.Prelude.{ℕ, ◌≡◌, List, Result, Ok, Err}
use Rattle.std.specs.Borrow.{Bor}
use Rattle.model.specs.declared.refusal.Refusal.{Refusal}
use Rattle.model.specs.Answers.{refusal_numbers}
use Rattle.model.specs.File.{read, refused}
use Rattle.openfile.specs.declared.told.OpenFile.{OpenFile}

-- What opening a file gives: the file, which tells a run, or its refusal.
abbrev pub OpensRun : Bor (List ℕ) → Result OpenFile Refusal → Type 0
OpensRun file (Ok o) = o.file ≡ file
OpensRun file (Err r) = read file.now ≡ refused (refusal_numbers r).0 (refusal_numbers r).1
