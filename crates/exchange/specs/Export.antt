-- Document 02, request 1: export. It writes the records of a run file as a table.
use Rattle.std.specs.Prelude.{ℕ, suc, ◌-◌, ◌≤◌, ◌<◌, ◌≡◌, Bool, not, List, map, leb, length}
use Rattle.base.specs.Find.{first, found}
use Rattle.model.specs.Model.{Run, IsRecord, rec}
use Rattle.model.specs.File.{Read, refused, whole, read}
use Rattle.model.specs.Answers.{Five, Outcome, refusal, refused_with, gate_outcome, bytes_written, written_out, Listed}
use Rattle.model.specs.Calls.{OutputCall, output_call}
use Rattle.sorting.specs.Sorted.{by_key}
use Rattle.exchange.specs.RecordLine.{table_of}
use Rattle.exchange.specs.Import.{JobBefore, job_before}

-- Export writes lines by start, then by record place.
abbrev pub start_times : Run → List ℕ
start_times ρ = map (λ x. x.start) ρ.records

unfoldable pub by_start : Run → List ℕ
by_start ρ = by_key (start_times ρ) (length ρ.records)

unfoldable pub exported : Run → List ℕ
exported ρ = table_of (map (rec ρ) (by_start ρ))

-- The records rise strictly by task and job.
abbrev pub RiseStrictly : Run → Type 0
RiseStrictly ρ = (a b : ℕ) → a < b → IsRecord ρ b → JobBefore (rec ρ a) (rec ρ b)

-- computed: each and the next (law `says_rise`)
unfoldable pub rise : Run → Bool
rise ρ = not (found (first (λ k. not (job_before (rec ρ k) (rec ρ (suc k)))) 0 (length ρ.records - 1)))

-- Refusals, after the file's own: export gives 14 when records don't rise strictly; 11 comes last.
unfoldable pub export_run : Run → ℕ → Outcome
export_run ρ room =
    gate_outcome 14 (rise ρ)
    (gate_outcome 11 (leb (length (exported ρ)) room)
    (written_out (exported ρ)))

abbrev pub export_of : Read → ℕ → Outcome
export_of (refused ν i) room = refused_with ν i
export_of (whole ρ) room = export_run ρ room

-- of a file, where the output has room for so many bytes (law `export_says`)
unfoldable pub export_file : List ℕ → ℕ → Outcome
export_file b room = export_of (read b) room

-- In words: the file's own refusals; 14 where the records don't rise strictly; 11 where the table does not fit; else it is written.
pub data ExportSays (b : List ℕ) (room : ℕ) : Outcome → Type 0 where
  file_refused : {ν i : ℕ} → read b ≡ refused ν i → ExportSays b room (refused_with ν i)
  not_rising : {ρ : Run} → read b ≡ whole ρ → ¬ RiseStrictly ρ → ExportSays b room (refused_with 14 0)
  no_room : {ρ : Run} → read b ≡ whole ρ → RiseStrictly ρ → room < length (exported ρ) → ExportSays b room (refused_with 11 0)
  told : {ρ : Run} → read b ≡ whole ρ → RiseStrictly ρ → length (exported ρ) ≤ room → ExportSays b room (written_out (exported ρ))

-- what the call of a host returns and leaves
abbrev pub export_call : List ℕ → List ℕ → List ℕ → OutputCall
export_call file output answer = output_call (export_file file (length output)) output answer

-- A row of the table of answers that an export can give.
pub data ExportRow : Five → Type 0 where
  export_file_row : {ν i : ℕ} → Listed 8 ν i → ExportRow (refusal ν i)
  export_not_rising : ExportRow (refusal 14 0)
  export_room : ExportRow (refusal 11 0)
  export_written : (n : ℕ) → ExportRow (bytes_written n)
