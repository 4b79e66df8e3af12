-- Document 02, request 1: import. It takes a run file's setting and tasks and a table, and writes a run file.
use Rattle.std.specs.Prelude.{ℕ, ◌≤◌, ◌<◌, ◌≡◌, ◌⊎◌, Bool, ◌&&◌, ◌||◌, List, leb, ltb, eqb, length, None, Option, Some}
use Rattle.model.specs.declared.record.Record.{Record}
use Rattle.model.specs.Model.{Run}
use Rattle.model.specs.File.{Read, refused, whole, read, bytes}
use Rattle.model.specs.Answers.{Five, Outcome, refusal, refused_with, gate_outcome, bytes_written, written_out, Listed}
use Rattle.model.specs.Calls.{OutputCall, output_call}
use Rattle.sorting.specs.Sorted.{sorted_by}
use Rattle.exchange.specs.RecordLine.{table_of}
use Rattle.exchange.specs.TextTable.{Taken, RefusesAt, table_read}

-- by task, then by job
abbrev pub JobBefore : Record → Record → Type 0
JobBefore x y = (x.task < y.task) ⊎ ((x.task ≡ y.task) × (x.job < y.job))

unfoldable pub job_before : Record → Record → Bool
job_before x y = ltb x.task y.task || (eqb x.task y.task && ltb x.job y.job)

-- It writes the run file with the records in rising order of task and job.
unfoldable pub imported : Run → List Record → Run
imported ρ xs = record { setting = ρ.setting; tasks = ρ.tasks; records = sorted_by job_before xs }

-- Refusals, after the file's own: those of the lines; 11 comes last.
abbrev pub import_if : Option (ℕ × ℕ) → List ℕ → ℕ → Outcome
import_if (Some p) out room = refused_with p.0 p.1
import_if None out room = gate_outcome 11 (leb (length out) room) (written_out out)

abbrev pub import_of : Read → List ℕ → ℕ → Outcome
import_of (refused ν i) T room = refused_with ν i
import_of (whole ρ) T room = import_if (table_read T).fault (bytes (imported ρ (table_read T).records)) room

-- of a file and a table, where the output has room for so many bytes (law `import_says`)
unfoldable pub import_table : List ℕ → List ℕ → ℕ → Outcome
import_table b T room = import_of (read b) T room

-- In words: the file's own refusals; then those of the table's lines; 11 where the run file of the lines' records does not fit; else it is
-- written.
pub data ImportSays (b T : List ℕ) (room : ℕ) : Outcome → Type 0 where
  file_refused : {ν i : ℕ} → read b ≡ refused ν i → ImportSays b T room (refused_with ν i)
  line_refused : {ρ : Run} {ν n : ℕ} → read b ≡ whole ρ → RefusesAt T ν n → ImportSays b T room (refused_with ν n)
  no_room : {ρ : Run} {xs : List Record} → read b ≡ whole ρ → Taken xs → T ≡ table_of xs → room < length (bytes (imported ρ xs))
      → ImportSays b T room (refused_with 11 0)
  taken : {ρ : Run} {xs : List Record} → read b ≡ whole ρ → Taken xs → T ≡ table_of xs → length (bytes (imported ρ xs)) ≤ room
      → ImportSays b T room (written_out (bytes (imported ρ xs)))

-- what the call of a host returns and leaves
abbrev pub import_call : List ℕ → List ℕ → List ℕ → List ℕ → OutputCall
import_call file table output answer = output_call (import_table file table (length output)) output answer

-- A row of the table of answers that an import can give; 12 and 13 carry the line number in the first place.
pub data ImportRow : Five → Type 0 where
  import_file : {ν i : ℕ} → Listed 8 ν i → ImportRow (refusal ν i)
  import_bad_line : (n : ℕ) → 1 ≤ n → n ≤ 514 → ImportRow (refusal 12 n)
  import_too_many : ImportRow (refusal 7 0)
  import_given : (n : ℕ) → 3 ≤ n → n ≤ 513 → ImportRow (refusal 13 n)
  import_room : ImportRow (refusal 11 0)
  import_written : (n : ℕ) → ImportRow (bytes_written n)
