-- Every import and every export gets one of the listed answers, in numbers of four bytes; what is not written leaves nothing. Assumes that
-- the file is a list of bytes where numbers are to fit.
use Prim.Native.Nat.{ℕ, ◌+◌, ◌*◌, ◌≤◌}
use mathlib.Core.Path.{◌≡◌, refl}
use mathlib.Core.List.{List, [], ◌∷◌, map}
use native.Mathlib.Omega.{arith}
use native.Mathlib.Nat.{mul-suc}
use lib.ListN.{length, length-append, length-map}
use Rattle.model.specs.declared.record.Record.{Record}
use Rattle.model.specs.Model.{Run, rec}
use Rattle.model.specs.File.{Bytes, whole, read, joined, bytes}
use Rattle.model.specs.Answers.{Outcome, refusal, written_out}
use Rattle.model.proofs.Demand1.{refused_listed}
use Rattle.model.proofs.Reading.{read_limits}
use Rattle.model.proofs.Refusals.{refused_exactly_when}
use Rattle.model.proofs.RoundTrip.{length-bytes}
use Rattle.model.proofs.FiveFit.{FiveFit, refusal_fits}
use Rattle.model.proofs.RefusedOrGiven.{Outcomes, few_fit}
use Rattle.sorting.proofs.Sorted.{length_by_key}
use Rattle.exchange.specs.RecordLine.{header, record_line, table_of, most_table}
use Rattle.exchange.specs.TextTable.{RefusesAt, no_header, bad_line, too_many, given_before}
use Rattle.exchange.specs.Import.{imported, import_table, ImportSays, ImportRow, import_file, import_bad_line, import_too_many, import_given, import_room, import_written}
use Rattle.exchange.specs.Export.{start_times, by_start, exported, export_file, ExportSays, ExportRow, export_file_row, export_not_rising, export_room, export_written}
use Rattle.exchange.proofs.LineLaws.{length-header, length-line}
use Rattle.exchange.proofs.ImportedRun.{imported_within}
use Rattle.exchange.proofs.SaysExactly.{import_says, export_says}

-- The table of some records.
-- --------------------------
joined_most : {A : Type 0} (f : A → List ℕ) (most : ℕ) → ((x : A) → length (f x) ≤ most) → (xs : List A) → length (joined f xs) ≤ most * length xs
joined_most f most h [] = omega arith
joined_most f most h (x ∷ xs) = omega (arith, length-append (f x) (joined f xs), h x, joined_most f most h xs, mul-suc most (length xs))

pub table_most : (xs : List Record) → length (table_of xs) ≤ 32 + 66 * length xs
table_most xs = omega (arith, length-append header (joined record_line xs), length-header, joined_most record_line 66 length-line xs)

-- Import
-- ------
module _ {T : List ℕ} where
  line_row : {ν n : ℕ} → RefusesAt T ν n → ImportRow (refusal ν n)
  line_row (no_header f) = import_bad_line 1 (omega arith) (omega arith)
  line_row (bad_line xs c l W e f) = import_bad_line (length xs + 2) (omega arith) (omega (arith, W.few))
  line_row (too_many xs x l rest W e L h) = import_too_many
  line_row (given_before xs x l rest W e L h G) = import_given (length xs + 2) (omega (arith, G.1)) (omega arith)

  line_fits : {ν n : ℕ} → RefusesAt T ν n → FiveFit (refusal ν n)
  line_fits (no_header f) = few_fit 4 12 1 (omega arith) (omega arith) (omega arith)
  line_fits (bad_line xs c l W e f) = few_fit 4 12 (length xs + 2) (omega arith) (omega arith) (omega (arith, W.few))
  line_fits (too_many xs x l rest W e L h) = few_fit 4 7 0 (omega arith) (omega arith) (omega arith)
  line_fits (given_before xs x l rest W e L h G) = few_fit 4 13 (length xs + 2) (omega arith) (omega arith) (omega arith)

module _ (b T : List ℕ) (room : ℕ) where
  says_import : ImportSays b T room (import_table b T room)
  says_import = (import_says b T room (import_table b T room)).0 refl

  pub import_comes : Outcomes 5 (λ n. n) (import_table b T room)
  unfolding written_out
  import_comes = go says_import
    where
      go : {o : Outcome} → ImportSays b T room o → Outcomes 5 (λ n. n) o
      go (ImportSays.file_refused {ν = ν} {i = i} e) = Outcomes.refuses ν i refl
      go (ImportSays.line_refused {ν = ν} {n = n} e R) = Outcomes.refuses ν n refl
      go (ImportSays.no_room e W t h) = Outcomes.refuses 11 0 refl
      go (ImportSays.taken {ρ = ρ} {xs = xs} e W t h) = Outcomes.gives refl refl

  -- every file and every table
  pub every_import_answered : ImportRow (import_table b T room).told
  unfolding written_out
  every_import_answered = go says_import
    where
      go : {o : Outcome} → ImportSays b T room o → ImportRow o.told
      go (ImportSays.file_refused {ν = ν} {i = i} e) = import_file (refused_listed b ν i e)
      go (ImportSays.line_refused e R) = line_row R
      go (ImportSays.no_room e W t h) = import_room
      go (ImportSays.taken {ρ = ρ} {xs = xs} e W t h) = import_written (length (bytes (imported ρ xs)))

  pub import_fits : Bytes b → FiveFit (import_table b T room).told
  unfolding written_out
  import_fits B = go says_import
    where
      go : {o : Outcome} → ImportSays b T room o → FiveFit o.told
      go (ImportSays.file_refused {ν = ν} {i = i} e) = refusal_fits b B 8 ν i (omega arith) (refused_listed b ν i e) ((refused_exactly_when b ν i).0 e).1
      go (ImportSays.line_refused e R) = line_fits R
      go (ImportSays.no_room e W t h) = few_fit 4 11 0 (omega arith) (omega arith) (omega arith)
      go (ImportSays.taken {ρ = ρ} {xs = xs} e W t h) =
          let L = imported_within ρ xs W (read_limits b ρ e) in
          few_fit 5 (length (bytes (imported ρ xs))) 0 (omega arith)
          (omega (arith, length-bytes (imported ρ xs), L.task_total.1, L.record_total)) (omega arith)

-- Export
-- ------
module _ (b : List ℕ) (room : ℕ) where
  says_export : ExportSays b room (export_file b room)
  says_export = (export_says b room (export_file b room)).0 refl

  pub export_comes : Outcomes 5 (λ n. n) (export_file b room)
  unfolding written_out
  export_comes = go says_export
    where
      go : {o : Outcome} → ExportSays b room o → Outcomes 5 (λ n. n) o
      go (ExportSays.file_refused {ν = ν} {i = i} e) = Outcomes.refuses ν i refl
      go (ExportSays.not_rising e f) = Outcomes.refuses 14 0 refl
      go (ExportSays.no_room e R h) = Outcomes.refuses 11 0 refl
      go (ExportSays.told {ρ = ρ} e R h) = Outcomes.gives refl refl

  pub every_export_answered : ExportRow (export_file b room).told
  unfolding written_out
  every_export_answered = go says_export
    where
      go : {o : Outcome} → ExportSays b room o → ExportRow o.told
      go (ExportSays.file_refused {ν = ν} {i = i} e) = export_file_row (refused_listed b ν i e)
      go (ExportSays.not_rising e f) = export_not_rising
      go (ExportSays.no_room e R h) = export_room
      go (ExportSays.told {ρ = ρ} e R h) = export_written (length (exported ρ))

  -- a table has at most 33,824 bytes
  pub exported_most : (ρ : Run) → read b ≡ whole ρ → length (exported ρ) ≤ most_table
  unfolding exported by_start
  exported_most ρ e =
      omega (arith, table_most (map (rec ρ) (by_start ρ)), length-map (by_start ρ) (rec ρ), length_by_key (start_times ρ) (length ρ.records), (read_limits b ρ e).record_total)

  pub export_fits : Bytes b → FiveFit (export_file b room).told
  unfolding written_out
  export_fits B = go says_export
    where
      go : {o : Outcome} → ExportSays b room o → FiveFit o.told
      go (ExportSays.file_refused {ν = ν} {i = i} e) = refusal_fits b B 8 ν i (omega arith) (refused_listed b ν i e) ((refused_exactly_when b ν i).0 e).1
      go (ExportSays.not_rising e f) = few_fit 4 14 0 (omega arith) (omega arith) (omega arith)
      go (ExportSays.no_room e R h) = few_fit 4 11 0 (omega arith) (omega arith) (omega arith)
      go (ExportSays.told {ρ = ρ} e R h) = few_fit 5 (length (exported ρ)) 0 (omega arith) (omega (arith, exported_most ρ e)) (omega arith)
