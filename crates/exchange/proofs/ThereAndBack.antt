-- Import of export gives the same file back. Assumes that the file is a list of bytes.
use Rattle.std.specs.Prelude.{None}
use Prim.Native.Nat.{ℕ, ◌≤◌, ◌<◌}
use mathlib.Core.Path.{◌≡◌, refl, sym, ◌∙◌, ap}
use mathlib.Core.Logic.{inl, inr}
use mathlib.Core.List.{List, map}
use native.Mathlib.Omega.{arith}
use native.Mathlib.Decide.{dec_lt}
use lib.ListN.{length}
use Rattle.base.proofs.Test.{says_leb, says_true}
use Rattle.model.specs.declared.record.Record.{Record}
use Rattle.model.specs.Model.{Run, IsRecord, job_of, no_record, rec}
use Rattle.model.specs.File.{Bytes, RecordFits, bytes, whole, read}
use Rattle.model.specs.Answers.{written_out}
use Rattle.model.proofs.FiveFit.{record_fits}
use Rattle.model.proofs.Gates.{gate_opens}
use Rattle.model.proofs.Reading.{read_limits}
use Rattle.model.proofs.RecordBytes.{bytes_back}
use Rattle.sorting.proofs.Entries.{same_sym, same_length, each_carried}
use Rattle.sorting.proofs.Rising.{each_from, rises_map}
use Rattle.exchange.specs.TextTable.{Taken, all_taken, table_read}
use Rattle.exchange.specs.Import.{imported, import_if, import_of, import_table}
use Rattle.exchange.specs.Export.{by_start, exported, RiseStrictly, export_of, export_run, export_file}
use Rattle.exchange.proofs.TakenOrRefused.{taken_exactly}
use Rattle.exchange.proofs.ImportedRun.{job_apart, says_same_record, same_record, imported_only}
use Rattle.exchange.proofs.ExportedLines.{says_rise, rise_rises, StartsFirst, lines_rise, lines_within, exported_same}

module _ (b : List ℕ) (B : Bytes b) (ρ : Run) (reads : read b ≡ whole ρ) (R : RiseStrictly ρ) where
  abbrev lines : List Record
  lines = map (rec ρ) (by_start ρ)

  -- two lines are of two jobs
  lines_apart : (a c : ℕ) → IsRecord ρ a → IsRecord ρ c → StartsFirst ρ a c → ¬ (job_of (rec ρ a) ≡ job_of (rec ρ c))
  lines_apart a c h k s e = go (dec_lt a c) (dec_lt c a) s
    where
      go : Dec (a < c) → Dec (c < a) → StartsFirst ρ a c → ⊥
      go (yes l) d w = job_apart (rec ρ a) (rec ρ c) (R a c l k) e
      go (no l) (yes g) w = job_apart (rec ρ c) (rec ρ a) (R c a g h) (sym e)
      go (no l) (no g) (inl w) = let z : a ≡ c = omega (arith, l, g) in omega (arith, ap (λ i. (rec ρ i).start) z)
      go (no l) (no g) (inr w) = absurd (l w.1)

  -- the lines of an export can be taken
  exported_taken : Taken (map (rec ρ) (by_start ρ))
  exported_taken =
      record {
        few = omega (arith, (read_limits b ρ reads).record_total, same_length (exported_same ρ));
        fit = each_carried same_record says_same_record RecordFits (exported_same ρ) (each_from ρ.records no_record (record_fits b B ρ reads));
        apart = rises_map (rec ρ) (lines_within ρ) lines_apart (lines_rise ρ);
      }

  -- what is imported of them is the run again
  back : imported ρ (map (rec ρ) (by_start ρ)) ≡ ρ
  unfolding imported
  back =
      let e = imported_only ρ (map (rec ρ) (by_start ρ)) exported_taken ρ.records (rise_rises ρ R) (same_sym (exported_same ρ)) in
      λ κ. record { setting = ρ.setting; tasks = ρ.tasks; records = e κ }

  table_back : table_read (exported ρ) ≡ all_taken (map (rec ρ) (by_start ρ))
  unfolding exported
  table_back = (taken_exactly (exported ρ) (map (rec ρ) (by_start ρ))).1 (exported_taken, refl)

  -- For each file that isn't refused and whose records rise strictly by task and job, import (with that file) of export of it is that file.
  pub import_of_export : (room : ℕ) → length b ≤ room → import_table b (exported ρ) room ≡ written_out b
  unfolding import_table
  import_of_export room fits =
      let same : bytes (imported ρ (map (rec ρ) (by_start ρ))) ≡ b = ap bytes back ∙ bytes_back b B ρ reads in
      ap (λ r. import_of r (exported ρ) room) reads
      ∙ ap (λ r. import_if r.fault (bytes (imported ρ r.records)) room) table_back
      ∙ ap (λ out. import_if None out room) same
      ∙ gate_opens 11 _ _ _ (says_true (says_leb (length b) room) fits) refl

  pub export_given_room : (room : ℕ) → length (exported ρ) ≤ room → export_file b room ≡ written_out (exported ρ)
  unfolding export_file export_run
  export_given_room room fits =
      ap (λ r. export_of r room) reads
      ∙ gate_opens 14 _ _ _ (says_true (says_rise ρ) R) (gate_opens 11 _ _ _ (says_true (says_leb (length (exported ρ)) room) fits) refl)
