-- What import and export say and write is exactly what the request says. Assumes nothing.
use Rattle.std.specs.Prelude.{None, Option, Some}
use Prim.Native.Nat.{ℕ, ◌≤◌, ◌<◌}
use mathlib.Core.Path.{◌≡◌, refl, sym, ◌∙◌, ap, subst}
use mathlib.Core.Logic.{◌↔◌}
use mathlib.Core.List.{List}
use native.Mathlib.Omega.{arith}
use native.Mathlib.Decide.{dec_lt}
use lib.Dec.{leb}
use lib.ListN.{length}
use Rattle.base.proofs.Test.{says_leb, says_true, says_false, decides}
use Rattle.model.specs.declared.record.Record.{Record}
use Rattle.model.specs.Model.{Run}
use Rattle.model.specs.File.{Read, refused, whole, read, bytes}
use Rattle.model.specs.Answers.{Outcome, refused_with, gate_outcome, written_out}
use Rattle.model.proofs.Gates.{gate_opens, gate_closes}
use Rattle.exchange.specs.TextTable.{all_taken, table_read}
use Rattle.exchange.specs.Import.{imported, import_if, import_of, import_table, ImportSays}
use Rattle.exchange.specs.Export.{exported, RiseStrictly, export_run, export_of, export_file, ExportSays}
use Rattle.exchange.proofs.TakenOrRefused.{taken_exactly, refused_exactly}
use Rattle.exchange.proofs.ExportedLines.{says_rise}

-- 11, or it is written
room_opens : (out : List ℕ) (room : ℕ) → length out ≤ room → gate_outcome 11 (leb (length out) room) (written_out out) ≡ written_out out
room_opens out room h = gate_opens 11 _ _ _ (says_true (says_leb (length out) room) h) refl

room_closes : (out : List ℕ) (room : ℕ) → room < length out → gate_outcome 11 (leb (length out) room) (written_out out) ≡ refused_with 11 0
room_closes out room h = gate_closes 11 _ _ (says_false (says_leb (length out) room) (λ l. omega arith))

-- Import
-- ------
module _ (b T : List ℕ) (room : ℕ) where
  -- by what the file and the table tell
  by_file : {ν i : ℕ} → read b ≡ refused ν i → import_table b T room ≡ refused_with ν i
  unfolding import_table
  by_file e = ap (λ r. import_of r T room) e

  module _ {ρ : Run} (e : read b ≡ whole ρ) where
    by_line : {ν n : ℕ} → (table_read T).fault ≡ Some (ν, n) → import_table b T room ≡ refused_with ν n
    unfolding import_table
    by_line q = ap (λ r. import_of r T room) e ∙ ap (λ o. import_if o (bytes (imported ρ (table_read T).records)) room) q

    by_room : {xs : List Record} → table_read T ≡ all_taken xs → import_table b T room ≡ import_if None (bytes (imported ρ xs)) room
    unfolding import_table
    by_room q = ap (λ r. import_of r T room) e ∙ ap (λ t. import_if t.fault (bytes (imported ρ t.records)) room) q

  said : ImportSays b T room (import_table b T room)
  said = go (read b) refl
    where
      fits : {ρ : Run} (xs : List Record) → read b ≡ whole ρ → table_read T ≡ all_taken xs → Dec (room < length (bytes (imported ρ xs)))
          → ImportSays b T room (import_table b T room)
      fits {ρ} xs e q (yes h) =
          let (W, t) = (taken_exactly T xs).0 q in
          subst (ImportSays b T room) (sym (by_room e q ∙ room_closes (bytes (imported ρ xs)) room h)) (ImportSays.no_room e W t h)
      fits {ρ} xs e q (no h) =
          let (W, t) = (taken_exactly T xs).0 q in
          let l : length (bytes (imported ρ xs)) ≤ room = omega (arith, h) in
          subst (ImportSays b T room) (sym (by_room e q ∙ room_opens (bytes (imported ρ xs)) room l)) (ImportSays.taken e W t l)

      lines : {ρ : Run} → read b ≡ whole ρ → (o : Option (ℕ × ℕ)) → (table_read T).fault ≡ o → ImportSays b T room (import_table b T room)
      lines {ρ} e (Some p) q = subst (ImportSays b T room) (sym (by_line e q)) (ImportSays.line_refused e ((refused_exactly T p.0 p.1).0 q))
      lines {ρ} e None q =
          let xs : List Record = (table_read T).records in
          let all : table_read T ≡ all_taken xs = λ κ. record { records = (table_read T).records; fault = q κ } in
          fits xs e all (dec_lt room (length (bytes (imported ρ xs))))

      go : (r : Read) → read b ≡ r → ImportSays b T room (import_table b T room)
      go (refused ν i) e = subst (ImportSays b T room) (sym (by_file e)) (ImportSays.file_refused e)
      go (whole ρ) e = lines e (table_read T).fault refl

  pub import_says : (o : Outcome) → (import_table b T room ≡ o) ↔ ImportSays b T room o
  import_says o = (λ e. subst (ImportSays b T room) e said, from)
    where
      from : {o : Outcome} → ImportSays b T room o → import_table b T room ≡ o
      from (ImportSays.file_refused e) = by_file e
      from (ImportSays.line_refused {ν = ν} {n = n} e R) = by_line e ((refused_exactly T ν n).1 R)
      from (ImportSays.no_room {ρ = ρ} {xs = xs} e W t h) = by_room e ((taken_exactly T xs).1 (W, t)) ∙ room_closes (bytes (imported ρ xs)) room h
      from (ImportSays.taken {ρ = ρ} {xs = xs} e W t h) = by_room e ((taken_exactly T xs).1 (W, t)) ∙ room_opens (bytes (imported ρ xs)) room h

-- Export
-- ------
module _ (b : List ℕ) (room : ℕ) where
  by_own : {ν i : ℕ} → read b ≡ refused ν i → export_file b room ≡ refused_with ν i
  unfolding export_file
  by_own e = ap (λ r. export_of r room) e

  module _ {ρ : Run} (e : read b ≡ whole ρ) where
    by_rise : ¬ RiseStrictly ρ → export_file b room ≡ refused_with 14 0
    unfolding export_file export_run
    by_rise f = ap (λ r. export_of r room) e ∙ gate_closes 14 _ _ (says_false (says_rise ρ) f)

    by_size : RiseStrictly ρ → export_file b room ≡ gate_outcome 11 (leb (length (exported ρ)) room) (written_out (exported ρ))
    unfolding export_file export_run
    by_size R = ap (λ r. export_of r room) e ∙ gate_opens 14 _ _ _ (says_true (says_rise ρ) R) refl

  exported_said : ExportSays b room (export_file b room)
  exported_said = go (read b) refl
    where
      fits : {ρ : Run} → read b ≡ whole ρ → RiseStrictly ρ → Dec (room < length (exported ρ)) → ExportSays b room (export_file b room)
      fits {ρ} e R (yes h) = subst (ExportSays b room) (sym (by_size e R ∙ room_closes (exported ρ) room h)) (ExportSays.no_room e R h)
      fits {ρ} e R (no h) =
          let l : length (exported ρ) ≤ room = omega (arith, h) in
          subst (ExportSays b room) (sym (by_size e R ∙ room_opens (exported ρ) room l)) (ExportSays.told e R l)

      rising : {ρ : Run} → read b ≡ whole ρ → Dec (RiseStrictly ρ) → ExportSays b room (export_file b room)
      rising {ρ} e (yes R) = fits e R (dec_lt room (length (exported ρ)))
      rising {ρ} e (no f) = subst (ExportSays b room) (sym (by_rise e f)) (ExportSays.not_rising e f)

      go : (r : Read) → read b ≡ r → ExportSays b room (export_file b room)
      go (refused ν i) e = subst (ExportSays b room) (sym (by_own e)) (ExportSays.file_refused e)
      go (whole ρ) e = rising e (decides (says_rise ρ))

  pub export_says : (o : Outcome) → (export_file b room ≡ o) ↔ ExportSays b room o
  export_says o = (λ e. subst (ExportSays b room) e exported_said, from)
    where
      from : {o : Outcome} → ExportSays b room o → export_file b room ≡ o
      from (ExportSays.file_refused e) = by_own e
      from (ExportSays.not_rising e f) = by_rise e f
      from (ExportSays.no_room {ρ = ρ} e R h) = by_size e R ∙ room_closes (exported ρ) room h
      from (ExportSays.told {ρ = ρ} e R h) = by_size e R ∙ room_opens (exported ρ) room h
