-- What an import is, one law for each answer: the file's own refusals, those of the lines, 11, and the file that is written. Assumes nothing.
use Rattle.std.specs.Prelude.{None, Option, Some, Result, Ok, Err}
use Prim.Native.Nat.{ℕ, ◌≤◌, ◌<◌}
use mathlib.Core.Path.{◌≡◌, refl, sym, ◌∙◌, ap}
use mathlib.Core.List.{List}
use native.Mathlib.Omega.{arith}
use lib.ListN.{length, take, drop, length-append}
use Rattle.std.proofs.lemmas.List.{take_at}
use Rattle.base.proofs.Test.{says_leb, says_true, says_false}
use Rattle.model.specs.declared.record.Record.{Record}
use Rattle.model.specs.declared.refusal.Refusal.{Refusal}
use Rattle.model.specs.Model.{Run}
use Rattle.model.specs.File.{read, refused, bytes, size_of}
use Rattle.model.specs.Answers.{Five, refusal, refusal_numbers, numbered, bytes_written, written_out}
use Rattle.model.specs.Calls.{front}
use Rattle.model.proofs.Gates.{gate_opens, gate_closes, leaves, leaves_refused}
use Rattle.model.proofs.RoundTrip.{length-bytes}
use Rattle.openfile.specs.declared.head.Head.{Head}
use Rattle.openfile.specs.Head.{Tells}
use Rattle.openfile.proofs.WholeOrRefused.{tells_task_count, tells_few}
use Rattle.sorting.proofs.Entries.{same_length}
use Rattle.exchange.specs.TextTable.{Taken, all_taken, table_read}
use Rattle.exchange.specs.Import.{imported, import_if, import_of, import_table}
use Rattle.exchange.proofs.ImportedRun.{imported_same}
use Rattle.exchange.proofs.TakenOrRefused.{taken_exactly}
use Rattle.readlines.specs.Scan.{scanned_by, scanned_of, laid}
use Rattle.importfile.specs.Importable.{Importable}
use Rattle.importfile.specs.LeftByImport.{Imports, ImportsOf}

-- The file's own refusals.
-- ------------------------
pub says_refused : (b T output : List ℕ) (ν i : ℕ) → read b ≡ refused ν i → Imports b T output (refusal ν i) output
unfolding import_table
says_refused b T output ν i e = leaves_refused output (ap (λ r. import_of r T (length output)) e)

-- The lines, by what is said of them.
-- -----------------------------------
module _ (T : List ℕ) {r : Result ℕ Refusal} (told : numbered r ≡ scanned_of (table_read T)) where
  pub fault_of : {f : Refusal} → r ≡ Err f → (table_read T).fault ≡ Some (refusal_numbers f)
  unfolding scanned_of
  fault_of {f} q = go (table_read T).fault (ap numbered (sym q) ∙ told)
    where
      go : (o : Option (ℕ × ℕ)) → Err (refusal_numbers f) ≡ scanned_by o (table_read T).records → o ≡ Some (refusal_numbers f)
      go None e = absurd (cc)
      go (Some p) e = cc

  all_of : {n : ℕ} → r ≡ Ok n → (n ≡ length (table_read T).records) × (table_read T ≡ all_taken (table_read T).records)
  unfolding scanned_of
  all_of {n} q = go (table_read T).fault refl (ap numbered (sym q) ∙ told)
    where
      go : (o : Option (ℕ × ℕ)) → (table_read T).fault ≡ o → Ok n ≡ scanned_by o (table_read T).records
          → (n ≡ length (table_read T).records) × (table_read T ≡ all_taken (table_read T).records)
      go None f e = (cc, λ κ. record { records = (table_read T).records; fault = f κ })
      go (Some p) f e = absurd (cc)

  -- the records that are taken are the first n rows
  pub rows_of : (before : List Record) {rows : List Record} {n : ℕ} → rows ≡ laid (table_read T).records before → r ≡ Ok n
      → (n ≤ length rows) × (table_read T ≡ all_taken (take n rows)) × Taken (take n rows)
  rows_of before {rows} {n} w q =
      let (many, all) = all_of q in
      let xs : List Record = (table_read T).records in
      let rest : List Record = drop (length xs) before in
      let e : xs ≡ take n rows = sym (ap (take n) w ∙ take_at xs rest n (sym many)) in
      let t : table_read T ≡ all_taken (take n rows) = all ∙ ap all_taken e in
      (omega (arith, ap length w, length-append xs rest), t, ((taken_exactly T (take n rows)).0 t).0)

module _ {b : List ℕ} {h : Head} {ρ : Run} (K : Tells b h ρ) (T output : List ℕ) where
  whole_is : import_table b T (length output) ≡ import_if (table_read T).fault (bytes (imported ρ (table_read T).records)) (length output)
  unfolding import_table
  whole_is = ap (λ r. import_of r T (length output)) K.reads

  pub says_line : (f : Refusal) → (table_read T).fault ≡ Some (refusal_numbers f) → Imports b T output (refusal (refusal_numbers f).0 (refusal_numbers f).1) output
  says_line f e = leaves_refused output (whole_is ∙ ap (λ o. import_if o (bytes (imported ρ (table_read T).records)) (length output)) e)

  -- all are taken
  pub says_taken : {after : List ℕ} {f : Five} {xs : List Record} → table_read T ≡ all_taken xs → ImportsOf ρ xs output f after → Imports b T output f after
  says_taken {after} {f} {xs} e (p, q) =
      let o = whole_is ∙ ap (λ t. import_if t.fault (bytes (imported ρ t.records)) (length output)) e in
      leaves output after o p q

-- 11, or the file is written.
-- ---------------------------
module _ {b : List ℕ} {h : Head} {ρ : Run} {xs : List Record} (K : Tells b h ρ) (W : Taken xs) where
  size_is : length (bytes (imported ρ xs)) ≡ size_of h.tasks (length xs)
  unfolding imported
  size_is = length-bytes (imported ρ xs) ∙ (λ κ. size_of (sym (tells_task_count K) κ) (sym (same_length (imported_same ρ xs)) κ))

  pub size_fits : size_of h.tasks (length xs) < 4294967296
  size_fits = omega (arith, tells_few K, W.few)

  pub importable : (room : ℕ) {s : ℕ} → s ≡ size_of h.tasks (length xs) → s ≤ room → Importable b h xs room ρ
  importable room e f = record { tells = K; taken = W; fits = omega arith }

  module _ (output : List ℕ) {s : ℕ} (size : s ≡ size_of h.tasks (length xs)) where
    pub says_11 : length output < s → ImportsOf ρ xs output (refusal 11 0) output
    says_11 l =
        let z = size_is in
        leaves_refused output (gate_closes 11 _ _ (says_false (says_leb (length (bytes (imported ρ xs))) (length output)) (λ m. omega arith)))

    pub says_5 : {after : List ℕ} → s ≤ length output → after ≡ front (bytes (imported ρ xs)) output → ImportsOf ρ xs output (bytes_written s) after
    unfolding written_out
    says_5 {after} f w =
        let z = size_is in
        leaves output after
        (gate_opens 11 _ _ _ (says_true (says_leb (length (bytes (imported ρ xs))) (length output)) (omega arith)) refl)
        (ap bytes_written (size ∙ sym size_is)) w
