-- What Octalmure promises of a text table: request 1, of what octalmure_import and octalmure_export return and leave. Every statement is over
-- the calls' own contracts, as in Promise.antt; the words are those of crates/exchange/specs. Assumes nothing.
use Prim.Native.Nat.{ℕ, ◌≤◌, ◌<◌}
use mathlib.Core.Path.{◌≡◌, refl, sym, ◌∙◌, ap}
use mathlib.Core.Logic.{◌↔◌}
use mathlib.Core.List.{List, map}
use native.Mathlib.Omega.{arith}
use lib.ListN.{length, drop}
use contract.Lifetimes.{Lfts}
use denote.Triple.Clauses.{AtExit}
use borrow.Fn.Kinds.{Dens, ended_of}
use Rattle.model.specs.declared.record.Record.{Record}
use Rattle.model.specs.Model.{Run, rec}
use Rattle.model.specs.Answers.{Outcome, refusal, refused_with, written_out}
use Rattle.model.specs.File.{Bytes, bytes, whole, read}
use Rattle.model.specs.Calls.{answer_size, five_in, file_in}
use Rattle.model.specs.Compute.Verdict.{verdict, check_of, check}
use Rattle.model.proofs.FiveFit.{FiveFit, output_told}
use Rattle.model.proofs.Reading.{read_limits}
use Rattle.sorting.specs.Sorted.{SameEntries, Rises}
use Rattle.exchange.specs.RecordLine.{table_of}
use Rattle.exchange.specs.TextTable.{Taken}
use Rattle.exchange.specs.Import.{JobBefore, imported, import_table, import_call, ImportSays, ImportRow}
use Rattle.exchange.specs.Export.{by_start, exported, RiseStrictly, export_file, export_call, ExportSays, ExportRow}
use Rattle.exchange.proofs.SaysExactly.{import_says, export_says}
use Rattle.exchange.proofs.ExchangeAnswers.{import_comes, every_import_answered, import_fits, export_comes, every_export_answered, export_fits}
use Rattle.exchange.proofs.ImportedRun.{imported_same, imported_rises, imported_reads}
use Rattle.exchange.proofs.ExportedLines.{StartsFirst, lines_rise, exported_same}
use Rattle.exchange.proofs.ThereAndBack.{import_of_export}
use Rattle.octalmure.proofs.Promise.{Checks, says}
use Rattle.octalmure.proofs.GivenOrKept.{met_short, answered, keeps, told_exactly, code_told, writes}
use Rattle.octalmure.proofs.import.octalmure_import.Kinds as import_kinds
use Rattle.octalmure.proofs.import.octalmure_import.Reads as import_contract
use Rattle.octalmure.proofs.export.octalmure_export.Kinds as export_kinds
use Rattle.octalmure.proofs.export.octalmure_export.Reads as export_contract

-- A call of import: lent a file b, which is of bytes, a table T, an output o and an answer slice a, it may return r and leave o' and a'.
pub record Imports (b T o a : List ℕ) (r : ℕ) (o' a' : List ℕ) : Type 0 where
  pub of_bytes : Bytes b
  pub lifetimes : Lfts 4
  pub lent : Dens lifetimes import_kinds.ps
  pub back : AtExit (ended_of 4 import_kinds.ps import_kinds.r) lifetimes
  pub permitted : import_contract.Post lifetimes lent r back
  pub file : lent.0.now ≡ b
  pub table : lent.1.0.now ≡ T
  pub output : lent.1.1.0.now ≡ o
  pub answer : lent.1.1.1.0.now ≡ a
  pub written : back.1.1.0.now ≡ o'
  pub left : back.1.1.1.0.now ≡ a'

-- A call of export: lent a file b, an output o and an answer slice a, it may return r and leave o' and a'.
pub record Exports (b o a : List ℕ) (r : ℕ) (o' a' : List ℕ) : Type 0 where
  pub of_bytes : Bytes b
  pub lifetimes : Lfts 3
  pub lent : Dens lifetimes export_kinds.ps
  pub back : AtExit (ended_of 3 export_kinds.ps export_kinds.r) lifetimes
  pub permitted : export_contract.Post lifetimes lent r back
  pub file : lent.0.now ≡ b
  pub output : lent.1.0.now ≡ o
  pub answer : lent.1.1.0.now ≡ a
  pub written : back.1.0.now ≡ o'
  pub left : back.1.1.0.now ≡ a'

-- A file that was imported from a file and a table, and a table that was exported from a file.
pub record ImportedFrom (b T out : List ℕ) : Type 0 where
  pub run : Run
  pub lines : List Record
  pub reads : read b ≡ whole run
  pub taken : Taken lines
  pub table : T ≡ table_of lines
  pub file : out ≡ bytes (imported run lines)

pub record ExportedFrom (b out : List ℕ) : Type 0 where
  pub run : Run
  pub reads : read b ≡ whole run
  pub rise : RiseStrictly run
  pub table : out ≡ exported run

came_five : {b T : List ℕ} {room : ℕ} {w : Outcome} → ImportSays b T room w → w.told.answer ≡ 5 → (out : List ℕ) → out ≡ w.writes → ImportedFrom b T out
unfolding written_out
came_five (ImportSays.file_refused e) five out q = absurd (omega (arith, five))
came_five (ImportSays.line_refused e R) five out q = absurd (omega (arith, five))
came_five (ImportSays.no_room e W t h) five out q = absurd (omega (arith, five))
came_five (ImportSays.taken {ρ = ρ} {xs = xs} e W t h) five out q = record { run = ρ; lines = xs; reads = e; taken = W; table = t; file = q }

went_five : {b : List ℕ} {room : ℕ} {w : Outcome} → ExportSays b room w → w.told.answer ≡ 5 → (out : List ℕ) → out ≡ w.writes → ExportedFrom b out
unfolding written_out
went_five (ExportSays.file_refused e) five out q = absurd (omega (arith, five))
went_five (ExportSays.not_rising e f) five out q = absurd (omega (arith, five))
went_five (ExportSays.no_room e R h) five out q = absurd (omega (arith, five))
went_five (ExportSays.told {ρ = ρ} e R h) five out q = record { run = ρ; reads = e; rise = R; table = q }

-- what is written is no refusal
not_four : ¬ (◌≡◌ {A = ℕ} 5 4)
not_four e = omega arith

-- Nothing is assumed of the caller.
-- ---------------------------------
pub import_asks_nothing : (κs : Lfts 4) (lent : Dens κs import_kinds.ps) → import_contract.Pre κs lent
import_asks_nothing κs lent = tt

pub export_asks_nothing : (κs : Lfts 3) (lent : Dens κs export_kinds.ps) → export_contract.Pre κs lent
export_asks_nothing κs lent = tt

-- Import
-- ------
module _ {b T o a : List ℕ} {r : ℕ} {o' a' : List ℕ} (C : Imports b T o a r o' a') where
  is_import : record { returns = r; output = o'; answer = a' } ≡ import_call b T o a
  is_import =
      let (p, q, s) = C.permitted in
      (λ κ. record { returns = p κ; output = (sym C.written ∙ q) κ; answer = (sym C.left ∙ s) κ })
      ∙ (λ κ. import_call (C.file κ) (C.table κ) (C.output κ) (C.answer κ))

  fit : FiveFit (import_table b T (length o)).told
  fit = import_fits b T (length o) C.of_bytes

  -- A shorter answer slice is met first of all: the call returns 4 and no byte changes.
  pub import_met_short : length a < answer_size → (r ≡ 4) × (o' ≡ o) × (a' ≡ a)
  import_met_short = met_short (import_table b T (length o)) o a is_import

  -- Every table gets one of the listed answers.
  pub import_answers : answer_size ≤ length a → ImportRow (five_in a') × (r ≡ (five_in a').answer) × (drop answer_size a' ≡ drop answer_size a)
  import_answers = answered (import_table b T (length o)) o a is_import fit ImportRow (every_import_answered b T (length o))

  -- An answer other than 5 is 4, and no byte of the output changes.
  pub import_refused_keeps : ¬ (r ≡ 5) → (r ≡ 4) × (o' ≡ o)
  import_refused_keeps = keeps (import_table b T (length o)) o a is_import (import_comes b T (length o)) fit

  -- A refusal is given exactly when the request says so of the file, the table and the room.
  pub import_refuses_exactly : answer_size ≤ length a → (ν i : ℕ) → (five_in a' ≡ refusal ν i) ↔ ImportSays b T (length o) (refused_with ν i)
  import_refuses_exactly =
      told_exactly (import_table b T (length o)) o a is_import (import_comes b T (length o)) fit not_four (ImportSays b T (length o)) (import_says b T (length o))

  pub import_writes : r ≡ 5 → (file_in o' a' ≡ (import_table b T (length o)).writes) × (drop (five_in a').code o' ≡ drop (five_in a').code o)
  import_writes = writes (import_table b T (length o)) o a is_import (import_comes b T (length o)) fit not_four

  module _ (five : r ≡ 5) where
    -- 5 is answered where the file tells a run, the table is that of records that can be taken, and there is room; the file that is written
    -- is of the run's setting and tasks and of these records.
    pub imported_file : ImportedFrom b T (file_in o' a')
    imported_file =
        came_five ((import_says b T (length o) (import_table b T (length o))).0 refl)
        (code_told (import_table b T (length o)) o a is_import (import_comes b T (length o)) fit not_four five).1 (file_in o' a') (import_writes five).0

    -- Its records are exactly the lines' records, in rising order of task and job, ..
    pub imported_lines : let I = imported_file in
        SameEntries I.lines (imported I.run I.lines).records × Rises JobBefore (imported I.run I.lines).records
    imported_lines = let I = imported_file in (imported_same I.run I.lines, imported_rises I.run I.lines I.taken)

    -- .. it is a whole run file, ..
    pub imported_is_whole : let I = imported_file in read (file_in o' a') ≡ whole (imported I.run I.lines)
    imported_is_whole = let I = imported_file in ap read I.file ∙ imported_reads I.run I.lines I.taken (read_limits b I.run I.reads)

    -- .. to which the checker gives its answer.
    pub imported_is_checked : {a₂ a₂' : List ℕ} {r₂ : ℕ} → Checks (file_in o' a') a₂ r₂ a₂' → answer_size ≤ length a₂
        → let I = imported_file in five_in a₂' ≡ verdict (imported I.run I.lines)
    unfolding check
    imported_is_checked D long = (says D long).0 ∙ ap check_of imported_is_whole

-- Export
-- ------
module _ {b o a : List ℕ} {r : ℕ} {o' a' : List ℕ} (C : Exports b o a r o' a') where
  is_export : record { returns = r; output = o'; answer = a' } ≡ export_call b o a
  is_export =
      let (p, q, s) = C.permitted in
      (λ κ. record { returns = p κ; output = (sym C.written ∙ q) κ; answer = (sym C.left ∙ s) κ })
      ∙ (λ κ. export_call (C.file κ) (C.output κ) (C.answer κ))

  fits : FiveFit (export_file b (length o)).told
  fits = export_fits b (length o) C.of_bytes

  pub export_met_short : length a < answer_size → (r ≡ 4) × (o' ≡ o) × (a' ≡ a)
  export_met_short = met_short (export_file b (length o)) o a is_export

  pub export_answers : answer_size ≤ length a → ExportRow (five_in a') × (r ≡ (five_in a').answer) × (drop answer_size a' ≡ drop answer_size a)
  export_answers = answered (export_file b (length o)) o a is_export fits ExportRow (every_export_answered b (length o))

  pub export_refused_keeps : ¬ (r ≡ 5) → (r ≡ 4) × (o' ≡ o)
  export_refused_keeps = keeps (export_file b (length o)) o a is_export (export_comes b (length o)) fits

  pub export_refuses_exactly : answer_size ≤ length a → (ν i : ℕ) → (five_in a' ≡ refusal ν i) ↔ ExportSays b (length o) (refused_with ν i)
  export_refuses_exactly =
      told_exactly (export_file b (length o)) o a is_export (export_comes b (length o)) fits not_four (ExportSays b (length o)) (export_says b (length o))

  pub export_writes : r ≡ 5 → (file_in o' a' ≡ (export_file b (length o)).writes) × (drop (five_in a').code o' ≡ drop (five_in a').code o)
  export_writes = writes (export_file b (length o)) o a is_export (export_comes b (length o)) fits not_four

  module _ (five : r ≡ 5) where
    -- 5 is answered where the file tells a run whose records rise strictly by task and job, and there is room; what is written is the table of
    -- its records, ..
    pub exported_table : ExportedFrom b (file_in o' a')
    exported_table =
        went_five ((export_says b (length o) (export_file b (length o))).0 refl)
        (code_told (export_file b (length o)) o a is_export (export_comes b (length o)) fits not_four five).1 (file_in o' a') (export_writes five).0

    -- .. each record's line once, by start and then by record place.
    pub exported_lines : let E = exported_table in
        SameEntries E.run.records (map (rec E.run) (by_start E.run)) × Rises (StartsFirst E.run) (by_start E.run)
    exported_lines = let E = exported_table in (exported_same E.run, lines_rise E.run)

    -- Import, with that file, of export of it gives the same file back.
    pub there_and_back : {o₂ a₂ : List ℕ} {r₂ : ℕ} {o₂' a₂' : List ℕ} → Imports b (file_in o' a') o₂ a₂ r₂ o₂' a₂' → answer_size ≤ length a₂ → length b ≤ length o₂
        → (r₂ ≡ 5) × (file_in o₂' a₂' ≡ b)
    unfolding written_out
    there_and_back {o₂} {a₂} {r₂} {o₂'} {a₂'} D long room =
        let E = exported_table in
        let e : import_table b (file_in o' a') (length o₂) ≡ written_out b =
        ap (λ T. import_table b T (length o₂)) E.table ∙ import_of_export b C.of_bytes E.run E.reads E.rise (length o₂) room in
        let (f, n, out, k) = output_told (import_table b (file_in o' a') (length o₂)) o₂ a₂ _ (is_import D) (fit D) long in
        let five₂ : r₂ ≡ 5 = n ∙ ap (λ w. w.told.answer) e in
        (five₂, (import_writes D five₂).0 ∙ ap (λ w. w.writes) e)
