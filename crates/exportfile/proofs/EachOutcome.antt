-- What the export of a file is, one law for each answer: the file's own refusals, 14, 11, and the table that is written. Assumes nothing.
use Prim.Native.Nat.{ℕ, ◌≤◌}
use mathlib.Core.Path.{◌≡◌, refl, sym, ◌∙◌, ap}
use mathlib.Core.Bool.{Bool, true, false, not}
use mathlib.Core.List.{List}
use native.Mathlib.Omega.{arith}
use borrow.Author.Tests.{not-true, not-false}
use lib.Dec.{leb}
use lib.ListN.{length}
use Rattle.base.proofs.Test.{says_leb}
use Rattle.model.proofs.Gates.{gate_opens, gate_closes, leaves, leaves_refused}
use Rattle.model.specs.Answers.{refusal, bytes_written, Outcome, gate_outcome, written_out}
use Rattle.model.specs.Calls.{front}
use Rattle.model.specs.File.{read, refused}
use Rattle.model.specs.Model.{Run}
use Rattle.exchange.specs.RecordLine.{table_of, most_table}
use Rattle.exchange.specs.Export.{exported, rise, export_run, export_of, export_file}
use Rattle.exchange.proofs.ExchangeAnswers.{exported_most}
use Rattle.openfile.specs.declared.head.Head.{Head}
use Rattle.openfile.specs.Head.{Tells}
use Rattle.exportfile.specs.LinesOf.{records_at, table_by, start_order, rises_at, Exports}
use Rattle.exportfile.proofs.InStartOrder.{order_size, exported_told}
use Rattle.exportfile.proofs.RisesOrStays.{rise_told}

pub says_refused : (b output : List ℕ) (ν i : ℕ) → read b ≡ refused ν i → Exports b output (refusal ν i) output
unfolding export_file
says_refused b output ν i e = leaves_refused output (ap (λ r. export_of r (length output)) e)

-- the test of the room
pub has_room : (s room : ℕ) → not (leb s room) ≡ false → s ≤ room
has_room s room e = (says_leb s room).sound (not-false _ e)

-- how many bytes the table has
module _ {b : List ℕ} {h : Head} {ρ : Run} (T : Tells b h ρ)
    {s : ℕ} (size : s ≡ length (table_of (records_at b h.records_at h.records))) where
  is_size : length (exported ρ) ≡ s
  is_size = ap length (sym (exported_told T)) ∙ order_size b h.records_at h.records ∙ sym size

  pub few_bytes : s ≤ most_table
  few_bytes = omega (arith, is_size, exported_most b 0 ρ T.reads)

-- The export of a file that is whole, by its two tests
-- ----------------------------------------------------
module _ {b : List ℕ} {h : Head} {ρ : Run} (T : Tells b h ρ) (output : List ℕ)
    {t : Bool} (e : t ≡ rises_at b h.records_at h.records) where
  rising : rise ρ ≡ t
  rising = sym (e ∙ rise_told T)

  whole_is : export_file b (length output) ≡ export_run ρ (length output)
  unfolding export_file
  whole_is = ap (λ r. export_of r (length output)) T.reads

  pub says_14 : not t ≡ true → Exports b output (refusal 14 0) output
  unfolding export_run
  says_14 n = leaves_refused output (whole_is ∙ gate_closes 14 _ _ (rising ∙ not-true _ n))

  module _ (r : not t ≡ false) {s : ℕ} (size : s ≡ length (table_of (records_at b h.records_at h.records))) where
    past_14 : {o : Outcome} → gate_outcome 11 (leb (length (exported ρ)) (length output)) (written_out (exported ρ)) ≡ o
        → export_file b (length output) ≡ o
    unfolding export_run
    past_14 q = whole_is ∙ gate_opens 14 _ _ _ (rising ∙ not-false _ r) q

    is_room : leb (length (exported ρ)) (length output) ≡ leb s (length output)
    is_room = ap (λ k. leb k (length output)) (is_size T size)

    pub says_11 : not (leb s (length output)) ≡ true → Exports b output (refusal 11 0) output
    says_11 n = leaves_refused output (past_14 (gate_closes 11 _ _ (is_room ∙ not-true _ n)))

    pub says_5 : {after : List ℕ} → not (leb s (length output)) ≡ false
        → after ≡ front (table_by b h.records_at (start_order b h.records_at h.records)) output → Exports b output (bytes_written s) after
    unfolding written_out
    says_5 {after} n w =
        leaves output after (past_14 (gate_opens 11 _ _ _ (is_room ∙ not-false _ n) refl)) (ap bytes_written (sym (is_size T size)))
        (w ∙ ap (λ l. front l output) (exported_told T))
