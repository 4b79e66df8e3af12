-- The records of a file, read column by column: number j of a record stands 4 j bytes after its begin. Assumes nothing.
use Prim.Native.Nat.{ℕ, zero, suc, ◌+◌, ◌*◌, ◌<◌}
use mathlib.Core.Path.{◌≡◌, sym, ◌∙◌, ap}
use mathlib.Core.List.{List}
use native.Mathlib.Omega.{arith}
use lib.ListN.{length}
use Rattle.base.specs.Fill.{Fills}
use Rattle.base.proofs.Fill.{fills_as}
use Rattle.model.specs.declared.record.Record.{Record}
use Rattle.model.specs.File.{num, record_at, record_size}
use Rattle.model.specs.Model.{Run, rec}
use Rattle.openfile.specs.declared.head.Head.{Head}
use Rattle.openfile.specs.Head.{Tells}
use Rattle.openfile.proofs.WholeOrRefused.{tells_limits, tells_count, tells_record}
use Rattle.table.specs.Table.{Loads, columns, recorded, number_at}
use Rattle.table.proofs.LentLaws.{lent_none, loads_none, loads_on}

module _ {b : List ℕ} {h : Head} {ρ : Run} (T : Tells b h ρ) where
  abbrev at : ℕ
  at = h.records_at

  stands : (f : Record → ℕ) (j k : ℕ) → k < h.records → f (record_at b (at + record_size * k)) ≡ num b (at + record_size * k + 4 * j)
      → num b (at + 4 * j + record_size * k) ≡ f (rec ρ k)
  stands f j k l e =
      let z : at + 4 * j + record_size * k ≡ at + record_size * k + 4 * j = omega arith in
      ap (num b) z ∙ sym e ∙ ap f (sym (tells_record T k l))

  number_read : (j k : ℕ) → j < recorded → k < h.records → num b (at + 4 * j + record_size * k) ≡ number_at ρ j k
  number_read zero k w l = stands (λ x. x.task) 0 k l (ap (num b) (omega arith))
  number_read (suc zero) k w l = stands (λ x. x.job) 1 k l (ap (num b) (omega arith))
  number_read (suc (suc zero)) k w l = stands (λ x. x.release) 2 k l (ap (num b) (omega arith))
  number_read (suc (suc (suc zero))) k w l = stands (λ x. x.start) 3 k l (ap (num b) (omega arith))
  number_read (suc (suc (suc (suc zero)))) k w l = stands (λ x. x.end) 4 k l (ap (num b) (omega arith))
  number_read (suc (suc (suc (suc (suc zero))))) k w l = stands (λ x. x.core) 5 k l (ap (num b) (omega arith))
  number_read (suc (suc (suc (suc (suc (suc j)))))) k w l = absurd (omega arith)

  pub read_none : (t : List ℕ) → length t ≡ columns * h.records → Loads 0 ρ h.records t t
  read_none t e = loads_none (lent_none (tells_limits T) (tells_count T) e)

  pub read_on : {t t' t'' : List ℕ} (j : ℕ) → j < recorded → Loads j ρ h.records t t'
      → Fills t' (j * h.records) h.records (λ k. num b (at + 4 * j + record_size * k)) t'' → Loads (j + 1) ρ h.records t t''
  read_on j w F G = loads_on F (fills_as (number_at ρ j) (λ k l. number_read j k w l) G)
