-- The least record of a job in a file, and what stands there. Assumes nothing.
use Rattle.std.specs.Prelude.{Option, Some}
use Prim.Native.Nat.{ℕ, ◌+◌, ◌*◌, ◌<◌}
use mathlib.Core.Path.{◌≡◌, sym, ◌∙◌, ap}
use mathlib.Core.List.{List}
use lib.Dec.{ltb}
use native.Mathlib.Omega.{arith}
use Rattle.base.specs.Find.{first}
use Rattle.base.proofs.Find.{Answer, answer, some≢none}
use Rattle.model.specs.declared.record.Record.{Record}
use Rattle.model.specs.declared.setting.Setting.{Setting}
use Rattle.model.specs.Model.{Job, job_of, rec, same_job}
use Rattle.model.specs.File.{read, record_at, record_size, setting_at}
use Rattle.model.specs.Carry.{least_of, began_before}
use Rattle.openfile.proofs.WholeOrRefused.{tells_record, said_setting}
use Rattle.reader.specs.LentFile.{starts_of}
use Rattle.reader.specs.declared.Starts.{Starts}
use Rattle.reader.proofs.SectionStarts.{Begins, begins, least_told}

module _ (b : List ℕ) {s : Starts} (z : s ≡ starts_of (read b)) where
  -- the search among the records that stand in the file
  abbrev least_in : Job → Option ℕ
  least_in q = first (λ k. same_job (job_of (record_at b (s.records + record_size * k))) q) 0 s.count

  pub least_is : (q : Job) → least_in q ≡ least_of (read b) q
  unfolding first
  least_is q = go (begins b z)
    where
      go : Begins b s → least_in q ≡ least_of (read b) q
      go (Begins.refused_file e w) = rw (e, w)
      go (Begins.whole_file T w) = rw (T.reads, w) (least_told T q)

  -- it is one of the records
  pub least_below : (q : Job) {k : ℕ} → Some k ≡ least_of (read b) q → k < s.count
  least_below q {k} e = go (answer _ s.count 0)
    where
      go : Answer (λ k. same_job (job_of (record_at b (s.records + record_size * k))) q) 0 s.count → k < s.count
      go (Answer.nothing x g) = absurd (some≢none (e ∙ sym (least_is q) ∙ x))
      go (Answer.finds j x h l t g) =
          let y : Some k ≡ Some j = e ∙ sym (least_is q) ∙ x in
          let v : k ≡ j = cc in
          omega arith

  -- whether record k began before H
  pub began_said : {σ : Setting} {x : Record} {k : ℕ} → σ ≡ setting_at b 4 → x ≡ record_at b (s.records + record_size * k) → k < s.count
      → ltb x.start σ.horizon ≡ began_before (read b) k
  began_said {σ} {x} {k} y w l = go (begins b z)
    where
      go : Begins b s → ltb x.start σ.horizon ≡ began_before (read b) k
      go (Begins.refused_file e v) = let n : s.count ≡ 0 = ap (λ s. s.count) v in absurd (omega arith)
      go (Begins.whole_file {h} {ρ} T v) =
          let n : s.count ≡ h.records = ap (λ s. s.count) v in
          let at : x ≡ rec ρ k = w ∙ (λ κ. record_at b ((v κ).records + record_size * k)) ∙ sym (tells_record T k (omega arith)) in
          let set : σ ≡ ρ.setting = y ∙ said_setting T in
          rw T.reads (λ κ. ltb (at κ).start (set κ).horizon)
