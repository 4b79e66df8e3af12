-- What stands of a job at H, by its record. Assumes nothing.
use Rattle.std.specs.Prelude.{None, Option, Some, option_map}
use Prim.Native.Nat.{ℕ, ◌+◌, ◌*◌, ◌≤◌, ◌<◌}
use mathlib.Core.Path.{◌≡◌, sym, ◌∙◌, ap}
use mathlib.Core.Bool.{Bool, true}
use mathlib.Core.List.{List}
use native.Mathlib.Omega.{arith}
use lib.Dec.{ltb}
use lib.ListN.{length}
use Rattle.base.proofs.Find.{some≢none}
use Rattle.base.proofs.Searches.{Finds}
use Rattle.base.proofs.Test.{says_ltb, says_true, says_false}
use Rattle.carrytheory.proofs.Preceding.{RecordOf, place_finds, least_is}
use Rattle.carrytheory.proofs.Recorded.{record_exists}
use Rattle.model.specs.declared.record.Record.{Record}
use Rattle.model.specs.declared.task.Task.{Task}
use Rattle.model.specs.Carry.{unbegun, kept_if, at_H_of, at_H}
use Rattle.model.specs.File.{record_at, record_size}
use Rattle.model.specs.Model.{Run, Job, IsRecord, arrival, job_count, job_of, rec, task, same_job, place_of}
use Rattle.model.specs.Rules.{Jobs}
use Rattle.model.proofs.Jobs.{Good, job_exists}
use Rattle.model.proofs.RuleTests.{says_same_job}
use Rattle.openfile.specs.declared.head.Head.{Head}
use Rattle.openfile.specs.Head.{Tells}
use Rattle.openfile.proofs.WholeOrRefused.{tells_count, tells_limits, tells_record, tells_setting}

-- what is found is a record
pub found_record : (ρ : Run) (q : Job) (k : ℕ) → Some k ≡ place_of ρ q → IsRecord ρ k
found_record ρ q k e = go (place_finds ρ q)
  where
    go : Finds ◌<◌ (RecordOf ρ q) (place_of ρ q) → IsRecord ρ k
    go (Finds.none_passes w f) = absurd (some≢none (e ∙ w))
    go (Finds.passes p w F) = let z : p ≡ k = cc in rw z at F.here.0

module _ {b : List ℕ} {h : Head} {ρ : Run} (T : Tells b h ρ) where
  pub near_is : Jobs ρ → (p : ℕ) (q : Job) {x : Record} {r : Bool} → p < h.records → x ≡ record_at b (h.records_at + record_size * p)
      → r ≡ same_job (job_of x) q → r ≡ true → Some p ≡ place_of ρ q
  near_is J p q {x} l e s t =
      let same : job_of x ≡ q = (says_same_job (job_of x) q).sound (sym s ∙ t) in
      sym (least_is ρ J p q (omega (arith, tells_count T), ap job_of (tells_record T p l ∙ sym e) ∙ same))

  -- a job that does not exist at H has no record
  pub not_yet : Jobs ρ → (i j : ℕ) {τ : Task} → task ρ.tasks i ≡ τ → job_count τ h.setting.horizon ≤ j → None ≡ place_of ρ (i, j)
  not_yet J i j {τ} e l = go (place_finds ρ (i, j))
    where
      go : Finds ◌<◌ (RecordOf ρ (i, j)) (place_of ρ (i, j)) → None ≡ place_of ρ (i, j)
      go (Finds.none_passes w f) = sym w
      go (Finds.passes p w F) =
          let good : Good ρ.tasks = λ m l. ((tells_limits T).tasks m l).period.0 in
          let (r, x) = record_exists ρ J good p F.here.0 in
          let same : (rec ρ p).task ≡ i = ap (λ q. q.0) F.here.1 in
          let number : (rec ρ p).job ≡ j = ap (λ q. q.1) F.here.1 in
          let there : i < length ρ.tasks = omega arith in
          let y : arrival (task ρ.tasks i) j < ρ.setting.horizon = rw (same, number) at x in
          let z : arrival τ j < h.setting.horizon = rw (tells_setting T) (rw e at y) in
          let k = (job_exists τ h.setting.horizon j (rw e at (good i there))).1 z in
          absurd (omega (arith, k))

  module _ (q : Job) {o : Option ℕ} {x : Record} (e : option_map (λ k. record_at b (h.records_at + record_size * k)) o ≡ Some x) (w : o ≡ place_of ρ q) where
    kept_if_lem : {r : Bool} → ltb x.start h.setting.horizon ≡ r → kept_if r q x ≡ at_H ρ q
    kept_if_lem {r} s = go o e w
      where
        go : (o : Option ℕ) → option_map (λ k. record_at b (h.records_at + record_size * k)) o ≡ Some x → o ≡ place_of ρ q → kept_if r q x ≡ at_H ρ q
        go None e w = absurd (some≢none (sym e))
        go (Some k) e w =
            let there : record_at b (h.records_at + record_size * k) ≡ x = cc in
            let is : x ≡ rec ρ k = sym there ∙ sym (tells_record T k (omega (arith, found_record ρ q k w, tells_count T))) in
            ap (λ t. kept_if t q x) (sym s)
            ∙ (λ κ. kept_if (ltb (is κ).start (tells_setting T κ).horizon) q (is κ))
            ∙ ap (at_H_of ρ q) w

    -- a record that does not start before H keeps its release; one that does is kept
    pub old_is : h.setting.horizon ≤ x.start → unbegun q x.release ≡ at_H ρ q
    old_is l = kept_if_lem (says_false (says_ltb x.start h.setting.horizon) (λ g. omega arith))

    pub kept_is : x.start < h.setting.horizon → x ≡ at_H ρ q
    kept_is l = kept_if_lem (says_true (says_ltb x.start h.setting.horizon) l)
