-- A carried run, opened to be carried on: what stands at its horizon is what stood there while it was carried. Assumes nothing.
use Rattle.std.specs.Prelude.{None}
use Prim.Native.Nat.{ℕ, suc, ◌≤◌, ◌<◌}
use mathlib.Core.Path.{◌≡◌, refl, sym, subst, ◌∙◌, ap}
use mathlib.Core.List.{List, [], ◌∷◌, map}
use native.Mathlib.Omega.{arith}
use lib.Dec.{ltb}
use lib.ListN.{length, get_or}
use Rattle.base.proofs.Test.{says_ltb, says_true, says_false}
use Rattle.base.proofs.Searches.{Finds}
use Rattle.model.specs.Model.{Run, Job, IsRecord, rec, task, arrival, job_of, jobs, existing, no_record, place_of}
use Rattle.model.specs.Rules.{Jobs}
use Rattle.model.specs.Carry.{Begun, unbegun, kept_if, at_H_of, at_H, opening}
use Rattle.model.proofs.Jobs.{Good, existing_jobs}
use Rattle.carrytheory.proofs.Recorded.{record_exists}
use Rattle.carrytheory.proofs.Preceding.{RecordOf, place_finds, least_is}
use Rattle.carrytheory.proofs.Longer.{Longer, SharedOrAdded, shared, added}
use Rattle.carrytheory.proofs.RunsOn.{Later}
use Rattle.carrytheory.proofs.GoTogether.{Settled, began, waits, AllSettled}

-- where f gives each entry back from what g tells of it
map_back : {A B : Type 0} (f : B → A) (g : A → B) (d : A) (l : List A) → ((k : ℕ) → k < length l → f (g (get_or l k d)) ≡ get_or l k d)
    → map f (map g l) ≡ l
map_back f g d [] h = refl
map_back f g d (x ∷ l) h =
    let e = h 0 (omega arith) in
    let z = map_back f g d l (λ k m. h (suc k) (omega arith)) in
    λ κ. e κ ∷ z κ

-- χ has come of σ, and every job of it has begun; τ is longer than σ
module _ (χ σ τ : Run) (J : Jobs χ) (good : Good χ.tasks) (all_begun : (k : ℕ) → IsRecord χ k → Begun χ k)
    (R : Later χ.setting.horizon σ χ) (X : Longer χ.setting.horizon σ τ) (F : AllSettled χ.setting.horizon τ) (tasks : τ.tasks ≡ χ.tasks) where
  abbrev H : ℕ
  H = χ.setting.horizon

  not_placed : (q : Job) → H ≤ arrival (task χ.tasks q.0) q.1 → place_of χ q ≡ None
  not_placed q l = go (place_finds χ q)
    where
      go : Finds ◌<◌ (RecordOf χ q) (place_of χ q) → place_of χ q ≡ None
      go (Finds.none_passes e f) = e
      go (Finds.passes p e P) =
          let (h, s) = P.here in
          let x = subst (λ r. arrival (task χ.tasks r.0) r.1 < H) s (record_exists χ J good p h).1 in
          absurd (omega arith)

  there : (k : ℕ) → IsRecord χ k → at_H χ (job_of (rec σ k)) ≡ kept_if (ltb (rec χ k).start H) (job_of (rec σ k)) (rec χ k)
  there k h = ap (at_H_of χ (job_of (rec σ k))) (ap (place_of χ) (sym (R.job k)) ∙ least_is χ J k (job_of (rec χ k)) (h, refl))

  -- a job that τ shares with σ, that had begun or that waits
  old_again : (k : ℕ) → IsRecord χ k → Settled H (rec σ k) → at_H χ (job_of (rec σ k)) ≡ rec σ k
  old_again k h (began b l) =
      let e = R.kept k b in
      let early = says_true (says_ltb (rec χ k).start H) (rw e l) in
      there k h ∙ ap (λ t. kept_if t (job_of (rec σ k)) (rec χ k)) early ∙ e
  old_again k h (waits e) =
      let z : (rec σ k).core ≡ 0 = ap (λ x. x.core) e in
      let w = R.later k (λ b. omega arith) (all_begun k h) in
      let late = says_false (says_ltb (rec χ k).start H) (λ l. omega arith) in
      there k h ∙ ap (λ t. kept_if t (job_of (rec σ k)) (rec χ k)) late ∙ ap (unbegun (job_of (rec σ k))) (R.release k) ∙ sym e

  -- a job that τ has and σ has not
  new_again : (q : Job) → H ≤ arrival (task χ.tasks q.0) q.1 → at_H χ q ≡ unbegun q (arrival (task χ.tasks q.0) q.1)
  new_again q l = ap (at_H_of χ q) (not_placed q l)

  again : (j : ℕ) → IsRecord τ j → at_H χ (job_of (rec τ j)) ≡ rec τ j
  again j h = go (X.back j h)
    where
      go : SharedOrAdded H σ τ j → at_H χ (job_of (rec τ j)) ≡ rec τ j
      go (shared k l s) = rw s (old_again k (rw R.as_many l) (rw s at (F j h)))
      go (added q l s) = rw (s, tasks) (new_again q (rw tasks at l))

  pub opened_again : (H' : ℕ) → τ.setting ≡ record { cores = χ.setting.cores; horizon = H' } → opening χ H' ≡ τ
  unfolding opening
  opened_again H' setting =
      let same : existing χ H' ≡ map job_of τ.records =
      existing_jobs χ H' ∙ (λ κ. jobs (sym tasks κ) (sym setting κ).horizon) ∙ sym (existing_jobs τ τ.setting.horizon) ∙ sym X.longer_jobs in
      let records : map (at_H χ) (existing χ H') ≡ τ.records =
      ap (map (at_H χ)) same ∙ map_back (at_H χ) job_of no_record τ.records again in
      λ κ. record { setting = sym setting κ; tasks = sym tasks κ; records = records κ }
