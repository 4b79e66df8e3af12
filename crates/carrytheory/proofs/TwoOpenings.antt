-- One run, opened to be carried to H' and to a later H'': the jobs that are added arrive at H' or later. Assumes nothing.
use Prim.Native.Nat.{ℕ, ◌≤◌, ◌<◌}
use mathlib.Core.Path.{◌≡◌, refl, sym, ◌∙◌, ap}
use native.Mathlib.Omega.{arith}
use native.Mathlib.Decide.{dec_lt}
use Rattle.model.specs.Model.{Run, Job, IsRecord, rec, task, arrival, job_of}
use Rattle.model.specs.Rules.{rule1, rule5, Obeys}
use Rattle.model.specs.Carry.{at_H, opening}
use Rattle.model.proofs.Jobs.{Good}
use Rattle.carrytheory.proofs.Recorded.{record_exists, has_record}
use Rattle.carrytheory.proofs.AtH.{Origin, kept, old, new, origin, job_exists, at_opening, opening_jobs}
use Rattle.carrytheory.proofs.Longer.{Longer, SharedOrAdded, shared, added}
use Rattle.carrytheory.proofs.GoTogether.{Settled, began, waits, AllSettled}

module _ (ρ : Run) (H' H'' : ℕ) (O : Obeys ρ) (good : Good ρ.tasks) (longer : ρ.setting.horizon ≤ H') (further : H' ≤ H'') where
  abbrev σ₀ : Run
  σ₀ = opening ρ H'

  abbrev τ₀ : Run
  τ₀ = opening ρ H''

  abbrev H : ℕ
  H = ρ.setting.horizon

  abbrev beyond : H ≤ H''
  beyond = omega arith

  abbrev arrives : Job → ℕ
  arrives q = arrival (task ρ.tasks q.0) q.1

  -- of one job the same stands in both
  same_record_lem : (k j : ℕ) → IsRecord σ₀ k → IsRecord τ₀ j → job_of (rec τ₀ j) ≡ job_of (rec σ₀ k) → rec τ₀ j ≡ rec σ₀ k
  same_record_lem k j h l e = at_opening ρ H'' j l ∙ ap (at_H ρ) e ∙ sym (at_opening ρ H' k h)

  into₀ : (k : ℕ) → IsRecord σ₀ k → (j : ℕ) × IsRecord τ₀ j × (rec τ₀ j ≡ rec σ₀ k)
  unfolding opening
  into₀ k h =
      let (r, l) = job_exists ρ good H' k h in
      let (j, m, e) = has_record τ₀ (opening_jobs ρ H'') good (job_of (rec σ₀ k)) r (omega arith) in
      (j, m, same_record_lem k j h m e)

  -- what does not exist at H' is new
  added₀ : (j : ℕ) → H' ≤ arrives (job_of (rec τ₀ j)) → Origin ρ H'' O good beyond j → SharedOrAdded H' σ₀ τ₀ j
  unfolding opening
  added₀ j l (kept p h b e) = absurd (omega (arith, (record_exists ρ (O rule1) good p h).1, rw e at l))
  added₀ j l (old p h b e) = absurd (omega (arith, (record_exists ρ (O rule1) good p h).1, rw e at l))
  added₀ j l (new q b e) = added q (rw e at l) e

  back₀ : (j : ℕ) → IsRecord τ₀ j → SharedOrAdded H' σ₀ τ₀ j
  unfolding opening
  back₀ j h = go (dec_lt (arrives (job_of (rec τ₀ j))) H')
    where
      go : Dec (arrives (job_of (rec τ₀ j)) < H') → SharedOrAdded H' σ₀ τ₀ j
      go (yes l) =
          let (r, x) = job_exists ρ good H'' j h in
          let (k, m, e) = has_record σ₀ (opening_jobs ρ H') good (job_of (rec τ₀ j)) r l in
          shared k m (same_record_lem k j m h (sym e))
      go (no l) = added₀ j (omega (arith, l)) (origin ρ H'' O good beyond j h)

  pub two_openings : Longer H' (opening ρ H') (opening ρ H'')
  unfolding opening
  two_openings =
      record {
        cores = refl;
        tasks = refl;
        shorter_jobs = opening_jobs ρ H';
        longer_jobs = opening_jobs ρ H'';
        into = into₀;
        back = back₀;
      }

  settled₀ : (j : ℕ) → Origin ρ H'' O good beyond j → Settled H' (rec τ₀ j)
  settled₀ j (kept p h l e) = rw e (began (O rule5 p h).0 (omega arith))
  settled₀ j (old p h l e) = rw e (waits refl)
  settled₀ j (new q l e) = rw e (waits refl)

  pub opening_settled : AllSettled H' (opening ρ H'')
  opening_settled j h = settled₀ j (origin ρ H'' O good beyond j h)
