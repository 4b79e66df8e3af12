-- What stands at instant H: kept records, old jobs that wait, new jobs. The invariant of the carry holds there. Assumes nothing.
use Prim.Native.Nat.{ℕ, ◌≤◌, ◌<◌}
use mathlib.Core.Path.{◌≡◌, refl, sym, ◌∙◌, ap}
use mathlib.Core.Logic.{inl, inr, ⊎_elim}
use mathlib.Core.Bool.{Bool, true, false}
use mathlib.Core.List.{List, [], ◌∷◌, map}
use native.Mathlib.Omega.{arith}
use native.Mathlib.Decide.{dec_le, dec_lt}
use lib.ListN.{length, get_or, length-map}
use lib.Dec.{ltb}
use Rattle.base.proofs.Test.{says_ltb}
use Rattle.base.proofs.Searches.{Finds}
use Rattle.model.specs.declared.record.Record.{Record}
use Rattle.model.specs.Model.{Run, Job, IsRecord, Exists, rec, task, job_of, place_of, existing, arrival, no_record, ready}
use Rattle.model.specs.Rules.{rule1, rule2, rule3, rule4, rule5, rule6, rule7, rule8, rule9, Obeys, Jobs, jobs_recorded, Released, Lasted, OnOneCore, Apart, IsCore, Busy}
use Rattle.model.specs.Carry.{Begun, ReadyBy, unbegun, kept_if, at_H, opening}
use Rattle.model.proofs.Jobs.{Good}
use Rattle.carrytheory.proofs.Depends.{same_rank, existing_again}
use Rattle.carrytheory.proofs.Recorded.{at_map, one_record, record_exists, has_record}
use Rattle.carrytheory.proofs.Preceding.{RecordOf, place_finds, BothAfter, no_job, one_job, both_after}
use Rattle.carrytheory.proofs.Readiness.{release_ready, ready_alone, end_after, ready_after, nothing_before, begun_before_one}
use Rattle.carrytheory.proofs.Step.{Waited, NotPassed, Inv}

-- The jobs of the longer run
-- --------------------------
module _ (ρ : Run) where
  kept_job : (b : Bool) (q : Job) (x : Record) → job_of x ≡ q → job_of (kept_if b q x) ≡ q
  kept_job true q x e = e
  kept_job false q x e = refl

  job_at_H : (q : Job) → job_of (at_H ρ q) ≡ q
  job_at_H q = go (place_finds ρ q)
    where
      go : Finds ◌<◌ (RecordOf ρ q) (place_of ρ q) → job_of (at_H ρ q) ≡ q
      go (Finds.none_passes e f) = rw e
      go (Finds.passes p e F) = rw e (kept_job (ltb (rec ρ p).start ρ.setting.horizon) q (rec ρ p) F.here.1)

  jobs_at_H : (qs : List Job) → map job_of (map (at_H ρ) qs) ≡ qs
  jobs_at_H [] = refl
  jobs_at_H (q ∷ qs) = λ κ. job_at_H q κ ∷ jobs_at_H qs κ

  pub opening_recorded : (H' : ℕ) → jobs_recorded (opening ρ H') ≡ existing ρ H'
  unfolding opening
  opening_recorded H' = jobs_at_H (existing ρ H')

  pub opening_jobs : (H' : ℕ) → Jobs (opening ρ H')
  unfolding opening
  opening_jobs H' = opening_recorded H' ∙ existing_again ρ (opening ρ H') H' refl (opening_recorded H')

  pub opening_tasks : (H' : ℕ) → (opening ρ H').tasks ≡ ρ.tasks
  unfolding opening
  opening_tasks H' = refl

  pub opening_count : (H' : ℕ) → length (opening ρ H').records ≡ length (existing ρ H')
  unfolding opening
  opening_count H' = length-map (existing ρ H') (at_H ρ)

  pub at_opening : (H' k : ℕ) → IsRecord (opening ρ H') k → rec (opening ρ H') k ≡ at_H ρ (job_of (rec (opening ρ H') k))
  unfolding opening
  at_opening H' k h =
      let q = get_or (existing ρ H') k (0, 0) in
      let e : rec (opening ρ H') k ≡ at_H ρ q =
      at_map (at_H ρ) (existing ρ H') k no_record (0, 0) (rw (length-map (existing ρ H') (at_H ρ)) at h) in
      e ∙ ap (at_H ρ) (sym (job_at_H q) ∙ ap job_of (sym e))

  -- each is of a task, and exists at H'
  pub job_exists : Good ρ.tasks → (H' k : ℕ) → IsRecord (opening ρ H') k
      → ((rec (opening ρ H') k).task < length ρ.tasks) × Exists (task ρ.tasks (rec (opening ρ H') k).task) H' (rec (opening ρ H') k).job
  unfolding opening
  job_exists good H' k h = record_exists (opening ρ H') (opening_jobs H') good k h

-- Where each comes from
-- ---------------------
module _ (ρ : Run) (H' : ℕ) (O : Obeys ρ) (good : Good ρ.tasks) (longer : ρ.setting.horizon ≤ H') where
  abbrev σ₀ : Run
  σ₀ = opening ρ H'

  abbrev H : ℕ
  H = ρ.setting.horizon

  abbrev arrives : Job → ℕ
  arrives q = arrival (task ρ.tasks q.0) q.1

  pub data Origin (k : ℕ) : Type 0 where
    kept : (p : ℕ) → IsRecord ρ p → (rec ρ p).start < H → rec σ₀ k ≡ rec ρ p → Origin k
    old : (p : ℕ) → IsRecord ρ p → H ≤ (rec ρ p).start → rec σ₀ k ≡ unbegun (job_of (rec ρ p)) (rec ρ p).release → Origin k
    new : (q : Job) → H ≤ arrives q → rec σ₀ k ≡ unbegun q (arrives q) → Origin k

  origin_of : (k : ℕ) (q : Job) → q.0 < length ρ.tasks → rec σ₀ k ≡ at_H ρ q → Origin k
  origin_of k q r z = go (place_finds ρ q)
    where
      go : Finds ◌<◌ (RecordOf ρ q) (place_of ρ q) → Origin k
      go (Finds.none_passes e f) = new q (late (dec_le H (arrives q))) (z ∙ rw e)
        where
          late : Dec (H ≤ arrives q) → H ≤ arrives q
          late (yes w) = w
          late (no w) = let (p, l, j) = has_record ρ (O rule1) good q r (omega (arith, w)) in absurd (f p (l, j))
      go (Finds.passes p e F) = before (ltb (rec ρ p).start H) refl
        where
          before : (b : Bool) → ltb (rec ρ p).start H ≡ b → Origin k
          before true w = kept p F.here.0 ((says_ltb _ _).sound w) (z ∙ rw (e, w))
          before false w =
              let l = (says_ltb (rec ρ p).start H).refutes w in
              old p F.here.0 (omega (arith, l)) (z ∙ rw (e, w) (ap (λ j. unbegun j (rec ρ p).release) (sym F.here.1)))

  pub origin : (k : ℕ) → IsRecord σ₀ k → Origin k
  origin k h = origin_of k (job_of (rec σ₀ k)) (job_exists ρ good H' k h).0 (at_opening ρ H' k h)

  -- what stands of the job of record p
  data Stands (k p : ℕ) : Type 0 where
    still : (rec ρ p).start < H → rec σ₀ k ≡ rec ρ p → Stands k p
    again : H ≤ (rec ρ p).start → (rec σ₀ k).core ≡ 0 → Stands k p

  stands : (k p : ℕ) → IsRecord σ₀ k → IsRecord ρ p → job_of (rec σ₀ k) ≡ job_of (rec ρ p) → Stands k p
  stands k p m h f = go (origin k m)
    where
      go : Origin k → Stands k p
      go (kept z g b e) =
          let w = one_record ρ (O rule1) z p g h (ap job_of (sym e) ∙ f) in
          still (rw w at b) (e ∙ ap (rec ρ) w)
      go (old z g b e) =
          let w = one_record ρ (O rule1) z p g h (ap job_of (sym e) ∙ f) in
          again (rw w at b) (ap (λ x. x.core) e)
      go (new q b e) =
          let w : q ≡ job_of (rec ρ p) = ap job_of (sym e) ∙ f in
          let y : H ≤ arrives (job_of (rec ρ p)) = rw w at b in
          absurd (omega (arith, (record_exists ρ (O rule1) good p h).1))

  -- a record that starts before H stands in the longer run
  pub place : (p : ℕ) → IsRecord ρ p → (rec ρ p).start < H → (k : ℕ) × IsRecord σ₀ k × (rec σ₀ k ≡ rec ρ p)
  unfolding opening
  place p h l =
      let (r, x) = record_exists ρ (O rule1) good p h in
      let (k, m, f) = has_record σ₀ (opening_jobs ρ H') good (job_of (rec ρ p)) r (omega arith) in
      (k, m, same k (stands k p m h f))
    where
      same : (k : ℕ) → Stands k p → rec σ₀ k ≡ rec ρ p
      same k (still b e) = e
      same k (again b e) = absurd (omega arith)

  -- The invariant at H
  -- ------------------
  waits : (k : ℕ) (q : Job) (r : ℕ) → rec σ₀ k ≡ unbegun q r → ¬ Begun σ₀ k
  waits k q r e b = let w : (rec σ₀ k).core ≡ 0 = ap (λ x. x.core) e in omega arith

  releases₀ : (k : ℕ) → Origin k → Released σ₀ k
  unfolding opening
  releases₀ k (kept p h l e) = rw e (O rule2 p h)
  releases₀ k (old p h l e) = rw e (O rule2 p h)
  releases₀ k (new q l e) = rw e (omega arith, omega arith)

  -- k is the job of record p
  module _ (k p : ℕ) (m : IsRecord σ₀ k) (h : IsRecord ρ p) (job : job_of (rec σ₀ k) ≡ job_of (rec ρ p)) (release : (rec σ₀ k).release ≡ (rec ρ p).release) where
    abbrev after : BothAfter σ₀ k ρ p
    after = both_after σ₀ ρ (opening_jobs ρ H') (O rule1) k p m h job

    -- one that is ready was ready then in the recorded run
    was_ready : (v : ℕ) → ReadyBy σ₀ k v → ready ρ p ≤ v
    was_ready v R = go after
      where
        go : BothAfter σ₀ k ρ p → ready ρ p ≤ v
        go (no_job d e) = omega (arith, R.instant, ready_alone σ₀ k d, ready_alone ρ p e)
        go (one_job x z d e g l j) = at (stands x z g l j)
          where
            at : Stands x z → ready ρ p ≤ v
            at (still b s) =
                let y : (rec σ₀ x).end ≡ (rec ρ z).end = ap (λ r. r.end) s in
                omega (arith, R.instant, ready_after σ₀ k x d, ready_after ρ p z e)
            at (again b c) = let w = R.begun_before x d in absurd (omega arith)

    -- and one that started before H was ready when it started: so was the job before it, and that has ended
    ready_kept : (rec ρ p).start < H → ReadyBy σ₀ k (rec ρ p).start
    ready_kept early = go after
      where
        go : BothAfter σ₀ k ρ p → ReadyBy σ₀ k (rec ρ p).start
        go (no_job d e) = record { begun_before = nothing_before σ₀ k d; instant = omega (arith, ready_alone σ₀ k d, O rule3 p h) }
        go (one_job x z d e g l j) = at (stands x z g l j)
          where
            ended : (rec ρ z).end ≤ (rec ρ p).start
            ended = omega (arith, O rule9 p h, end_after ρ p z e)

            at : Stands x z → ReadyBy σ₀ k (rec ρ p).start
            at (still b s) =
                let y : (rec σ₀ x).end ≡ (rec ρ z).end = ap (λ r. r.end) s in
                record {
                  begun_before = begun_before_one σ₀ k x d (rw s (O rule5 z l).0);
                  instant = omega (arith, ready_after σ₀ k x d, O rule3 p h, ended);
                }
            at (again b c) = absurd (omega (arith, ended, (O rule4 z l).0))

  started₀ : (k : ℕ) → IsRecord σ₀ k → Origin k → Begun σ₀ k → ReadyBy σ₀ k (rec σ₀ k).start
  started₀ k m (kept p h l e) b = rw e (ready_kept k p m h (ap job_of e) (ap (λ x. x.release) e) l)
  started₀ k m (old p h l e) b = absurd (waits k _ _ e b)
  started₀ k m (new q l e) b = absurd (waits k _ _ e b)

  lengths₀ : (k : ℕ) → Origin k → Begun σ₀ k → Lasted σ₀ k
  unfolding opening
  lengths₀ k (kept p h l e) b = rw e (O rule4 p h)
  lengths₀ k (old p h l e) b = absurd (waits k _ _ e b)
  lengths₀ k (new q l e) b = absurd (waits k _ _ e b)

  cores₀ : (k : ℕ) → Origin k → (rec σ₀ k).core ≤ σ₀.setting.cores
  unfolding opening
  cores₀ k (kept p h l e) = rw e (O rule5 p h).1
  cores₀ k (old p h l e) = rw e (omega arith)
  cores₀ k (new q l e) = rw e (omega arith)

  past₀ : (k : ℕ) → Origin k → Begun σ₀ k → (rec σ₀ k).start ≤ H
  past₀ k (kept p h l e) b = rw e (omega arith)
  past₀ k (old p h l e) b = absurd (waits k _ _ e b)
  past₀ k (new q l e) b = absurd (waits k _ _ e b)

  apart_old : (p z : ℕ) → IsRecord ρ p → IsRecord ρ z → ¬ (p ≡ z) → OnOneCore ρ p z → Apart ρ p z
  apart_old p z h l f e = go (dec_lt p z)
    where
      go : Dec (p < z) → Apart ρ p z
      go (yes w) = O rule6 p z w l e
      go (no w) = ⊎_elim inr inl (O rule6 z p (omega (arith, w, f)) h (sym e))

  apart₀ : (a b : ℕ) → ¬ (job_of (rec σ₀ a) ≡ job_of (rec σ₀ b)) → Origin a → Origin b → Begun σ₀ a → OnOneCore σ₀ a b → Apart σ₀ a b
  apart₀ a b f (kept p h l e) (kept z g m d) w c =
      rw (e, d) (apart_old p z h g (λ y. f (ap job_of e ∙ ap (λ n. job_of (rec ρ n)) y ∙ ap job_of (sym d))) (rw (e, d) at c))
  apart₀ a b f (kept p h l e) (old z g m d) w c = absurd (waits b _ _ d (rw c at w))
  apart₀ a b f (kept p h l e) (new q m d) w c = absurd (waits b _ _ d (rw c at w))
  apart₀ a b f (old p h l e) o w c = absurd (waits a _ _ e w)
  apart₀ a b f (new q l e) o w c = absurd (waits a _ _ e w)

  -- rule 7 of ρ, where b is the job of record z
  order_old : (a b p z : ℕ) → IsRecord σ₀ b → IsRecord ρ p → IsRecord ρ z → rec σ₀ a ≡ rec ρ p → job_of (rec σ₀ b) ≡ job_of (rec ρ z)
      → (rec σ₀ b).release ≡ (rec ρ z).release → (rec ρ p).start < (rec ρ z).start → NotPassed σ₀ a b
  order_old a b p z n h g e j r l =
      let x = same_rank σ₀ ρ a p (opening_tasks ρ H') (ap job_of e) (ap (λ x. x.release) e) in
      let y = same_rank σ₀ ρ b z (opening_tasks ρ H') j r in
      rw (x, y, e) (⊎_elim inl (λ w. inr (λ R. omega (arith, was_ready b z n g j r (rec ρ p).start R))) (O rule7 p z h g l))

  order₀ : (a b : ℕ) → IsRecord σ₀ b → Origin a → Origin b → Begun σ₀ a → (Begun σ₀ b → (rec σ₀ a).start < (rec σ₀ b).start) → NotPassed σ₀ a b
  order₀ a b n (kept p h l e) (kept z g m d) w c =
      order_old a b p z n h g e (ap job_of d) (ap (λ x. x.release) d) (rw (e, d) at (c (rw d (O rule5 z g).0)))
  order₀ a b n (kept p h l e) (old z g m d) w c = order_old a b p z n h g e (ap job_of d) (ap (λ x. x.release) d) (omega arith)
  order₀ a b n (kept p h l e) (new q m d) w c =
      let r : (rec σ₀ b).release ≡ arrives q = ap (λ x. x.release) d in
      let s : (rec σ₀ a).start ≡ (rec ρ p).start = ap (λ x. x.start) e in
      inr (λ R. omega (arith, release_ready σ₀ b, R.instant))
  order₀ a b n (old p h l e) o w c = absurd (waits a _ _ e w)
  order₀ a b n (new q l e) o w c = absurd (waits a _ _ e w)

  -- what keeps a core busy before H is kept
  busy₀ : (c v : ℕ) → v < H → Busy ρ c v → Busy σ₀ c v
  busy₀ c v a (j, l, e, p, q) = let (k, h, o) = place j l (omega arith) in (k, h, rw o e, rw o p, rw o q)

  no_idling₀ : (a : ℕ) → IsRecord σ₀ a → Origin a → (v : ℕ) → Waited H σ₀ a v → (c : ℕ) → IsCore ρ c → Busy σ₀ c v
  no_idling₀ a m (kept p h l e) v (r, f, g) c i =
      let x = was_ready a p m h (ap job_of e) (ap (λ x. x.release) e) v r in
      let y : v < (rec ρ p).start = rw e at (f (rw e (O rule5 p h).0)) in
      busy₀ c v (omega arith) (O rule8 p h v (x, y) c i)
  no_idling₀ a m (old p h l e) v (r, f, g) c i =
      let x = was_ready a p m h (ap job_of e) (ap (λ x. x.release) e) v r in
      let y : v < H = g (waits a _ _ e) in
      busy₀ c v y (O rule8 p h v (x, omega arith) c i)
  no_idling₀ a m (new q l e) v (r, f, g) c i =
      let x : (rec σ₀ a).release ≡ arrives q = ap (λ x. x.release) e in
      let y : v < H = g (waits a _ _ e) in
      absurd (omega (arith, release_ready σ₀ a, r.instant))

  opening_cores : σ₀.setting.cores ≡ ρ.setting.cores
  unfolding opening
  opening_cores = refl

  two_jobs : (a b : ℕ) → a < b → IsRecord σ₀ b → ¬ (job_of (rec σ₀ a) ≡ job_of (rec σ₀ b))
  two_jobs a b l h e = let w = one_record σ₀ (opening_jobs ρ H') a b (omega arith) h e in omega arith

  pub inv₀ : Inv H σ₀
  inv₀ =
      record {
        releases = λ k h. releases₀ k (origin k h);
        started = λ k h. started₀ k h (origin k h);
        lengths = λ k h. lengths₀ k (origin k h);
        cores = λ k h. cores₀ k (origin k h);
        past = λ k h. past₀ k (origin k h);
        apart = λ a b l h. apart₀ a b (two_jobs a b l h) (origin a (omega arith)) (origin b h);
        order = λ a b h l. order₀ a b l (origin a h) (origin b l);
        no_idling = λ a h v w c i. no_idling₀ a h (origin a h) v w c (rw opening_cores at i);
      }
