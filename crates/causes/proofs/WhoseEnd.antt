-- Whose end a record waited for, in a run within its limits that obeys all rules: a record that did not start at its release has a cause,
-- and only one; it ended at this start, and it started earlier. Assumes nothing.
use Rattle.std.specs.Prelude.{None, Option, Some}
use Prim.Native.Nat.{ℕ, ◌-◌, ◌≤◌, ◌<◌}
use mathlib.Core.Path.{◌≡◌, refl, sym, ◌∙◌, ap}
use mathlib.Core.Logic.{◌⊎◌, inl, inr, ⊎_elim}
use mathlib.Core.Bool.{true, false, false≢true}
use native.Mathlib.Omega.{arith}
use native.Mathlib.Decide.{ℕ_discrete}
use lib.ListN.{length}
use Rattle.base.proofs.Find.{some≢none}
use Rattle.base.proofs.Test.{Says, says_eqb, says_and, says_map, says_true, says_false}
use Rattle.base.proofs.Searches.{Finds, total_number, first_finds, finds_same}
use Rattle.model.specs.Model.{Run, WithinLimits, IsRecord, rec, preceding, rank, ready}
use Rattle.model.specs.Rules.{Obeys, IsCore, OnOneCore, Apart, Busy, rule1, rule3, rule4, rule5, rule6, rule7, rule8, rule9}
use Rattle.carrytheory.proofs.Recorded.{record_exists}
use Rattle.carrytheory.proofs.Preceding.{preceding_is}
use Rattle.carrytheory.proofs.Readiness.{ready_alone, end_after, ready_after}
use Rattle.causes.specs.Cause.{AtRelease, EndedAt, OwnEnded, CoreEnded, Cause}
use Rattle.causes.specs.FoundCause.{at_release, ended_if, own_ended, core_ended, cause_if, cause_of}

-- What the tests say, of any run
-- ------------------------------
module _ (ρ : Run) (k : ℕ) where
  pub says_at_release : Says (at_release ρ k) (AtRelease ρ k)
  unfolding at_release
  says_at_release = says_eqb _ _

  ended_if_lem : (o : Option ℕ) → preceding ρ k ≡ o → Says (ended_if ρ k o) ((p : ℕ) × OwnEnded ρ k p)
  ended_if_lem None e = record { sound = λ q. absurd (false≢true q); refutes = λ q w. some≢none (sym w.1.0 ∙ e) }
  ended_if_lem (Some p) e =
      says_map (λ q. (p, (e, q))) (λ (x, (w, q)). let z : p ≡ x = cc in rw z q) (says_eqb (rec ρ p).end (rec ρ k).start)

  pub says_own_ended : Says (own_ended ρ k) ((p : ℕ) × OwnEnded ρ k p)
  unfolding own_ended
  says_own_ended = ended_if_lem (preceding ρ k) refl

  pub core_finds : Finds ◌<◌ (CoreEnded ρ k) (core_ended ρ k)
  unfolding core_ended
  core_finds =
      finds_same (λ j h. (omega (arith, h.1), h.2.0, h.2.1)) (λ j h. (omega arith, omega (arith, h.0), (h.1, h.2)))
      (first_finds _ _ (λ j. says_and (says_eqb (rec ρ j).core (rec ρ k).core) (says_eqb (rec ρ j).end (rec ρ k).start)) 0 (length ρ.records))

  -- a record that started at its release has no cause
  pub no_cause_found : AtRelease ρ k → cause_of ρ k ≡ None
  unfolding cause_of
  no_cause_found e =
      let a : at_release ρ k ≡ true = says_true says_at_release e in
      λ κ. cause_if ρ (a κ) (own_ended ρ k) (preceding ρ k) (core_ended ρ k)

module _ (ρ : Run) (W : WithinLimits ρ) (O : Obeys ρ) where
  -- B is at least 1
  pub lasts : (k : ℕ) → IsRecord ρ k → (rec ρ k).start < (rec ρ k).end
  lasts k h =
      let (r, e) = record_exists ρ (O rule1) (λ i l. (W.tasks i l).period.0) k h in
      omega (arith, O rule4 k h, (W.tasks (rec ρ k).task r).times)

  -- A cause
  -- -------
  pub cause_earlier : {k j : ℕ} → Cause ρ k j → IsRecord ρ j × EndedAt ρ j k × ((rec ρ j).start < (rec ρ k).start)
  cause_earlier {k} {j} (Cause.own_job f (e, q)) = let r = (preceding_is ρ k j e).range in (r, q, omega (arith, lasts j r))
  cause_earlier {k} {j} (Cause.core_job f g (r, c, q)) = (r, q, omega (arith, lasts j r))

  pub cause_waited : {k j : ℕ} → Cause ρ k j → ¬ AtRelease ρ k
  cause_waited (Cause.own_job f w) = f
  cause_waited (Cause.core_job f g w) = f

  -- of two on one core one ends before the other starts
  apart : (a b : ℕ) → IsRecord ρ a → IsRecord ρ b → OnOneCore ρ a b → ¬ (a ≡ b) → Apart ρ a b
  apart a b h l c d = go (total_number a b)
    where
      go : (a < b) ⊎ ((a ≡ b) ⊎ (b < a)) → Apart ρ a b
      go (inl u) = O rule6 a b u l c
      go (inr (inl e)) = absurd (d e)
      go (inr (inr u)) = ⊎_elim inr inl (O rule6 b a u h (sym c))

  -- one job on a core ended at an instant, at most
  core_once : (k i j : ℕ) → CoreEnded ρ k i → CoreEnded ρ k j → i ≡ j
  core_once k i j (h, c, q) (l, d, r) = go (ℕ_discrete i j)
    where
      go : Dec (i ≡ j) → i ≡ j
      go (yes e) = e
      go (no f) =
          absurd (⊎_elim (λ u. omega (arith, lasts j l, q, r)) (λ u. omega (arith, lasts i h, q, r)) (apart i j h l (c ∙ sym d) f))

  module _ (k : ℕ) (h : IsRecord ρ k) (late : ¬ AtRelease ρ k) where
    -- A record that waited for no job of its own task was ready before it started; ..
    pub ready_earlier : ((p : ℕ) → ¬ OwnEnded ρ k p) → ready ρ k < (rec ρ k).start
    ready_earlier f = go (preceding ρ k) refl
      where
        go : (o : Option ℕ) → preceding ρ k ≡ o → ready ρ k < (rec ρ k).start
        go None e = omega (arith, ready_alone ρ k e, O rule3 k h, late)
        go (Some p) e =
            let n : ¬ EndedAt ρ p k = λ q. f p (e, q) in
            omega (arith, ready_after ρ k p e, end_after ρ k p e, O rule3 k h, O rule9 k h, late, n)

    -- .. so that its core was busy just before, with a job that ended then.
    core_cause : ((p : ℕ) → ¬ OwnEnded ρ k p) → (j : ℕ) × CoreEnded ρ k j
    core_cause f =
        let r = ready_earlier f in
        let (j, l, c, s, e) = O rule8 k h ((rec ρ k).start - 1) (omega (arith, r), omega (arith, r)) (rec ρ k).core (O rule5 k h) in
        (j, (l, c, ended j l c (omega (arith, r, s)) (omega (arith, r, e))))
      where
        ended : (j : ℕ) → IsRecord ρ j → OnOneCore ρ j k → (rec ρ j).start < (rec ρ k).start → (rec ρ k).start ≤ (rec ρ j).end → EndedAt ρ j k
        ended j l c s e =
            ⊎_elim (λ u. omega arith) (λ u. absurd (omega (arith, lasts k h)))
            (apart j k l h c (λ z. omega (arith, s, ap (λ i. (rec ρ i).start) z)))

    pub has_cause : (j : ℕ) × Cause ρ k j
    has_cause = go (preceding ρ k) refl
      where
        by_core : ((p : ℕ) → ¬ OwnEnded ρ k p) → (j : ℕ) × Cause ρ k j
        by_core f = let (j, w) = core_cause f in (j, Cause.core_job late f w)

        of_own : (p : ℕ) → preceding ρ k ≡ Some p → Dec (EndedAt ρ p k) → (j : ℕ) × Cause ρ k j
        of_own p e (yes q) = (p, Cause.own_job late (e, q))
        of_own p e (no f) = by_core (λ x w. let z : p ≡ x = cc in f (rw z w.1))

        go : (o : Option ℕ) → preceding ρ k ≡ o → (j : ℕ) × Cause ρ k j
        go None e = by_core (λ p w. some≢none (sym w.0 ∙ e))
        go (Some p) e = of_own p e (ℕ_discrete (rec ρ p).end (rec ρ k).start)

  -- It is what is found.
  pub cause_found : {k j : ℕ} → Cause ρ k j → cause_of ρ k ≡ Some j
  unfolding cause_of
  cause_found {k} {j} (Cause.own_job f (e, q)) =
      let a : at_release ρ k ≡ false = says_false (says_at_release ρ k) f in
      let b : own_ended ρ k ≡ true = says_true (says_own_ended ρ k) (j, (e, q)) in
      λ κ. cause_if ρ (a κ) (b κ) (e κ) (core_ended ρ k)
  cause_found {k} {j} (Cause.core_job f g w) =
      let a : at_release ρ k ≡ false = says_false (says_at_release ρ k) f in
      let b : own_ended ρ k ≡ false = says_false (says_own_ended ρ k) (λ x. g x.0 x.1) in
      (λ κ. cause_if ρ (a κ) (b κ) (preceding ρ k) (core_ended ρ k)) ∙ found (core_finds ρ k)
    where
      found : Finds ◌<◌ (CoreEnded ρ k) (core_ended ρ k) → core_ended ρ k ≡ Some j
      found (Finds.none_passes e n) = absurd (n j w)
      found (Finds.passes i e F) = e ∙ ap Some (core_once k i j F.here w)

  pub cause_once : {k i j : ℕ} → Cause ρ k i → Cause ρ k j → i ≡ j
  cause_once {k} {i} {j} c d = let e : Some i ≡ Some j = sym (cause_found c) ∙ cause_found d in cc

  -- Of a record that waited for its core: from when it was ready on every core was busy, and a job that held its core although it goes
  -- after it had begun before it was ready.
  module _ (k j : ℕ) (h : IsRecord ρ k) (late : ¬ AtRelease ρ k) (f : (p : ℕ) → ¬ OwnEnded ρ k p) (w : CoreEnded ρ k j) where
    pub all_busy : (t : ℕ) → ready ρ k ≤ t → t < (rec ρ k).start → (c : ℕ) → IsCore ρ c → Busy ρ c t
    all_busy t r s = O rule8 k h t (r, s)

    pub began_before_ready : rank ρ k < rank ρ j → (rec ρ j).start < ready ρ k
    began_before_ready l =
        let (r, q, s) = cause_earlier (Cause.core_job late f w) in
        ⊎_elim (λ u. absurd (omega arith)) (λ u. u) (O rule7 j k r h s)
