-- What is found over the columns of a table is what is found of the run. Assumes nothing.
use Rattle.std.specs.Prelude.{Option, Some}
use Prim.Native.Nat.{ℕ, ◌+◌, ◌*◌, ◌-◌, ◌≤◌, ◌<◌}
use mathlib.Core.Path.{◌≡◌, sym, ◌∙◌, ap}
use mathlib.Core.Bool.{true, false, ◌&&◌, false≢true}
use mathlib.Core.List.{List}
use native.Mathlib.Omega.{arith}
use lib.Dec.{eqb}
use lib.ListN.{length, get_or}
use Rattle.base.specs.Find.{first}
use Rattle.base.proofs.Find.{some≢none}
use Rattle.base.proofs.Same.{first_same}
use Rattle.base.proofs.Test.{Says, says_eqb, says_and, says_same, says_false}
use Rattle.model.specs.Model.{Run, IsRecord, rec, preceding}
use Rattle.model.specs.Rules.{Jobs}
use Rattle.carrytheory.proofs.Preceding.{first_alone, not_first, record_before}
use Rattle.table.specs.Table.{Lent, recorded, column_of, ForEach}
use Rattle.table.proofs.LentLaws.{number_of, column_of_lem}
use Rattle.causes.specs.Cause.{AtRelease}
use Rattle.causes.specs.FoundCause.{at_release, ended_if, own_ended, core_ended, cause_if, cause_of}
use Rattle.causes.proofs.WhoseEnd.{says_at_release, says_own_ended}
use Rattle.chain.specs.ChainTold.{ended_in}

pub says_ended : (es cs : List ℕ) (c at j : ℕ) → Says (ended_in es cs c at j) ((get_or es j 0 ≡ at) × (get_or cs j 0 ≡ c))
unfolding ended_in
says_ended es cs c at j = says_and (says_eqb (get_or es j 0) at) (says_eqb (get_or cs j 0) c)

module _ {ρ : Run} {t : List ℕ} {n k : ℕ} (L : Lent recorded ρ t n) (l : k < n) where
  range : IsRecord ρ k
  range = omega (arith, L.count)

  pub release_tied : eqb (get_or t (3 * n + k) 0) (get_or t (2 * n + k) 0) ≡ at_release ρ k
  unfolding at_release
  release_tied = λ κ. eqb (L.number 3 k (omega arith) l κ) (L.number 2 k (omega arith) l κ)

  -- Its own task's job
  -- ------------------
  module _ (J : Jobs ρ) where
    is_job : get_or t (1 * n + k) 0 ≡ (rec ρ k).job
    is_job = L.number 1 k (omega arith) l

    pub own_first : get_or t (1 * n + k) 0 ≡ 0 → false ≡ own_ended ρ k
    own_first z = sym (says_false (says_own_ended ρ k) (λ w. some≢none (sym w.1.0 ∙ first_alone ρ k (sym is_job ∙ z))))

    module _ (f : ¬ (get_or t (1 * n + k) 0 ≡ 0)) where
      job : 1 ≤ (rec ρ k).job
      job = omega (arith, f, is_job)

      -- it is not the first record, and the one before is of its task
      pub not_at_front : 1 ≤ k
      not_at_front = not_first ρ J k range job

      pub before : preceding ρ k ≡ Some (k - 1)
      before = record_before ρ J k (k - 1) range job (omega (arith, not_at_front))

      pub own_later : eqb (get_or t (4 * n + k - 1) 0) (get_or t (3 * n + k) 0) ≡ own_ended ρ k
      unfolding own_ended
      own_later =
          let one = not_at_front in
          (λ κ. eqb (number_of L 4 (k - 1) (4 * n + k - 1) (omega arith) (omega arith) (omega arith) κ) (L.number 3 k (omega arith) l κ))
          ∙ ap (ended_if ρ k) (sym before)

    -- where it ended then, it is that of the record before
    pub own_before : own_ended ρ k ≡ true → (1 ≤ k) × (preceding ρ k ≡ Some (k - 1))
    own_before e =
        let f : ¬ (get_or t (1 * n + k) 0 ≡ 0) = λ z. false≢true (own_first z ∙ e) in
        (not_at_front f, before f)

  -- The core's
  -- ----------
  pub core_tied : {es cs : List ℕ} {c at : ℕ} → es ≡ column_of n t 4 → cs ≡ column_of n t 5 → c ≡ get_or t (5 * n + k) 0 → at ≡ get_or t (3 * n + k) 0
      → first (ended_in es cs c at) 0 (length es) ≡ core_ended ρ k
  unfolding core_ended ended_in
  core_tied {es} {cs} {c} {at} e d x y =
      (λ κ. first (ended_in es cs c at) 0 (E.long κ))
      ∙ first_same _ _ (length ρ.records) 0 (λ j h. same j (omega arith))
    where
      E : ForEach ρ es (λ j. (rec ρ j).end)
      E = rw e (column_of_lem L 4 (omega arith) (omega arith))

      C : ForEach ρ cs (λ j. (rec ρ j).core)
      C = rw d (column_of_lem L 5 (omega arith) (omega arith))

      core : c ≡ (rec ρ k).core
      core = x ∙ L.number 5 k (omega arith) l

      start : at ≡ (rec ρ k).start
      start = y ∙ L.number 3 k (omega arith) l

      same : (j : ℕ) → IsRecord ρ j → ended_in es cs c at j ≡ (eqb (rec ρ j).core (rec ρ k).core && eqb (rec ρ j).end (rec ρ k).start)
      same j h =
          says_same (says_ended es cs c at j) (says_and (says_eqb (rec ρ j).core (rec ρ k).core) (says_eqb (rec ρ j).end (rec ρ k).start))
          (λ w. (sym (C.each j h) ∙ w.1 ∙ core, sym (E.each j h) ∙ w.0 ∙ start))
          (λ w. (E.each j h ∙ w.1 ∙ sym start, C.each j h ∙ w.0 ∙ sym core))

-- Of a record that did not start at its release
-- ---------------------------------------------
module _ (ρ : Run) (k : ℕ) (late : ¬ AtRelease ρ k) where
  pub own_is : (p : ℕ) → own_ended ρ k ≡ true → preceding ρ k ≡ Some p → Some p ≡ cause_of ρ k
  unfolding cause_of
  own_is p b e =
      let a : at_release ρ k ≡ false = says_false (says_at_release ρ k) late in
      sym (λ κ. cause_if ρ (a κ) (b κ) (e κ) (core_ended ρ k))

  pub core_is : {o : Option ℕ} → own_ended ρ k ≡ false → o ≡ core_ended ρ k → o ≡ cause_of ρ k
  unfolding cause_of
  core_is b e =
      let a : at_release ρ k ≡ false = says_false (says_at_release ρ k) late in
      e ∙ sym (λ κ. cause_if ρ (a κ) (b κ) (preceding ρ k) (core_ended ρ k))
