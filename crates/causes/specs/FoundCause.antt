-- The cause and the chain, computed: in an accepted run the cause of a record, if it has one (law `cause_found`), and its chain (law
-- `closes`).
use Rattle.std.specs.Prelude.{ℕ, zero, suc, Bool, true, false, ◌&&◌, List, [], ◌∷◌, eqb, length, None, Option, Some}
use Rattle.base.specs.Find.{first}
use Rattle.model.specs.Model.{Run, rec, preceding}

module _ (ρ : Run) where
  unfoldable pub at_release : ℕ → Bool
  at_release k = eqb (rec ρ k).start (rec ρ k).release

  -- whether a job, if there is one, ended at the start of k
  abbrev pub ended_if : ℕ → Option ℕ → Bool
  ended_if k None = false
  ended_if k (Some p) = eqb (rec ρ p).end (rec ρ k).start

  unfoldable pub own_ended : ℕ → Bool
  own_ended k = ended_if k (preceding ρ k)

  -- the first record on k's core that ended at its start
  unfoldable pub core_ended : ℕ → Option ℕ
  core_ended k = first (λ j. eqb (rec ρ j).core (rec ρ k).core && eqb (rec ρ j).end (rec ρ k).start) 0 (length ρ.records)

  -- none where it started at its release; else its own task's job, if that ended then; else the core's
  abbrev pub cause_if : Bool → Bool → Option ℕ → Option ℕ → Option ℕ
  cause_if true own p j = None
  cause_if false true p j = p
  cause_if false false p j = j

  unfoldable pub cause_of : ℕ → Option ℕ
  cause_of k = cause_if (at_release k) (own_ended k) (preceding ρ k) (core_ended k)

  -- what comes after a record: nothing, or the chain of its cause
  abbrev pub onwards : (ℕ → List ℕ) → Option ℕ → List ℕ
  onwards chain None = []
  onwards chain (Some j) = chain j

  -- in at most so many rounds; the start falls at each
  unfoldable pub chain_in : ℕ → ℕ → List ℕ
  chain_in zero k = k ∷ []
  chain_in (suc u) k = k ∷ onwards (chain_in u) (cause_of k)

  unfoldable pub chain_of : ℕ → List ℕ
  chain_of k = chain_in (rec ρ k).start k
