-- The tests of the rules say what the rules say of one record, of two, and of a core at an instant. Assumes nothing.
use Rattle.std.specs.Prelude.{None, Option, Some}
use Prim.Native.Nat.{ℕ, ◌≤◌, ◌<◌}
use mathlib.Core.Path.{◌≡◌, refl, sym, ap}
use mathlib.Core.Bool.{true≢false, false≢true}
use native.Mathlib.Omega.{arith}
use lib.Dec.{leb, ltb}
use mathlib.Core.Bool.{◌||◌}
use Rattle.base.proofs.Test.{Says, says_leb, says_ltb, says_eqb, says_and, says_or, says_not, says_map}
use Rattle.base.proofs.Find.{some≢none}
use Rattle.base.proofs.Searches.{first_finds, found_says}
use Rattle.model.specs.Model.{Run, Job, rec, rank, ready, same_job}
use Rattle.model.specs.Rules.{Released, Started, Lasted, IsCore, OnOneCore, Apart, StartsBefore, InOrder, Busy, InTurn}
use Rattle.model.specs.Compute.Places.{same_entry, size, released, started, lasted, is_core, overlap, out_of_order, holds, busy, in_turn}

pub says_same_job : (p q : Job) → Says (same_job p q) (p ≡ q)
says_same_job p q =
    says_map (λ w κ. (w.0 κ, w.1 κ)) (λ e. (ap (λ x. x.0) e, ap (λ x. x.1) e)) (says_and (says_eqb p.0 q.0) (says_eqb p.1 q.1))

pub says_same_entry : (o p : Option Job) → Says (same_entry o p) (o ≡ p)
says_same_entry None None = record { sound = λ e. refl; refutes = λ e h. true≢false e }
says_same_entry None (Some q) = record { sound = λ e. absurd (false≢true e); refutes = λ e h. some≢none (sym h) }
says_same_entry (Some p) None = record { sound = λ e. absurd (false≢true e); refutes = λ e h. some≢none h }
says_same_entry (Some p) (Some q) = says_map (ap Some) (λ e. cc) (says_same_job p q)

module _ (ρ : Run) where
  pub says_released : (k : ℕ) → Says (released ρ k) (Released ρ k)
  says_released k = says_and (says_leb _ _) (says_leb _ _)

  pub says_started : (k : ℕ) → Says (started ρ k) (Started ρ k)
  says_started k = says_leb _ _

  pub says_lasted : (k : ℕ) → Says (lasted ρ k) (Lasted ρ k)
  says_lasted k = says_map (λ g. (g.0, g.1.0, g.1.1)) (λ g. (g.0, (g.1, g.2))) (says_and (says_leb _ _) (says_and (says_leb _ _) (says_leb _ _)))

  pub says_core : (c : ℕ) → Says (is_core ρ c) (IsCore ρ c)
  says_core c = says_and (says_leb _ _) (says_leb _ _)

  pub says_apart : (a b : ℕ) → Says (leb (rec ρ a).end (rec ρ b).start || leb (rec ρ b).end (rec ρ a).start) (Apart ρ a b)
  says_apart a b = says_or (says_leb _ _) (says_leb _ _)

  pub says_overlap : (a b : ℕ) → Says (overlap ρ a b) (OnOneCore ρ a b × ¬ Apart ρ a b)
  says_overlap a b = says_and (says_eqb _ _) (says_not (says_apart a b))

  pub says_in_order : (a b : ℕ) → Says (leb (rank ρ a) (rank ρ b) || ltb (rec ρ a).start (ready ρ b)) (InOrder ρ a b)
  says_in_order a b = says_or (says_leb _ _) (says_ltb _ _)

  pub says_out_of_order : (a b : ℕ) → Says (out_of_order ρ a b) (StartsBefore ρ a b × ¬ InOrder ρ a b)
  says_out_of_order a b = says_and (says_ltb _ _) (says_not (says_in_order a b))

  pub says_holds : (c t k : ℕ) → Says (holds ρ c t k) (((rec ρ k).core ≡ c) × ((rec ρ k).start ≤ t) × (t < (rec ρ k).end))
  says_holds c t k = says_map (λ g. (g.0, g.1.0, g.1.1)) (λ g. (g.0, (g.1, g.2))) (says_and (says_eqb _ _) (says_and (says_leb _ _) (says_ltb _ _)))

  pub says_busy : (c t : ℕ) → Says (busy ρ c t) (Busy ρ c t)
  says_busy c t =
      says_map (λ (k, w). (k, omega (arith, w.1), w.2.0, w.2.1, w.2.2)) (λ (k, h, p, q, r). (k, (omega arith, omega arith, (p, q, r))))
      (found_says (first_finds (holds ρ c t) _ (says_holds c t) 0 (size ρ)))

  pub says_in_turn : (k : ℕ) → Says (in_turn ρ k) (InTurn ρ k)
  says_in_turn k = says_leb _ _
