-- What the chain of a record comes to in an output, of what was told of it: 11 where it does not fit, else it is written. Assumes nothing.
use Prim.Native.Nat.{ℕ, ◌*◌, ◌≤◌, ◌<◌}
use mathlib.Core.Path.{◌∙◌, ap}
use mathlib.Core.List.{List}
use native.Mathlib.Omega.{arith}
use lib.ListN.{length}
use Rattle.model.specs.Answers.{refusal, chain_written}
use Rattle.model.specs.Calls.{Leaves}
use Rattle.model.specs.Model.{Run}
use Rattle.model.proofs.Gates.{leaves, leaves_refused}
use Rattle.causes.specs.Cause.{Chain}
use Rattle.causes.specs.FoundCause.{chain_of}
use Rattle.causes.specs.Why.{chain_out, chain_room}
use Rattle.causes.proofs.ChainCloses.{closes, no_longer}
use Rattle.causes.proofs.WhyAnswers.{fits_in, fits_not}
use Rattle.chain.specs.ChainTold.{Traced, Told}
use Rattle.chain.proofs.PutChain.{puts_all}
use Rattle.chain.proofs.Rounds.{traced_limits, traced_record}

module _ {ρ : Run} {t : List ℕ} {n : ℕ} (T : Traced ρ t n) {k : ℕ} (l : k < n) where
  pub its_chain : Chain ρ k (chain_of ρ k)
  its_chain = closes ρ (traced_limits T) T.obeys k (traced_record T l)

  -- what was counted
  module _ {o o' : List ℕ} {c : ℕ} (D : Told (chain_of ρ k) o 0 o' c) where
    pub count_few : c ≤ 512
    count_few =
        omega (arith, D.place, no_longer ρ (traced_limits T) T.obeys (traced_record T l) its_chain, (traced_limits T).record_total)

    pub says_11 : (output : List ℕ) → length output < 4 * c → Leaves (chain_room (chain_of ρ k) (length output)) output (refusal 11 0) output
    says_11 output h = leaves_refused output (fits_not (chain_of ρ k) (length output) (omega (arith, D.place)))

    pub says_6 : (output after : List ℕ) {r : ℕ} → 4 * c ≤ length output → Told (chain_of ρ k) output 0 after r
        → Leaves (chain_room (chain_of ρ k) (length output)) output (chain_written c) after
    unfolding chain_out
    says_6 output after h E =
        let room : 4 * length (chain_of ρ k) ≤ length output = omega (arith, D.place) in
        leaves output after (fits_in (chain_of ρ k) (length output) room) (ap chain_written (omega (arith, D.place)))
        (E.output ∙ puts_all output (chain_of ρ k) room)
