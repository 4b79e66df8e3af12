-- What the tool says and writes is exactly what the request says; every file and every record number gets one of the listed answers, in
-- numbers of four bytes. Assumes that the file is a list of bytes where numbers are to fit.
use Prim.Native.Nat.{ℕ, ◌*◌, ◌≤◌, ◌<◌}
use mathlib.Core.Path.{◌≡◌, refl, sym, ◌∙◌, ap, subst}
use mathlib.Core.Logic.{◌↔◌}
use mathlib.Core.List.{List}
use native.Mathlib.Omega.{arith}
use native.Mathlib.Decide.{dec_lt}
use lib.Dec.{leb}
use lib.ListN.{length}
use Rattle.base.proofs.Test.{says_leb, says_ltb, says_map, says_true, says_false, decides, Says}
use Rattle.model.specs.Model.{Run, IsRecord}
use Rattle.model.specs.Rules.{Obeys}
use Rattle.model.specs.File.{Bytes, Read, refused, whole, read}
use Rattle.model.specs.Answers.{Outcome, refused_with}
use Rattle.model.specs.Compute.Verdict.{verdict}
use Rattle.model.proofs.Gates.{gate_opens, gate_closes}
use Rattle.model.proofs.Demand1.{refused_listed}
use Rattle.model.proofs.Demand2.{accepted_exactly_if_obeyed}
use Rattle.model.proofs.FiveFit.{FiveFit, refusal_fits}
use Rattle.model.proofs.Reading.{read_limits}
use Rattle.model.proofs.RefusedOrGiven.{Outcomes, few_fit}
use Rattle.model.proofs.Refusals.{refused_exactly_when}
use Rattle.model.proofs.RoundTrip.{length_bytes_of}
use Rattle.causes.specs.Cause.{Chain}
use Rattle.causes.specs.FoundCause.{chain_of}
use Rattle.causes.specs.Why.{chain_out, chain_room, why_run, why_of, why, WhySays, WhyRow, why_file, why_broken, why_no_record, why_room, why_chain}
use Rattle.causes.proofs.ChainCloses.{closes, chain_once, no_longer, not_empty}

pub says_obeys : (ρ : Run) → Says (leb (verdict ρ).answer 2) (Obeys ρ)
says_obeys ρ = says_map (accepted_exactly_if_obeyed ρ).0 (accepted_exactly_if_obeyed ρ).1 (says_leb (verdict ρ).answer 2)

-- 11, or the chain is written
module _ (l : List ℕ) (room : ℕ) where
  pub fits_in : 4 * length l ≤ room → chain_room l room ≡ chain_out l
  unfolding chain_room
  fits_in h = gate_opens 11 _ _ _ (says_true (says_leb (4 * length l) room) h) refl

  pub fits_not : room < 4 * length l → chain_room l room ≡ refused_with 11 0
  unfolding chain_room
  fits_not h = gate_closes 11 _ _ (says_false (says_leb (4 * length l) room) (λ g. omega arith))

-- Of a run that is told
-- ---------------------
module _ (b : List ℕ) (k room : ℕ) where
  pub why_refused : {ν i : ℕ} → read b ≡ refused ν i → why b k room ≡ refused_with ν i
  unfolding why
  why_refused e = ap (λ r. why_of r k room) e

  module _ {ρ : Run} (e : read b ≡ whole ρ) where
    pub why_breaks : ¬ Obeys ρ → why b k room ≡ refused_with 10 0
    unfolding why why_run
    why_breaks f = ap (λ r. why_of r k room) e ∙ gate_closes 10 _ _ (says_false (says_obeys ρ) f)

    module _ (O : Obeys ρ) where
      pub why_absent : ¬ IsRecord ρ k → why b k room ≡ refused_with 20 0
      unfolding why why_run
      why_absent f =
          ap (λ r. why_of r k room) e
          ∙ gate_opens 10 _ _ _ (says_true (says_obeys ρ) O) (gate_closes 20 _ _ (says_false (says_ltb k (length ρ.records)) f))

      pub why_there : IsRecord ρ k → why b k room ≡ chain_room (chain_of ρ k) room
      unfolding why why_run
      why_there h =
          ap (λ r. why_of r k room) e
          ∙ gate_opens 10 _ _ _ (says_true (says_obeys ρ) O) (gate_opens 20 _ _ _ (says_true (says_ltb k (length ρ.records)) h) refl)

      -- the chain is the one that is found
      pub is_found : IsRecord ρ k → {l : List ℕ} → Chain ρ k l → chain_of ρ k ≡ l
      is_found h C = let W = read_limits b ρ e in chain_once ρ W O (closes ρ W O k h) C

  said : WhySays b k room (why b k room)
  said = go (read b) refl
    where
      fits : {ρ : Run} → read b ≡ whole ρ → Obeys ρ → IsRecord ρ k → Dec (room < 4 * length (chain_of ρ k)) → WhySays b k room (why b k room)
      fits {ρ} e O h (yes f) =
          let C = closes ρ (read_limits b ρ e) O k h in
          subst (WhySays b k room) (sym (why_there e O h ∙ fits_not (chain_of ρ k) room f)) (WhySays.no_room e O h C f)
      fits {ρ} e O h (no f) =
          let C = closes ρ (read_limits b ρ e) O k h in
          let l : 4 * length (chain_of ρ k) ≤ room = omega (arith, f) in
          subst (WhySays b k room) (sym (why_there e O h ∙ fits_in (chain_of ρ k) room l)) (WhySays.told e O h C l)

      there : {ρ : Run} → read b ≡ whole ρ → Obeys ρ → Dec (IsRecord ρ k) → WhySays b k room (why b k room)
      there {ρ} e O (yes h) = fits e O h (dec_lt room (4 * length (chain_of ρ k)))
      there {ρ} e O (no f) = subst (WhySays b k room) (sym (why_absent e O f)) (WhySays.no_record e O f)

      accepted : {ρ : Run} → read b ≡ whole ρ → Dec (Obeys ρ) → WhySays b k room (why b k room)
      accepted {ρ} e (yes O) = there e O (dec_lt k (length ρ.records))
      accepted {ρ} e (no f) = subst (WhySays b k room) (sym (why_breaks e f)) (WhySays.rule_broken_row e f)

      go : (r : Read) → read b ≡ r → WhySays b k room (why b k room)
      go (refused ν i) e = subst (WhySays b k room) (sym (why_refused e)) (WhySays.file_refused e)
      go (whole ρ) e = accepted e (decides (says_obeys ρ))

  pub why_says : (o : Outcome) → (why b k room ≡ o) ↔ WhySays b k room o
  why_says o = (λ e. subst (WhySays b k room) e said, from)
    where
      from : {o : Outcome} → WhySays b k room o → why b k room ≡ o
      from (WhySays.file_refused e) = why_refused e
      from (WhySays.rule_broken_row e f) = why_breaks e f
      from (WhySays.no_record e O f) = why_absent e O f
      from (WhySays.no_room {l = l} e O h C f) = why_there e O h ∙ ap (λ x. chain_room x room) (is_found e O h C) ∙ fits_not l room f
      from (WhySays.told {l = l} e O h C f) = why_there e O h ∙ ap (λ x. chain_room x room) (is_found e O h C) ∙ fits_in l room f

  -- Every file and every record number
  -- ----------------------------------
  pub why_comes : Outcomes 6 (λ n. 4 * n) (why b k room)
  unfolding chain_out
  why_comes = go said
    where
      go : {o : Outcome} → WhySays b k room o → Outcomes 6 (λ n. 4 * n) o
      go (WhySays.file_refused {ν = ν} {i = i} e) = Outcomes.refuses ν i refl
      go (WhySays.rule_broken_row e f) = Outcomes.refuses 10 0 refl
      go (WhySays.no_record e O f) = Outcomes.refuses 20 0 refl
      go (WhySays.no_room e O h C f) = Outcomes.refuses 11 0 refl
      go (WhySays.told {l = l} e O h C f) = Outcomes.gives refl (sym (length_bytes_of l))

  -- a chain has 1 to 512 numbers
  chain_few : {ρ : Run} {l : List ℕ} → read b ≡ whole ρ → Obeys ρ → IsRecord ρ k → Chain ρ k l → length l ≤ 512
  chain_few {ρ} e O h C = let W = read_limits b ρ e in omega (arith, no_longer ρ W O h C, W.record_total)

  pub every_why_answered : WhyRow (why b k room).told
  unfolding chain_out
  every_why_answered = go said
    where
      go : {o : Outcome} → WhySays b k room o → WhyRow o.told
      go (WhySays.file_refused {ν = ν} {i = i} e) = why_file (refused_listed b ν i e)
      go (WhySays.rule_broken_row e f) = why_broken
      go (WhySays.no_record e O f) = why_no_record
      go (WhySays.no_room e O h C f) = why_room
      go (WhySays.told {ρ = ρ} {l = l} e O h C f) = why_chain (length l) (not_empty ρ C) (chain_few e O h C)

  pub why_fits : Bytes b → FiveFit (why b k room).told
  unfolding chain_out
  why_fits B = go said
    where
      go : {o : Outcome} → WhySays b k room o → FiveFit o.told
      go (WhySays.file_refused {ν = ν} {i = i} e) = refusal_fits b B 8 ν i (omega arith) (refused_listed b ν i e) ((refused_exactly_when b ν i).0 e).1
      go (WhySays.rule_broken_row e f) = few_fit 4 10 0 (omega arith) (omega arith) (omega arith)
      go (WhySays.no_record e O f) = few_fit 4 20 0 (omega arith) (omega arith) (omega arith)
      go (WhySays.no_room e O h C f) = few_fit 4 11 0 (omega arith) (omega arith) (omega arith)
      go (WhySays.told {l = l} e O h C f) = few_fit 6 (length l) 0 (omega arith) (omega (arith, chain_few e O h C)) (omega arith)
