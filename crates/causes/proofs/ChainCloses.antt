-- The chain of a record of an accepted run: it always closes, it is the only one, each link holds, the starts fall, so that no record stands
-- in it twice, and the record's end is the first job's release and the lengths of all jobs in the chain. Assumes nothing.
use Prim.Native.Nat.{ℕ, zero, suc, ◌+◌, ◌≤◌, ◌<◌}
use mathlib.Core.Path.{◌≡◌, refl, sym, ap, subst}
use mathlib.Core.Logic.{◌⊎◌, inl, inr}
use mathlib.Core.List.{List, [], ◌∷◌}
use native.Mathlib.Omega.{arith}
use native.Mathlib.Decide.{ℕ_discrete}
use lib.ListN.{length, get_or}
use Rattle.base.proofs.Searches.{total_number}
use Rattle.model.specs.Model.{Run, WithinLimits, IsRecord, rec, lengths}
use Rattle.model.specs.Rules.{Obeys, rule3, rule4}
use Rattle.causes.specs.Cause.{AtRelease, Cause, Chain, first_job}
use Rattle.causes.specs.FoundCause.{onwards, chain_in, chain_of}
use Rattle.causes.proofs.Pigeons.{no_more}
use Rattle.causes.proofs.WhoseEnd.{cause_earlier, cause_waited, has_cause, cause_found, no_cause_found, cause_once}

-- What a chain is, of any run
-- ---------------------------
module _ (ρ : Run) where
  -- it begins with the record asked about, ..
  pub begins_with : {k : ℕ} {l : List ℕ} → Chain ρ k l → get_or l 0 0 ≡ k
  begins_with (Chain.first_job_lem e) = refl
  begins_with (Chain.waited c C) = refl

  pub not_empty : {k : ℕ} {l : List ℕ} → Chain ρ k l → 1 ≤ length l
  not_empty (Chain.first_job_lem e) = omega arith
  not_empty (Chain.waited c C) = omega arith

  -- .. each link is a cause, ..
  pub each_link : {k : ℕ} {l : List ℕ} → Chain ρ k l → (a : ℕ) → suc a < length l → Cause ρ (get_or l a 0) (get_or l (suc a) 0)
  each_link (Chain.first_job_lem e) a h = absurd (omega arith)
  each_link {k} (Chain.waited c C) zero h = subst (Cause ρ k) (sym (begins_with C)) c
  each_link (Chain.waited c C) (suc a) h = each_link C a (omega arith)

  -- .. and it ends with a job that started at its release.
  first_on : {j : ℕ} {l : List ℕ} → Chain ρ j l → (k : ℕ) → first_job k l ≡ first_job j l
  first_on (Chain.first_job_lem e) k = refl
  first_on (Chain.waited c C) k = refl

  pub first_at_release : {k : ℕ} {l : List ℕ} → Chain ρ k l → AtRelease ρ (first_job k l)
  first_at_release (Chain.first_job_lem e) = e
  first_at_release {k} (Chain.waited c C) = subst (AtRelease ρ) (sym (first_on C k)) (first_at_release C)

module _ (ρ : Run) (W : WithinLimits ρ) (O : Obeys ρ) where
  -- The chain always closes
  -- -----------------------
  ends : (u k : ℕ) → AtRelease ρ k → chain_in ρ u k ≡ k ∷ []
  unfolding chain_in
  ends zero k e = refl
  ends (suc u) k e = ap (λ o. k ∷ onwards ρ (chain_in ρ u) o) (no_cause_found ρ k e)

  goes_on : (u k j : ℕ) → Cause ρ k j → chain_in ρ (suc u) k ≡ k ∷ chain_in ρ u j
  unfolding chain_in
  goes_on u k j c = ap (λ o. k ∷ onwards ρ (chain_in ρ u) o) (cause_found ρ W O c)

  closes_in : (u k : ℕ) → IsRecord ρ k → (rec ρ k).start ≤ u → Chain ρ k (chain_in ρ u k)
  closes_in zero k h l =
      let e : AtRelease ρ k = omega (arith, O rule3 k h) in
      subst (Chain ρ k) (sym (ends zero k e)) (Chain.first_job_lem e)
  closes_in (suc u) k h l = go (closes_in u) (ℕ_discrete (rec ρ k).start (rec ρ k).release)
    where
      go : ((j : ℕ) → IsRecord ρ j → (rec ρ j).start ≤ u → Chain ρ j (chain_in ρ u j)) → Dec (AtRelease ρ k) → Chain ρ k (chain_in ρ (suc u) k)
      go ih (yes e) = subst (Chain ρ k) (sym (ends (suc u) k e)) (Chain.first_job_lem e)
      go ih (no f) =
          let (j, c) = has_cause ρ W O k h f in
          let (r, q, s) = cause_earlier ρ W O c in
          subst (Chain ρ k) (sym (goes_on u k j c)) (Chain.waited c (ih j r (omega (arith, s))))

  pub closes : (k : ℕ) → IsRecord ρ k → Chain ρ k (chain_of ρ k)
  unfolding chain_of
  closes k h = closes_in (rec ρ k).start k h (omega arith)

  -- and in one way
  pub chain_once : {k : ℕ} {l m : List ℕ} → Chain ρ k l → Chain ρ k m → l ≡ m
  chain_once (Chain.first_job_lem e) (Chain.first_job_lem d) = refl
  chain_once (Chain.first_job_lem e) (Chain.waited d D) = absurd (cause_waited ρ W O d e)
  chain_once (Chain.waited c C) (Chain.first_job_lem d) = absurd (cause_waited ρ W O c d)
  chain_once {k} (Chain.waited {l = l} c C) (Chain.waited {l = m} d D) =
      ap (λ x. k ∷ x) (chain_once C (subst (λ i. Chain ρ i m) (cause_once ρ W O d c) D))

  -- The starts fall
  -- ---------------
  pub all_records : {k : ℕ} {l : List ℕ} → IsRecord ρ k → Chain ρ k l → (a : ℕ) → a < length l → IsRecord ρ (get_or l a 0)
  all_records h (Chain.first_job_lem e) zero l = h
  all_records h (Chain.first_job_lem e) (suc a) l = absurd (omega arith)
  all_records h (Chain.waited c C) zero l = h
  all_records h (Chain.waited c C) (suc a) l = all_records (cause_earlier ρ W O c).0 C a (omega arith)

  no_later : {k : ℕ} {l : List ℕ} → Chain ρ k l → (b : ℕ) → b < length l → (rec ρ (get_or l b 0)).start ≤ (rec ρ k).start
  no_later (Chain.first_job_lem e) zero h = omega arith
  no_later (Chain.first_job_lem e) (suc b) h = absurd (omega arith)
  no_later (Chain.waited c C) zero h = omega arith
  no_later (Chain.waited c C) (suc b) h = omega (arith, no_later C b (omega arith), (cause_earlier ρ W O c).2)

  pub starts_fall : {k : ℕ} {l : List ℕ} → Chain ρ k l → (a b : ℕ) → a < b → b < length l → (rec ρ (get_or l b 0)).start < (rec ρ (get_or l a 0)).start
  starts_fall C a zero h r = absurd (omega arith)
  starts_fall (Chain.first_job_lem e) a (suc b) h r = absurd (omega arith)
  starts_fall (Chain.waited c C) zero (suc b) h r = omega (arith, no_later C b (omega arith), (cause_earlier ρ W O c).2)
  starts_fall (Chain.waited c C) (suc a) (suc b) h r = starts_fall C a b (omega arith) (omega arith)

  -- so no record is in it twice, and it is no longer than there are records
  pub none_twice : {k : ℕ} {l : List ℕ} → Chain ρ k l → (a b : ℕ) → a < length l → b < length l → get_or l a 0 ≡ get_or l b 0 → a ≡ b
  none_twice {l = l} C a b h r e = go (total_number a b)
    where
      same : (rec ρ (get_or l a 0)).start ≡ (rec ρ (get_or l b 0)).start
      same = ap (λ k. (rec ρ k).start) e

      go : (a < b) ⊎ ((a ≡ b) ⊎ (b < a)) → a ≡ b
      go (inl u) = absurd (omega (arith, same, starts_fall C a b u r))
      go (inr (inl u)) = u
      go (inr (inr u)) = absurd (omega (arith, same, starts_fall C b a u h))

  pub no_longer : {k : ℕ} {l : List ℕ} → IsRecord ρ k → Chain ρ k l → length l ≤ length ρ.records
  no_longer {l = l} h C = no_more (λ a. get_or l a 0) (length ρ.records) (length l) (all_records h C) (none_twice C)

  -- The record's end is the first job's release and the lengths of all jobs in the chain.
  pub adds_up : {k : ℕ} {l : List ℕ} → IsRecord ρ k → Chain ρ k l → (rec ρ k).end ≡ (rec ρ (first_job k l)).release + lengths ρ l
  adds_up {k} h (Chain.first_job_lem e) = omega (arith, e, (O rule4 k h).0)
  adds_up {k} h (Chain.waited {j = j} {l = l} c C) =
      let (r, q, s) = cause_earlier ρ W O c in
      let ih = adds_up r C in
      let same : (rec ρ (first_job k l)).release ≡ (rec ρ (first_job j l)).release = ap (λ i. (rec ρ i).release) (first_on ρ C k) in
      omega (arith, ih, same, q, (O rule4 k h).0)
