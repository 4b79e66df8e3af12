-- What is exported: the lines rise by start and then by record place, and are those of all records; and when the records rise. Assumes
-- nothing.
use Prim.Native.Nat.{ℕ, zero, suc, ◌+◌, ◌-◌, ◌≤◌, ◌<◌}
use mathlib.Core.Path.{◌≡◌, refl, sym, subst}
use mathlib.Core.Logic.{◌⊎◌, inl, inr}
use mathlib.Core.List.{List, [], ◌∷◌, map}
use native.Mathlib.Omega.{arith}
use lib.ListN.{length, get_or}
use Rattle.base.proofs.Test.{Says, says_not, says_map, stable}
use Rattle.base.proofs.Searches.{first_finds, found_says}
use Rattle.model.specs.declared.record.Record.{Record}
use Rattle.model.specs.Model.{Run, IsRecord, rec, no_record}
use Rattle.sorting.specs.Sorted.{SameEntries, Each, Rises, up_to, KeyBefore}
use Rattle.sorting.proofs.Entries.{same_map}
use Rattle.sorting.proofs.Rising.{rises_weaken, rises_from}
use Rattle.sorting.proofs.Sorted.{by_key_same, by_key_rises, order_within}
use Rattle.sorting.proofs.UpTo.{map_up}
use Rattle.exchange.specs.Import.{JobBefore}
use Rattle.exchange.specs.Export.{start_times, by_start, RiseStrictly, rise}
use Rattle.exchange.proofs.ImportedRun.{says_job_before, job_chain}

module _ (ρ : Run) where
  abbrev m : ℕ
  m = length ρ.records

  -- When the records rise.
  -- ----------------------
  abbrev Next : ℕ → Type 0
  Next k = JobBefore (rec ρ k) (rec ρ (suc k))

  -- each before the next, so each before all that follow
  far : ((k : ℕ) → suc k < m → Next k) → (d a : ℕ) → suc (a + d) < m → JobBefore (rec ρ a) (rec ρ (suc (a + d)))
  far f zero a h = let z : a + 0 ≡ a = omega arith in rw z (f a (omega arith))
  far f (suc d) a h =
      let z : a + suc d ≡ suc (a + d) = omega arith in
      rw z (job_chain (rec ρ a) (rec ρ (suc (a + d))) (rec ρ (suc (suc (a + d)))) (far f d a (omega arith)) (f (suc (a + d)) (omega arith)))

  pub says_rise : Says (rise ρ) (RiseStrictly ρ)
  unfolding rise
  says_rise =
      says_map to from
      (says_not (found_says (first_finds _ (λ k. ¬ Next k) (λ k. says_not (says_job_before (rec ρ k) (rec ρ (suc k)))) 0 (m - 1))))
    where
      to : ¬ ((k : ℕ) × ((0 ≤ k) × (k < 0 + (m - 1)) × ¬ Next k)) → RiseStrictly ρ
      to f a b h l =
          let d : ℕ = b - suc a in
          let e : b ≡ suc (a + d) = omega arith in
          subst (λ (c : ℕ). JobBefore (rec ρ a) (rec ρ c)) (sym e)
          (far (λ k i. stable (says_job_before (rec ρ k) (rec ρ (suc k))) (λ g. f (k, (omega arith, omega arith, g)))) d a (omega arith))

      from : RiseStrictly ρ → ¬ ((k : ℕ) × ((0 ≤ k) × (k < 0 + (m - 1)) × ¬ Next k))
      from R (k, h) = h.2 (R k (suc k) (omega arith) (omega (arith, h.1)))

  pub rise_rises : RiseStrictly ρ → Rises JobBefore ρ.records
  rise_rises R = rises_from ρ.records no_record R

  -- The lines.
  -- ----------

  -- start of record k
  start_at_lem : (k : ℕ) → get_or (start_times ρ) k 0 ≡ (rec ρ k).start
  start_at_lem k = at ρ.records k
    where
      at : (xs : List Record) (k : ℕ) → get_or (map (λ x. x.start) xs) k 0 ≡ (get_or xs k no_record).start
      at [] k = refl
      at (x ∷ xs) zero = refl
      at (x ∷ xs) (suc k) = at xs k

  -- by start, then by record place
  abbrev pub StartsFirst : ℕ → ℕ → Type 0
  StartsFirst a b = ((rec ρ a).start < (rec ρ b).start) ⊎ (((rec ρ a).start ≡ (rec ρ b).start) × (a < b))

  pub lines_rise : Rises StartsFirst (by_start ρ)
  unfolding by_start
  lines_rise = rises_weaken said (by_key_rises (start_times ρ) m)
    where
      said : (a b : ℕ) → KeyBefore (start_times ρ) a b → StartsFirst a b
      said a b (inl h) = inl (omega (arith, start_at_lem a, start_at_lem b))
      said a b (inr (e, h)) = inr (omega (arith, start_at_lem a, start_at_lem b), h)

  pub lines_within : Each (λ k. IsRecord ρ k) (by_start ρ)
  unfolding by_start
  lines_within = order_within (start_times ρ) m

  -- each record's line once
  pub lines_all : SameEntries (up_to 0 (length ρ.records)) (by_start ρ)
  unfolding by_start
  lines_all = by_key_same (start_times ρ) m

  pub exported_same : SameEntries ρ.records (map (rec ρ) (by_start ρ))
  exported_same = subst (λ (xs : List Record). SameEntries xs (map (rec ρ) (by_start ρ))) (map_up ρ.records no_record) (same_map (rec ρ) lines_all)
