-- No fewer records run at an instant than cores are busy then, and just as many where each is on one of the N cores and no two overlap: a
-- field of cores and records, counted in both directions. Assumes nothing.
use Prim.Native.Nat.{ℕ, suc, ◌-◌, ◌≤◌, ◌<◌}
use mathlib.Core.Path.{◌≡◌, sym, ◌∙◌}
use mathlib.Core.Logic.{◌↔◌, ⊎_elim}
use mathlib.Core.Bool.{Bool, ◌&&◌}
use native.Mathlib.Omega.{arith}
use lib.Dec.{leb, ltb}
use lib.ListN.{length}
use Rattle.base.specs.Find.{count}
use Rattle.base.proofs.Test.{Says, says_leb, says_ltb, says_and}
use Rattle.base.proofs.Count.{all_number, number_counts, none_counted, all_counted, some_counted, one_counted}
use Rattle.model.specs.Model.{Run, rec}
use Rattle.model.specs.Rules.{IsCore, Core, NoOverlap, Busy}
use Rattle.model.specs.Compute.Places.{holds, busy}
use Rattle.model.proofs.RuleTests.{says_holds, says_busy}
use Rattle.waittheory.specs.BusyCores.{RunsAt, Running, BusyCores}
use Rattle.waittheory.proofs.Sums.{total_mono, unit, unit_under, unit_over, count_total, counts_swap}

module _ (ρ : Run) (t : ℕ) where
  abbrev pub runs_at : ℕ → Bool
  runs_at k = leb (rec ρ k).start t && ltb t (rec ρ k).end

  pub says_runs_at : (k : ℕ) → Says (runs_at k) (RunsAt ρ t k)
  says_runs_at k = says_and (says_leb _ _) (says_ltb _ _)

  -- The cores are 1, 2, .., that is suc i for an i below N.
  abbrev On : ℕ → ℕ → Type 0
  On i k = ((rec ρ k).core ≡ suc i) × ((rec ρ k).start ≤ t) × (t < (rec ρ k).end)

  abbrev on : ℕ → ℕ → Bool
  on i k = holds ρ (suc i) t k

  says_on : (i k : ℕ) → Says (on i k) (On i k)
  says_on i k = says_holds ρ (suc i) t k

  abbrev is_busy : ℕ → Bool
  is_busy i = busy ρ (suc i) t

  says_is_busy : (i : ℕ) → Says (is_busy i) (Busy ρ (suc i) t)
  says_is_busy i = says_busy ρ (suc i) t

  abbrev n : ℕ
  n = length ρ.records

  abbrev N : ℕ
  N = ρ.setting.cores

  -- A record that runs is on one core at most, ..
  one_core : (k : ℕ) → count (λ i. on i k) N ≤ unit (runs_at k)
  one_core k =
      unit_over (says_runs_at k) _ (one_counted _ _ (λ i. says_on i k) N (λ a b l h p q. omega (arith, p.0, q.0)))
      (λ f. none_counted _ _ (λ i. says_on i k) N (λ i l q. f (q.1, q.2)))

  -- .. and on one if that is among the N.
  own_core : (k : ℕ) → IsCore ρ (rec ρ k).core → unit (runs_at k) ≤ count (λ i. on i k) N
  own_core k c =
      unit_under (says_runs_at k) _ (λ r. some_counted _ _ (λ i. says_on i k) N ((rec ρ k).core - 1) (omega (arith, c)) (omega (arith, c), r.0, r.1))

  -- A busy core has a record, ..
  some_record : (i : ℕ) → unit (is_busy i) ≤ count (on i) n
  some_record i = unit_under (says_is_busy i) _ (λ (k, h, c, s, e). some_counted _ _ (says_on i) n k h (c, s, e))

  -- .. and one alone where no two overlap.
  one_record : NoOverlap ρ → (i : ℕ) → count (on i) n ≤ unit (is_busy i)
  one_record O i =
      unit_over (says_is_busy i) _ (one_counted _ _ (says_on i) n apart)
      (λ f. none_counted _ _ (says_on i) n (λ k h q. f (k, h, q.0, q.1, q.2)))
    where
      apart : (a b : ℕ) → a < b → b < n → On i a → ¬ On i b
      apart a b l h p q = ⊎_elim (λ u. omega (arith, p.2, q.1)) (λ u. omega (arith, q.2, p.1)) (O a b l h (p.0 ∙ sym q.0))

  -- No fewer records run than cores are busy, ..
  busy_run : count is_busy N ≤ count runs_at n
  busy_run =
      let a = total_mono (λ i. unit (is_busy i)) (λ i. count (on i) n) 0 N (λ i p q. some_record i) in
      let b = total_mono (λ k. count (λ i. on i k) N) (λ k. unit (runs_at k)) 0 n (λ k p q. one_core k) in
      omega (arith, counts_swap on N n, count_total is_busy N, count_total runs_at n)

  -- .. whatever the rules; no more, where rules 5 and 6 hold.
  run_busy : Core ρ → NoOverlap ρ → count runs_at n ≤ count is_busy N
  run_busy C O =
      let a = total_mono (λ k. unit (runs_at k)) (λ k. count (λ i. on i k) N) 0 n (λ k p q. own_core k (C k (omega arith))) in
      let b = total_mono (λ i. count (on i) n) (λ i. unit (is_busy i)) 0 N (λ i p q. one_record O i) in
      omega (arith, counts_swap on N n, count_total is_busy N, count_total runs_at n)

  running_counts : (c : ℕ) → Running ρ t c ↔ (count runs_at n ≡ c)
  running_counts = number_counts _ _ says_runs_at n

  busy_counts : (c : ℕ) → BusyCores ρ t c ↔ (count is_busy N ≡ c)
  busy_counts = number_counts _ _ says_is_busy N

  pub no_fewer_run : (c d : ℕ) → BusyCores ρ t c → Running ρ t d → c ≤ d
  no_fewer_run c d u v = omega (arith, busy_run, (busy_counts c).0 u, (running_counts d).0 v)

  -- The number of records that run at an instant is the number of busy cores.
  pub as_many_run : Core ρ → NoOverlap ρ → (c : ℕ) → Running ρ t c ↔ BusyCores ρ t c
  as_many_run C O c = (
    λ u. (busy_counts c).1 (omega (arith, busy_run, run_busy C O, (running_counts c).0 u)),
    λ u. (running_counts c).1 (omega (arith, busy_run, run_busy C O, (busy_counts c).0 u)),
  )

  -- Where every core is busy, just N run, and without these two rules no fewer.
  module _ (B : (c : ℕ) → IsCore ρ c → Busy ρ c t) where
    each_busy : (i : ℕ) → i < N → Busy ρ (suc i) t
    each_busy i l = B (suc i) (omega arith, omega arith)

    pub just_n_run : Core ρ → NoOverlap ρ → Running ρ t N
    just_n_run C O = (as_many_run C O N).1 (all_number _ N each_busy)

    pub n_run : N ≤ count runs_at n
    n_run = omega (arith, busy_run, all_counted _ _ says_is_busy N each_busy)
