-- The cores' last ends: what the columns tell of them, what a start changes, and which core is free. Assumes nothing.
use Rattle.std.specs.Prelude.{Some}
use Prim.Native.Nat.{ℕ, ◌+◌, ◌≤◌, ◌<◌}
use mathlib.Core.Path.{◌≡◌, refl, sym, ◌∙◌}
use mathlib.Core.Logic.{◌⊎◌, inl, inr}
use mathlib.Core.List.{List}
use native.Mathlib.Omega.{arith}
use native.Mathlib.Decide.{ℕ_discrete}
use lib.ListN.{length, get_or, set, length-set}
use Rattle.base.proofs.Searches.{total_number, finds_some}
use Rattle.model.specs.Model.{Run, most_cores, IsRecord, rec, task_of}
use Rattle.model.specs.Rules.{Busy}
use Rattle.model.specs.Carry.{Begun, starts}
use Rattle.model.specs.Compute.Places.{idle_core}
use Rattle.model.proofs.Places.{idle_core_finds}
use Rattle.carrytheory.proofs.StartChanges.{is_record, still_record, here, elsewhere}
use Rattle.carrytheory.proofs.NextInstant.{LastEnd, LeastFree}
use Rattle.table.specs.Table.{Lent, columns, column_of}
use Rattle.starts.specs.Cores.{EndsAt, LastOf, Lasts, LeastOf}
use Rattle.starts.specs.CoreGiven.{Takes}
use Rattle.starts.specs.declared.cores.Cores.{Cores}
use Rattle.starts.proofs.Taking.{at_set}
use Rattle.starts.proofs.State.{end_of, core_of}

-- entry d of a list is the last end on core d of a run
pub record Ends (σ : Run) (xs : List ℕ) : Type 0 where
  pub count : length xs ≡ most_cores + 1
  pub each : (d : ℕ) → 1 ≤ d → d ≤ most_cores → LastEnd σ d (get_or xs d 0)

-- what the columns of the ends and the cores tell
pub ends_of : {σ : Run} {t xs es cs : List ℕ} {n : ℕ} → Lent columns σ t n → es ≡ column_of n t 4 → cs ≡ column_of n t 5 → length cs ≡ n
    → Lasts (length cs) cs es xs → Ends σ xs
ends_of {σ} {t} {xs} {es} {cs} {n} T p q l L = record { count = L.count; each = λ d h b. last d (get_or xs d 0) (L.each d h b) }
  where
    end : (k : ℕ) → k < n → get_or es k 0 ≡ (rec σ k).end
    end = rw p (end_of T)

    core : (k : ℕ) → k < n → get_or cs k 0 ≡ (rec σ k).core
    core = rw q (core_of T)

    last : (d e : ℕ) → LastOf (length cs) cs es d e → LastEnd σ d e
    last d e E =
        record {
          none_later = λ k h w.
              let r : k < n = omega (arith, T.count) in
              omega (arith, end k r, E.none_later k (omega arith) (core k r ∙ w));
          reached = go E.reached;
        }
      where
        go : EndsAt (length cs) cs es d e → (e ≡ 0) ⊎ ((k : ℕ) × IsRecord σ k × ((rec σ k).core ≡ d) × ((rec σ k).end ≡ e))
        go (inl z) = inl z
        go (inr (k, h, x, y)) =
            let r : k < n = omega arith in
            inr (k, omega (arith, T.count), sym (core k r) ∙ x, sym (end k r) ∙ y)

-- job k, which has not begun, starts at u on core c
module _ (σ : Run) (u k c : ℕ) (range : IsRecord σ k) (waits-here : (rec σ k).core ≡ 0) where
  abbrev W : ℕ
  W = (task_of σ k).greatest

  abbrev τ : Run
  τ = starts σ u k c

  none_later : (d x y : ℕ) → LastEnd σ d x → (d ≡ c → u + W ≤ y) → x ≤ y → (j : ℕ) → IsRecord τ j → (rec τ j).core ≡ d → (rec τ j).end ≤ y
  none_later d x y E p q j h = go (ℕ_discrete j k)
    where
      go : Dec (j ≡ k) → (rec τ j).core ≡ d → (rec τ j).end ≤ y
      go (yes z) = rw (z, here σ u k c W range) (λ w. p (sym w))
      go (no z) = rw (elsewhere σ u k c W j z) (λ w. omega (arith, E.none_later j (is_record σ u k c W j h) w))

  taken_then : (x : ℕ) → x ≤ u → LastEnd σ c x → LastEnd τ c (u + W)
  taken_then x l E =
      let e = here σ u k c W range in
      record {
        none_later = none_later c x (u + W) E (λ z. omega arith) (omega arith);
        reached = inr (k, still_record σ u k c W k range, rw e refl, rw e refl);
      }

  other_then : (d x : ℕ) → 1 ≤ d → ¬ (d ≡ c) → LastEnd σ d x → LastEnd τ d x
  other_then d x h f E = record { none_later = none_later d x x E (λ z. absurd (f z)) (omega arith); reached = go E.reached }
    where
      go : (x ≡ 0) ⊎ ((j : ℕ) × IsRecord σ j × ((rec σ j).core ≡ d) × ((rec σ j).end ≡ x))
          → (x ≡ 0) ⊎ ((j : ℕ) × IsRecord τ j × ((rec τ j).core ≡ d) × ((rec τ j).end ≡ x))
      go (inl z) = inl z
      go (inr (j, l, p, q)) =
          let z : ¬ (j ≡ k) = λ y. let w : (rec σ j).core ≡ 0 = rw y waits-here in omega arith in
          let e = elsewhere σ u k c W j z in
          inr (j, still_record σ u k c W j l, rw e p, rw e q)

  pub ends_then : {xs : List ℕ} → Ends σ xs → 1 ≤ c → c ≤ most_cores → get_or xs c 0 ≤ u → Ends (starts σ u k c) (set xs c (u + (task_of σ k).greatest))
  ends_then {xs} E low small free =
      record {
        count = length-set xs c (u + W) ∙ E.count;
        each = λ d h b.
            at_set (λ d y. 1 ≤ d → LastEnd τ d y) xs c (u + W) (omega (arith, E.count)) (λ g. taken_then (get_or xs c 0) free (E.each c low small)) d
            (λ f g. other_then d (get_or xs d 0) g f (E.each d g b)) h;
      }

-- The core that is taken is the lowest that is free.
module _ {σ : Run} {xs : List ℕ} (E : Ends σ xs) {N : ℕ} (cores : N ≡ σ.setting.cores) (few : N ≤ most_cores) where
  ends_at : (d : ℕ) → 1 ≤ d → d ≤ N → LastEnd σ d (get_or xs d 0)
  ends_at d h b = E.each d h (omega arith)

  pub least_free : {f : ℕ} → LeastOf xs (N + 1) f → LeastFree σ f
  least_free F =
      record {
        core = F.core;
        core_is = omega (arith, F.core_is);
        here = rw F.here at (ends_at F.core F.core_is.0 (omega (arith, F.core_is)));
        least = λ d i. (get_or xs d 0, ends_at d i.0 (omega (arith, i.1)), F.least d i.0 (omega (arith, i.1)));
      }

  module _ {u e c : ℕ} {R : Cores} (K : Takes xs N u e c R) (past : (k : ℕ) → IsRecord σ k → Begun σ k → (rec σ k).start ≤ u) where
    -- a core whose last end is to come is busy
    still_busy : (d : ℕ) → 1 ≤ d → d ≤ N → u < get_or xs d 0 → Busy σ d u
    still_busy d h b l = go (ends_at d h b).reached
      where
        go : (get_or xs d 0 ≡ 0) ⊎ ((k : ℕ) × IsRecord σ k × ((rec σ k).core ≡ d) × ((rec σ k).end ≡ get_or xs d 0)) → Busy σ d u
        go (inl z) = absurd (omega arith)
        go (inr (k, g, p, q)) = (k, g, p, past k g (omega arith), omega arith)

    pub idle_core_lem : idle_core σ u ≡ Some c
    idle_core_lem =
        (finds_some _ _ (idle_core_finds σ u) total_number c).1
        (record {
          here = ((K.core.0, omega (arith, K.core.1)), free);
          before = λ d l w. w.1 (still_busy d w.0.0 (omega (arith, l, K.core)) (K.lowest d w.0.0 l));
        })
      where
        free : ¬ Busy σ c u
        free (k, g, p, q, r) = omega (arith, (ends_at c K.core.0 K.core.1).none_later k g p, K.free)
