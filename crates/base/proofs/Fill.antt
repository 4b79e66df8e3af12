-- A slice that a loop fills from a place on, one store after the other. Assumes nothing.
use Prim.Native.Nat.{ℕ, ◌+◌, ◌-◌, ◌≤◌, ◌<◌}
use mathlib.Core.Path.{◌≡◌, refl, sym, ◌∙◌}
use mathlib.Core.Logic.{◌⊎◌, inl, inr}
use mathlib.Core.List.{List}
use native.Mathlib.Decide.{dec_lt}
use native.Mathlib.Omega.{arith}
use lib.ListN.{length, get_or, set, length-set}
use lib.Seq.{get_or-set_same, get_or-set_other, ext_get_or}
use Rattle.base.specs.Fill.{Fills}
use Rattle.base.proofs.Find.{here_or_on}

-- nothing is written yet
pub fills_none : (t : List ℕ) (from : ℕ) (f : ℕ → ℕ) → Fills t from 0 f t
fills_none t from f = record { long = refl; here = λ k h. absurd (omega arith); kept = λ p h. refl }

-- one store more
pub fills_on : {t₀ t : List ℕ} {from k : ℕ} {f : ℕ → ℕ} {v : ℕ} → Fills t₀ from k f t → from + k < length t → v ≡ f k
    → Fills t₀ from (k + 1) f (set t (from + k) v)
fills_on {t₀} {t} {from} {k} {f} {v} F h e =
    record {
      long = length-set t (from + k) v ∙ F.long;
      here = λ j l. at j (here_or_on j k (omega arith));
      kept = λ p l. stays p (past p l) ∙ F.kept p (wider p l);
    }
  where
    stays : (p : ℕ) → ¬ (p ≡ from + k) → get_or (set t (from + k) v) p 0 ≡ get_or t p 0
    stays p d = get_or-set_other t (from + k) p v 0 d

    at : (j : ℕ) → (k ≡ j) ⊎ (j < k) → get_or (set t (from + k) v) (from + j) 0 ≡ f j
    at j (inl q) = rw (← q) (get_or-set_same t (from + k) v 0 h ∙ e)
    at j (inr l) = stays (from + j) (λ q. omega arith) ∙ F.here j l

    past : (p : ℕ) → (p < from) ⊎ (from + (k + 1) ≤ p) → ¬ (p ≡ from + k)
    past p (inl l) q = omega arith
    past p (inr l) q = omega arith

    wider : (p : ℕ) → (p < from) ⊎ (from + (k + 1) ≤ p) → (p < from) ⊎ (from + k ≤ p)
    wider p (inl l) = inl l
    wider p (inr l) = inr (omega arith)

-- what was written, in other words
pub fills_as : {t t' : List ℕ} {from n : ℕ} {f : ℕ → ℕ} (g : ℕ → ℕ) → ((k : ℕ) → k < n → f k ≡ g k) → Fills t from n f t' → Fills t from n g t'
fills_as g e F = record { long = F.long; here = λ k h. F.here k h ∙ e k h; kept = F.kept }

-- two slices that were filled alike are the same
pub fills_same : {t t' t'' : List ℕ} {from n : ℕ} {f : ℕ → ℕ} → Fills t from n f t' → Fills t from n f t'' → t' ≡ t''
fills_same {t} {t'} {t''} {from} {n} {f} F G =
    ext_get_or 0 t' t'' (F.long ∙ sym G.long) (λ p h. at p (dec_lt p from) (dec_lt p (from + n)))
  where
    at : (p : ℕ) → Dec (p < from) → Dec (p < from + n) → get_or t' p 0 ≡ get_or t'' p 0
    at p (yes l) d = F.kept p (inl l) ∙ sym (G.kept p (inl l))
    at p (no l) (no d) = F.kept p (inr (omega (arith, d))) ∙ sym (G.kept p (inr (omega (arith, d))))
    at p (no l) (yes d) =
        let e : p ≡ from + (p - from) = omega (arith, l) in
        rw e (F.here (p - from) (omega (arith, l)) ∙ sym (G.here (p - from) (omega (arith, l))))
