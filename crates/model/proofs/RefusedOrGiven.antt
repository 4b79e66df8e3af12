-- What a tool that writes says: what is refused writes nothing, and what is given is counted. Said once over the number that it answers
-- then, and over how many bytes its code stands for. Assumes nothing.
use Prim.Native.Nat.{ℕ, ◌≤◌}
use mathlib.Core.Path.{◌≡◌, sym, ◌∙◌, ap}
use mathlib.Core.Logic.{◌↔◌}
use mathlib.Core.List.{[]}
use native.Mathlib.Omega.{arith}
use lib.ListN.{length}
use Rattle.model.specs.Answers.{Outcome, refusal, refused_with}
use Rattle.model.proofs.FiveFit.{FiveFit}

-- It is refused, or it answers a, and the bytes that it writes are as many as its code stands for.
pub data Outcomes (a : ℕ) (stands : ℕ → ℕ) (o : Outcome) : Type 0 where
  refuses : (ν i : ℕ) → o ≡ refused_with ν i → Outcomes a stands o
  gives : o.told.answer ≡ a → stands o.told.code ≡ length o.writes → Outcomes a stands o

module _ {a : ℕ} {stands : ℕ → ℕ} {o : Outcome} where
  pub nothing_written : Outcomes a stands o → ¬ (o.told.answer ≡ a) → (o.told.answer ≡ 4) × (o.writes ≡ [])
  nothing_written (refuses ν i e) f = (ap (λ p. p.told.answer) e, ap (λ p. p.writes) e)
  nothing_written (gives e n) f = absurd (f e)

  module _ (other : ¬ (a ≡ 4)) where
    pub all_counted : Outcomes a stands o → o.told.answer ≡ a → stands o.told.code ≡ length o.writes
    all_counted (refuses ν i e) given = absurd (other (sym given ∙ ap (λ p. p.told.answer) e))
    all_counted (gives e n) given = n

    -- a refusal is told exactly where it is the outcome
    pub refused_outcome : Outcomes a stands o → (ν i : ℕ) → (o.told ≡ refusal ν i) ↔ (o ≡ refused_with ν i)
    refused_outcome K ν i = (to K, λ e. ap (λ p. p.told) e)
      where
        to : Outcomes a stands o → o.told ≡ refusal ν i → o ≡ refused_with ν i
        to (refuses μ j e) t =
            let q : refusal μ j ≡ refusal ν i = sym (ap (λ p. p.told) e) ∙ t in
            e ∙ (λ κ. refused_with (q κ).code (q κ).place.x)
        to (gives e n) t = absurd (other (sym e ∙ ap (λ f. f.answer) t))

-- five small numbers are of four bytes
pub few_fit : (a c x : ℕ) → a ≤ 65535 → c ≤ 65535 → x ≤ 65535 → FiveFit (record { answer = a; code = c; place = record { x = x; y = 0; z = 0 } })
few_fit a c x h k l = record { answer = omega arith; code = omega arith; x = omega arith; y = omega arith; z = omega arith }
