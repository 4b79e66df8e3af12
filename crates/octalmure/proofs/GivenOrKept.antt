-- What is known of every call that has an output: it is the call of an outcome. A refusal keeps the output, and what is given stands at its
-- front. Said once over the number that is answered then, and over how many bytes its code stands for. Assumes nothing.
use Prim.Native.Nat.{ℕ, ◌≤◌, ◌<◌}
use mathlib.Core.Path.{◌≡◌, sym, subst, ◌∙◌, ap}
use mathlib.Core.Logic.{◌↔◌, ⊎_elim}
use mathlib.Core.List.{List}
use lib.ListN.{length, take, drop}
use lib.Seq.{take-append_seam}
use Rattle.model.specs.Answers.{Five, Outcome, refusal, refused_with}
use Rattle.model.specs.Calls.{answer_size, front, five_in, output_call}
use Rattle.model.proofs.Calls.{output_short, rest_kept}
use Rattle.model.proofs.FiveFit.{FiveFit, output_told, short_or_long}
use Rattle.model.proofs.RefusedOrGiven.{Outcomes, nothing_written, all_counted, refused_outcome}

module _ (w : Outcome) (o a : List ℕ) {r : ℕ} {o' a' : List ℕ} (e : record { returns = r; output = o'; answer = a' } ≡ output_call w o a) where
  pub met_short : length a < answer_size → (r ≡ 4) × (o' ≡ o) × (a' ≡ a)
  met_short h = let q = e ∙ output_short w o a h in (ap (λ c. c.returns) q, ap (λ c. c.output) q, ap (λ c. c.answer) q)

  -- one of the listed answers is told, and the answer slice is kept past it
  pub answered : FiveFit w.told → (Row : Five → Type 0) → Row w.told → answer_size ≤ length a
      → Row (five_in a') × (r ≡ (five_in a').answer) × (drop answer_size a' ≡ drop answer_size a)
  answered F Row row long =
      let (f, n, out, k) = output_told w o a _ e F long in
      (subst Row (sym f) row, n ∙ sym (ap (λ f. f.answer) f), k)

  module _ {α : ℕ} {stands : ℕ → ℕ} (K : Outcomes α stands w) (F : FiveFit w.told) where
    pub keeps : ¬ (r ≡ α) → (r ≡ 4) × (o' ≡ o)
    keeps other = ⊎_elim (λ h. h) refused (short_or_long w o a _ e)
      where
        refused : answer_size ≤ length a → (r ≡ 4) × (o' ≡ o)
        refused long =
            let (f, n, out, k) = output_told w o a _ e F long in
            let (four, nothing) = nothing_written K (λ given. other (n ∙ given)) in
            (n ∙ four, out ∙ ap (λ bytes. front bytes o) nothing)

    -- a refusal is told exactly where it is what is to be said
    pub told_exactly : ¬ (α ≡ 4) → (Says : Outcome → Type 0) → ((x : Outcome) → (w ≡ x) ↔ Says x) → answer_size ≤ length a
        → (ν i : ℕ) → (five_in a' ≡ refusal ν i) ↔ Says (refused_with ν i)
    told_exactly not-refused Says says long ν i =
        let (f, n, out, k) = output_told w o a _ e F long in
        let (to, from) = refused_outcome not-refused K ν i in
        let (says-it, is_said) = says (refused_with ν i) in
        (λ q. says-it (to (sym f ∙ q)), λ s. f ∙ from (is_said s))

    module _ (not-refused : ¬ (α ≡ 4)) (given : r ≡ α) where
      pub long_of : answer_size ≤ length a
      long_of = ⊎_elim (λ h. absurd (not-refused (sym given ∙ h.0))) (λ h. h) (short_or_long w o a _ e)

      -- the code is that of the outcome
      pub code_told : ((five_in a').code ≡ w.told.code) × (w.told.answer ≡ α)
      code_told = let (f, n, out, k) = output_told w o a _ e F long_of in (ap (λ f. f.code) f, sym n ∙ given)

      -- what is given stands at the front of the output, and the bytes after it keep their values
      pub writes : (take (stands (five_in a').code) o' ≡ w.writes) × (drop (stands (five_in a').code) o' ≡ drop (stands (five_in a').code) o)
      writes =
          let (f, n, out, k) = output_told w o a _ e F long_of in
          let size : stands (five_in a').code ≡ length w.writes = ap (λ f. stands f.code) f ∙ all_counted not-refused K (sym n ∙ given) in
          ((λ κ. take (size κ) (out κ)) ∙ take-append_seam w.writes _, (λ κ. drop (size κ) (out κ)) ∙ rest_kept w.writes o ∙ (λ κ. drop (sym size κ) o))
