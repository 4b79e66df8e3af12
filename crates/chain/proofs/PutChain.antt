-- Numbers that are put one after the other where there is room; and one round of the chain. Assumes nothing.
use Prim.Native.Nat.{ℕ, ◌+◌, ◌*◌, ◌≤◌}
use mathlib.Core.Path.{◌≡◌, refl, sym, ◌∙◌, ap, subst}
use mathlib.Core.List.{List, [], ◌∷◌, ◌++◌, append_assoc, append-nil}
use native.Mathlib.Omega.{arith}
use lib.ListN.{length, drop, length-append, length-drop}
use Rattle.base.proofs.Test.{says_leb, says_true, says_false}
use Rattle.model.specs.Model.{Run, WithinLimits}
use Rattle.model.specs.Rules.{Obeys}
use Rattle.model.specs.File.{bytes_of}
use Rattle.model.specs.Calls.{front}
use Rattle.model.proofs.RoundTrip.{length_bytes_of}
use Rattle.wire.specs.Put.{put}
use Rattle.wire.proofs.Put.{put_next}
use Rattle.causes.specs.Cause.{AtRelease, Cause, Chain}
use Rattle.causes.proofs.WhoseEnd.{cause_once}
use Rattle.chain.specs.ChainTold.{put_where, put_if, puts_if, Told}

-- One number
-- ----------
module _ (s : List ℕ) (i v : ℕ) where
  pub put_in : 4 * i + 4 ≤ length s → put s (4 * i) v ≡ put_if s i v
  unfolding put_if
  put_in h = ap (λ t. put_where t s i v) (sym (says_true (says_leb (4 * i + 4) (length s)) h))

  pub put_not : ¬ (4 * i + 4 ≤ length s) → s ≡ put_if s i v
  unfolding put_if
  put_not f = ap (λ t. put_where t s i v) (sym (says_false (says_leb (4 * i + 4) (length s)) f))

-- All of them, where there is room for all
-- ----------------------------------------
length_front : (vs s : List ℕ) → 4 * length vs ≤ length s → length (front (bytes_of vs) s) ≡ length s
length_front vs s h =
    omega (arith, length-append (bytes_of vs) (drop (length (bytes_of vs)) s), length-drop (length (bytes_of vs)) s, length_bytes_of vs)

puts_next : (s vs l : List ℕ) → 4 * (length vs + length l) ≤ length s → puts_if (front (bytes_of vs) s) (length vs) l ≡ front (bytes_of (vs ++ l)) s
unfolding puts_if
puts_next s vs [] h = ap (λ x. front (bytes_of x) s) (sym (append-nil vs))
puts_next s vs (v ∷ l) h =
    let room : 4 * length vs + 4 ≤ length (front (bytes_of vs) s) = omega (arith, length_front vs s (omega arith)) in
    let one : put_if (front (bytes_of vs) s) (length vs) v ≡ front (bytes_of (vs ++ (v ∷ []))) s = sym (put_in (front (bytes_of vs) s) (length vs) v room) ∙ put_next vs s (4 * length vs) v refl in
    let long : length (vs ++ (v ∷ [])) ≡ length vs + 1 = length-append vs (v ∷ []) in
    ap (λ x. puts_if x (length vs + 1) l) one
    ∙ ap (λ i. puts_if (front (bytes_of (vs ++ (v ∷ []))) s) i l) (sym long)
    ∙ puts_next s (vs ++ (v ∷ [])) l (omega (arith, long))
    ∙ ap (λ x. front (bytes_of x) s) (append_assoc vs (v ∷ []) l)

pub puts_all : (s l : List ℕ) → 4 * length l ≤ length s → puts_if s 0 l ≡ front (bytes_of l) s
puts_all s l h = puts_next s [] l (omega arith)

-- One round
-- ---------
module _ (ρ : Run) where
  pub told_one : {k : ℕ} {l out out₁ : List ℕ} {i : ℕ} → AtRelease ρ k → Chain ρ k l → out₁ ≡ put_if out i k → Told l out i out₁ (i + 1)
  unfolding puts_if
  told_one h (Chain.first_job_lem e) w = record { place = refl; output = w }
  told_one h (Chain.waited (Cause.own_job f o) C) w = absurd (f h)
  told_one h (Chain.waited (Cause.core_job f g o) C) w = absurd (f h)

  pub told_more : {k : ℕ} {l out out₁ out' : List ℕ} {i r : ℕ} → ¬ AtRelease ρ k → Chain ρ k l → out₁ ≡ put_if out i k
      → ((j : ℕ) (m : List ℕ) → Cause ρ k j → Chain ρ j m → Told m out₁ (i + 1) out' r) → Told l out i out' r
  unfolding puts_if
  told_more h (Chain.first_job_lem e) w on = absurd (h e)
  told_more {i = i} h (Chain.waited {j = j} {l = m} c C) w on =
      let t = on j m c C in
      record { place = omega (arith, t.place); output = t.output ∙ ap (λ s. puts_if s (i + 1) m) w }

-- there is one cause: what is told of it is told of whichever
pub told_cause : (ρ : Run) → WithinLimits ρ → Obeys ρ → {k i j : ℕ} {l out out' : List ℕ} {p r : ℕ} → Cause ρ k i → Cause ρ k j → Chain ρ j l
    → ((m : List ℕ) → Chain ρ i m → Told m out p out' r) → Told l out p out' r
told_cause ρ W O {l = l} c d C on = on l (subst (λ x. Chain ρ x l) (cause_once ρ W O d c) C)
