-- A line over zeros is the line as a value, and its bytes lie in the text. Assumes nothing.
use Prim.Native.Nat.{ℕ, ◌+◌, ◌-◌, ◌≤◌}
use mathlib.Core.Path.{◌≡◌, ◌∙◌, ap}
use mathlib.Core.List.{List, ◌++◌}
use native.Mathlib.Omega.{arith}
use lib.ListN.{length, replicate, length-append, length-replicate}
use Rattle.base.proofs.Arrays.{drop-replicate}
use Rattle.text.specs.declared.Line.{Line}
use Rattle.text.specs.Lined.{lined}
use Rattle.text.specs.Paste.{pasted}

over_zeros : (bs : List ℕ) → length bs ≤ 64 → pasted (replicate 64 0) 0 bs ≡ bs ++ replicate (64 - length bs) 0
unfolding pasted
over_zeros bs h = let z : 0 + length bs ≡ length bs = omega arith in rw z (ap (λ l. bs ++ l) (drop-replicate (length bs) 64 0 h))

pub wrote_lined : {t : List ℕ} {n : ℕ} (bs : List ℕ) → n ≡ length bs → n ≤ 64 → t ≡ pasted (replicate 64 0) 0 bs → record { text = t; size = n } ≡ lined bs
unfolding lined
wrote_lined bs e h p = let q = over_zeros bs (omega arith) in λ κ. record { text = (p ∙ q) κ; size = e κ }

pub lined_within : (r : Line) (bs : List ℕ) → r ≡ lined bs → r.size ≤ length r.text
unfolding lined
lined_within r bs e =
    let k = 64 - length bs in
    let l = ap (λ x. length x.text) e ∙ length-append bs (replicate k 0) ∙ ap (λ m. length bs + m) (length-replicate k 0) in
    omega (arith, ap (λ x. x.size) e, l)
