-- A line is read number by number, in one way. Assumes nothing.
use Prim.Native.Nat.{ℕ, suc, ◌<◌, ◌≤◌}
use mathlib.Core.Path.{◌≡◌, refl, sym, ◌∙◌, ap}
use mathlib.Core.List.{List, [], ◌∷◌, ◌++◌, append_assoc}
use native.Mathlib.Omega.{arith}
use lib.ListN.{length, drop, length-append, length-drop}
use Rattle.model.specs.declared.record.Record.{Record}
use Rattle.model.specs.File.{record_numbers}
use Rattle.model.specs.Report.{decimal, line_by}
use Rattle.model.proofs.RoundTrip.{Fits, fits_nil, fits_cons}
use Rattle.decimal.specs.NumberFirst.{NumberFirst}
use Rattle.decimal.proofs.NumberFirst.{first_one}
use Rattle.exchange.specs.RecordLine.{record_line, LineFirst}
use Rattle.exchange.proofs.LineLaws.{line_some}

-- The line of some numbers stands first in a text.
pub record Stands (l vs rest : List ℕ) : Type 0 where
  pub fits : Fits vs
  pub text : l ≡ line_by 44 vs ++ rest

-- its last number, or its first, and the others after that
pub stands_last : {l rest : List ℕ} {v : ℕ} → NumberFirst l v 10 rest → Stands l (v ∷ []) rest
stands_last {l} {rest} {v} A = record { fits = fits_cons A.four_bytes fits_nil; text = A.text ∙ sym (append_assoc (decimal v) (10 ∷ []) rest) }

pub stands_more : {l m vs rest : List ℕ} {u v : ℕ} → NumberFirst l v 44 m → Stands m (u ∷ vs) rest → Stands l (v ∷ u ∷ vs) rest
stands_more {l} {m} {vs} {rest} {u} {v} A S =
    record {
      fits = fits_cons A.four_bytes S.fits;
      text = A.text ∙ ap (λ t. decimal v ++ (44 ∷ t)) S.text ∙ sym (append_assoc (decimal v) (44 ∷ line_by 44 (u ∷ vs)) rest);
    }

last_number : {l rest : List ℕ} {v : ℕ} → Stands l (v ∷ []) rest → NumberFirst l v 10 rest
last_number {l} {rest} {v} S = record { four_bytes = S.fits.at 0; text = S.text ∙ append_assoc (decimal v) (10 ∷ []) rest }

first_number : {l vs rest : List ℕ} {u v : ℕ} → Stands l (v ∷ u ∷ vs) rest → NumberFirst l v 44 (line_by 44 (u ∷ vs) ++ rest)
first_number {l} {vs} {rest} {u} {v} S =
    record { four_bytes = S.fits.at 0; text = S.text ∙ append_assoc (decimal v) (44 ∷ line_by 44 (u ∷ vs)) rest }

-- No line of n numbers stands first.
pub record NoLine (n : ℕ) (l : List ℕ) : Type 0 where
  pub none : (vs rest : List ℕ) → length vs ≡ n → ¬ Stands l vs rest

pub no_last : {l : List ℕ} → ((v : ℕ) (rest : List ℕ) → ¬ NumberFirst l v 10 rest) → NoLine 1 l
no_last {l} f = record { none = go }
  where
    go : (vs rest : List ℕ) → length vs ≡ 1 → ¬ Stands l vs rest
    go [] rest e S = omega arith
    go (v ∷ []) rest e S = f v rest (last_number S)
    go (v ∷ u ∷ vs) rest e S = omega arith

pub no_first : {l : List ℕ} (n : ℕ) → ((v : ℕ) (rest : List ℕ) → ¬ NumberFirst l v 44 rest) → NoLine (suc (suc n)) l
no_first {l} n f = record { none = go }
  where
    go : (vs rest : List ℕ) → length vs ≡ suc (suc n) → ¬ Stands l vs rest
    go [] rest e S = omega arith
    go (v ∷ []) rest e S = omega arith
    go (v ∷ u ∷ vs) rest e S = f v (line_by 44 (u ∷ vs) ++ rest) (first_number S)

pub no_more : {l m : List ℕ} {w : ℕ} (n : ℕ) → NumberFirst l w 44 m → NoLine (suc n) m → NoLine (suc (suc n)) l
no_more {l} {m} {w} n A N = record { none = go }
  where
    go : (vs rest : List ℕ) → length vs ≡ suc (suc n) → ¬ Stands l vs rest
    go [] rest e S = omega arith
    go (v ∷ []) rest e S = omega arith
    go (v ∷ u ∷ vs) rest e S =
        let (p, q) = first_one (omega arith) A (first_number S) in
        N.none (u ∷ vs) rest (omega arith) (record { fits = record { at = λ k. S.fits.at (suc k) }; text = q })

-- The line of a record is that of its six numbers.
pub stands_line : {l rest : List ℕ} (x : Record) → Stands l (record_numbers x) rest → LineFirst l x rest
unfolding record_line
stands_line x S = record { fits = S.fits.at; text = S.text }

pub no_line : {l : List ℕ} → NoLine 6 l → (x : Record) (rest : List ℕ) → ¬ LineFirst l x rest
unfolding record_line
no_line {l} N x rest L = N.none (record_numbers x) rest refl (record { fits = record { at = L.fits }; text = L.text })

-- It ends behind the place where it began.
pub line_past : (s : List ℕ) (at next : ℕ) {x : Record} → next ≤ length s → LineFirst (drop at s) x (drop next s) → at < next
line_past s at next {x} h L =
    omega (arith, line_some x, ap length L.text, length-append (record_line x) (drop next s), length-drop at s, length-drop next s)
