-- What is read of a table, line by line: one law for each way on. Assumes nothing.
use Rattle.std.specs.Prelude.{None, Some}
use Prim.Native.Nat.{ℕ, zero, suc, ◌≤◌}
use mathlib.Core.Path.{◌≡◌, refl, ◌∙◌, ap}
use mathlib.Core.Bool.{Bool, true, false}
use mathlib.Core.List.{List, [], ◌∷◌, ◌++◌}
use native.Mathlib.Omega.{arith}
use lib.ListN.{length}
use Rattle.model.specs.declared.record.Record.{Record}
use Rattle.model.specs.Model.{job_of, most_records}
use Rattle.exchange.specs.RecordLine.{header}
use Rattle.exchange.specs.LineIn.{after, line_in}
use Rattle.exchange.specs.TextTable.{TableRead, all_taken, stops_at, line_number, given, lines_from, table_read}

pub lines_end : (n : ℕ) (xs : List Record) → lines_from n xs [] ≡ all_taken xs
unfolding lines_from
lines_end zero xs = refl
lines_end (suc n) xs = refl

pub lines_bad : (n : ℕ) (xs : List Record) (l : List ℕ) → 1 ≤ length l → line_in l ≡ None → lines_from n xs l ≡ stops_at 12 (line_number xs) xs
unfolding lines_from
lines_bad n xs [] h e = absurd (omega arith)
lines_bad zero xs (c ∷ l) h e = rw (e, lines_from)
lines_bad (suc n) xs (c ∷ l) h e = rw (e, lines_from)

pub lines_many : (xs : List Record) (l : List ℕ) {p : Record × List ℕ} → 1 ≤ length l → line_in l ≡ Some p → lines_from 0 xs l ≡ stops_at 7 0 xs
unfolding lines_from
lines_many xs [] h e = absurd (omega arith)
lines_many xs (c ∷ l) h e = rw (e, lines_from)

-- what a line leads to, where the record may still be taken
abbrev on_if : Bool → ℕ → List Record → Record × List ℕ → TableRead
on_if g n xs p = elim g [ true ↦ stops_at 13 (line_number xs) xs | false ↦ lines_from n (xs ++ (p.0 ∷ [])) p.1 ]

lines_on : (n : ℕ) (xs : List Record) (l : List ℕ) {p : Record × List ℕ} → 1 ≤ length l → line_in l ≡ Some p
    → lines_from (suc n) xs l ≡ on_if (given (job_of p.0) xs) n xs p
unfolding lines_from
lines_on n xs [] h e = absurd (omega arith)
lines_on n xs (c ∷ l) h e = rw (e, lines_from)

module _ (n : ℕ) (xs : List Record) (l : List ℕ) {p : Record × List ℕ} (some_byte : 1 ≤ length l) (e : line_in l ≡ Some p) where
  pub lines_given : given (job_of p.0) xs ≡ true → lines_from (suc n) xs l ≡ stops_at 13 (line_number xs) xs
  lines_given g = lines_on n xs l some_byte e ∙ ap (λ t. on_if t n xs p) g

  pub lines_taken : given (job_of p.0) xs ≡ false → lines_from (suc n) xs l ≡ lines_from n (xs ++ (p.0 ∷ [])) p.1
  lines_taken g = lines_on n xs l some_byte e ∙ ap (λ t. on_if t n xs p) g

pub read_headed : (T l : List ℕ) → after header T ≡ Some l → table_read T ≡ lines_from most_records [] l
unfolding table_read
read_headed T l e = rw (e, table_read)

pub read_headless : (T : List ℕ) → after header T ≡ None → table_read T ≡ stops_at 12 1 []
unfolding table_read
read_headless T e = rw (e, table_read)
