-- Bytes of a table past the 33,890th do not alter what is read of it: the header, 512 lines of at most 66 bytes, and one line more. Assumes
-- nothing.
use Rattle.std.specs.Prelude.{None, Option, Some}
use Prim.Native.Nat.{ℕ, zero, suc, ◌+◌, ◌-◌, ◌*◌, ◌≤◌}
use mathlib.Core.Path.{◌≡◌, refl, sym, ◌∙◌, ap}
use mathlib.Core.Bool.{Bool, true, false}
use mathlib.Core.List.{List, [], ◌∷◌, ◌++◌, append_assoc}
use native.Mathlib.Omega.{arith}
use lib.ListN.{length, take, drop, length-take, take-append-drop}
use lib.Seq.{take-append-add}
use Rattle.model.specs.declared.record.Record.{Record}
use Rattle.model.specs.Model.{job_of, most_records}
use Rattle.model.specs.File.{Read, refused, whole, read, bytes}
use Rattle.exchange.specs.RecordLine.{header, record_line, most_table, LineFirst}
use Rattle.exchange.specs.LineIn.{after, line_in}
use Rattle.exchange.specs.TextTable.{given, lines_from, table_read}
use Rattle.exchange.specs.Import.{import_if, import_of, imported, import_table}
use Rattle.exchange.proofs.LineLaws.{length-header, after_is, after_got, line_in_of, line_in_got, line_in_none, length-line}
use Rattle.exchange.proofs.TableLaws.{lines_bad, lines_many, lines_given, lines_taken, read_headed, read_headless}

-- the front of two texts, one after the other
take_past : (p l : List ℕ) (k : ℕ) → length p ≤ k → take k (p ++ l) ≡ p ++ take (k - length p) l
take_past p l k h = let e : k ≡ length p + (k - length p) = omega arith in ap (λ m. take m (p ++ l)) e ∙ take-append-add p l (k - length p)

-- what a front begins with, the whole begins with
whole_begins : (p l rest : List ℕ) (k : ℕ) → take k l ≡ p ++ rest → l ≡ p ++ (rest ++ drop k l)
whole_begins p l rest k e = sym (take-append-drop k l) ∙ ap (λ m. m ++ drop k l) e ∙ append_assoc p rest (drop k l)

front_line : {l : List ℕ} {x : Record} {rest : List ℕ} (k : ℕ) → 66 ≤ k → LineFirst l x rest → LineFirst (take k l) x (take (k - length (record_line x)) rest)
front_line {l} {x} {rest} k h L =
    record { fits = L.fits; text = ap (take k) L.text ∙ take_past (record_line x) rest k (omega (arith, length-line x)) }

no_front_line : (l : List ℕ) (k : ℕ) → line_in l ≡ None → line_in (take k l) ≡ None
no_front_line l k e =
    line_in_none (take k l) (λ x rest L.
    let M : LineFirst l x (rest ++ drop k l) = record { fits = L.fits; text = whole_begins (record_line x) l rest k L.text } in
    let z : ◌≡◌ {A = ℕ} 0 1 = cc (line_in_of M) in
    omega arith)

take_none : (k : ℕ) → ◌≡◌ {A = List ℕ} (take k []) []
take_none zero = refl
take_none (suc k) = refl

lines_front : (n : ℕ) (xs : List Record) (l : List ℕ) (k : ℕ) → 66 * n + 66 ≤ k → lines_from n xs (take k l) ≡ lines_from n xs l
lines_front zero xs [] k h = ap (lines_from 0 xs) (take_none k)
lines_front (suc n) xs [] k h = ap (lines_from (suc n) xs) (take_none k)
lines_front zero xs (c ∷ l) k h = go (line_in (c ∷ l)) refl
  where
    some_byte : 1 ≤ length (take k (c ∷ l))
    some_byte = omega (arith, length-take k (c ∷ l))

    go : (o : Option (Record × List ℕ)) → line_in (c ∷ l) ≡ o → lines_from 0 xs (take k (c ∷ l)) ≡ lines_from 0 xs (c ∷ l)
    go None e = lines_bad 0 xs _ some_byte (no_front_line (c ∷ l) k e) ∙ sym (lines_bad 0 xs (c ∷ l) (omega arith) e)
    go (Some (x, rest)) e =
        lines_many xs _ some_byte (line_in_of (front_line k (omega arith) (line_in_got (c ∷ l) x rest e))) ∙ sym (lines_many xs (c ∷ l) (omega arith) e)
lines_front (suc n) xs (c ∷ l) k h = go (line_in (c ∷ l)) refl (λ x rest j. lines_front n (xs ++ (x ∷ [])) rest j)
  where
    some_byte : 1 ≤ length (take k (c ∷ l))
    some_byte = omega (arith, length-take k (c ∷ l))

    go : (o : Option (Record × List ℕ)) → line_in (c ∷ l) ≡ o
        → ((x : Record) (rest : List ℕ) (j : ℕ) → 66 * n + 66 ≤ j → lines_from n (xs ++ (x ∷ [])) (take j rest) ≡ lines_from n (xs ++ (x ∷ [])) rest)
        → lines_from (suc n) xs (take k (c ∷ l)) ≡ lines_from (suc n) xs (c ∷ l)
    go None e on = lines_bad (suc n) xs _ some_byte (no_front_line (c ∷ l) k e) ∙ sym (lines_bad (suc n) xs (c ∷ l) (omega arith) e)
    go (Some (x, rest)) e on = by (given (job_of x) xs) refl
      where
        front : line_in (take k (c ∷ l)) ≡ Some (x, take (k - length (record_line x)) rest)
        front = line_in_of (front_line k (omega arith) (line_in_got (c ∷ l) x rest e))

        by : (t : Bool) → given (job_of x) xs ≡ t → lines_from (suc n) xs (take k (c ∷ l)) ≡ lines_from (suc n) xs (c ∷ l)
        by true g = lines_given n xs _ some_byte front g ∙ sym (lines_given n xs (c ∷ l) (omega arith) e g)
        by false g =
            lines_taken n xs _ some_byte front g
            ∙ on x rest (k - length (record_line x)) (omega (arith, length-line x))
            ∙ sym (lines_taken n xs (c ∷ l) (omega arith) e g)

module _ (T : List ℕ) (k : ℕ) (h : most_table + 66 ≤ k) where
  pub table_prefix : table_read (take k T) ≡ table_read T
  table_prefix = go (after header T) refl
    where
      go : (o : Option (List ℕ)) → after header T ≡ o → table_read (take k T) ≡ table_read T
      go None e = read_headless (take k T) (headless (after header (take k T)) refl) ∙ sym (read_headless T e)
        where
          headless : (o : Option (List ℕ)) → after header (take k T) ≡ o → after header (take k T) ≡ None
          headless None q = q
          headless (Some l) q =
              let t = whole_begins header T l k (after_got header (take k T) l q) in
              let z : ◌≡◌ {A = ℕ} 0 1 = cc (ap (after header) t ∙ after_is header (l ++ drop k T)) in
              absurd (omega arith)
      go (Some l) e =
          let t = ap (take k) (after_got header T l e) ∙ take_past header l k (omega (arith, length-header)) in
          read_headed (take k T) (take (k - length header) l) (ap (after header) t ∙ after_is header (take (k - length header) l))
          ∙ lines_front most_records _ l (k - length header) (omega (arith, length-header))
          ∙ sym (read_headed T l e)

  -- so neither does a byte past them alter what an import says and writes
  pub import_prefix : (b : List ℕ) (room : ℕ) → import_table b (take k T) room ≡ import_table b T room
  unfolding import_table
  import_prefix b room = go (read b)
    where
      go : (r : Read) → import_of r (take k T) room ≡ import_of r T room
      go (refused ν i) = refl
      go (whole ρ) = ap (λ t. import_if t.fault (bytes (imported ρ t.records)) room) table_prefix
