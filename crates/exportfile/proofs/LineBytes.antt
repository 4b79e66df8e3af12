-- The bytes of a line and of a table: six numbers are a line, a table with one line more, and one of the first lines of an order. Assumes
-- nothing.
use Rattle.std.specs.List.{sum_by, range_with_len}
use Rattle.std.proofs.lemmas.List.Sums.{sum_by-cons}
use Rattle.std.proofs.lemmas.List.FromFn.{length-range_with_len}
use Prim.Native.Nat.{ℕ, zero, suc, ◌+◌, ◌*◌, ◌≤◌, ◌<◌}
use mathlib.Core.Path.{◌≡◌, refl, sym, ◌∙◌, ap}
use mathlib.Core.List.{List, [], ◌∷◌, ◌++◌, map, map-append, append_assoc, append-nil}
use native.Mathlib.Numerals.{add-one}
use native.Mathlib.Omega.{arith}
use lib.ListN.{length, get_or, take, drop, length-append, take-append-drop}
use lib.Seq.{take-suc, take-length}
use Rattle.model.specs.declared.record.Record.{Record}
use Rattle.model.specs.Calls.{front}
use Rattle.model.specs.File.{joined, record_size}
use Rattle.model.specs.Report.{decimal}
use Rattle.model.proofs.Joined.{joined_append}
use Rattle.exchange.specs.RecordLine.{header, record_line, table_of}
use Rattle.exchange.proofs.LineLaws.{length-header, length-line}
use Rattle.text.specs.Paste.{pasted, Wrote}
use Rattle.text.proofs.Paste.{wrote_more}
use Rattle.exportfile.specs.LinesOf.{record_of, records_at, lines_by, table_by}

-- Six numbers, a byte after each.
-- -------------------------------
abbrev pub digits : ℕ → ℕ
digits v = length (decimal v)

pub line_numbers : (x : Record)
    → length (record_line x) ≡ digits x.task + digits x.job + digits x.release + digits x.start + digits x.end + digits x.core + 6
unfolding record_line
line_numbers x = simp length-append (omega arith)

abbrev cell : ℕ → ℕ → List ℕ
cell v b = decimal v ++ (b ∷ [])

pub wrote_record : {s t : List ℕ} {i j : ℕ} (x : Record)
    → Wrote s i (cell x.task 44 ++ cell x.job 44 ++ cell x.release 44 ++ cell x.start 44 ++ cell x.end 44 ++ cell x.core 10) t j
    → Wrote s i (record_line x) t j
unfolding record_line
wrote_record x w = simp append_assoc at w

-- where one of them ends
pub past_number : {s t : List ℕ} {i j : ℕ} (v b : ℕ) → Wrote s i (cell v b) t j → j ≡ i + digits v + 1
past_number v b w = omega (arith, w.place, length-append (decimal v) (b ∷ []))

-- Lines one after the other.
-- --------------------------
pub table_size : (xs : List Record) → length (table_of xs) ≡ 32 + length (joined record_line xs)
table_size xs = omega (arith, length-append header (joined record_line xs), length-header)

module _ (b : List ℕ) (at : ℕ) where
  -- how long the line of a record is
  abbrev pub line_long : ℕ → ℕ
  line_long k = length (record_line (record_of b at k))

  lines_from : (j n : ℕ) → sum_by line_long (range_with_len j n) ≡ length (joined record_line (records_at b (at + record_size * j) n))
  lines_from j zero = refl
  lines_from j (suc n) =
      let next : at + record_size * (j + 1) ≡ at + record_size * j + record_size = omega arith in
      let rest = records_at b (at + record_size * j + record_size) n in
      let more = lines_from (j + 1) n ∙ ap (λ i. length (joined record_line (records_at b i n))) next in
      omega
      (arith, sum_by-cons line_long j (range_with_len (j + 1) n), more, length-append (record_line (record_of b at j)) (joined record_line rest))

  pub lines_long : (n : ℕ) → 32 + sum_by line_long (range_with_len 0 n) ≡ length (table_of (records_at b at n))
  lines_long n =
      let here : at + record_size * 0 ≡ at = omega arith in
      omega (arith, lines_from 0 n ∙ ap (λ i. length (joined record_line (records_at b i n))) here, table_size (records_at b at n))

  lines_short : (ks : List ℕ) → sum_by line_long ks ≤ 66 * length ks
  lines_short [] = omega arith
  lines_short (k ∷ ks) = omega (arith, sum_by-cons line_long k ks, lines_short ks, length-line (record_of b at k))

  pub lines_few : (n : ℕ) → sum_by line_long (range_with_len 0 n) ≤ 66 * n
  lines_few n = omega (arith, lines_short (range_with_len 0 n), length-range_with_len 0 n)

  lines_append : (xs ys : List ℕ) → lines_by b at (xs ++ ys) ≡ lines_by b at xs ++ lines_by b at ys
  lines_append xs ys =
      ap (joined record_line) (map-append (record_of b at) xs ys) ∙ joined_append record_line (map (record_of b at) xs) (map (record_of b at) ys)

  -- the lines before a place of an order
  module _ (order : List ℕ) where
    module _ (k : ℕ) (h : k < length order) where
      lines_on : lines_by b at (take (k + 1) order) ≡ lines_by b at (take k order) ++ record_line (record_of b at (get_or order k 0))
      lines_on =
          rw (add-one k, take-suc order k 0 h)
          (lines_append (take k order) (get_or order k 0 ∷ [])
          ∙ ap (λ l. lines_by b at (take k order) ++ l) (append-nil (record_line (record_of b at (get_or order k 0)))))

      -- there is room for one more
      pub line_fits : 32 + length (lines_by b at (take k order)) + length (record_line (record_of b at (get_or order k 0)))
          ≤ length (table_by b at order)
      line_fits =
          let first = lines_by b at (take k order) in
          let line = record_line (record_of b at (get_or order k 0)) in
          let rest = lines_by b at (drop (k + 1) order) in
          let all =
          ap (lines_by b at) (sym (take-append-drop (k + 1) order))
          ∙ lines_append (take (k + 1) order) (drop (k + 1) order)
          ∙ ap (λ l. l ++ rest) lines_on in
          omega (arith, ap length all, length-append (first ++ line) rest, length-append first line, table_size (map (record_of b at) order))

      pub wrote_line_on : {s t u : List ℕ} {i j l : ℕ} {x : Record} → Wrote s i (lines_by b at (take k order)) t j
          → Wrote t j (record_line x) u l → x ≡ record_of b at (get_or order k 0) → j ≤ length s → Wrote s i (lines_by b at (take (k + 1) order)) u l
      wrote_line_on w v e m = rw (lines_on, ← e) (wrote_more w v m)

    -- the header and all lines
    pub wrote_table : {s t u : List ℕ} {i j : ℕ} → Wrote s 0 header t i → Wrote t i (lines_by b at (take (length order) order)) u j
        → length (table_by b at order) ≤ length s → u ≡ front (table_by b at order) s
    unfolding pasted
    wrote_table {s} {t} {u} {i} {j} w v m =
        let lines : Wrote t i (lines_by b at order) u j = rw (take-length order) at v in
        let all = wrote_more w lines (omega (arith, w.place, length-header, table_size (map (record_of b at) order))) in
        let z : 0 + length (table_by b at order) ≡ length (table_by b at order) = omega arith in
        all.text ∙ ap (λ n. table_by b at order ++ drop n s) z
