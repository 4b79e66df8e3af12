-- The header is met, then line after line is read: what is known between two lines, and one law for each way on and out. Assumes nothing.
use Rattle.std.specs.Prelude.{None, Option, Some, Result, Ok, Err}
use Prim.Native.Nat.{ℕ, suc, ◌+◌, ◌-◌, ◌≤◌, ◌<◌}
use mathlib.Core.Path.{◌≡◌, refl, sym, ◌∙◌, ap, subst}
use mathlib.Core.Bool.{Bool, true, false, not, false≢true}
use mathlib.Core.List.{List, [], ◌++◌}
use native.Mathlib.Omega.{arith}
use borrow.Author.Tests.{not-true, not-false}
use lib.ListN.{length, get_or, set, take, drop, length-drop, length-set, drop_of_length-le}
use Rattle.std.specs.List.{starts_with}
use Rattle.std.proofs.lemmas.Bool.Decides.{Decides-eqb}
use Rattle.std.proofs.lemmas.Slice.Eq.{starts_is}
use lib.Dec.{eqb}
use Rattle.std.proofs.lemmas.List.{length-take-le, take-append-drop, take_more_set, drop-drop, drop-set-lt}
use Rattle.model.specs.declared.record.Record.{Record}
use Rattle.model.specs.declared.refusal.Refusal.TheVariants.{BadLine, RecordCount, GivenAgain}
use Rattle.model.specs.Model.{job_of, most_records}
use Rattle.exchange.specs.RecordLine.{header, LineFirst}
use Rattle.exchange.specs.LineIn.{after}
use Rattle.exchange.specs.TextTable.{TableRead, given, lines_from, table_read}
use Rattle.exchange.proofs.LineLaws.{length-header, after_is, after_got, line_in_of, line_in_none}
use Rattle.exchange.proofs.TableLaws.{lines_end, lines_bad, lines_many, lines_given, lines_taken, read_headed, read_headless}
use Rattle.readlines.specs.Scan.{SaysLine, rest_if, scanned_of, laid, Scans, slots, slot_of}
use Rattle.readlines.proofs.Marks.{Marked, marked_none, marked_on, unmarked}

-- what was read at a place, by its result
module _ (s : List ℕ) (at : ℕ) {r : Option (Record × ℕ)} (told : SaysLine s at r) where
  pub good_of : {x : Record} {next : ℕ} → r ≡ Some (x, next) → (at < next) × (next ≤ length s) × LineFirst (drop at s) x (drop next s)
  good_of e = subst (SaysLine s at) e told

  pub bad_of : r ≡ None → (x : Record) (rest : List ℕ) → ¬ LineFirst (drop at s) x rest
  bad_of e = subst (SaysLine s at) e told

-- the first n lines gave the records that stand at the front of the rows; the rest of the table is to be read
pub record Scanning (T : List ℕ) (before : List Record) (at n : ℕ) (rows : List Record) (marks : List Bool) : Type 0 where
  pub few : n ≤ most_records
  pub room : most_records ≤ length rows
  pub kept : drop n rows ≡ drop n before
  pub places : slots ≤ length marks
  pub marked : Marked (take n rows) marks
  pub reads : table_read T ≡ lines_from (most_records - n) (take n rows) (drop at T)

-- by whether the header stands first
module _ (T : List ℕ) {h : List ℕ} {g : Bool} (is : h ≡ header) (e : g ≡ starts_with eqb T h) where
  headed : after header T ≡ rest_if g T
  headed = go g (rw is at (starts_is Decides-eqb T h g e))
    where
      go : (r : Bool) → (r ≡ true → T ≡ header ++ drop (length header) T) × ((rest : List ℕ) → T ≡ header ++ rest → r ≡ true) → after header T ≡ rest_if r T
      go true (is, on) = ap (λ l. after header l) (is refl) ∙ after_is header (drop (length header) T)
      go false (is, on) = none (after header T) refl
        where
          none : (o : Option (List ℕ)) → after header T ≡ o → o ≡ None
          none None q = refl
          none (Some rest) q = absurd (false≢true (on rest (after_got header T rest q)))

  pub scan_headless : (before : List Record) → not g ≡ true → Scans T before (Err (BadLine 1)) before
  unfolding scanned_of
  scan_headless before n =
      let z : table_read T ≡ record { records = []; fault = Some (12, 1) } = read_headless T (headed ∙ ap (λ b. rest_if b T) (not-true g n)) in
      rw z (refl, refl)

  pub scan_headed : not g ≡ false → after header T ≡ rest_if true T
  scan_headed n = headed ∙ ap (λ b. rest_if b T) (not-false g n)

pub scan_starts : (T : List ℕ) (before : List Record) (marks : List Bool) → after header T ≡ rest_if true T → most_records ≤ length before → slots ≤ length marks
    → Scanning T before 32 0 before marks
scan_starts T before marks e room places =
    record {
      few = omega arith;
      room = room;
      kept = refl;
      places = places;
      marked = marked_none marks;
      reads = read_headed T (drop (length header) T) e ∙ ap (λ i. lines_from most_records [] (drop i T)) length-header;
    }

module _ (T : List ℕ) (before : List Record) (at n : ℕ) (rows : List Record) (marks : List Bool) (S : Scanning T before at n rows marks) where
  abbrev xs : List Record
  xs = take n rows

  many : length xs ≡ n
  many = length-take-le n rows (omega (arith, S.few, S.room))

  -- what is said where these are the records
  told : {o : Result ℕ (ℕ × ℕ)} {t : TableRead} → table_read T ≡ t → t.records ≡ xs → o ≡ scanned_of t
      → (o ≡ scanned_of (table_read T)) × (rows ≡ laid (table_read T).records before)
  told e q p =
      (p ∙ ap scanned_of (sym e), sym (take-append-drop n rows) ∙ ap (λ l. xs ++ l) S.kept ∙ rw (e, q, many))

  -- no mark, not given
  pub scan_unmarked : (x : Record) {slot : ℕ} → slot ≡ slot_of (job_of x) → get_or marks slot false ≡ false → given (job_of x) xs ≡ false
  scan_unmarked x = unmarked S.marked (job_of x)

  pub scan_end : length T ≤ at → Scans T before (Ok n) rows
  unfolding scanned_of
  scan_end h =
      told
      (S.reads ∙ ap (λ l. lines_from (most_records - n) xs l) (drop_of_length-le T h) ∙ lines_end (most_records - n) xs)
      refl
      (ap Ok (sym many))

  module _ (within : at < length T) where
    some_byte : 1 ≤ length (drop at T)
    some_byte = omega (arith, length-drop at T)

    pub scan_bad : ((x : Record) (rest : List ℕ) → ¬ LineFirst (drop at T) x rest) → Scans T before (Err (BadLine (n + 2))) rows
    unfolding scanned_of
    scan_bad f =
        told
        (S.reads ∙ lines_bad (most_records - n) xs (drop at T) some_byte (line_in_none (drop at T) f))
        refl
        (ap (λ k. Err (12, k + 2)) (sym many))

    module _ {x : Record} {rest : List ℕ} (L : LineFirst (drop at T) x rest) where
      pub scan_many : n ≡ most_records → Scans T before (Err RecordCount) rows
      unfolding scanned_of
      scan_many e =
          let z : most_records - n ≡ 0 = omega arith in
          told
          (S.reads ∙ ap (λ k. lines_from k xs (drop at T)) z ∙ lines_many xs (drop at T) some_byte (line_in_of L))
          refl
          refl

      module _ (more : n < most_records) {g : Bool} (is : g ≡ given (job_of x) xs) where
        left : ℕ
        left = most_records - (n + 1)

        reads_on : table_read T ≡ lines_from (suc left) xs (drop at T)
        unfolding left
        reads_on = let z : most_records - n ≡ suc (most_records - (n + 1)) = omega arith in S.reads ∙ ap (λ k. lines_from k xs (drop at T)) z

        pub scan_given : g ≡ true → Scans T before (Err (GivenAgain (n + 2))) rows
        unfolding scanned_of
        scan_given h =
            told
            (reads_on ∙ lines_given left xs (drop at T) some_byte (line_in_of L) (sym is ∙ h))
            refl
            (ap (λ k. Err (13, k + 2)) (sym many))

        pub scan_on : {next slot : ℕ} → rest ≡ drop next T → g ≡ false → (slot ≡ slot_of (job_of x)) × (slot < slots)
            → Scanning T before next (n + 1) (set rows n x) (set marks slot true)
        unfolding left
        scan_on {next} {slot} e h m =
            let within_rows : n < length rows = omega (arith, S.room) in
            let taken = take_more_set rows n x within_rows in
            record {
              few = omega arith;
              room = omega (arith, S.room, length-set rows n x);
              kept = drop-set-lt (n + 1) rows n x (omega arith) ∙ sym (drop-drop 1 n rows) ∙ ap (drop 1) S.kept ∙ drop-drop 1 n before;
              places = omega (arith, S.places, length-set marks slot true);
              marked = rw taken (marked_on x S.marked m.0 (omega (arith, m.1, S.places)));
              reads =
                  reads_on
                  ∙ lines_taken left xs (drop at T) some_byte (line_in_of L) (sym is ∙ h)
                  ∙ rw (taken, e);
            }
