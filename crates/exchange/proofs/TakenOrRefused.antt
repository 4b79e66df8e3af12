-- A table is taken exactly if it is the table of records that can be taken, and refused exactly as the request says. Assumes nothing.
use Rattle.std.specs.Prelude.{None, Option, Some}
use Prim.Native.Nat.{ℕ, zero, suc, ◌+◌, ◌-◌, ◌≤◌, ◌<◌}
use mathlib.Core.Path.{◌≡◌, refl, sym, ◌∙◌, ap, subst}
use mathlib.Core.Logic.{◌↔◌}
use mathlib.Core.Bool.{Bool, true, false}
use mathlib.Core.List.{List, [], ◌∷◌, ◌++◌, append_assoc, append-nil}
use native.Mathlib.Omega.{arith}
use lib.ListN.{length, get_or, length-append, get_or-append}
use lib.Seq.{get_or-append_seam}
use Rattle.base.proofs.Test.{Says, says_map, says_true, says_false}
use Rattle.base.proofs.Searches.{first_finds, found_says}
use Rattle.model.specs.declared.record.Record.{Record}
use Rattle.model.specs.Model.{Job, job_of, most_records, no_record}
use Rattle.model.specs.File.{RecordFits, joined}
use Rattle.model.proofs.Joined.{joined_on}
use Rattle.model.proofs.RuleTests.{says_same_job}
use Rattle.sorting.specs.Sorted.{each_none, rises_none}
use Rattle.sorting.proofs.Rising.{each_on, each_at, each_from, rises_on, rises_at_lem}
use Rattle.exchange.specs.RecordLine.{header, record_line, table_of, LineFirst}
use Rattle.exchange.specs.LineIn.{after, line_in}
use Rattle.exchange.specs.TextTable.{Taken, Given, RefusesAt, no_header, bad_line, too_many, given_before, TableRead, all_taken, stops_at, given, lines_from, table_read}
use Rattle.exchange.proofs.LineLaws.{after_is, after_got, line_in_of, line_in_got, line_in_none, line_some}
use Rattle.exchange.proofs.TableLaws.{lines_end, lines_bad, lines_many, lines_given, lines_taken, read_headed, read_headless}

-- A job that was given.
-- ---------------------
pub says_given : (q : Job) (xs : List Record) → Says (given q xs) (Given q xs)
unfolding given
says_given q xs =
    says_map (λ (k, h). (k, omega (arith, h.1), h.2)) (λ (k, h, e). (k, (omega arith, omega arith, e)))
    (found_says (first_finds _ (λ k. job_of (get_or xs k no_record) ≡ q) (λ k. says_same_job (job_of (get_or xs k no_record)) q) 0 (length xs)))

-- One more line.
-- --------------
pub table_on : (xs : List Record) (T l rest : List ℕ) (x : Record) → T ≡ table_of xs ++ l → LineFirst l x rest → T ≡ table_of (xs ++ (x ∷ [])) ++ rest
table_on xs T l rest x e L =
    e ∙ ap (λ m. table_of xs ++ m) L.text ∙ sym (append_assoc (table_of xs) (record_line x) rest)
    ∙ ap (λ m. m ++ rest) (append_assoc header (joined record_line xs) (record_line x) ∙ ap (λ m. header ++ m) (sym (joined_on record_line xs x)))

pub taken_none : Taken []
taken_none = record { few = omega arith; fit = each_none; apart = rises_none }

pub taken_on : {xs : List Record} {x : Record} → Taken xs → length xs < most_records → RecordFits x → ¬ Given (job_of x) xs → Taken (xs ++ (x ∷ []))
taken_on {xs} {x} W h F g =
    record {
      few = omega (arith, length-append xs (x ∷ []));
      fit = each_on W.fit F;
      apart = rises_on W.apart (each_from xs no_record (λ k l e. g (k, l, e)));
    }

-- What is told is so.
-- -------------------
data Told (T : List ℕ) : TableRead → Type 0 where
  told_all : {xs : List Record} → Taken xs → T ≡ table_of xs → Told T (all_taken xs)
  told_stop : {ν line : ℕ} (xs : List Record) → RefusesAt T ν line → Told T (stops_at ν line xs)

module _ (T : List ℕ) where
  told_end : (n : ℕ) (xs : List Record) → Taken xs → T ≡ table_of xs ++ [] → Told T (lines_from n xs [])
  told_end n xs W e = subst (Told T) (sym (lines_end n xs)) (told_all W (e ∙ append-nil (table_of xs)))

  told_bad : (n : ℕ) (xs : List Record) (c : ℕ) (l : List ℕ) → Taken xs → T ≡ table_of xs ++ (c ∷ l) → line_in (c ∷ l) ≡ None → Told T (lines_from n xs (c ∷ l))
  told_bad n xs c l W e q =
      subst (Told T) (sym (lines_bad n xs (c ∷ l) (omega arith) q))
      (told_stop xs (bad_line xs c l W e (λ x rest L. let z : ◌≡◌ {A = ℕ} 0 1 = cc (line_in_of L) in omega arith)))

  told : (n : ℕ) (xs : List Record) (l : List ℕ) → n + length xs ≡ most_records → Taken xs → T ≡ table_of xs ++ l → Told T (lines_from n xs l)
  told zero xs [] h W e = told_end zero xs W e
  told (suc n) xs [] h W e = told_end (suc n) xs W e
  told zero xs (c ∷ l) h W e = go (line_in (c ∷ l)) refl
    where
      go : (o : Option (Record × List ℕ)) → line_in (c ∷ l) ≡ o → Told T (lines_from 0 xs (c ∷ l))
      go None q = told_bad 0 xs c l W e q
      go (Some (x, rest)) q =
          subst (Told T) (sym (lines_many xs (c ∷ l) (omega arith) q)) (told_stop xs (too_many xs x (c ∷ l) rest W e (line_in_got (c ∷ l) x rest q) (omega arith)))
  told (suc n) xs (c ∷ l) h W e = go (line_in (c ∷ l)) refl (λ x rest. told n (xs ++ (x ∷ [])) rest)
    where
      go : (o : Option (Record × List ℕ)) → line_in (c ∷ l) ≡ o
          → ((x : Record) (rest : List ℕ) → n + length (xs ++ (x ∷ [])) ≡ most_records → Taken (xs ++ (x ∷ [])) → T ≡ table_of (xs ++ (x ∷ [])) ++ rest
          → Told T (lines_from n (xs ++ (x ∷ [])) rest))
          → Told T (lines_from (suc n) xs (c ∷ l))
      go None q on = told_bad (suc n) xs c l W e q
      go (Some (x, rest)) q on = by (given (job_of x) xs) refl (says_given (job_of x) xs)
        where
          L : LineFirst (c ∷ l) x rest
          L = line_in_got (c ∷ l) x rest q

          by : (t : Bool) → given (job_of x) xs ≡ t → Says (given (job_of x) xs) (Given (job_of x) xs) → Told T (lines_from (suc n) xs (c ∷ l))
          by true g s =
              subst (Told T) (sym (lines_given n xs (c ∷ l) (omega arith) q g)) (told_stop xs (given_before xs x (c ∷ l) rest W e L (omega arith) (s.sound g)))
          by false g s =
              subst (Told T) (sym (lines_taken n xs (c ∷ l) (omega arith) q g))
              (on x rest (omega (arith, length-append xs (x ∷ []))) (taken_on W (omega arith) L.fits (s.refutes g)) (table_on xs T (c ∷ l) rest x e L))

  table_told : Told T (table_read T)
  table_told = go (after header T) refl
    where
      go : (o : Option (List ℕ)) → after header T ≡ o → Told T (table_read T)
      go None q =
          subst (Told T) (sym (read_headless T q))
          (told_stop [] (no_header (λ rest e. let z : ◌≡◌ {A = ℕ} 0 1 = cc (after_is header rest) in omega arith)))
      go (Some l) q =
          subst (Told T) (sym (read_headed T l q))
          (told most_records [] l (omega arith) taken_none (after_got header T l q ∙ ap (λ m. m ++ l) (sym (append-nil header))))

-- What is so is told.
-- -------------------

-- lines that can be taken are
walk : (n : ℕ) (xs ys : List Record) (l : List ℕ) → Taken (xs ++ ys) → lines_from (length ys + n) xs (joined record_line ys ++ l) ≡ lines_from n (xs ++ ys) l
walk n xs [] l W = let z : 0 + n ≡ n = omega arith in rw (z, append-nil xs)
walk n xs (y ∷ ys) l W =
    step (walk n (xs ++ (y ∷ [])) ys l (subst Taken (sym (append_assoc xs (y ∷ []) ys)) W))
  where
    k : length xs < length (xs ++ (y ∷ ys))
    k = omega (arith, length-append xs (y ∷ ys))

    here : get_or (xs ++ (y ∷ ys)) (length xs) no_record ≡ y
    here = get_or-append_seam xs y ys no_record

    L : LineFirst (joined record_line (y ∷ ys) ++ l) y (joined record_line ys ++ l)
    L = record { fits = subst RecordFits here (each_at W.fit (length xs) no_record k); text = append_assoc (record_line y) (joined record_line ys) l }

    fresh : ¬ Given (job_of y) xs
    fresh (i, h, e) = rises_at_lem W.apart i (length xs) no_record h k (ap (λ (x : Record). job_of x) (get_or-append xs (y ∷ ys) no_record i h) ∙ e ∙ ap (λ (x : Record). job_of x) (sym here))

    byte : 1 ≤ length (joined record_line (y ∷ ys) ++ l)
    byte = omega (arith, ap length L.text ∙ length-append (record_line y) (joined record_line ys ++ l), line_some y)

    step : lines_from (length ys + n) (xs ++ (y ∷ [])) (joined record_line ys ++ l) ≡ lines_from n ((xs ++ (y ∷ [])) ++ ys) l
        → lines_from (length (y ∷ ys) + n) xs (joined record_line (y ∷ ys) ++ l) ≡ lines_from n (xs ++ (y ∷ ys)) l
    step on =
        let z : length (y ∷ ys) + n ≡ suc (length ys + n) = omega arith in
        ap (λ m. lines_from m xs (joined record_line (y ∷ ys) ++ l)) z
        ∙ lines_taken (length ys + n) xs _ byte (line_in_of L) (says_false (says_given (job_of y) xs) fresh)
        ∙ on
        ∙ ap (λ ws. lines_from n ws l) (append_assoc xs (y ∷ []) ys)

byte : {l : List ℕ} {x : Record} {rest : List ℕ} → LineFirst l x rest → 1 ≤ length l
byte {l} {x} {rest} L = omega (arith, ap length L.text ∙ length-append (record_line x) rest, line_some x)

module _ (T : List ℕ) where
  -- the lines after those that are taken
  reached : (n : ℕ) (xs : List Record) (l : List ℕ) → n + length xs ≡ most_records → Taken xs → T ≡ table_of xs ++ l → table_read T ≡ lines_from n xs l
  reached n xs l h W e =
      let q : T ≡ header ++ (joined record_line xs ++ l) = e ∙ append_assoc header (joined record_line xs) l in
      let m : most_records ≡ length xs + n = omega arith in
      read_headed T (joined record_line xs ++ l) (ap (after header) q ∙ after_is header (joined record_line xs ++ l))
      ∙ ap (λ k. lines_from k [] (joined record_line xs ++ l)) m
      ∙ walk n [] xs l W

  -- A table is taken exactly if it is that of at most 512 records of four-byte numbers, no two of one task and job.
  pub taken_exactly : (xs : List Record) → (table_read T ≡ all_taken xs) ↔ (Taken xs × (T ≡ table_of xs))
  taken_exactly xs = (λ e. to (table_read T) (table_told T) e, λ (W, e). from W e)
    where
      to : (r : TableRead) → Told T r → r ≡ all_taken xs → Taken xs × (T ≡ table_of xs)
      to r (told_all {xs = ys} W q) e = let s : ys ≡ xs = ap (λ t. t.records) e in (subst Taken s W, q ∙ ap table_of s)
      to r (told_stop {ν = ν} {line = n} ys R) e = let z : ◌≡◌ {A = ℕ} 0 1 = cc (ap (λ t. t.fault) e) in absurd (omega arith)

      from : Taken xs → T ≡ table_of xs → table_read T ≡ all_taken xs
      from W e =
          reached (most_records - length xs) xs [] (omega (arith, W.few)) W (e ∙ sym (append-nil (table_of xs))) ∙ lines_end (most_records - length xs) xs

  -- A table is refused with a number at a line exactly when the request says so.
  pub refused_exactly : (ν n : ℕ) → ((table_read T).fault ≡ Some (ν, n)) ↔ RefusesAt T ν n
  refused_exactly ν n = (λ e. to (table_read T) (table_told T) e, from)
    where
      to : (r : TableRead) → Told T r → r.fault ≡ Some (ν, n) → RefusesAt T ν n
      to r (told_all W q) e = let z : ◌≡◌ {A = ℕ} 0 1 = cc in absurd (omega arith)
      to r (told_stop {ν = μ} {line = m} ys R) e = let p : ◌≡◌ {A = ℕ × ℕ} (μ, m) (ν, n) = cc in subst (λ q. RefusesAt T q.0 q.1) p R

      from : {ν n : ℕ} → RefusesAt T ν n → (table_read T).fault ≡ Some (ν, n)
      from (no_header f) = ap (λ t. t.fault) (read_headless T (headless (after header T) refl))
        where
          headless : (o : Option (List ℕ)) → after header T ≡ o → after header T ≡ None
          headless None q = q
          headless (Some l) q = absurd (f l (after_got header T l q))
      from (bad_line xs c l W e f) =
          let k : ℕ = most_records - length xs in
          ap (λ t. t.fault) (reached k xs (c ∷ l) (omega (arith, W.few)) W e ∙ lines_bad k xs (c ∷ l) (omega arith) (line_in_none (c ∷ l) f))
      from (too_many xs x l rest W e L full) =
          ap (λ t. t.fault) (reached 0 xs l (omega arith) W e ∙ lines_many xs l (byte L) (line_in_of L))
      from (given_before xs x l rest W e L few G) =
          let k : ℕ = most_records - length xs - 1 in
          ap (λ t. t.fault)
          (reached (suc k) xs l (omega arith) W e ∙ lines_given k xs l (byte L) (line_in_of L) (says_true (says_given (job_of x) xs) G))
