-- The line that stands first in a text: what is found by computing is what the text is. Assumes nothing.
use Rattle.std.specs.Prelude.{None, Option, Some}
use Prim.Native.Nat.{ℕ, ◌+◌, ◌-◌, ◌*◌, ◌≤◌, ◌<◌}
use mathlib.Core.Path.{◌≡◌, refl, sym, ◌∙◌, ap, subst}
use mathlib.Core.Bool.{Bool, true, false}
use mathlib.Core.List.{List, [], ◌∷◌, ◌++◌, append_assoc}
use native.Mathlib.Numerals.{add-one}
use native.Mathlib.Omega.{arith}
use lib.Dec.{ltb, eqb}
use lib.ListN.{length, get_or, drop, length-append}
use lib.Seq.{drop-cons, drop-length}
use borrow.Author.Tests.{lt-ltb, le-ltb}
use Rattle.base.proofs.Test.{Says, says_and, says_ltb, says_eqb, says_true, says_false, says_map}
use Rattle.model.specs.declared.record.Record.{Record}
use Rattle.model.specs.Model.{no_record}
use Rattle.model.specs.File.{FourBytes, RecordFits}
use Rattle.model.specs.Report.{decimal}
use Rattle.model.proofs.RoundTrip.{fits_nil, fits_cons}
use Rattle.decimal.proofs.Decimal.{Digits, none as no_digit, more as digit_more, decimal_digits, value_from, value_decimal, length-decimal}
use Rattle.exchange.specs.RecordLine.{header, record_line, LineFirst}
use Rattle.exchange.specs.LineIn.{after, digits_on, number_of, behind, guess, fit, line_if, line_in}

pub length-header : length header ≡ 32
unfolding header
length-header = refl

-- The rest of a text that begins with another.
-- --------------------------------------------
pub after_is : (p rest : List ℕ) → after p (p ++ rest) ≡ Some rest
unfolding after
after_is [] rest = refl
after_is (c ∷ p) rest = rw (says_true (says_eqb c c) refl, after) (after_is p rest)

pub after_got : (p l rest : List ℕ) → after p l ≡ Some rest → l ≡ p ++ rest
unfolding after
after_got [] l rest e = cc
after_got (c ∷ p) [] rest e = let z : ◌≡◌ {A = ℕ} 0 1 = cc in absurd (omega arith)
after_got (c ∷ p) (d ∷ l) rest e = go (eqb c d) (says_eqb c d) (after_got p l rest) e
  where
    go : (t : Bool) → Says t (c ≡ d) → (after p l ≡ Some rest → l ≡ p ++ rest) → elim t [ true ↦ after p l | false ↦ None ] ≡ Some rest → d ∷ l ≡ c ∷ p ++ rest
    go true s on q = let k = on q in let h = s.sound refl in λ κ. sym h κ ∷ k κ
    go false s on q = let z : ◌≡◌ {A = ℕ} 0 1 = cc in absurd (omega arith)

pub after_short : (p l : List ℕ) → length l < length p → after p l ≡ None
unfolding after
after_short [] l h = absurd (omega arith)
after_short (c ∷ p) [] h = refl
after_short (c ∷ p) (d ∷ l) h = go (eqb c d) (after_short p l (omega arith))
  where
    go : (t : Bool) → after p l ≡ None → ◌≡◌ {A = Option (List ℕ)} (elim t [ true ↦ after p l | false ↦ None ]) None
    go true e = e
    go false e = refl

-- byte by byte
module _ (p l : List ℕ) (i : ℕ) (h : i < length p) (k : i < length l) where
  next_of : (s : List ℕ) → i < length s → drop i s ≡ get_or s i 0 ∷ drop (i + 1) s
  next_of s b = drop-cons s i 0 b ∙ rw add-one

  pub after_on : get_or p i 0 ≡ get_or l i 0 → after (drop i p) (drop i l) ≡ after (drop (i + 1) p) (drop (i + 1) l)
  unfolding after
  after_on e = rw (next_of p h, next_of l k, says_true (says_eqb (get_or p i 0) (get_or l i 0)) e, after)

  pub after_not : ¬ (get_or p i 0 ≡ get_or l i 0) → after (drop i p) (drop i l) ≡ None
  unfolding after
  after_not f = rw (next_of p h, next_of l k, says_false (says_eqb (get_or p i 0) (get_or l i 0)) f, after)

pub after_all : (p l : List ℕ) → after (drop (length p) p) l ≡ Some l
unfolding after
after_all p l = rw (drop-length p)

-- Numbers read without looking.
-- -----------------------------
digits_on_lem : {ds : List ℕ} (a stop : ℕ) (rest : List ℕ) → Digits ds → stop < 48 → digits_on a (ds ++ (stop ∷ rest)) ≡ (value_from a ds, rest)
unfolding digits_on value_from
digits_on_lem a stop rest no_digit h = rw (lt-ltb stop 48 h, digits_on)
digits_on_lem a stop rest (digit_more {d = d} {ds = ds} low high D) h =
    rw (le-ltb d 48 low, digits_on) (digits_on_lem (a * 10 + (d - 48)) stop rest D h)

first_number : (v stop : ℕ) (rest : List ℕ) → FourBytes v → stop < 48 → digits_on 0 (decimal v ++ (stop ∷ rest)) ≡ (v, rest)
first_number v stop rest few h = digits_on_lem 0 stop rest (decimal_digits v) h ∙ ap (λ w. (w, rest)) (value_decimal v few)

-- a line is its numbers, one after the other
module _ (x : Record) (rest : List ℕ) where
  abbrev past_5 : List ℕ
  past_5 = decimal x.core ++ (10 ∷ rest)

  abbrev past_4 : List ℕ
  past_4 = decimal x.end ++ (44 ∷ past_5)

  abbrev past_3 : List ℕ
  past_3 = decimal x.start ++ (44 ∷ past_4)

  abbrev past_2 : List ℕ
  past_2 = decimal x.release ++ (44 ∷ past_3)

  abbrev past_1 : List ℕ
  past_1 = decimal x.job ++ (44 ∷ past_2)

  pub line_is : record_line x ++ rest ≡ decimal x.task ++ (44 ∷ past_1)
  unfolding record_line
  line_is = simp append_assoc

  guess_is : RecordFits x → guess (record_line x ++ rest) ≡ x
  guess_is F =
      let a = first_number x.task 44 past_1 (F 0) (omega arith) in
      let b = first_number x.job 44 past_2 (F 1) (omega arith) in
      let c = first_number x.release 44 past_3 (F 2) (omega arith) in
      let d = first_number x.start 44 past_4 (F 3) (omega arith) in
      let e = first_number x.end 44 past_5 (F 4) (omega arith) in
      let f = first_number x.core 10 rest (F 5) (omega arith) in
      let l₁ : behind (decimal x.task ++ (44 ∷ past_1)) ≡ past_1 = ap (λ p. p.1) a in
      let l₂ : behind (behind (decimal x.task ++ (44 ∷ past_1))) ≡ past_2 = ap behind l₁ ∙ ap (λ p. p.1) b in
      let l₃ : behind (behind (behind (decimal x.task ++ (44 ∷ past_1)))) ≡ past_3 = ap behind l₂ ∙ ap (λ p. p.1) c in
      let l₄ : behind (behind (behind (behind (decimal x.task ++ (44 ∷ past_1))))) ≡ past_4 = ap behind l₃ ∙ ap (λ p. p.1) d in
      let l₅ : behind (behind (behind (behind (behind (decimal x.task ++ (44 ∷ past_1)))))) ≡ past_5 = ap behind l₄ ∙ ap (λ p. p.1) e in
      ap guess line_is
      ∙ (λ κ.
      record {
        task = (a κ).0;
        job = (ap number_of l₁ ∙ ap (λ p. p.0) b) κ;
        release = (ap number_of l₂ ∙ ap (λ p. p.0) c) κ;
        start = (ap number_of l₃ ∙ ap (λ p. p.0) d) κ;
        end = (ap number_of l₄ ∙ ap (λ p. p.0) e) κ;
        core = (ap number_of l₅ ∙ ap (λ p. p.0) f) κ;
      })

abbrev Six : Record → Type 0
Six x =
    FourBytes x.task × (FourBytes x.job × (FourBytes x.release × (FourBytes x.start × (FourBytes x.end × FourBytes x.core))))

says_fit : (x : Record) → Says (fit x) (RecordFits x)
says_fit x =
    says_map to from
    (says_and (few x.task) (says_and (few x.job) (says_and (few x.release) (says_and (few x.start) (says_and (few x.end) (few x.core))))))
  where
    few : (v : ℕ) → Says (ltb v 4294967296) (FourBytes v)
    few v = says_ltb v 4294967296

    to : Six x → RecordFits x
    to (a, (b, (c, (d, (e, f))))) = (fits_cons a (fits_cons b (fits_cons c (fits_cons d (fits_cons e (fits_cons f fits_nil)))))).at

    from : RecordFits x → Six x
    from F = (F 0, (F 1, (F 2, (F 3, (F 4, F 5)))))

-- The line that is found is the line that stands first.
-- -----------------------------------------------------
had : Option (Record × List ℕ) → Record × List ℕ
had None = (no_record, [])
had (Some p) = p

pub line_in_of : {l : List ℕ} {x : Record} {rest : List ℕ} → LineFirst l x rest → line_in l ≡ Some (x, rest)
unfolding line_in
line_in_of {l} {x} {rest} L =
    let g : guess l ≡ x = ap guess L.text ∙ guess_is x rest L.fits in
    (λ κ. line_if (fit (g κ)) (g κ) (after (record_line (g κ)) (L.text κ)))
    ∙ (λ κ. line_if (says_true (says_fit x) L.fits κ) x (after_is (record_line x) rest κ))

pub line_in_got : (l : List ℕ) (x : Record) (rest : List ℕ) → line_in l ≡ Some (x, rest) → LineFirst l x rest
unfolding line_in had
line_in_got l x rest e = go (fit (guess l)) (says_fit (guess l)) (after (record_line (guess l)) l) refl e
  where
    go : (t : Bool) → Says t (RecordFits (guess l)) → (o : Option (List ℕ)) → after (record_line (guess l)) l ≡ o → line_if t (guess l) o ≡ Some (x, rest)
        → LineFirst l x rest
    go false s o q e = let z : ◌≡◌ {A = ℕ} 0 1 = cc in absurd (omega arith)
    go true s None q e = let z : ◌≡◌ {A = ℕ} 0 1 = cc in absurd (omega arith)
    go true s (Some r) q e =
        let same : guess l ≡ x = ap (λ o. (had o).0) e in
        let left : r ≡ rest = ap (λ o. (had o).1) e in
        record {
          fits = subst RecordFits same (s.sound refl);
          text = after_got (record_line (guess l)) l r q ∙ (λ κ. record_line (same κ) ++ left κ);
        }

pub line_in_none : (l : List ℕ) → ((x : Record) (rest : List ℕ) → ¬ LineFirst l x rest) → line_in l ≡ None
line_in_none l f = go (line_in l) refl
  where
    go : (o : Option (Record × List ℕ)) → line_in l ≡ o → line_in l ≡ None
    go None e = e
    go (Some (x, rest)) e = absurd (f x rest (line_in_got l x rest e))

-- one record at most has its line there
pub line_once : {l : List ℕ} {x y : Record} {rest rest' : List ℕ} → LineFirst l x rest → LineFirst l y rest' → (x ≡ y) × (rest ≡ rest')
unfolding had
line_once L M = let e = sym (line_in_of L) ∙ line_in_of M in (ap (λ o. (had o).0) e, ap (λ o. (had o).1) e)

-- How long a line is.
-- -------------------
pub length-line : (x : Record) → length (record_line x) ≤ 66
unfolding record_line
length-line x =
    simp length-append
    (omega (arith, length-decimal x.task, length-decimal x.job, length-decimal x.release, length-decimal x.start, length-decimal x.end, length-decimal x.core))

pub line_some : (x : Record) → 1 ≤ length (record_line x)
unfolding record_line
line_some x = simp length-append (omega arith)
