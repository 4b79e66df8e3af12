-- From which file a job is shown, one law for each way. Assumes nothing.
use Rattle.std.specs.Prelude.{None, Option, Some}
use Prim.Native.Nat.{ℕ}
use mathlib.Core.Path.{◌≡◌, sym, ◌∙◌, ap, subst}
use mathlib.Core.Bool.{Bool, true, false}
use mathlib.Core.List.{List}
use denote.Ref.{Bor}
use Rattle.model.specs.Model.{Job}
use Rattle.model.specs.File.{read, record_part, empty_part}
use Rattle.model.specs.Carry.{in_recorded, least_of, began_before, shown_carried, shown_if, shown_of, shown}
use Rattle.reader.specs.LentFile.{starts_of, IsPart, Opens}
use Rattle.reader.specs.declared.Reader.{Reader}
use Rattle.shown.specs.Shown.{IsShown}

-- What a reader of a file is asked is asked of the file.
-- ------------------------------------------------------
module _ {file : Bor (List ℕ)} {r : Reader} (O : Opens file r) where
  same : r.file.now ≡ file.now
  same = ap (λ f. f.now) O.0

  pub sections : r.starts ≡ starts_of (read r.file.now)
  sections = O.1 ∙ ap (λ b. starts_of (read b)) (sym same)

  pub least_said : (q : Job) {o : Option ℕ} → o ≡ least_of (read r.file.now) q → least_of (read file.now) q ≡ o
  least_said q e = sym (e ∙ ap (λ b. least_of (read b) q) same)

  pub before_said : (k : ℕ) {t : Bool} → t ≡ began_before (read r.file.now) k → began_before (read file.now) k ≡ t
  before_said k e = sym (e ∙ ap (λ b. began_before (read b) k) same)

-- What is shown, by what was found.
-- ---------------------------------
module _ (b c : List ℕ) (q : Job) where
  -- it is not shown from the recorded file
  pub record Later : Type 0 where
    pub carried : shown b c q ≡ shown_carried c (least_of (read c) q)

  pub not_recorded : least_of (read b) q ≡ None → Later
  unfolding shown
  not_recorded e = record { carried = ap (λ o. shown_of b o (shown_carried c (least_of (read c) q))) e }

  pub not_before : {k : ℕ} → least_of (read b) q ≡ Some k → began_before (read b) k ≡ false → Later
  unfolding shown
  not_before {k} e t =
      let rest = shown_carried c (least_of (read c) q) in
      record { carried = ap (λ o. shown_of b o rest) e ∙ ap (λ x. shown_if x b k rest) t }

  recorded_is : {k : ℕ} → least_of (read b) q ≡ Some k → began_before (read b) k ≡ true → shown b c q ≡ in_recorded (record_part b k)
  unfolding shown
  recorded_is {k} e t =
      let rest = shown_carried c (least_of (read c) q) in
      ap (λ o. shown_of b o rest) e ∙ ap (λ x. shown_if x b k rest) t

module _ (r recorded carried : Bor (List ℕ)) (q : Job) where
  pub shown_recorded : {k : ℕ} → least_of (read recorded.now) q ≡ Some k → began_before (read recorded.now) k ≡ true
      → IsPart r recorded (record_part recorded.now k) → IsShown r recorded carried (shown recorded.now carried.now q)
  shown_recorded e t h = subst (IsShown r recorded carried) (sym (recorded_is recorded.now carried.now q e t)) h

  pub shown_later : {k : ℕ} → Later recorded.now carried.now q → least_of (read carried.now) q ≡ Some k
      → IsPart r carried (record_part carried.now k) → IsShown r recorded carried (shown recorded.now carried.now q)
  shown_later L e h = subst (IsShown r recorded carried) (sym (L.carried ∙ ap (shown_carried carried.now) e)) h

  pub shown_nowhere : Later recorded.now carried.now q → least_of (read carried.now) q ≡ None
      → IsPart r carried empty_part → IsShown r recorded carried (shown recorded.now carried.now q)
  shown_nowhere L e h = subst (IsShown r recorded carried) (sym (L.carried ∙ ap (shown_carried carried.now) e)) h
