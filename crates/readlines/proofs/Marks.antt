-- Each job that is given has left its mark; so a job without one is not given yet. Assumes nothing.
use Prim.Native.Nat.{ℕ, suc, ◌≤◌, ◌<◌}
use mathlib.Core.Path.{◌≡◌, sym, ◌∙◌, ap}
use mathlib.Core.Logic.{◌⊎◌, inl, inr}
use mathlib.Core.Bool.{Bool, true, false, true≢false}
use mathlib.Core.List.{List, [], ◌∷◌, ◌++◌}
use native.Mathlib.Decide.{ℕ_discrete}
use native.Mathlib.Omega.{arith}
use lib.ListN.{length, get_or, set, length-append, get_or-append}
use lib.Seq.{get_or-append_seam, get_or-set_same, get_or-set_other}
use Rattle.std.specs.Bool.{MatchBool}
use Rattle.std.specs.List.{AllWithin, HoldsAt}
use Rattle.base.proofs.Find.{here_or_on}
use Rattle.base.proofs.Test.{says_true, says_false}
use Rattle.model.specs.declared.record.Record.{Record}
use Rattle.model.specs.Model.{Job, job_of, no_record}
use Rattle.exchange.specs.TextTable.{given}
use Rattle.exchange.proofs.TakenOrRefused.{says_given}
use Rattle.readlines.specs.Scan.{slot_of}

pub record Marked (xs : List Record) (marks : List Bool) : Type 0 where
  pub each : (k : ℕ) → k < length xs → get_or marks (slot_of (job_of (get_or xs k no_record))) false ≡ true

pub marked_none : (marks : List Bool) → Marked [] marks
marked_none marks = record { each = λ k h. absurd (omega arith) }

-- one more mark
pub marked_on : {xs : List Record} {marks : List Bool} {slot : ℕ} (x : Record) → Marked xs marks → slot ≡ slot_of (job_of x) → slot < length marks
    → Marked (xs ++ (x ∷ [])) (set marks slot true)
marked_on {xs} {marks} {slot} x M e h =
    record { each = λ k l. go k (here_or_on k (length xs) (omega (arith, length-append xs (x ∷ [])))) }
  where
    marks' : List Bool
    marks' = set marks slot true

    still : (i : ℕ) → get_or marks i false ≡ true → get_or marks' i false ≡ true
    still i m = by (ℕ_discrete i slot)
      where
        by : Dec (i ≡ slot) → get_or marks' i false ≡ true
        by (yes d) = rw d (get_or-set_same marks slot true false h)
        by (no d) = get_or-set_other marks slot i true false d ∙ m

    go : (k : ℕ) → (length xs ≡ k) ⊎ (suc k ≤ length xs) → get_or marks' (slot_of (job_of (get_or (xs ++ (x ∷ [])) k no_record))) false ≡ true
    go k (inl q) = rw (← q, get_or-append_seam, ← e) (get_or-set_same marks slot true false h)
    go k (inr l) = rw get_or-append (still _ (M.each k l))

-- no mark, not given
pub unmarked : {xs : List Record} {marks : List Bool} → Marked xs marks → (q : Job) {slot : ℕ} → slot ≡ slot_of q → get_or marks slot false ≡ false
    → given q xs ≡ false
unmarked {xs} {marks} M q e z =
    says_false (says_given q xs)
    (λ (k, h, j). true≢false (sym (M.each k h) ∙ ap (λ (p : Job). get_or marks (slot_of p) false) j ∙ ap (λ i. get_or marks i false) (sym e) ∙ z))

-- what a search in the records says
pub searched : (xs : List Record) (q : Job) {r : Bool}
    → MatchBool r ((k : ℕ) × (k < length xs) × HoldsAt (λ x. job_of x ≡ q) xs k) (AllWithin (λ x. ¬ (job_of x ≡ q)) xs 0 (length xs)) → r ≡ given q xs
searched xs q {r = true} (k, h, j) = sym (says_true (says_given q xs) (k, h, j no_record))
searched xs q {r = false} n = sym (says_false (says_given q xs) (λ (k, h, j). n k no_record (omega arith) h j))
