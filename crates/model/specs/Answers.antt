-- Document 01, "What the checker says", and document 02, request 4: answer 6.
use Rattle.std.specs.Prelude.{ℕ, ◌≤◌, ◌<◌, ◌≡◌, ◌⊎◌, Bool, true, false, List, [], ◌∷◌, length, Result, Ok, Err}
use Rattle.base.specs.First.{First, Number}
use Rattle.model.specs.declared.answer.Answer.{Answer}
use Rattle.model.specs.declared.answer.Answer.TheVariants.{InTime, LateBeforeH, LateFromH, RuleBroken, Refused, Written, Chain}
use Rattle.model.specs.declared.broken.Broken.{Broken}
use Rattle.model.specs.declared.broken.Broken.TheVariants.{Jobs, Release, Start, Length, Core, Overlap, Order, Idling, Turn}
use Rattle.model.specs.declared.refusal.Refusal.{Refusal}
use Rattle.model.specs.declared.refusal.Refusal.TheVariants.{CutShort, SettingCount, SettingRange, TaskCount, TaskRange, TooManyJobs, RecordCount, Followed, Horizon, NotAccepted, NoRoom, BadLine, GivenAgain, NotRising, NoRecord}
use Rattle.model.specs.Model.{Run, IsRecord, rec, due}
use Rattle.model.specs.File.{refused, whole, read}
use Rattle.model.specs.Rules.{Rule, rule1, rule2, rule3, rule4, rule5, rule6, rule7, rule8, rule9, Holds, Obeys, Place, FirstPlace}

-- An answer is five numbers: answer, code, and three for the place.
-- -----------------------------------------------------------------
pub record Five : Type 0 where
  pub answer : ℕ
  pub code : ℕ
  pub place : Place

abbrev pub five : ℕ → ℕ → ℕ → ℕ → ℕ → Five
five a c x y z = record { answer = a; code = c; place = record { x = x; y = y; z = z } }

-- The table: 0 accepted, no job late; 1 accepted, some late job begins before H; 2 accepted, late jobs exist, none begins before
-- H; 3 a rule is broken; 4 refused; 5 carried, or what a tool added later writes is written; 6 the chain of causes is written.
abbrev pub in_time : Five
in_time = five 0 0 0 0 0

abbrev pub late_before_H : ℕ → ℕ → Five
late_before_H n k = five 1 n k 0 0

abbrev pub late_from_H : ℕ → ℕ → Five
late_from_H n k = five 2 n k 0 0

abbrev pub rule_broken : ℕ → Place → Five
rule_broken ν p = record { answer = 3; code = ν; place = p }

abbrev pub refusal : ℕ → ℕ → Five
refusal ν i = five 4 ν i 0 0

abbrev pub bytes_written : ℕ → Five
bytes_written n = five 5 n 0 0 0

abbrev pub chain_written : ℕ → Five
chain_written n = five 6 n 0 0 0

-- A refusal of the program is an enum: the paper's number for each of its cases, and the task or the line that it names, else 0.
abbrev pub refusal_numbers : Refusal → ℕ × ℕ
refusal_numbers CutShort = (1, 0)
refusal_numbers SettingCount = (2, 0)
refusal_numbers SettingRange = (3, 0)
refusal_numbers TaskCount = (4, 0)
refusal_numbers (TaskRange i) = (5, i)
refusal_numbers TooManyJobs = (6, 0)
refusal_numbers RecordCount = (7, 0)
refusal_numbers Followed = (8, 0)
refusal_numbers Horizon = (9, 0)
refusal_numbers NotAccepted = (10, 0)
refusal_numbers NoRoom = (11, 0)
refusal_numbers (BadLine i) = (12, i)
refusal_numbers (GivenAgain i) = (13, i)
refusal_numbers NotRising = (14, 0)
refusal_numbers NoRecord = (20, 0)

-- A broken rule with its place too: the paper's number of the rule, and the place.
abbrev pub broken_numbers : Broken → ℕ × Place
broken_numbers (Jobs k) = (1, record { x = k; y = 0; z = 0 })
broken_numbers (Release k) = (2, record { x = k; y = 0; z = 0 })
broken_numbers (Start k) = (3, record { x = k; y = 0; z = 0 })
broken_numbers (Length k) = (4, record { x = k; y = 0; z = 0 })
broken_numbers (Core k) = (5, record { x = k; y = 0; z = 0 })
broken_numbers (Overlap a b) = (6, record { x = a; y = b; z = 0 })
broken_numbers (Order a b) = (7, record { x = a; y = b; z = 0 })
broken_numbers (Idling a t c) = (8, record { x = a; y = t; z = c })
broken_numbers (Turn k) = (9, record { x = k; y = 0; z = 0 })

abbrev pub numbers_at : ℕ × Place → List ℕ
numbers_at p = p.0 ∷ p.1.x ∷ p.1.y ∷ p.1.z ∷ []

-- An answer of the program is an enum: the paper's five numbers for each of its cases.
abbrev pub five_of : Answer → Five
five_of InTime = in_time
five_of (LateBeforeH n k) = late_before_H n k
five_of (LateFromH n k) = late_from_H n k
five_of (RuleBroken ν x y z) = rule_broken ν (record { x = x; y = y; z = z })
five_of (Refused ν i) = refusal ν i
five_of (Written n) = bytes_written n
five_of (Chain n) = chain_written n

-- A result of the program that may be a refusal, with the paper's numbers for it.
abbrev pub numbered : {A : Type 0} → Result A Refusal → Result A (ℕ × ℕ)
numbered (Ok x) = Ok x
numbered (Err r) = Err (refusal_numbers r)

-- what is said of a broken rule, and of a refusal
abbrev pub five_broken : Broken → Five
five_broken b = rule_broken (broken_numbers b).0 (broken_numbers b).1

abbrev pub five_refused : Refusal → Five
five_refused r = refusal (refusal_numbers r).0 (refusal_numbers r).1

-- what is said where a tool writes: how many bytes, or why not
abbrev pub five_written : Result ℕ Refusal → Five
five_written (Ok n) = bytes_written n
five_written (Err r) = five_refused r

-- What a tool that writes says, and what it writes to the front of its output: a refusal writes nothing.
-- ------------------------------------------------------------------------------------------------------
pub record Outcome : Type 0 where
  pub told : Five
  pub writes : List ℕ

abbrev pub refused_with : ℕ → ℕ → Outcome
refused_with ν i = record { told = refusal ν i; writes = [] }

-- refused with a number, unless the test passes
unfoldable pub gate_outcome : ℕ → Bool → Outcome → Outcome
gate_outcome ν true o = o
gate_outcome ν false o = refused_with ν 0

-- all of this is written, and its bytes are counted
unfoldable pub written_out : List ℕ → Outcome
written_out out = record { told = bytes_written (length out); writes = out }

-- What each row is given for.
-- ---------------------------
abbrev pub number : Rule → ℕ
number rule1 = 1
number rule2 = 2
number rule3 = 3
number rule4 = 4
number rule5 = 5
number rule6 = 6
number rule7 = 7
number rule8 = 8
number rule9 = 9

module _ (ρ : Run) where
  -- Late means e > deadline.
  abbrev pub Late : ℕ → Type 0
  Late k = due ρ k < (rec ρ k).end

  abbrev pub BeginsBeforeH : ℕ → Type 0
  BeginsBeforeH k = (rec ρ k).start < ρ.setting.horizon

  -- number of late records
  abbrev pub LateRecords : ℕ → Type 0
  LateRecords n = Number Late (length ρ.records) n

-- What is said of a run: its five numbers.
pub data Verdict (ρ : Run) : Five → Type 0 where
  in_time_row : Obeys ρ → ((k : ℕ) → IsRecord ρ k → ¬ Late ρ k) → Verdict ρ in_time
  late_before_H_row : {n k : ℕ} → Obeys ρ → LateRecords ρ n → First ◌<◌ (λ k. IsRecord ρ k × Late ρ k × BeginsBeforeH ρ k) k
      → Verdict ρ (late_before_H n k)
  late_from_H_row : {n k : ℕ} → Obeys ρ → LateRecords ρ n → ((k : ℕ) → IsRecord ρ k → Late ρ k → ¬ BeginsBeforeH ρ k)
      → First ◌<◌ (λ k. IsRecord ρ k × Late ρ k) k → Verdict ρ (late_from_H n k)
  rule_broken_row : {p : Place} (ν : Rule) → ((μ : Rule) → number μ < number ν → Holds μ ρ) → FirstPlace ν ρ p
      → Verdict ρ (rule_broken (number ν) p)

-- What is said of a file.
pub data Answered (b : List ℕ) : Five → Type 0 where
  not_read : {ν i : ℕ} → read b ≡ refused ν i → Answered b (refusal ν i)
  judged : {ρ : Run} {f : Five} → read b ≡ whole ρ → Verdict ρ f → Answered b f

-- Every sequence of bytes gets one of the listed answers.
-- -------------------------------------------------------

-- A number of the table of refusals, up to the last that a call can give, with a task for 5, else 0.
pub record Listed (last ν i : ℕ) : Type 0 where
  pub low : 1 ≤ ν
  pub high : ν ≤ last
  pub task : (ν ≡ 5) ⊎ (i ≡ 0)

-- A row of the table of answers that a check can give, and one that a carry can give.
pub data Row : Five → Type 0 where
  row0 : Row in_time
  row1 : (n k : ℕ) → Row (late_before_H n k)
  row2 : (n k : ℕ) → Row (late_from_H n k)
  row3 : (ν : Rule) (p : Place) → Row (rule_broken (number ν) p)
  row4 : {ν i : ℕ} → Listed 8 ν i → Row (refusal ν i)

pub data CarryRow : Five → Type 0 where
  carry4 : {ν i : ℕ} → Listed 11 ν i → CarryRow (refusal ν i)
  carry5 : (n : ℕ) → CarryRow (bytes_written n)
