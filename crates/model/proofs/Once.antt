-- Two results that a contract permits are the same: of the methods of a setting and of a task. And an answer by value is told apart
-- by its five numbers. Assumes nothing.
use Prim.Native.Nat.{ℕ, zero, suc}
use Rattle.std.specs.Prelude.{cond, Result, Ok, Err}
use mathlib.Core.Path.{◌≡◌, refl, sym, ◌∙◌, ap}
use lib.Dec.{eqb}
use Rattle.base.proofs.Once.{Once, told_apart}
use Rattle.model.specs.declared.answer.Answer.{Answer}
use Rattle.model.specs.declared.answer.Answer.TheVariants.{InTime, LateBeforeH, LateFromH, RuleBroken, Refused, Written, Chain}
use Rattle.model.specs.declared.broken.Broken.{Broken}
use Rattle.model.specs.declared.broken.Broken.TheVariants.{Jobs, Release, Start, Length, Core, Overlap, Order, Idling, Turn}
use Rattle.model.specs.declared.refusal.Refusal.{Refusal}
use Rattle.model.specs.declared.refusal.Refusal.TheVariants.{CutShort, SettingCount, SettingRange, TaskCount, TaskRange, TooManyJobs, RecordCount, Followed, Horizon, NotAccepted, NoRoom, BadLine, GivenAgain, NotRising, NoRecord}
use Rattle.model.specs.Rules.{Place}
use Rattle.model.specs.Answers.{Five, five_of, refusal_numbers, broken_numbers, numbered}
use Rattle.model.proofs.broken.Broken.numbers.Reads as broken_numbers_fn
use Rattle.model.proofs.refusal.Refusal.numbers.Reads as refusal_numbers_fn
use Rattle.model.proofs.setting.Setting.in_range.Reads as setting_in_range
use Rattle.model.proofs.task.Task.in_range.Reads as task_in_range
use Rattle.model.proofs.task.Task.arrival.Reads as arrival
use Rattle.model.proofs.task.Task.deadline.Reads as deadline
use Rattle.model.proofs.task.Task.jobs.Reads as jobs

pub setting_in_range_once : Once setting_in_range.Pre setting_in_range.Post (λ r exit. r)
setting_in_range_once κs args _ r r' exit exit' p q = p ∙ sym q

pub task_in_range_once : Once task_in_range.Pre task_in_range.Post (λ r exit. r)
task_in_range_once κs args _ r r' exit exit' p q = p ∙ sym q

pub task_arrival_once : Once arrival.Pre arrival.Post (λ r exit. r)
task_arrival_once κs args _ r r' exit exit' p q = p ∙ sym q

pub task_deadline_once : Once deadline.Pre deadline.Post (λ r exit. r)
task_deadline_once κs args _ r r' exit exit' p q = p ∙ sym q

pub task_jobs_once : Once jobs.Pre jobs.Post (λ r exit. r)
task_jobs_once κs args _ r r' exit exit' p q = p ∙ sym q

pub broken_numbers_once : Once broken_numbers_fn.Pre broken_numbers_fn.Post (λ r exit. r)
broken_numbers_once κs args _ r r' exit exit' p q = p ∙ sym q

pub refusal_numbers_once : Once refusal_numbers_fn.Pre refusal_numbers_fn.Post (λ r exit. r)
refusal_numbers_once κs args _ r r' exit exit' p q = p ∙ sym q

-- the broken rule and the refusal of which these are the numbers
abbrev broken_named : ℕ → Place → Broken
broken_named ν p = cond (eqb ν 1) (Jobs p.x) (cond (eqb ν 2) (Release p.x) (cond (eqb ν 3) (Start p.x) (cond (eqb ν 4) (Length p.x) (cond (eqb ν 5) (Core p.x) (cond (eqb ν 6) (Overlap p.x p.y) (cond (eqb ν 7) (Order p.x p.y) (cond (eqb ν 8) (Idling p.x p.y p.z) (Turn p.x))))))))

broken_named_lem : (b : Broken) → broken_named (broken_numbers b).0 (broken_numbers b).1 ≡ b
broken_named_lem (Jobs x) = refl
broken_named_lem (Release x) = refl
broken_named_lem (Start x) = refl
broken_named_lem (Length x) = refl
broken_named_lem (Core x) = refl
broken_named_lem (Overlap x y) = refl
broken_named_lem (Order x y) = refl
broken_named_lem (Idling x y z) = refl
broken_named_lem (Turn x) = refl

abbrev pub refusal_named : ℕ × ℕ → Refusal
refusal_named p = cond (eqb p.0 1) CutShort (cond (eqb p.0 2) SettingCount (cond (eqb p.0 3) SettingRange (cond (eqb p.0 4) TaskCount (cond (eqb p.0 5) (TaskRange p.1) (cond (eqb p.0 6) TooManyJobs (cond (eqb p.0 7) RecordCount (cond (eqb p.0 8) Followed (cond (eqb p.0 9) Horizon (cond (eqb p.0 10) NotAccepted (cond (eqb p.0 11) NoRoom (cond (eqb p.0 12) (BadLine p.1) (cond (eqb p.0 13) (GivenAgain p.1) (cond (eqb p.0 14) NotRising (NoRecord))))))))))))))

pub refusal_named_lem : (r : Refusal) → refusal_named (refusal_numbers r) ≡ r
refusal_named_lem CutShort = refl
refusal_named_lem SettingCount = refl
refusal_named_lem SettingRange = refl
refusal_named_lem TaskCount = refl
refusal_named_lem (TaskRange i) = refl
refusal_named_lem TooManyJobs = refl
refusal_named_lem RecordCount = refl
refusal_named_lem Followed = refl
refusal_named_lem Horizon = refl
refusal_named_lem NotAccepted = refl
refusal_named_lem NoRoom = refl
refusal_named_lem (BadLine i) = refl
refusal_named_lem (GivenAgain i) = refl
refusal_named_lem NotRising = refl
refusal_named_lem NoRecord = refl

abbrev result_named : {A : Type 0} → Result A (ℕ × ℕ) → Result A Refusal
result_named (Ok x) = Ok x
result_named (Err p) = Err (refusal_named p)

result_named_lem : {A : Type 0} (r : Result A Refusal) → result_named (numbered r) ≡ r
result_named_lem (Ok x) = refl
result_named_lem (Err r) = ap Err (refusal_named_lem r)

pub numbered_once : {A : Type 0} (r r' : Result A Refusal) (o : Result A (ℕ × ℕ)) → numbered r ≡ o → numbered r' ≡ o → r ≡ r'
numbered_once = told_apart numbered result_named result_named_lem

-- the answer of which these are the five numbers
abbrev named : ℕ → Five → Answer
named zero f = InTime
named (suc zero) f = LateBeforeH f.code f.place.x
named (suc (suc zero)) f = LateFromH f.code f.place.x
named (suc (suc (suc zero))) f = RuleBroken f.code f.place.x f.place.y f.place.z
named (suc (suc (suc (suc zero)))) f = Refused f.code f.place.x
named (suc (suc (suc (suc (suc zero))))) f = Written f.code
named (suc (suc (suc (suc (suc (suc n)))))) f = Chain f.code

named_five : (a : Answer) → named (five_of a).answer (five_of a) ≡ a
named_five InTime = refl
named_five (LateBeforeH n k) = refl
named_five (LateFromH n k) = refl
named_five (RuleBroken ν x y z) = refl
named_five (Refused ν i) = refl
named_five (Written n) = refl
named_five (Chain n) = refl

pub five_once : (a b : Answer) (f : Five) → five_of a ≡ f → five_of b ≡ f → a ≡ b
five_once = told_apart five_of (λ f. named f.answer f) named_five
