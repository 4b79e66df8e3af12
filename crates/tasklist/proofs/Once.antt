-- Two results that a contract permits are the same: of the functions of this crate. Assumes nothing.
use Rattle.std.specs.Prelude.{Option, Some, None, Result, Ok, Err}
use Rattle.std.specs.Result.{result_unwrap_or}
use Prim.Native.Nat.{ℕ}
use mathlib.Core.Path.{◌≡◌, refl, sym, ◌∙◌, ap}
use mathlib.Core.List.{List}
use lib.ListN.{replicate, length-replicate}
use Rattle.base.proofs.Once.{Once, ◌also◌, both, told_apart}
use Rattle.model.specs.declared.task.Task.{Task}
use Rattle.model.specs.declared.refusal.Refusal.{Refusal}
use Rattle.model.specs.Model.{no_task}
use Rattle.model.proofs.Once.{refusal_named, refusal_named_lem}
use Rattle.tasklist.specs.Stored.{refusal_in, Stores, Decodes}
use Rattle.tasklist.proofs.planned.Reads as planned
use Rattle.tasklist.proofs.tasks_of.Reads as tasks_of
use Rattle.tasklist.proofs.tasks_over.Reads as tasks_over
use Rattle.tasklist.proofs.decode_tasks.Reads as decode_tasks

-- an answer is a refusal or a count
abbrev told : Result ℕ Refusal → Option (ℕ × ℕ) × ℕ
told r = (refusal_in r, result_unwrap_or r 0)

abbrev back : Option (ℕ × ℕ) × ℕ → Result ℕ Refusal
back (None, n) = Ok n
back (Some p, n) = Err (refusal_named p)

back_told : (r : Result ℕ Refusal) → back (told r) ≡ r
back_told (Ok n) = refl
back_told (Err r) = ap Err (refusal_named_lem r)

stored_once : (r r' : Result ℕ Refusal) → refusal_in r ≡ refusal_in r' → result_unwrap_or r 0 ≡ result_unwrap_or r' 0 → r ≡ r'
stored_once r r' e n = told_apart told back back_told r r' (told r') (λ κ. (e κ, n κ)) refl

pub planned_once : Once planned.Pre planned.Post (λ r exit. r)
planned_once κs args _ r r' exit exit' p q =
    let room = args.1.0 in
    let P = p (replicate room no_task) (length-replicate room no_task) in
    let Q = q (replicate room no_task) (length-replicate room no_task) in
    stored_once r r' (P.refusal ∙ sym Q.refusal) (P.count ∙ sym Q.count)

pub tasks_over_once : Once tasks_over.Pre tasks_over.Post (λ r exit. r)
tasks_over_once κs args _ r r' exit exit' p q = p ∙ sym q

-- what is stored in a lent list, and what is answered
pub stores_once : (file : List ℕ) (list after after' : List Task) (r r' : Result ℕ Refusal) → Stores file list after r → Stores file list after' r'
    → (r also after) ≡ (r' also after')
stores_once file list after after' r r' p q =
    both (stored_once r r' (p.refusal ∙ sym q.refusal) (p.count ∙ sym q.count)) (p.list ∙ sym q.list)

pub decode_tasks_once : Once decode_tasks.Pre decode_tasks.Post (λ r exit. r also exit.1.0.now)
decode_tasks_once κs args _ r r' exit exit' p q = stores_once _ _ _ _ r r' p q

-- the tasks of the run that a file tells
pub decodes_once : (file : List ℕ) (l l' : List Task) → Decodes file l → Decodes file l' → l ≡ l'
decodes_once file l l' p q = p ∙ sym q

pub tasks_of_once : Once tasks_of.Pre tasks_of.Post (λ r exit. r)
tasks_of_once κs args _ r r' exit exit' p q = decodes_once _ r r' p q
