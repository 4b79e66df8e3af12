-- The plan of a decoding, one law for each way. Assumes nothing.
use Rattle.std.specs.Prelude.{Result, Err}
use Prim.Native.Nat.{ℕ, ◌≤◌}
use mathlib.Core.Path.{◌≡◌, sym, ◌∙◌, ap}
use mathlib.Core.Bool.{Bool, true, false}
use mathlib.Core.List.{List, ◌++◌}
use native.Mathlib.Omega.{arith}
use native.Mathlib.Decide.{dec_le}
use borrow.Author.Tests.{le-leb, lt-leb}
use lib.Dec.{leb}
use lib.ListN.{length, drop}
use Rattle.model.specs.declared.task.Task.{Task}
use Rattle.model.specs.Model.{Run}
use Rattle.model.specs.declared.refusal.Refusal.{Refusal}
use Rattle.model.specs.Answers.{refusal_numbers}
use Rattle.model.specs.File.{read, refused, decoded, decoded_if, decoded_of}
use Rattle.openfile.specs.declared.head.Head.{Head}
use Rattle.openfile.specs.Head.{Tells}
use Rattle.openfile.proofs.WholeOrRefused.{tells_task_count, tells_tasks, tells_size}
use Rattle.tasklist.specs.Stored.{count_if, count_of, room_if, Rooms, Plans}

-- a file that is refused
pub plan_refused : (b : List ℕ) (l : List Task) (r : Refusal) → read b ≡ refused (refusal_numbers r).0 (refusal_numbers r).1 → Plans b l (Err r)
unfolding decoded
plan_refused b l r e =
    record {
      refusal = sym (ap (λ r. (decoded_of r l).refusal) e);
      stored = sym (ap (λ r. (decoded_of r l).list) e);
      count = sym (ap (λ r. count_of r (length l)) e);
      room = omega arith;
      there = omega arith;
    }

-- a file that is whole, and whether its tasks have room
module _ (b : List ℕ) (l : List Task) (h : Head) (ρ : Run) (T : Tells b h ρ) where
  decodes : decoded b l ≡ decoded_if (leb (length ρ.tasks) (length l)) ρ.tasks l
  unfolding decoded
  decodes = ap (λ r. decoded_of r l) T.reads

  counts : count_of (read b) (length l) ≡ count_if (leb (length ρ.tasks) (length l)) (length ρ.tasks)
  counts = ap (λ r. count_of r (length l)) T.reads

  tested : (t : Bool) → leb h.tasks (length l) ≡ t → leb (length ρ.tasks) (length l) ≡ t
  tested t q = ap (λ n. leb n (length l)) (sym (tells_task_count T)) ∙ q

  short : leb h.tasks (length l) ≡ false → Plans b l (room_if false h.tasks)
  short q =
      let d = decodes ∙ ap (λ t. decoded_if t ρ.tasks l) (tested false q) in
      record {
        refusal = sym (ap (λ x. x.refusal) d);
        stored = sym (ap (λ x. x.list) d);
        count = sym (counts ∙ ap (λ t. count_if t (length ρ.tasks)) (tested false q));
        room = omega arith;
        there = omega arith;
      }

  enough : h.tasks ≤ length l → leb h.tasks (length l) ≡ true → Plans b l (room_if true h.tasks)
  enough m q =
      let d = decodes ∙ ap (λ t. decoded_if t ρ.tasks l) (tested true q) in
      record {
        refusal = sym (ap (λ x. x.refusal) d);
        stored = (λ κ. sym (tells_tasks T) κ ++ drop (tells_task_count T κ) l) ∙ sym (ap (λ x. x.list) d);
        count = sym (counts ∙ ap (λ t. count_if t (length ρ.tasks)) (tested true q) ∙ sym (tells_task_count T));
        room = m;
        there = omega (arith, tells_size T);
      }

  planned : (r : Result ℕ Refusal) → Rooms h.tasks (length l) r → Plans b l r
  planned r e = go (dec_le h.tasks (length l))
    where
      go : Dec (h.tasks ≤ length l) → Plans b l r
      go (yes m) = let q = le-leb h.tasks (length l) m in rw (e ∙ ap (λ t. room_if t h.tasks) q) (enough m q)
      go (no m) = let q = lt-leb h.tasks (length l) (omega (arith, m)) in rw (e ∙ ap (λ t. room_if t h.tasks) q) (short q)

pub plan_whole : (b : List ℕ) (l : List Task) (h : Head) (r : Result ℕ Refusal) → (ρ : Run) × Tells b h ρ → Rooms h.tasks (length l) r → Plans b l r
plan_whole b l h r (ρ, T) e = planned b l h ρ T r e
