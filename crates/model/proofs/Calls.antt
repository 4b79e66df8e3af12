-- What a call returns and leaves: nothing but 4 where the answer slice is too short, else what is told, and the rest of each slice. Assumes
-- nothing.
use Prim.Native.Nat.{ℕ, ◌≤◌, ◌<◌}
use mathlib.Core.Path.{◌≡◌, sym, ◌∙◌, ap}
use mathlib.Core.List.{List}
use lib.ListN.{length, drop}
use lib.Seq.{drop-append_seam}
use borrow.Author.Tests.{lt-ltb, le-ltb}
use Rattle.model.specs.Answers.{Five, Outcome}
use Rattle.model.specs.File.{bytes_of}
use Rattle.model.specs.Calls.{answer_size, numbers, written, front, check_call_if, check_call, Leaves, output_call_if, output_call}
use Rattle.model.specs.Compute.Verdict.{check}

module _ (b a : List ℕ) where
  pub check_short : length a < answer_size → check_call b a ≡ record { returns = 4; answer = a }
  unfolding check_call
  check_short h = ap (λ t. check_call_if t (check b) a) (lt-ltb (length a) answer_size h)

  pub check_filled : answer_size ≤ length a → check_call b a ≡ record { returns = (check b).answer; answer = written (check b) a }
  unfolding check_call
  check_filled h = ap (λ t. check_call_if t (check b) a) (le-ltb (length a) answer_size h)

-- of any call that has an output: a carry, and what a tool added later writes
module _ (w : Outcome) (o a : List ℕ) where
  pub output_short : length a < answer_size → output_call w o a ≡ record { returns = 4; output = o; answer = a }
  unfolding output_call
  output_short h = ap (λ t. output_call_if t w o a) (lt-ltb (length a) answer_size h)

  pub output_filled : answer_size ≤ length a
      → output_call w o a ≡ record { returns = w.told.answer; output = front w.writes o; answer = written w.told a }
  unfolding output_call
  output_filled h = ap (λ t. output_call_if t w o a) (le-ltb (length a) answer_size h)

  -- what the two ways of a call return and leave
  pub met_short : length a < answer_size
      → (4 ≡ (output_call w o a).returns) × (o ≡ (output_call w o a).output) × (a ≡ (output_call w o a).answer)
  met_short h = let e = sym (output_short h) in (ap (λ t. t.returns) e, ap (λ t. t.output) e, ap (λ t. t.answer) e)

  pub met_long : {f : Five} {r : ℕ} {o' a' : List ℕ} → answer_size ≤ length a → Leaves w o f o' → (r ≡ f.answer) × (a' ≡ written f a)
      → (r ≡ (output_call w o a).returns) × (o' ≡ (output_call w o a).output) × (a' ≡ (output_call w o a).answer)
  met_long h (told, out) (number, bytes) =
      let e = sym (output_filled h) in (
        number ∙ ap (λ f. f.answer) told ∙ ap (λ t. t.returns) e,
        out ∙ ap (λ t. t.output) e,
        bytes ∙ ap (λ f. written f a) told ∙ ap (λ t. t.answer) e,
      )

-- the bytes of an answer slice after the 20th, and those of an output after the file
pub rest_kept : (bytes slice : List ℕ) → drop (length bytes) (front bytes slice) ≡ drop (length bytes) slice
rest_kept bytes slice = drop-append_seam bytes (drop (length bytes) slice)

pub answer_kept : (f : Five) (a : List ℕ) → drop answer_size (written f a) ≡ drop answer_size a
unfolding written numbers
answer_kept f a = rest_kept (bytes_of (numbers f)) a
