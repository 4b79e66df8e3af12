-- Document 01, "What the checker says": the host calls check and carry with byte slices. What a call returns, and the full
-- contents of every lent slice afterwards.
use Rattle.std.specs.Prelude.{ℕ, ◌≡◌, Bool, true, false, List, [], ◌∷◌, ◌++◌, ltb, length, take, drop}
use Rattle.model.specs.File.{num, bytes_of}
use Rattle.model.specs.Answers.{Five, five, Outcome}
use Rattle.model.specs.Carry.{carry}
use Rattle.model.specs.Compute.Verdict.{check}

-- Each call returns the answer number and writes the five numbers into the first 20 bytes of a lent answer slice.
abbrev pub answer_size : ℕ
answer_size = 20

unfoldable pub numbers : Five → List ℕ
numbers f = f.answer ∷ f.code ∷ f.place.x ∷ f.place.y ∷ f.place.z ∷ []

-- bytes at the front of a slice; those after them never change
abbrev pub front : List ℕ → List ℕ → List ℕ
front bytes slice = bytes ++ drop (length bytes) slice

unfoldable pub written : Five → List ℕ → List ℕ
written f answer = front (bytes_of (numbers f)) answer

abbrev pub too_short : List ℕ → Bool
too_short answer = ltb (length answer) answer_size

pub record CheckCall : Type 0 where
  pub returns : ℕ
  pub answer : List ℕ

-- A shorter answer slice is met first of all: the call returns 4 and no byte of any slice changes.
abbrev pub check_call_if : Bool → Five → List ℕ → CheckCall
check_call_if true f answer = record { returns = 4; answer = answer }
check_call_if false f answer = record { returns = f.answer; answer = written f answer }

unfoldable pub check_call : List ℕ → List ℕ → CheckCall
check_call file answer = check_call_if (too_short answer) (check file) answer

-- what a tool says and leaves in an output is this outcome
abbrev pub Leaves : Outcome → List ℕ → Five → List ℕ → Type 0
Leaves o output f after = (f ≡ o.told) × (after ≡ front o.writes output)

-- a call that has an output, too
pub record OutputCall : Type 0 where
  pub returns : ℕ
  pub output : List ℕ
  pub answer : List ℕ

-- Every other refusal fills those 20 bytes and changes no other byte: it writes nothing to the output.
abbrev pub output_call_if : Bool → Outcome → List ℕ → List ℕ → OutputCall
output_call_if true o output answer = record { returns = 4; output = output; answer = answer }
output_call_if false o output answer =
    record { returns = o.told.answer; output = front o.writes output; answer = written o.told answer }

-- what a call returns and leaves where this is its outcome
unfoldable pub output_call : Outcome → List ℕ → List ℕ → OutputCall
output_call o output answer = output_call_if (too_short answer) o output answer

abbrev pub carry_call : List ℕ → ℕ → List ℕ → List ℕ → OutputCall
carry_call file H' output answer = output_call (carry file H' (length output)) output answer

-- What a host reads after a call: the five numbers of an answer slice, and the file at the front of an output, as many bytes as the code
-- in the answer slice says.
abbrev pub five_in : List ℕ → Five
five_in answer = five (num answer 0) (num answer 4) (num answer 8) (num answer 12) (num answer 16)

abbrev pub file_in : List ℕ → List ℕ → List ℕ
file_in output answer = take (five_in answer).code output
