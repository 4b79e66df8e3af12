-- Document 02, request 4: what the tool answers. The chain is written as record numbers of four bytes each, from the record asked about back
-- to the first.
use Rattle.std.specs.Prelude.{ℕ, ◌*◌, ◌≤◌, ◌<◌, ◌≡◌, List, leb, ltb, length, take}
use Rattle.model.specs.Model.{Run, IsRecord}
use Rattle.model.specs.Rules.{Obeys}
use Rattle.model.specs.File.{Read, refused, whole, read, bytes_of}
use Rattle.model.specs.Answers.{Five, Outcome, refusal, refused_with, gate_outcome, chain_written, Listed}
use Rattle.model.specs.Calls.{OutputCall, output_call, five_in}
use Rattle.model.specs.Compute.Verdict.{verdict}
use Rattle.causes.specs.Cause.{Chain}
use Rattle.causes.specs.FoundCause.{chain_of}

-- The answer is 6, with the count of these numbers as its code.
unfoldable pub chain_out : List ℕ → Outcome
chain_out l = record { told = chain_written (length l); writes = bytes_of l }

-- Refusals, after the file's own: 10 if a rule is broken, then 20 if there is no such record, then 11.
unfoldable pub chain_room : List ℕ → ℕ → Outcome
chain_room l room = gate_outcome 11 (leb (4 * length l) room) (chain_out l)

unfoldable pub why_run : Run → ℕ → ℕ → Outcome
why_run ρ k room =
    gate_outcome 10 (leb (verdict ρ).answer 2)
    (gate_outcome 20 (ltb k (length ρ.records))
    (chain_room (chain_of ρ k) room))

abbrev pub why_of : Read → ℕ → ℕ → Outcome
why_of (refused ν i) k room = refused_with ν i
why_of (whole ρ) k room = why_run ρ k room

-- of a file and a record number, where the output has room for so many bytes (law `why_says`)
unfoldable pub why : List ℕ → ℕ → ℕ → Outcome
why b k room = why_of (read b) k room

-- In words: the file's own refusals; 10 where the run does not obey all rules; 20 where there is no such record; 11 where the chain does
-- not fit; else the chain of the record.
pub data WhySays (b : List ℕ) (k room : ℕ) : Outcome → Type 0 where
  file_refused : {ν i : ℕ} → read b ≡ refused ν i → WhySays b k room (refused_with ν i)
  rule_broken_row : {ρ : Run} → read b ≡ whole ρ → ¬ Obeys ρ → WhySays b k room (refused_with 10 0)
  no_record : {ρ : Run} → read b ≡ whole ρ → Obeys ρ → ¬ IsRecord ρ k → WhySays b k room (refused_with 20 0)
  no_room : {ρ : Run} {l : List ℕ} → read b ≡ whole ρ → Obeys ρ → IsRecord ρ k → Chain ρ k l → room < 4 * length l
      → WhySays b k room (refused_with 11 0)
  told : {ρ : Run} {l : List ℕ} → read b ≡ whole ρ → Obeys ρ → IsRecord ρ k → Chain ρ k l → 4 * length l ≤ room
      → WhySays b k room (chain_out l)

-- what the call of a host returns and leaves
abbrev pub why_call : List ℕ → ℕ → List ℕ → List ℕ → OutputCall
why_call file k output answer = output_call (why file k (length output)) output answer

-- what a host reads after it: as many numbers of four bytes as the code in the answer slice says
abbrev pub chain_bytes : List ℕ → List ℕ → List ℕ
chain_bytes output answer = take (4 * (five_in answer).code) output

-- A row of the table of answers that it can give.
pub data WhyRow : Five → Type 0 where
  why_file : {ν i : ℕ} → Listed 8 ν i → WhyRow (refusal ν i)
  why_broken : WhyRow (refusal 10 0)
  why_no_record : WhyRow (refusal 20 0)
  why_room : WhyRow (refusal 11 0)
  why_chain : (n : ℕ) → 1 ≤ n → n ≤ 512 → WhyRow (chain_written n)
