-- A recorded file and the file that it was carried to. Whichever of the two a job is shown from, the bytes are those that the carried
-- file alone says of it. Assumes that the recorded file is a list of bytes.
use Rattle.std.specs.Prelude.{None, Option, Some}
use Prim.Native.Nat.{ℕ, ◌<◌}
use mathlib.Core.Path.{◌≡◌, refl, sym, ◌∙◌, ap}
use mathlib.Core.Logic.{◌↔◌}
use mathlib.Core.Bool.{Bool, true, false, true≢false}
use mathlib.Core.List.{List, []}
use lib.Dec.{ltb}
use Rattle.base.proofs.Test.{says_ltb, says_true}
use Rattle.base.proofs.Searches.{Finds}
use Rattle.model.specs.Model.{Run, Job, IsRecord, rec, job_of, place_of}
use Rattle.model.specs.Rules.{Jobs}
use Rattle.model.specs.Answers.{BeginsBeforeH, written_out}
use Rattle.model.specs.File.{Bytes, bytes_of, record_numbers, whole, read, bytes, Part, part_of, record_part}
use Rattle.model.specs.Carry.{carried, carry, Source, in_recorded, in_carried, least_of, began_before, shown_carried, shown_if, shown_of, shown}
use Rattle.model.proofs.Reading.{read_limits}
use Rattle.carrytheory.proofs.Preceding.{RecordOf, place_finds, least_is}
use Rattle.carrytheory.proofs.CarryGates.{carries, carry_passes}
use Rattle.carrytheory.proofs.Demand3.{carried_jobs, carried_reads, kept}
use Rattle.model.proofs.RecordBytes.{written_are_bytes, record_bytes}

-- the bytes that are shown, of whichever file
abbrev pub shown_bytes : List ℕ → List ℕ → Source → List ℕ
shown_bytes b c (in_recorded p) = part_of b p
shown_bytes b c (in_carried p) = part_of c p

-- what a file alone says of a job: the bytes of its least record, or none
abbrev pub said_at : List ℕ → Option ℕ → List ℕ
said_at c None = []
said_at c (Some k) = part_of c (record_part c k)

abbrev pub said_by : List ℕ → Job → List ℕ
said_by c q = said_at c (least_of (read c) q)

-- it is shown from the recorded file
abbrev pub FromRecorded : Source → Type 0
FromRecorded s = (p : Part) × (s ≡ in_recorded p)

from_carried : (b c : List ℕ) (o : Option ℕ) → shown_bytes b c (shown_carried c o) ≡ said_at c o
from_carried b c None = refl
from_carried b c (Some k) = refl

carried≢recorded : (c : List ℕ) (o : Option ℕ) → ¬ FromRecorded (shown_carried c o)
carried≢recorded c None (p, e) = let z : true ≡ false = cc in true≢false z
carried≢recorded c (Some k) (p, e) = let z : true ≡ false = cc in true≢false z

-- Where a job is shown from, of a recorded file that tells ρ and any other file.
-- ------------------------------------------------------------------------------
module _ (b c : List ℕ) (ρ : Run) (reads : read b ≡ whole ρ) (q : Job) where
  abbrev other : Source
  other = shown_carried c (least_of (read c) q)

  data Shows : Type 0 where
    recorded : (k : ℕ) → RecordOf ρ q k → BeginsBeforeH ρ k → shown b c q ≡ in_recorded (record_part b k) → Shows
    elsewhere : shown b c q ≡ shown_carried c (least_of (read c) q) → Shows

  shown_at : (k : ℕ) → place_of ρ q ≡ Some k → (t : Bool) → ltb (rec ρ k).start ρ.setting.horizon ≡ t → shown b c q ≡ shown_if t b k other
  unfolding shown
  shown_at k e t w =
      ap (λ r. shown_of b (least_of r q) other) reads
      ∙ ap (λ o. shown_of b o other) e
      ∙ ap (λ r. shown_if (began_before r k) b k other) reads
      ∙ ap (λ t. shown_if t b k other) w

  shows : Shows
  unfolding shown
  shows = go (place_finds ρ q)
    where
      go : Finds ◌<◌ (RecordOf ρ q) (place_of ρ q) → Shows
      go (Finds.none_passes e f) = elsewhere (rw (reads, e))
      go (Finds.passes k e F) = before (ltb (rec ρ k).start ρ.setting.horizon) refl
        where
          before : (t : Bool) → ltb (rec ρ k).start ρ.setting.horizon ≡ t → Shows
          before true w = recorded k F.here ((says_ltb _ _).sound w) (shown_at k e true w)
          before false w = elsewhere (shown_at k e false w)

-- What is shown is what the carried file says.
-- --------------------------------------------

-- Two files, each of bytes, of which the second has one record of each of its jobs and keeps each record that starts before H.
module _ (b c : List ℕ) (ρ σ : Run) (B : Bytes b) (C : Bytes c) (reads-b : read b ≡ whole ρ) (reads-c : read c ≡ whole σ) (J : Jobs σ)
    (keeps : (k : ℕ) → IsRecord ρ k → BeginsBeforeH ρ k → (j : ℕ) × IsRecord σ j × (rec σ j ≡ rec ρ k)) (q : Job) where
  kept_says : (k : ℕ) → RecordOf ρ q k → BeginsBeforeH ρ k → part_of b (record_part b k) ≡ said_by c q
  kept_says k (h, e) l =
      let (j, m, s) = keeps k h l in
      let o : least_of (read c) q ≡ Some j = rw reads-c (least_is σ J j q (m, ap job_of s ∙ e)) in
      record_bytes b B ρ reads-b k h
      ∙ ap (λ x. bytes_of (record_numbers x)) (sym s)
      ∙ sym (record_bytes c C σ reads-c j m)
      ∙ ap (said_at c) (sym o)

  pair_says : shown_bytes b c (shown b c q) ≡ said_by c q
  pair_says = go (shows b c ρ reads-b q)
    where
      go : Shows b c ρ reads-b q → shown_bytes b c (shown b c q) ≡ said_by c q
      go (recorded k h l e) = ap (shown_bytes b c) e ∙ kept_says k h l
      go (elsewhere e) = ap (shown_bytes b c) e ∙ from_carried b c (least_of (read c) q)

pub shown_as_carried : (b : List ℕ) (H' room : ℕ) (q : Job) → Bytes b → (carry b H' room).told.answer ≡ 5
    → let c = (carry b H' room).writes in shown_bytes b c (shown b c q) ≡ said_by c q
unfolding written_out
shown_as_carried b H' room q B e =
    let C = carries b H' room e in
    let ρ = C.run in
    let P = C.passes in
    let L = read_limits b ρ C.reads in
    let w : (carry b H' room).writes ≡ bytes (carried ρ H') = ap (λ o. o.writes) (carry_passes b H' room ρ C.reads P) in
    let reads-c = carried_reads ρ H' L P.obeys P.longer P.most P.few in
    let J = carried_jobs ρ H' L P.obeys P.longer P.most P.few in
    let keeps = kept ρ H' L P.obeys P.longer P.most P.few in
    rw w (pair_says b (bytes (carried ρ H')) ρ (carried ρ H') B (written_are_bytes (carried ρ H')) C.reads reads-c J keeps q)

-- Which file: the recorded one exactly if the job has a record there that began before H.
-- ---------------------------------------------------------------------------------------

-- the job has a record in the run that begins before H
abbrev pub Began : Run → Job → Type 0
Began ρ q = (k : ℕ) × IsRecord ρ k × (job_of (rec ρ k) ≡ q) × BeginsBeforeH ρ k

pub recorded_exactly_if_began : (b c : List ℕ) (ρ : Run) (q : Job) → read b ≡ whole ρ → Jobs ρ → FromRecorded (shown b c q) ↔ Began ρ q
recorded_exactly_if_began b c ρ q reads J = (λ s. to s (shows b c ρ reads q), back)
  where
    to : FromRecorded (shown b c q) → Shows b c ρ reads q → Began ρ q
    to s (recorded k h l e) = (k, h.0, h.1, l)
    to (p, s) (elsewhere e) = absurd (carried≢recorded c (least_of (read c) q) (p, sym e ∙ s))

    back : Began ρ q → FromRecorded (shown b c q)
    back (k, h, e, l) =
        let t = says_true (says_ltb (rec ρ k).start ρ.setting.horizon) l in
        (record_part b k, shown_at b c ρ reads q k (least_is ρ J k q (h, e)) true t)
