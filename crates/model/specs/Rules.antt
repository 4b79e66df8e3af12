-- Document 01, "The eight rules", and document 02, request 3, rule 9 and "ready" for "released" in 7 and 8: what each says of a run, and
-- at which places a run breaks it.
use Rattle.std.specs.Prelude.{ℕ, ◌+◌, ◌-◌, ◌≤◌, ◌<◌, ◌≡◌, ◌⊎◌, List, [], ◌∷◌, map, get_or, slice_get}
use Rattle.std.proofs.Math.ListN.{}
use Rattle.base.specs.First.{First}
use Rattle.model.specs.Model.{Run, Job, IsRecord, rec, task_of, job_of, arrival, existing, rank, end_before, ready}

module _ (ρ : Run) where
  -- 1. Jobs. The records are exactly the existing jobs, in order.
  abbrev pub jobs_recorded : List Job
  jobs_recorded = map job_of ρ.records

  abbrev pub Jobs : Type 0
  Jobs = jobs_recorded ≡ existing ρ ρ.setting.horizon

  -- 2. Release. jP + O ≤ r ≤ jP + O + J.
  abbrev pub Released : ℕ → Type 0
  Released k =
      (arrival (task_of ρ k) (rec ρ k).job ≤ (rec ρ k).release)
      × ((rec ρ k).release ≤ arrival (task_of ρ k) (rec ρ k).job + (task_of ρ k).jitter)

  abbrev pub Release : Type 0
  Release = (k : ℕ) → IsRecord ρ k → Released k

  -- 3. Start. r ≤ s.
  abbrev pub Started : ℕ → Type 0
  Started k = (rec ρ k).release ≤ (rec ρ k).start

  abbrev pub Start : Type 0
  Start = (k : ℕ) → IsRecord ρ k → Started k

  -- 4. Length. s ≤ e and B ≤ e - s ≤ W.
  abbrev pub Lasted : ℕ → Type 0
  Lasted k =
      ((rec ρ k).start ≤ (rec ρ k).end)
      × ((task_of ρ k).least ≤ (rec ρ k).end - (rec ρ k).start)
      × ((rec ρ k).end - (rec ρ k).start ≤ (task_of ρ k).greatest)

  abbrev pub Length : Type 0
  Length = (k : ℕ) → IsRecord ρ k → Lasted k

  -- 5. Core. 1 to N.
  abbrev pub IsCore : ℕ → Type 0
  IsCore c = (1 ≤ c) × (c ≤ ρ.setting.cores)

  abbrev pub Core : Type 0
  Core = (k : ℕ) → IsRecord ρ k → IsCore (rec ρ k).core

  -- 6. No overlap. Two records on one core: one ends no later than the other starts.
  abbrev pub OnOneCore : ℕ → ℕ → Type 0
  OnOneCore a b = (rec ρ a).core ≡ (rec ρ b).core

  abbrev pub Apart : ℕ → ℕ → Type 0
  Apart a b = ((rec ρ a).end ≤ (rec ρ b).start) ⊎ ((rec ρ b).end ≤ (rec ρ a).start)

  abbrev pub NoOverlap : Type 0
  NoOverlap = (a b : ℕ) → a < b → IsRecord ρ b → OnOneCore a b → Apart a b

  -- 7. Order. If a starts strictly before b, then deadline of a ≤ deadline of b, or a starts strictly before b is ready.
  abbrev pub StartsBefore : ℕ → ℕ → Type 0
  StartsBefore a b = (rec ρ a).start < (rec ρ b).start

  abbrev pub InOrder : ℕ → ℕ → Type 0
  InOrder a b = (rank ρ a ≤ rank ρ b) ⊎ ((rec ρ a).start < ready ρ b)

  abbrev pub Order : Type 0
  Order = (a b : ℕ) → IsRecord ρ a → IsRecord ρ b → StartsBefore a b → InOrder a b

  -- 8. No idling. For every record a and every instant t from ready to the start, t < s, on each core some record has
  -- start ≤ t < end.
  abbrev pub Waits : ℕ → ℕ → Type 0
  Waits a t = (ready ρ a ≤ t) × (t < (rec ρ a).start)

  abbrev pub Busy : ℕ → ℕ → Type 0
  Busy c t = (k : ℕ) × IsRecord ρ k × ((rec ρ k).core ≡ c) × ((rec ρ k).start ≤ t) × (t < (rec ρ k).end)

  abbrev pub NoIdling : Type 0
  NoIdling = (a : ℕ) → IsRecord ρ a → (t : ℕ) → Waits a t → (c : ℕ) → IsCore c → Busy c t

  -- 9. In turn. Each job starts no earlier than the end of the one before.
  abbrev pub InTurn : ℕ → Type 0
  InTurn k = end_before ρ k ≤ (rec ρ k).start

  abbrev pub Turn : Type 0
  Turn = (k : ℕ) → IsRecord ρ k → InTurn k

-- The rules by their numbers, in the order in which they are judged.
-- ------------------------------------------------------------------
pub data Rule : Type 0 where
  rule1 rule2 rule3 rule4 rule5 rule6 rule7 rule8 rule9 : Rule

abbrev pub in_order : List Rule
in_order = rule1 ∷ rule2 ∷ rule3 ∷ rule4 ∷ rule5 ∷ rule6 ∷ rule7 ∷ rule8 ∷ rule9 ∷ []

-- rule ν of the paper, ν from 1
abbrev pub rule : ℕ → Rule
rule ν = get_or in_order (ν - 1) rule1

abbrev pub Holds : Rule → Run → Type 0
Holds rule1 ρ = Jobs ρ
Holds rule2 ρ = Release ρ
Holds rule3 ρ = Start ρ
Holds rule4 ρ = Length ρ
Holds rule5 ρ = Core ρ
Holds rule6 ρ = NoOverlap ρ
Holds rule7 ρ = Order ρ
Holds rule8 ρ = NoIdling ρ
Holds rule9 ρ = Turn ρ

-- A run that obeys them all.
abbrev pub Obeys : Run → Type 0
Obeys ρ = (ν : Rule) → Holds ν ρ

-- A place is three numbers, unused ones 0.
-- ----------------------------------------
pub record Place : Type 0 where
  pub x : ℕ
  pub y : ℕ
  pub z : ℕ

abbrev pub OfOne : (ℕ → Type 0) → Place → Type 0
OfOne P p = P p.x × (p.y ≡ 0) × (p.z ≡ 0)

abbrev pub OfTwo : (ℕ → ℕ → Type 0) → Place → Type 0
OfTwo P p = P p.x p.y × (p.z ≡ 0)

abbrev pub OfThree : (ℕ → ℕ → ℕ → Type 0) → Place → Type 0
OfThree P p = P p.x p.y p.z

-- the least first number, then the least second, then the least third
abbrev pub Before : Place → Place → Type 0
Before p q = (p.x < q.x) ⊎ ((p.x ≡ q.x) × ((p.y < q.y) ⊎ ((p.y ≡ q.y) × (p.z < q.z))))

module _ (ρ : Run) where
  -- 1. Place: a k at which the two lists differ, one of them ending included.
  abbrev pub Differ : ℕ → Type 0
  Differ k = ¬ (slice_get (jobs_recorded ρ) k ≡ slice_get (existing ρ ρ.setting.horizon) k)

  -- 2 to 5, and 9. Place: a record that does not do as the rule says.
  abbrev pub Fails : (ℕ → Type 0) → ℕ → Type 0
  Fails Good k = IsRecord ρ k × ¬ Good k

  -- 6. Place: records a < b.
  abbrev pub Overlap : ℕ → ℕ → Type 0
  Overlap a b = (a < b) × IsRecord ρ b × OnOneCore ρ a b × ¬ Apart ρ a b

  -- 7. Place (a, b).
  abbrev pub OutOfOrder : ℕ → ℕ → Type 0
  OutOfOrder a b = IsRecord ρ a × IsRecord ρ b × StartsBefore ρ a b × ¬ InOrder ρ a b

  -- 8. Place: a record a, an instant t at which it waits, a core that idles at t.
  abbrev pub Idles : ℕ → ℕ → ℕ → Type 0
  Idles a t c = IsRecord ρ a × Waits ρ a t × IsCore ρ c × ¬ Busy ρ c t

abbrev pub BrokenAt : Rule → Run → Place → Type 0
BrokenAt rule1 ρ = OfOne (Differ ρ)
BrokenAt rule2 ρ = OfOne (Fails ρ (Released ρ))
BrokenAt rule3 ρ = OfOne (Fails ρ (Started ρ))
BrokenAt rule4 ρ = OfOne (Fails ρ (Lasted ρ))
BrokenAt rule5 ρ = OfOne (Fails ρ (λ k. IsCore ρ (rec ρ k).core))
BrokenAt rule6 ρ = OfTwo (Overlap ρ)
BrokenAt rule7 ρ = OfTwo (OutOfOrder ρ)
BrokenAt rule8 ρ = OfThree (Idles ρ)
BrokenAt rule9 ρ = OfOne (Fails ρ (InTurn ρ))

-- The first place of a broken rule: least k; the least pair, a first and then b; least a, then least t, then the least core.
abbrev pub FirstPlace : Rule → Run → Place → Type 0
FirstPlace ν ρ = First Before (BrokenAt ν ρ)
