-- The first place of each rule, computed: `find ν` finds the `FirstPlace ν`, or nothing where the rule holds (proofs/Places.antt).
use Rattle.std.specs.Prelude.{ℕ, suc, ◌+◌, ◌-◌, max, Bool, true, false, not, ◌&&◌, ◌||◌, leb, ltb, eqb, length, None, Option, Some, option_map, slice_get}
use Rattle.std.proofs.Math.ListN.{}
use Rattle.base.specs.Find.{first, first_of, found}
use Rattle.model.specs.Model.{Run, Job, rec, task_of, same_job, arrival, existing, rank, end_before, ready}
use Rattle.model.specs.Rules.{Rule, rule1, rule2, rule3, rule4, rule5, rule6, rule7, rule8, rule9, Place, jobs_recorded, in_order, rule}

-- places of one, of two and of three numbers
abbrev pub one : ℕ → Place
one k = record { x = k; y = 0; z = 0 }

abbrev pub two : ℕ × ℕ → Place
two p = record { x = p.0; y = p.1; z = 0 }

abbrev pub three : ℕ × (ℕ × ℕ) → Place
three p = record { x = p.0; y = p.1.0; z = p.1.1 }

-- both lists have ended, or both go on with the same job
abbrev pub same_entry : Option Job → Option Job → Bool
same_entry None None = true
same_entry None (Some q) = false
same_entry (Some p) None = false
same_entry (Some p) (Some q) = same_job p q

module _ (ρ : Run) where
  abbrev pub size : ℕ
  size = length ρ.records

  abbrev pub differ : ℕ → Bool
  differ k = not (same_entry (slice_get (jobs_recorded ρ) k) (slice_get (existing ρ ρ.setting.horizon) k))

  abbrev pub released : ℕ → Bool
  released k =
      leb (arrival (task_of ρ k) (rec ρ k).job) (rec ρ k).release
      && leb (rec ρ k).release (arrival (task_of ρ k) (rec ρ k).job + (task_of ρ k).jitter)

  abbrev pub started : ℕ → Bool
  started k = leb (rec ρ k).release (rec ρ k).start

  abbrev pub lasted : ℕ → Bool
  lasted k =
      leb (rec ρ k).start (rec ρ k).end
      && (leb (task_of ρ k).least ((rec ρ k).end - (rec ρ k).start) && leb ((rec ρ k).end - (rec ρ k).start) (task_of ρ k).greatest)

  abbrev pub is_core : ℕ → Bool
  is_core c = leb 1 c && leb c ρ.setting.cores

  abbrev pub overlap : ℕ → ℕ → Bool
  overlap a b =
      eqb (rec ρ a).core (rec ρ b).core && not (leb (rec ρ a).end (rec ρ b).start || leb (rec ρ b).end (rec ρ a).start)

  abbrev pub out_of_order : ℕ → ℕ → Bool
  out_of_order a b = ltb (rec ρ a).start (rec ρ b).start && not (leb (rank ρ a) (rank ρ b) || ltb (rec ρ a).start (ready ρ b))

  -- record k is on core c at instant t
  abbrev pub holds : ℕ → ℕ → ℕ → Bool
  holds c t k = eqb (rec ρ k).core c && (leb (rec ρ k).start t && ltb t (rec ρ k).end)

  abbrev pub busy : ℕ → ℕ → Bool
  busy c t = found (first (holds c t) 0 size)

  -- the least core that idles at t
  abbrev pub idle_core : ℕ → Option ℕ
  idle_core t = first (λ c. not (busy c t)) 1 ρ.setting.cores

  -- the least instant at which a waits while a core idles, and that core
  abbrev pub idle : ℕ → Option (ℕ × ℕ)
  idle a = first_of idle_core (ready ρ a) ((rec ρ a).start - ready ρ a)

  abbrev pub in_turn : ℕ → Bool
  in_turn k = leb (end_before ρ k) (rec ρ k).start

-- the least record that fails
abbrev pub first_bad : Run → (ℕ → Bool) → Option Place
first_bad ρ good = option_map one (first (λ k. not (good k)) 0 (size ρ))

unfoldable pub find : Rule → Run → Option Place
find rule1 ρ = option_map one (first (differ ρ) 0 (max (length (jobs_recorded ρ)) (length (existing ρ ρ.setting.horizon))))
find rule2 ρ = first_bad ρ (released ρ)
find rule3 ρ = first_bad ρ (started ρ)
find rule4 ρ = first_bad ρ (lasted ρ)
find rule5 ρ = first_bad ρ (λ k. is_core ρ (rec ρ k).core)
find rule6 ρ = option_map two (first_of (λ a. first (overlap ρ a) (suc a) (size ρ - suc a)) 0 (size ρ))
find rule7 ρ = option_map two (first_of (λ a. first (out_of_order ρ a) 0 (size ρ)) 0 (size ρ))
find rule8 ρ = option_map three (first_of (idle ρ) 0 (size ρ))
find rule9 ρ = first_bad ρ (in_turn ρ)

-- the lowest broken rule, by its number, and its first place
unfoldable pub lowest : Run → Option (ℕ × Place)
lowest ρ = first_of (λ ν. find (rule ν) ρ) 1 (length in_order)
