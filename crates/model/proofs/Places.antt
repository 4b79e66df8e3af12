-- The finder of each rule finds nothing exactly if the rule holds, and else its first place: sound, complete, least. Assumes nothing.
use Rattle.std.specs.Prelude.{None, Option, Some, option_map, slice_get}
use Prim.Native.Nat.{ℕ, suc, ◌-◌, ◌<◌, max}
use mathlib.Core.Path.{◌≡◌, refl, sym, ◌∙◌, ap}
use mathlib.Core.Logic.{◌⊎◌, inl, inr, ◌↔◌}
use mathlib.Core.Bool.{Bool, not}
use mathlib.Core.List.{List, [], ◌∷◌}
use native.Mathlib.Omega.{arith}
use native.Mathlib.Decide.{dec_lt}
use lib.ListN.{length}
use Rattle.base.proofs.Arrays.{entry_past}
use Rattle.base.specs.First.{Lex}
use Rattle.base.proofs.Test.{Says, says_not, stable}
use Rattle.base.proofs.Searches.{Finds, Total, total_number, total_lex, finds_none, finds_some, first_finds, first_of_finds, finds_along, finds_same}
use Rattle.model.specs.Model.{Run, Job, IsRecord, rec, existing, ready}
use Rattle.model.specs.Rules.{Rule, rule1, rule2, rule3, rule4, rule5, rule6, rule7, rule8, rule9, Place, OfOne, OfTwo, OfThree, Before, Holds, BrokenAt, FirstPlace, jobs_recorded, Differ, Fails, Overlap, OutOfOrder, Idles, Released, Started, Lasted, IsCore, StartsBefore, InOrder, Waits, Busy, InTurn}
use Rattle.model.specs.Compute.Places.{one, two, three, size, differ, released, started, lasted, is_core, overlap, out_of_order, busy, idle_core, idle, in_turn, first_bad, find}
use Rattle.model.proofs.RuleTests.{says_same_entry, says_released, says_started, says_lasted, says_core, says_apart, says_overlap, says_in_order, says_out_of_order, says_busy, says_in_turn}

-- What is found, as a place.
-- --------------------------
finds_one : (P : ℕ → Type 0) (o : Option ℕ) → Finds ◌<◌ P o → Finds Before (OfOne P) (option_map one o)
finds_one P = finds_along P (OfOne P) one (λ p. p.x) (λ k h. (h, refl, refl)) (λ p h. h.0) order
  where
    order : (k : ℕ) (p : Place) → Before p (one k) → OfOne P p → p.x < k
    order k p (inl h) w = h
    order k p (inr (e, inl h)) w = absurd (omega arith)
    order k p (inr (e, inr h)) w = absurd (omega arith)

finds_two : (P : ℕ → ℕ → Type 0) (o : Option (ℕ × ℕ)) → Finds (Lex ◌<◌) (λ q. P q.0 q.1) o → Finds Before (OfTwo P) (option_map two o)
finds_two P = finds_along (λ q. P q.0 q.1) (OfTwo P) two (λ p. (p.x, p.y)) (λ q h. (h, refl)) (λ p h. h.0) order
  where
    order : (q : ℕ × ℕ) (p : Place) → Before p (two q) → OfTwo P p → Lex ◌<◌ (p.x, p.y) q
    order q p (inl h) w = inl h
    order q p (inr (e, inl h)) w = inr (e, h)
    order q p (inr (e, inr h)) w = absurd (omega arith)

finds_three : (P : ℕ → ℕ → ℕ → Type 0) (o : Option (ℕ × (ℕ × ℕ))) → Finds (Lex (Lex ◌<◌)) (λ q. P q.0 q.1.0 q.1.1) o
    → Finds Before (OfThree P) (option_map three o)
finds_three P = finds_along (λ q. P q.0 q.1.0 q.1.1) (OfThree P) three (λ p. (p.x, (p.y, p.z))) (λ q h. h) (λ p h. h) (λ q p h w. h)

-- A place among the records, of one number and of two.
-- ----------------------------------------------------
module _ (ρ : Run) where
  fails_finds : (good : ℕ → Bool) (Good : ℕ → Type 0) → ((k : ℕ) → Says (good k) (Good k)) → Finds Before (OfOne (Fails ρ Good)) (first_bad ρ good)
  fails_finds good Good S =
      finds_one (Fails ρ Good) _
      (finds_same (λ k h. (omega (arith, h.1), h.2)) (λ k h. (omega arith, omega (arith, h.0), h.1))
      (first_finds (λ k. not (good k)) _ (λ k. says_not (S k)) 0 (size ρ)))

  -- two lists differ only before the end of the longer
  pub differ_within : (k : ℕ) → Differ ρ k → k < max (length (jobs_recorded ρ)) (length (existing ρ ρ.setting.horizon))
  differ_within k h = go (dec_lt k (max (length (jobs_recorded ρ)) (length (existing ρ ρ.setting.horizon))))
    where
      go : Dec (k < max (length (jobs_recorded ρ)) (length (existing ρ ρ.setting.horizon))) → k < max (length (jobs_recorded ρ)) (length (existing ρ ρ.setting.horizon))
      go (yes l) = l
      go (no l) = absurd (h (entry_past (jobs_recorded ρ) k (omega (arith, l)) ∙ sym (entry_past (existing ρ ρ.setting.horizon) k (omega (arith, l)))))

  differ_finds : Finds Before (OfOne (Differ ρ)) (find rule1 ρ)
  unfolding find
  differ_finds =
      finds_one (Differ ρ) _
      (finds_same (λ k h. h.2) (λ k h. (omega arith, omega (arith, differ_within k h), h))
      (first_finds (differ ρ) _ (λ k. says_not (says_same_entry _ _)) 0 (max (length (jobs_recorded ρ)) (length (existing ρ ρ.setting.horizon)))))

  overlap_finds : Finds Before (OfTwo (Overlap ρ)) (find rule6 ρ)
  unfolding find
  overlap_finds =
      finds_two (Overlap ρ) _
      (finds_same (λ q h. h.2) (λ q h. (omega arith, omega (arith, h.0, h.1), h))
      (first_of_finds _ (Overlap ρ)
      (λ a. finds_same (λ b h. (h.0, omega (arith, h.0, h.1), h.2.0, h.2.1)) (λ b h. (h.0, omega (arith, h.0, h.1), (h.2, h.3)))
      (first_finds (overlap ρ a) _ (says_overlap ρ a) (suc a) (size ρ - suc a)))
      0 (size ρ)))

  order_finds : Finds Before (OfTwo (OutOfOrder ρ)) (find rule7 ρ)
  unfolding find
  order_finds =
      finds_two (OutOfOrder ρ) _
      (finds_same (λ q h. (omega (arith, h.1), h.2.0, h.2.1, h.2.2)) (λ q h. (omega arith, omega (arith, h.0), (h.1, h.2, h.3)))
      (first_of_finds _ (λ a b. IsRecord ρ b × StartsBefore ρ a b × ¬ InOrder ρ a b)
      (λ a. finds_same (λ b h. (omega (arith, h.1), h.2.0, h.2.1)) (λ b h. (omega arith, omega (arith, h.0), (h.1, h.2)))
      (first_finds (out_of_order ρ a) _ (says_out_of_order ρ a) 0 (size ρ)))
      0 (size ρ)))

  pub idle_core_finds : (t : ℕ) → Finds ◌<◌ (λ c. IsCore ρ c × ¬ Busy ρ c t) (idle_core ρ t)
  idle_core_finds t =
      finds_same (λ c h. ((h.0, omega (arith, h.1)), h.2)) (λ c h. (h.0.0, omega (arith, h.0.1), h.1))
      (first_finds (λ c. not (busy ρ c t)) _ (λ c. says_not (says_busy ρ c t)) 1 ρ.setting.cores)

  idle_finds : Finds Before (OfThree (Idles ρ)) (find rule8 ρ)
  unfolding find
  idle_finds =
      finds_three (Idles ρ) _
      (finds_same (λ q h. (omega (arith, h.1), h.2.0, h.2.1, h.2.2)) (λ q h. (omega arith, omega (arith, h.0), (h.1, h.2, h.3)))
      (first_of_finds (idle ρ) (λ a q. Waits ρ a q.0 × IsCore ρ q.1 × ¬ Busy ρ q.1 q.0)
      (λ a. finds_same (λ q h. ((h.0, omega (arith, h.0, h.1)), h.2.0, h.2.1)) (λ q h. (h.0.0, omega (arith, h.0.0, h.0.1), (h.1, h.2)))
      (first_of_finds (idle_core ρ) (λ t c. IsCore ρ c × ¬ Busy ρ c t) idle_core_finds (ready ρ a) ((rec ρ a).start - ready ρ a)))
      0 (size ρ)))

-- The finder of a rule finds the first place at which it is broken.
pub finds : (ν : Rule) (ρ : Run) → Finds Before (BrokenAt ν ρ) (find ν ρ)
unfolding find
finds rule1 ρ = differ_finds ρ
finds rule2 ρ = fails_finds ρ (released ρ) (Released ρ) (says_released ρ)
finds rule3 ρ = fails_finds ρ (started ρ) (Started ρ) (says_started ρ)
finds rule4 ρ = fails_finds ρ (lasted ρ) (Lasted ρ) (says_lasted ρ)
finds rule5 ρ = fails_finds ρ (λ k. is_core ρ (rec ρ k).core) (λ k. IsCore ρ (rec ρ k).core) (λ k. says_core ρ (rec ρ k).core)
finds rule6 ρ = overlap_finds ρ
finds rule7 ρ = order_finds ρ
finds rule8 ρ = idle_finds ρ
finds rule9 ρ = fails_finds ρ (in_turn ρ) (InTurn ρ) (says_in_turn ρ)

-- A rule holds exactly if it is broken at no place.
-- -------------------------------------------------
abbrev Nowhere : (Place → Type 0) → Type 0
Nowhere P = (p : Place) → ¬ P p

each : (ρ : Run) (Good : ℕ → Type 0) → ((k : ℕ) → ¬ ¬ Good k → Good k) → ((k : ℕ) → IsRecord ρ k → Good k) ↔ Nowhere (OfOne (Fails ρ Good))
each ρ Good S = (λ f p h. h.0.1 (f p.x h.0.0), λ f k h. S k (λ w. f (one k) ((h, w), refl, refl)))

same_lists : (l m : List Job) → ((k : ℕ) → slice_get l k ≡ slice_get m k) → l ≡ m
same_lists [] [] f = refl
same_lists [] (y ∷ m) f = let e = f 0 in cc
same_lists (x ∷ l) [] f = let e = f 0 in cc
same_lists (x ∷ l) (y ∷ m) f =
    let e = f 0 in
    let p : x ≡ y = cc in
    let q = same_lists l m (λ k. f (suc k)) in
    λ κ. p κ ∷ q κ

jobs_nowhere : (ρ : Run) → Holds rule1 ρ ↔ Nowhere (OfOne (Differ ρ))
jobs_nowhere ρ = (
  λ e p h. h.0 (ap (λ l. slice_get l p.x) e),
  λ f. same_lists _ _ (λ k. stable (says_same_entry _ _) (λ w. f (one k) (w, refl, refl))),
)

pub holds_nowhere : (ν : Rule) (ρ : Run) → Holds ν ρ ↔ Nowhere (BrokenAt ν ρ)
holds_nowhere rule1 ρ = jobs_nowhere ρ
holds_nowhere rule2 ρ = each ρ (Released ρ) (λ k. stable (says_released ρ k))
holds_nowhere rule3 ρ = each ρ (Started ρ) (λ k. stable (says_started ρ k))
holds_nowhere rule4 ρ = each ρ (Lasted ρ) (λ k. stable (says_lasted ρ k))
holds_nowhere rule5 ρ = each ρ (λ k. IsCore ρ (rec ρ k).core) (λ k. stable (says_core ρ (rec ρ k).core))
holds_nowhere rule6 ρ = (
  λ f p h. h.0.3 (f p.x p.y h.0.0 h.0.1 h.0.2),
  λ f a b l h e. stable (says_apart ρ a b) (λ w. f (two (a, b)) ((l, h, e, w), refl)),
)
holds_nowhere rule7 ρ = (
  λ f p h. h.0.3 (f p.x p.y h.0.0 h.0.1 h.0.2),
  λ f a b l h e. stable (says_in_order ρ a b) (λ w. f (two (a, b)) ((l, h, e, w), refl)),
)
holds_nowhere rule8 ρ = (
  λ f p h. h.3 (f p.x h.0 p.y h.1 p.z h.2),
  λ f a h t w c i. stable (says_busy ρ c t) (λ v. f (three (a, (t, c))) (h, w, i, v)),
)
holds_nowhere rule9 ρ = each ρ (InTurn ρ) (λ k. stable (says_in_turn ρ k))

-- Sound, complete, least, for every rule.
-- ---------------------------------------
pub total_place : Total Before
total_place p q = go (total_lex (total_lex total_number) (p.x, (p.y, p.z)) (q.x, (q.y, q.z)))
  where
    go : Before p q ⊎ ((◌≡◌ {A = ℕ × (ℕ × ℕ)} (p.x, (p.y, p.z)) (q.x, (q.y, q.z))) ⊎ Before q p) → Before p q ⊎ ((p ≡ q) ⊎ Before q p)
    go (inl h) = inl h
    go (inr (inl e)) = inr (inl (λ κ. record { x = (e κ).0; y = (e κ).1.0; z = (e κ).1.1 }))
    go (inr (inr h)) = inr (inr h)

-- nothing is found exactly if the rule holds
pub found_nothing : (ν : Rule) (ρ : Run) → (find ν ρ ≡ None) ↔ Holds ν ρ
found_nothing ν ρ = (λ e. (holds_nowhere ν ρ).1 ((finds_none _ _ (finds ν ρ)).0 e), λ h. (finds_none _ _ (finds ν ρ)).1 ((holds_nowhere ν ρ).0 h))

-- a place is found exactly if it is the first
pub found_first : (ν : Rule) (ρ : Run) (p : Place) → (find ν ρ ≡ Some p) ↔ FirstPlace ν ρ p
found_first ν ρ p = finds_some _ _ (finds ν ρ) total_place p
