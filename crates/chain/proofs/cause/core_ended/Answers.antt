-- The first pair of an end and a core that passes. Assumes nothing.
use Rattle.std.proofs.Common.{rules, ◌≡◌, sym, ◌∙◌, ap, ℕ, ◌<◌, ◌&&◌, nat_eq, length, get_or, List, Bool, true, false, Option, Some, None, arith}
use Rattle.std.specs.List.{zip, AllWithin, HoldsAt}
use Rattle.std.specs.Option.{MatchOption}
use Rattle.std.proofs.lemmas.Iterator.{IsFirst-from_position, YieldsList-from_zip, YieldsList-from_slice}
use Rattle.std.proofs.lemmas.Slice.Zip.{get_or-zip, length-zip}
use borrow.Author.Tests.{tests}
use Rattle.base.specs.Find.{first}
use Rattle.base.proofs.Loop.{first_hit, first_miss}
use Rattle.chain.specs.ChainTold.{ended_in}
use Rattle.chain.proofs.cause.core_ended.Goals as goal

-- whether an end and a core are that instant and that core
abbrev passes : ℕ → ℕ → ℕ × ℕ → Bool
passes c at p = nat_eq p.0 at && nat_eq p.1 c

module _ (es cs : List ℕ) (c at : ℕ) (beside : length cs ≡ length es) where
  long : length (zip es cs) ≡ length es
  long = omega (arith, length-zip es cs)

  ended : (k : ℕ) → k < length es → {b : Bool} → passes c at (get_or (zip es cs) k (0, 0)) ≡ b → ended_in es cs c at k ≡ b
  unfolding ended_in
  ended k h e = ap (passes c at) (sym (get_or-zip es cs k (0, 0) h (omega arith))) ∙ e

  first_told : (r : Option ℕ) → MatchOption r (AllWithin (λ p. passes c at p ≡ false) (zip es cs) 0 (length (zip es cs)))
      (λ i. (i < length (zip es cs)) × HoldsAt (λ p. passes c at p ≡ true) (zip es cs) i × AllWithin (λ p. passes c at p ≡ false) (zip es cs) 0 i)
      → r ≡ first (ended_in es cs c at) 0 (length es)
  first_told None none =
      let l = long in
      first_miss _ 0 _ {k = length es} (omega arith) (record { below = λ j u v. ended j v (none j (0, 0) u (omega arith)) })
  first_told (Some k) (high, here, before) =
      let l = long in
      first_hit _ 0 _ (omega arith) (omega arith) (record { below = λ j u v. ended j (omega arith) (before j (0, 0) u v) }) (ended k (omega arith) (here (0, 0)))

pub returns : goal.returns
returns c =
    let a = c.args in
    let same : c.map.result ≡ c.position.result = search rules in
    same
    ∙ first_told a.end.now a.core.now a.c a.at c.requires.beside.0 _
    (IsFirst-from_position c.position.new.self _ _ (λ p. passes a.c a.at p ≡ true) (λ p. passes a.c a.at p ≡ false) c.position.ensures.ran
    (YieldsList-from_zip (YieldsList-from_slice a.end.now (cc)) (YieldsList-from_slice a.core.now (cc))) (λ x q k. search (rules, tests))
    (λ x q k. search (rules, tests)))
