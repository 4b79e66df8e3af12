-- One record more looked at: how many are late then, and which is the first; and the answer from what was found. Assumes nothing.
use Rattle.std.specs.Option.{option_or}
use Rattle.std.specs.Prelude.{None, Option, Some}
use Prim.Native.Nat.{ℕ, zero, suc, ◌+◌, ◌≤◌, ◌<◌}
use mathlib.Core.Path.{◌≡◌, refl, sym, ◌∙◌, ap}
use mathlib.Core.Bool.{Bool, true, false}
use mathlib.Core.List.{List}
use native.Mathlib.Numerals.{add-one}
use native.Mathlib.Omega.{arith}
use lib.ListN.{length, get_or}
use Rattle.base.specs.Find.{first, count, tally}
use Rattle.base.proofs.Find.{Answer, answer}
use Rattle.base.proofs.Loop.{none_on, first_hit, first_miss, count_on}
use Rattle.base.proofs.Test.{Says, says_true, says_false, says_ltb, says_and}
use Rattle.model.specs.Compute.Verdict.{timely_of}
use Rattle.verdict.specs.declared.late.Late.{Late}
use Rattle.verdict.specs.Late.{late_in, early_in, LateOf, timely_in}

-- at most all of them are counted
count_few : (p : ℕ → Bool) (n : ℕ) → count p n ≤ n
unfolding count
count_few p zero = omega arith
count_few p (suc n) = at_most (p n) (count p n) n (count_few p n)
  where
    at_most : (b : Bool) (c m : ℕ) → c ≤ m → tally b c ≤ suc m
    at_most true c m h = omega arith
    at_most false c m h = omega arith

module _ (p : ℕ → Bool) (n : ℕ) where
  -- the first of one number more
  abbrev or_here : Option ℕ → Bool → Option ℕ
  or_here (Some j) b = Some j
  or_here None true = Some n
  or_here None false = None

  first_on : or_here (first p 0 n) (p n) ≡ first p 0 (n + 1)
  first_on = go (answer p n 0) (p n) refl
    where
      go : Answer p 0 n → (b : Bool) → p n ≡ b → or_here (first p 0 n) b ≡ first p 0 (n + 1)
      go (Answer.nothing q g) true e = ap (λ o. or_here o true) q ∙ first_hit p 0 (n + 1) (omega arith) (omega arith) (record { below = λ j h l. g j h (omega arith) }) e
      go (Answer.nothing q g) false e = ap (λ o. or_here o false) q ∙ first_miss p 0 (n + 1) (omega arith) (none_on p (record { below = λ j h l. g j h (omega arith) }) e)
      go (Answer.finds j q u v r g) b e = ap (λ o. or_here o b) q ∙ first_hit p 0 (n + 1) u (omega arith) (record { below = g }) r

  found_here : (o : Option ℕ) → o ≡ first p 0 n → p n ≡ true → option_or o (Some n) ≡ first p 0 (n + 1)
  found_here o e h = here_lem o ∙ (λ κ. or_here (e κ) (sym h κ)) ∙ first_on
    where
      here_lem : (o : Option ℕ) → option_or o (Some n) ≡ or_here o true
      here_lem (Some j) = refl
      here_lem None = refl

  found_before : (o : Option ℕ) → o ≡ first p 0 n → p n ≡ false → o ≡ first p 0 (n + 1)
  found_before o e h = as_before o ∙ (λ κ. or_here (e κ) (sym h κ)) ∙ first_on
    where
      as_before : (o : Option ℕ) → o ≡ or_here o false
      as_before (Some j) = refl
      as_before None = refl

  -- the count of one number more
  count_here : {c : ℕ} → c ≡ count p n → p n ≡ true → c + 1 ≡ count p (n + 1)
  count_here {c} e h = add-one c ∙ ap suc e ∙ sym (count_on p n ∙ ap (λ b. tally b (count p n)) h)

  count_before : {c : ℕ} → c ≡ count p n → p n ≡ false → c ≡ count p (n + 1)
  count_before e h = e ∙ sym (count_on p n ∙ ap (λ b. tally b (count p n)) h)

module _ (H : ℕ) (ds ss es : List ℕ) where
  pub late_none : LateOf H ds ss es 0 (record { count = 0; first = None; early = None })
  unfolding count first
  late_none = record { late_counted = refl; first_late = refl; first_early = refl }

  module _ {k : ℕ} {l : Late} (L : LateOf H ds ss es k l) where
    pub late_few : l.count ≤ k
    late_few = omega (arith, L.late_counted, count_few (late_in ds es) k)

    says_early : Says (early_in H ds ss es k) ((get_or ds k 0 < get_or es k 0) × (get_or ss k 0 < H))
    says_early = says_and (says_ltb (get_or ds k 0) (get_or es k 0)) (says_ltb (get_or ss k 0) H)

    -- record k is in time, or it is late
    pub in_time_on : get_or es k 0 ≤ get_or ds k 0 → LateOf H ds ss es (k + 1) l
    in_time_on h =
        let e : late_in ds es k ≡ false = says_false (says_ltb (get_or ds k 0) (get_or es k 0)) (λ w. omega arith) in
        record {
          late_counted = count_before (late_in ds es) k L.late_counted e;
          first_late = found_before (late_in ds es) k l.first L.first_late e;
          first_early = found_before (early_in H ds ss es) k l.early L.first_early (says_false says_early (λ w. omega arith));
        }

    pub late_on : {f g : Option ℕ} → get_or ds k 0 < get_or es k 0 → f ≡ option_or l.first (Some k) → g ≡ first (early_in H ds ss es) 0 (k + 1)
        → LateOf H ds ss es (k + 1) (record { count = l.count + 1; first = f; early = g })
    late_on h e w =
        let z : late_in ds es k ≡ true = says_true (says_ltb (get_or ds k 0) (get_or es k 0)) h in
        record {
          late_counted = count_here (late_in ds es) k L.late_counted z;
          first_late = e ∙ found_here (late_in ds es) k l.first L.first_late z;
          first_early = w;
        }

    -- it is late and begins before H, or not before H
    pub early_on : {g : Option ℕ} → get_or ds k 0 < get_or es k 0 → get_or ss k 0 < H → g ≡ option_or l.early (Some k) → g ≡ first (early_in H ds ss es) 0 (k + 1)
    early_on h b e = e ∙ found_here (early_in H ds ss es) k l.early L.first_early (says_true says_early (h, b))

    pub early_kept : {g : Option ℕ} → H ≤ get_or ss k 0 → g ≡ l.early → g ≡ first (early_in H ds ss es) 0 (k + 1)
    early_kept b e = e ∙ found_before (early_in H ds ss es) k l.early L.first_early (says_false says_early (λ w. omega arith))

  -- the answer from what was found, by what it says
  pub timely_of_lem : {l : Late} {o f : Option ℕ} → LateOf H ds ss es (length es) l → l.early ≡ o → l.first ≡ f
      → timely_of o f l.count ≡ timely_in H ds ss es
  unfolding timely_in
  timely_of_lem L p q =
      λ κ. timely_of ((sym p ∙ L.first_early) κ) ((sym q ∙ L.first_late) κ) (L.late_counted κ)
