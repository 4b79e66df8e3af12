-- What is found over columns that hold the numbers of a run's records is what the rules find of the run. Assumes nothing.
use Rattle.std.specs.Prelude.{option_map}
use Prim.Native.Nat.{ℕ, suc, ◌-◌, ◌<◌}
use mathlib.Core.Path.{◌≡◌, ◌∙◌, ap}
use mathlib.Core.Bool.{Bool, not, ◌&&◌, ◌||◌}
use mathlib.Core.List.{List}
use native.Mathlib.Omega.{arith}
use lib.Dec.{leb, ltb, eqb}
use lib.ListN.{length}
use Rattle.base.specs.Find.{first, first_of, count, found}
use Rattle.base.proofs.Same.{first_same, count_same, first_of_same}
use Rattle.model.specs.Model.{Run, IsRecord, rec, task_of, due, rank, ready}
use Rattle.model.specs.Rules.{rule2, rule3, rule4, rule5, rule6, rule7, rule8, rule9, Start}
use Rattle.model.specs.Compute.Places.{size, one, two, three, overlap, busy, first_bad, find}
use Rattle.model.specs.Compute.Verdict.{late, late_early, late_count, timely_of, timely}
use Rattle.carrytheory.proofs.Readiness.{turn_by_ready}
use Rattle.rules.specs.Asked.{release_in, start_in, length_in, core_in}
use Rattle.pairs.specs.Pairs.{overlap_in, out_of_order_in}
use Rattle.idle.specs.Idle.{holds_in, busy_in, idle_core_in, idle_in}
use Rattle.table.specs.Table.{Lent, ForEach, columns, column_of, number_at, earliest, latest}
use Rattle.table.proofs.LentLaws.{column_of_lem}
use Rattle.verdict.specs.Late.{late_in, early_in, timely_in}

-- a column of a lent table has one number for each record
pub column_is : {m : ℕ} {ρ : Run} {t : List ℕ} {n : ℕ} → Lent m ρ t n → (j : ℕ) → j < m → j < columns → {xs : List ℕ}
    → xs ≡ column_of n t j → ForEach ρ xs (number_at ρ j)
column_is L j h l e = rw e (column_of_lem L j h l)

module _ {ρ : Run} where
  -- rules 2 to 5, of one record each
  bad_tied : {xs : List ℕ} {f : ℕ → ℕ} → ForEach ρ xs f → (p good : ℕ → Bool) → ((k : ℕ) → IsRecord ρ k → p k ≡ good k)
      → option_map one (first (λ k. not (p k)) 0 (length xs)) ≡ first_bad ρ good
  bad_tied X p good e =
      (λ κ. option_map one (first (λ k. not (p k)) 0 (X.long κ)))
      ∙ ap (option_map one) (first_same _ _ (size ρ) 0 (λ k h. ap not (e k (omega arith))))

  pub release_tied : {xs rs ys : List ℕ} → ForEach ρ xs (earliest ρ) → ForEach ρ rs (λ k. (rec ρ k).release) → ForEach ρ ys (latest ρ)
      → option_map one (first (λ k. not (release_in xs rs ys k)) 0 (length xs)) ≡ find rule2 ρ
  unfolding find earliest latest
  release_tied A R B =
      bad_tied A _ _ (λ k h κ. leb (A.each k h κ) (R.each k h κ) && leb (R.each k h κ) (B.each k h κ))

  pub start_tied : {rs ss : List ℕ} → ForEach ρ rs (λ k. (rec ρ k).release) → ForEach ρ ss (λ k. (rec ρ k).start)
      → option_map one (first (λ k. not (start_in rs ss k)) 0 (length rs)) ≡ find rule3 ρ
  unfolding find
  start_tied R S = bad_tied R _ _ (λ k h κ. leb (R.each k h κ) (S.each k h κ))

  pub length-tied : {ss es bs ws : List ℕ} → ForEach ρ ss (λ k. (rec ρ k).start) → ForEach ρ es (λ k. (rec ρ k).end)
      → ForEach ρ bs (λ k. (task_of ρ k).least) → ForEach ρ ws (λ k. (task_of ρ k).greatest)
      → option_map one (first (λ k. not (length_in ss es bs ws k)) 0 (length ss)) ≡ find rule4 ρ
  unfolding find
  length-tied S E B W =
      bad_tied S _ _
      (λ k h κ. leb (S.each k h κ) (E.each k h κ)
      && (leb (B.each k h κ) (E.each k h κ - S.each k h κ) && leb (E.each k h κ - S.each k h κ) (W.each k h κ)))

  pub core_tied : {N : ℕ} {cs : List ℕ} → N ≡ ρ.setting.cores → ForEach ρ cs (λ k. (rec ρ k).core)
      → option_map one (first (λ k. not (core_in N cs k)) 0 (length cs)) ≡ find rule5 ρ
  unfolding find
  core_tied n C = bad_tied C _ _ (λ k h κ. leb 1 (C.each k h κ) && leb (C.each k h κ) (n κ))

  -- rules 6 and 8
  module _ {ss es cs : List ℕ} (S : ForEach ρ ss (λ k. (rec ρ k).start)) (E : ForEach ρ es (λ k. (rec ρ k).end)) (C : ForEach ρ cs (λ k. (rec ρ k).core)) where
    overlap_at : (a b : ℕ) → IsRecord ρ a → IsRecord ρ b → overlap_in ss es cs a b ≡ overlap ρ a b
    unfolding overlap_in
    overlap_at a b u v =
        λ κ. eqb (C.each a u κ) (C.each b v κ) && not (leb (E.each a u κ) (S.each b v κ) || leb (E.each b v κ) (S.each a u κ))

    pub overlap_tied : option_map two (first_of (λ a. first (overlap_in ss es cs a) (suc a) (length ss - suc a)) 0 (length ss)) ≡ find rule6 ρ
    unfolding find
    overlap_tied =
        (λ κ. option_map two (first_of (λ a. first (overlap_in ss es cs a) (suc a) (S.long κ - suc a)) 0 (S.long κ)))
        ∙ ap (option_map two)
        (first_of_same _ _ (size ρ) 0 (λ a u. first_same _ _ (size ρ - suc a) (suc a) (λ b v. overlap_at a b (omega arith) (omega arith))))

    busy_at : (c t : ℕ) → busy_in ss es cs c t ≡ busy ρ c t
    unfolding busy_in holds_in
    busy_at c t =
        (λ κ. found (first (holds_in ss es cs c t) 0 (S.long κ)))
        ∙ ap found (first_same _ _ (size ρ) 0 (λ k l.
        let h : IsRecord ρ k = omega arith in
        λ κ. eqb (C.each k h κ) c && (leb (S.each k h κ) t && ltb t (E.each k h κ))))

    pub idle_tied : {N : ℕ} {rs : List ℕ} → N ≡ ρ.setting.cores → ForEach ρ rs (ready ρ)
        → option_map three (first_of (idle_in ss es cs N rs) 0 (length ss)) ≡ find rule8 ρ
    unfolding find idle_in idle_core_in
    idle_tied {N} {rs} n R =
        (λ κ. option_map three (first_of (idle_in ss es cs N rs) 0 (S.long κ)))
        ∙ ap (option_map three) (first_of_same _ _ (size ρ) 0 (λ a l.
        let h : IsRecord ρ a = omega arith in
        λ κ. first_of (λ t. first (λ c. not (busy_at c t κ)) 1 (n κ)) (R.each a h κ) (S.each a h κ - R.each a h κ)))

  -- rule 7
  pub order_tied : {ds rs ss : List ℕ} → ForEach ρ ds (rank ρ) → ForEach ρ rs (ready ρ) → ForEach ρ ss (λ k. (rec ρ k).start)
      → option_map two (first_of (λ a. first (out_of_order_in ds rs ss a) 0 (length ss)) 0 (length ss)) ≡ find rule7 ρ
  unfolding find out_of_order_in
  order_tied {ds} {rs} {ss} D R S =
      (λ κ. option_map two (first_of (λ a. first (out_of_order_in ds rs ss a) 0 (S.long κ)) 0 (S.long κ)))
      ∙ ap (option_map two) (first_of_same _ _ (size ρ) 0 (λ a l. first_same _ _ (size ρ) 0 (λ b k.
      let u : IsRecord ρ a = omega arith in
      let v : IsRecord ρ b = omega arith in
      λ κ. ltb (S.each a u κ) (S.each b v κ) && not (leb (D.each a u κ) (D.each b v κ) || ltb (S.each a u κ) (R.each b v κ)))))

  -- rule 9, where rule 3 holds
  pub turn_tied : {rs ss : List ℕ} → Start ρ → ForEach ρ rs (ready ρ) → ForEach ρ ss (λ k. (rec ρ k).start)
      → option_map one (first (λ k. not (start_in rs ss k)) 0 (length rs)) ≡ find rule9 ρ
  unfolding find
  turn_tied s R S = bad_tied R _ _ (λ k h. (λ κ. leb (R.each k h κ) (S.each k h κ)) ∙ turn_by_ready ρ k (s k h))

  -- lateness
  module _ {H : ℕ} {ds ss es : List ℕ} (e : H ≡ ρ.setting.horizon) (D : ForEach ρ ds (due ρ)) (S : ForEach ρ ss (λ k. (rec ρ k).start))
      (E : ForEach ρ es (λ k. (rec ρ k).end)) where
    late_at : (k : ℕ) → IsRecord ρ k → late_in ds es k ≡ late ρ k
    late_at k h = λ κ. ltb (D.each k h κ) (E.each k h κ)

    early_at : (k : ℕ) → IsRecord ρ k → early_in H ds ss es k ≡ late_early ρ k
    early_at k h = λ κ. late_at k h κ && ltb (S.each k h κ) (e κ)

    pub timely_tied : timely_in H ds ss es ≡ timely ρ
    unfolding timely_in timely late_count
    timely_tied =
        (λ κ. timely_of (first (early_in H ds ss es) 0 (E.long κ)) (first (late_in ds es) 0 (E.long κ)) (count (late_in ds es) (E.long κ)))
        ∙ (λ κ. timely_of (first_same _ _ (size ρ) 0 (λ k l. early_at k (omega arith)) κ) (first_same _ _ (size ρ) 0 (λ k l. late_at k (omega arith)) κ)
        (count_same _ _ (size ρ) late_at κ))
