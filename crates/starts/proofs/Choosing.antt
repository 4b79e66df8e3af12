-- The job that starts next: what one more job changes of the choice. Assumes nothing.
use Rattle.std.specs.Prelude.{None, Option, Some}
use Prim.Native.Nat.{ℕ, ◌+◌, ◌≤◌, ◌<◌, max}
use mathlib.Core.Path.{◌≡◌, refl, sym, ◌∙◌, subst}
use mathlib.Core.Logic.{◌⊎◌, inl, inr}
use mathlib.Core.List.{List}
use native.Mathlib.Omega.{arith}
use native.Mathlib.Decide.{dec_le}
use lib.ListN.{get_or}
use Rattle.base.proofs.Test.{Says, says_eqb, says_and, says_or, says_not}
use Rattle.base.proofs.Find.{some≢none}
use Rattle.carrytheory.proofs.Waiting.{below_suc}
use Rattle.starts.specs.Choice.{NoLater, HasTurn, has_turn, Chosen, Choice}

-- what holds below n and at n holds below n + 1, as a loop counts
pub below_one : (Q : ℕ → Type 0) (n : ℕ) → ((k : ℕ) → k < n → Q k) → Q n → (k : ℕ) → k < n + 1 → Q k
below_one Q n f q k h = below_suc Q n f q k (omega arith)

-- Whose turn it is
-- ----------------
pub says_turn : (cs js : List ℕ) (k : ℕ) → Says (has_turn cs js k) (HasTurn cs js k)
unfolding has_turn
says_turn cs js k = says_and (says_eqb _ _) (says_or (says_eqb _ _) (says_not (says_eqb _ _)))

-- Who goes first
-- --------------

-- of no greater rank, and before in place
no_greater : (d e k j : ℕ) → k < j → d ≤ e → (d < e) ⊎ ((d ≡ e) × (k ≤ j))
no_greater d e k j h l = go (dec_le e d)
  where
    go : Dec (e ≤ d) → (d < e) ⊎ ((d ≡ e) × (k ≤ j))
    go (yes z) = inr (omega arith)
    go (no z) = inl (omega (arith, z))

no_later_trans : (u d k v e j w f i : ℕ) → NoLater u d k v e j → NoLater v e j w f i → NoLater u d k w f i
no_later_trans u d k v e j w f i (inl a) (inl b) = inl (omega arith)
no_later_trans u d k v e j w f i (inl a) (inr (b, y)) = inl (omega arith)
no_later_trans u d k v e j w f i (inr (a, x)) (inl b) = inl (omega arith)
no_later_trans u d k v e j w f i (inr (a, inl x)) (inr (b, inl y)) = inr (a ∙ b, inl (omega arith))
no_later_trans u d k v e j w f i (inr (a, inl x)) (inr (b, inr y)) = inr (a ∙ b, inl (omega arith))
no_later_trans u d k v e j w f i (inr (a, inr x)) (inr (b, inl y)) = inr (a ∙ b, inl (omega arith))
no_later_trans u d k v e j w f i (inr (a, inr x)) (inr (b, inr y)) = inr (a ∙ b, inr (omega arith))

-- One more job
-- ------------
module _ {v : ℕ} {cs js rs ds : List ℕ} where
  only : {n u k : ℕ} → Chosen n v cs js rs ds u k → Choice n v cs js rs ds (Some (u, k))
  only {n} {u} {k} c =
      record {
        chosen = λ w j e. let q : ◌≡◌ {A = ℕ × ℕ} (u, k) (w, j) = cc in subst (λ p. Chosen n v cs js rs ds p.0 p.1) q c;
        nobody = λ e. absurd (some≢none e);
      }

  pub nobody_yet : Choice 0 v cs js rs ds None
  nobody_yet = record { chosen = λ u k e. absurd (some≢none (sym e)); nobody = λ e j h. absurd (omega arith) }

  module _ {n : ℕ} {o : Option (ℕ × ℕ)} (C : Choice n v cs js rs ds o) where
    on : (u k : ℕ) → Chosen n v cs js rs ds u k → (HasTurn cs js n → NoLater u (get_or ds k 0) k (max v (get_or rs n 0)) (get_or ds n 0) n)
        → Chosen (n + 1) v cs js rs ds u k
    on u k c b =
        record {
          range = omega (arith, c.range);
          turn = c.turn;
          at = c.at;
          first = below_one (λ j. HasTurn cs js j → NoLater u (get_or ds k 0) k (max v (get_or rs j 0)) (get_or ds j 0) j) n c.first b;
        }

    -- it is not the turn of job n
    pub passed : ¬ HasTurn cs js n → Choice (n + 1) v cs js rs ds o
    passed f =
        record {
          chosen = λ u k e. on u k (C.chosen u k e) (λ z. absurd (f z));
          nobody = λ e. below_one (λ j. ¬ HasTurn cs js j) n (C.nobody e) f;
        }

    -- job n goes no sooner than the one that was chosen
    pub kept : {u k a : ℕ} → o ≡ Some (u, k) → a ≡ max v (get_or rs n 0) → (u < a) ⊎ ((u ≡ a) × (get_or ds k 0 ≤ get_or ds n 0))
        → Choice (n + 1) v cs js rs ds o
    kept {u} {k} {a} e q b = let c = C.chosen u k e in let h = only (on u k c (λ z. rw q at (go c.range b))) in rw (sym e) at h
      where
        go : k < n → (u < a) ⊎ ((u ≡ a) × (get_or ds k 0 ≤ get_or ds n 0)) → NoLater u (get_or ds k 0) k a (get_or ds n 0) n
        go h (inl l) = inl l
        go h (inr (z, l)) = inr (z, no_greater _ _ k n h l)

    module _ {a : ℕ} (w : HasTurn cs js n) (q : a ≡ max v (get_or rs n 0)) where
      taken : ((j : ℕ) → j < n → HasTurn cs js j → NoLater a (get_or ds n 0) n (max v (get_or rs j 0)) (get_or ds j 0) j)
          → Choice (n + 1) v cs js rs ds (Some (a, n))
      taken f =
          only (record {
            range = omega arith;
            turn = w;
            at = sym q;
            first =
                below_one (λ j. HasTurn cs js j → NoLater a (get_or ds n 0) n (max v (get_or rs j 0)) (get_or ds j 0) j) n f
                (λ z. inr (q, inr (refl, omega arith)));
          })

      -- job n is the first whose turn it is
      pub first_waits : o ≡ None → Choice (n + 1) v cs js rs ds (Some (a, n))
      first_waits e = taken (λ j h z. absurd (C.nobody e j h z))

      -- job n goes before the one that was chosen
      pub sooner : {u k : ℕ} → o ≡ Some (u, k) → (a < u) ⊎ ((a ≡ u) × (get_or ds n 0 < get_or ds k 0)) → Choice (n + 1) v cs js rs ds (Some (a, n))
      sooner {u} {k} e b = taken (λ j h z. no_later_trans _ _ _ u (get_or ds k 0) k _ _ _ (go b) ((C.chosen u k e).first j h z))
        where
          go : (a < u) ⊎ ((a ≡ u) × (get_or ds n 0 < get_or ds k 0)) → NoLater a (get_or ds n 0) n u (get_or ds k 0) k
          go (inl l) = inl l
          go (inr (y, l)) = inr (y, inl l)
