-- Where each core has begun, a core that idles does so after the end of a record on it. Assumes nothing.
use Rattle.std.specs.Prelude.{None, Option, Some, option_map}
use Prim.Native.Nat.{ℕ, zero, suc, ◌+◌, ◌-◌, ◌≤◌, ◌<◌}
use mathlib.Core.Path.{◌≡◌, refl, sym, ◌∙◌, ap}
use mathlib.Core.Logic.{◌⊎◌, inl, inr}
use mathlib.Core.Bool.{Bool, true, false, true≢false}
use mathlib.Core.List.{List}
use native.Mathlib.Decide.{dec_le, dec_lt}
use native.Mathlib.Omega.{arith}
use lib.ListN.{length, get_or}
use Rattle.base.specs.Find.{first_of, found}
use Rattle.base.proofs.Test.{found_none}
use Rattle.base.proofs.Find.{here_or_on}
use Rattle.base.proofs.Loop.{NothingTo, first_of_hit}
use Rattle.idle.specs.FirstFrom.{never, FirstFrom, Within, Among}
use Rattle.idle.specs.Idle.{Stretches, busy_in, idle_core_in, BusyFrom, IdleUntil, Untils, Begun}
use Rattle.idle.proofs.FirstFrom.{first_now}
use Rattle.idle.proofs.Busy.{RunsIn, not-true, busy_runs, runs_busy, some_idles, idles_found}

module _ (ss es cs : List ℕ) (N : ℕ) where
  -- the first instant from t on at which some core idles
  abbrev pub IdleFrom : ℕ → ℕ → Type 0
  IdleFrom t r = FirstFrom (λ x. found (idle_core_in ss es cs N x) ≡ true) t r

  module _ {us : List ℕ} (e : length es ≡ length ss) (U : Untils ss es cs N (length es) us) where
    -- x lies in the stretch after the end of a record on core c
    abbrev After : ℕ → ℕ → Type 0
    After c x = Among (λ k y. (get_or cs k 0 ≡ c) × Within (get_or es k 0) (get_or us k 0) y) (length es) x

    -- within a stretch its core idles
    idle_within : (x : ℕ) → Stretches es us (length es) x → found (idle_core_in ss es cs N x) ≡ true
    idle_within x (k, (l, (a, b))) = go (U.until k l) (dec_le 1 (get_or cs k 0)) (dec_le (get_or cs k 0) N)
      where
        go : IdleUntil ss es cs N (get_or cs k 0) (get_or es k 0) (get_or us k 0) → Dec (1 ≤ get_or cs k 0) → Dec (get_or cs k 0 ≤ N)
            → found (idle_core_in ss es cs N x) ≡ true
        go I (yes u) (yes v) = idles_found ss es cs N x (get_or cs k 0) u v (not-true ((I.a_core u v).clear x a b))
        go I (no u) d = absurd (omega (arith, I.no_core (λ h. u h.0)))
        go I (yes u) (no v) = absurd (omega (arith, I.no_core (λ h. v h.1)))

    module _ {c : ℕ} (low : 1 ≤ c) (high : c ≤ N) where
      abbrev Busy : ℕ → Type 0
      Busy x = busy_in ss es cs c x ≡ true

      -- a stretch that reaches an idle instant goes on
      goes_on : (k x : ℕ) → k < length es → get_or cs k 0 ≡ c → get_or es k 0 ≤ x → x ≤ get_or us k 0 → x < never → busy_in ss es cs c x ≡ false
          → After c x
      goes_on k x l o a b h q = (k, (l, (o, (a, go (dec_lt x (get_or us k 0))))))
        where
          go : Dec (x < get_or us k 0) → x < get_or us k 0
          go (yes d) = d
          go (no d) =
              let z : get_or us k 0 ≡ x = omega (arith, d) in
              let F : BusyFrom ss es cs c (get_or es k 0) (get_or us k 0) = rw o at ((U.until k l).a_core (omega arith) (omega arith)) in
              let w : Busy x = rw z at (F.here (omega arith)) in
              absurd (true≢false (sym w ∙ q))

      next : (x : ℕ) → suc x < never → Busy x ⊎ After c x → (b : Bool) → busy_in ss es cs c (suc x) ≡ b → Busy (suc x) ⊎ After c (suc x)
      next x h d true q = inl q
      next x h (inr (k, (l, (o, (a, b))))) false q = inr (goes_on k (suc x) l o (omega arith) (omega arith) h q)
      next x h (inl w) false q = inr (ended (busy_runs ss es cs c x w))
        where
          ended : Among (RunsIn ss es cs c) (length ss) x → After c (suc x)
          ended (k, (l, (o, (a, b)))) = go (dec_le (get_or es k 0) (suc x))
            where
              go : Dec (get_or es k 0 ≤ suc x) → After c (suc x)
              go (yes d) =
                  let l' : k < length es = omega arith in
                  let F = (U.until k l').a_core (omega arith) (omega arith) in
                  goes_on k (suc x) l' o d (omega (arith, F.from)) h q
              go (no d) = absurd (true≢false (sym (runs_busy ss es cs c (suc x) (k, (l, (o, (omega arith, omega (arith, d)))))) ∙ q))

      -- from the instant on at which it is busy first, the core is busy or idles since a record ended
      busy_or_after : {f : ℕ} → BusyFrom ss es cs c 0 f → (x : ℕ) → f ≤ x → x < never → Busy x ⊎ After c x
      busy_or_after {f} F zero l h = let z : f ≡ zero = omega arith in inl (rw z at (F.here (omega arith)))
      busy_or_after {f} F (suc x) l h = go (here_or_on f (suc x) l) (λ d. busy_or_after F x d (omega arith))
        where
          go : (suc x ≡ f) ⊎ (suc f ≤ suc x) → (f ≤ x → Busy x ⊎ After c x) → Busy (suc x) ⊎ After c (suc x)
          go (inl z) on = inl (rw (← z) at (F.here (omega arith)))
          go (inr z) on = next x h (on (omega arith)) (busy_in ss es cs c (suc x)) refl

    module _ {b : ℕ} (B : Begun ss es cs (N + 1) b) where
      after_end : (x : ℕ) → b ≤ x → x < never → found (idle_core_in ss es cs N x) ≡ true → Stretches es us (length es) x
      after_end x l h q =
          let (c, (low, high, free)) = some_idles ss es cs N x q in
          let (f, (v, F)) = B.each c low (omega arith) in
          go c free (busy_or_after low (omega arith) F x (omega arith) h)
        where
          go : (c : ℕ) → busy_in ss es cs c x ≡ false → (busy_in ss es cs c x ≡ true) ⊎ After c x → Stretches es us (length es) x
          go c free (inl w) = absurd (true≢false (sym w ∙ free))
          go c free (inr (k, (u, (o, d)))) = (k, (u, d))

      pub all_begun : {t r : ℕ} → b ≤ t → r ≤ never → FirstFrom (Stretches es us (length es)) t r → IdleFrom t r
      all_begun l h F = record {
        from = F.from;
        clear = λ x u v q. F.clear x u v (after_end x (omega arith) (omega arith) q);
        here = λ v. idle_within _ (F.here v);
      }

  -- a core that has not begun idles
  pub not_begun_lem : {b t : ℕ} → Begun ss es cs (N + 1) b → t < b → IdleFrom t t
  not_begun_lem {b} {t} B h = let (c, (u, (v, q))) = B.before t h in first_now (idles_found ss es cs N t c u (omega arith) q)

  pub none_idles : {t r : ℕ} → IdleFrom t r → NothingTo (idle_core_in ss es cs N) t r
  none_idles F = record { below = λ x u v. found_none _ (not-true (F.clear x u v)) }

  -- the first instant at which a core idles, and the least such core
  pub idles_at : {t u r : ℕ} → IdleFrom t r → r < u → u ≤ never → (o : Option ℕ) → o ≡ idle_core_in ss es cs N r
      → option_map (λ (c : ℕ). (r, c)) o ≡ first_of (idle_core_in ss es cs N) t (u - t)
  idles_at F h l None e = absurd (true≢false (sym (F.here (omega arith)) ∙ ap found (sym e)))
  idles_at {t} {u} F h l (Some c) e = first_of_hit _ t (u - t) F.from (omega (arith, F.from)) (none_idles F) (sym e)
