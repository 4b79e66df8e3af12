-- The carry from start to start is the carry instant by instant. Assumes nothing.
use Rattle.std.specs.Prelude.{None, Option, Some}
use Prim.Native.Nat.{ℕ, zero, suc, ◌^◌, ◌≤◌, ◌<◌}
use mathlib.Core.Path.{◌≡◌, refl, sym, ◌∙◌, ap}
use mathlib.Core.Bool.{Bool, true, false}
use native.Mathlib.Omega.{arith}
use Rattle.base.specs.Find.{first_of}
use Rattle.base.proofs.Find.{first_of_yes, first_of_no}
use Rattle.model.specs.Model.{Run, task_of}
use Rattle.model.specs.Carry.{starts, some_waits, at_instant, at_each_instant, instants_from, opening, carried}
use Rattle.model.specs.Compute.Places.{size}
use Rattle.model.specs.Compute.Jumps.{start_at, next_start, waiting, start_all, carry_by_starts}
use Rattle.carrytheory.proofs.Waiting.{waiting_size, nobody_waits}
use Rattle.carrytheory.proofs.MayStart.{start_at_lem, fewer_then}

-- Each way on
-- -----------
pub start_zero : (t : ℕ) (σ : Run) → start_all zero t σ ≡ σ
unfolding start_all
start_zero t σ = refl

pub start_some : (m t u k c : ℕ) (σ : Run) → next_start σ t ≡ Some (u, (k, c)) → start_all (suc m) t σ ≡ start_all m u (starts σ u k c)
unfolding start_all
start_some m t u k c σ e = rw (e, start_all)

pub start_none : (m t : ℕ) (σ : Run) → next_start σ t ≡ None → start_all m t σ ≡ σ
unfolding start_all
start_none zero t σ e = refl
start_none (suc m) t σ e = rw (e, start_all)

instant_none : (m t : ℕ) (σ : Run) → start_at σ t ≡ None → at_instant m t σ ≡ σ
unfolding start_at at_instant
instant_none zero t σ e = refl
instant_none (suc m) t σ e = rw (e, at_instant)

instant_some : (m t k c : ℕ) (σ : Run) → start_at σ t ≡ Some (k, c) → at_instant (suc m) t σ ≡ at_instant m t (starts σ t k c)
unfolding start_at at_instant
instant_some m t k c σ e = rw (e, at_instant)

each_no : (n t : ℕ) (σ : Run) → some_waits σ ≡ false → at_each_instant (suc n) t σ ≡ σ
unfolding at_each_instant
each_no n t σ e = rw (e, at_each_instant)

each_yes : (n t : ℕ) (σ : Run) → some_waits σ ≡ true → at_each_instant (suc n) t σ ≡ at_each_instant n (suc t) (at_instant (size σ) t σ)
unfolding at_each_instant
each_yes n t σ e = rw (e, at_each_instant)

-- From start to start, as many as wait
-- ------------------------------------
abbrev pub all_start : ℕ → Run → Run
all_start t σ = start_all (waiting σ) t σ

none_starts : (t : ℕ) (σ : Run) → waiting σ ≡ 0 → all_start t σ ≡ σ
none_starts t σ e = rw e (start_zero t σ)

instants_suc : (t : ℕ) → t < 2 ^ 32 → instants_from t ≡ suc (instants_from (suc t))
instants_suc t l = omega arith

pub starts_here : (t k c : ℕ) (σ : Run) → t < 2 ^ 32 → start_at σ t ≡ Some (k, c) → all_start t σ ≡ all_start t (starts σ t k c)
unfolding next_start
starts_here t k c σ l e =
    let S = start_at_lem σ t k c e in
    let here : next_start σ t ≡ Some (t, (k, c)) = rw (instants_suc t l) (first_of_yes (start_at σ) t (instants_from (suc t)) (k, c) e) in
    ap (λ m. start_all m t σ) (fewer_then σ t k c (task_of σ k).greatest S) ∙ start_some _ t t k c σ here

pub starts_later : (m t : ℕ) (σ : Run) → t < 2 ^ 32 → start_at σ t ≡ None → start_all m t σ ≡ start_all m (suc t) σ
unfolding next_start start_all
starts_later zero t σ l e = refl
starts_later (suc m) t σ l e =
    let later : next_start σ t ≡ next_start σ (suc t) = rw (instants_suc t l) (first_of_no (start_at σ) t (instants_from (suc t)) e) in
    rw (later, start_all)

-- with as many starts at one instant as there are jobs to begin, nothing more starts there
at_instant_lem : (m t : ℕ) (σ : Run) → t < 2 ^ 32 → waiting σ ≤ m → all_start t σ ≡ all_start (suc t) (at_instant m t σ)
unfolding at_instant
at_instant_lem zero t σ l h = let z : waiting σ ≡ 0 = omega arith in none_starts t σ z ∙ sym (none_starts (suc t) σ z)
at_instant_lem (suc m) t σ l h = go (at_instant_lem m t) (start_at σ t) refl
  where
    go : ((σ : Run) → t < 2 ^ 32 → waiting σ ≤ m → all_start t σ ≡ all_start (suc t) (at_instant m t σ)) → (o : Option (ℕ × ℕ)) → start_at σ t ≡ o
        → all_start t σ ≡ all_start (suc t) (at_instant (suc m) t σ)
    go ih None e = starts_later (waiting σ) t σ l e ∙ ap (all_start (suc t)) (sym (instant_none (suc m) t σ e))
    go ih (Some (k, c)) e =
        let S = start_at_lem σ t k c e in
        let w = fewer_then σ t k c (task_of σ k).greatest S in
        starts_here t k c σ l e ∙ ih (starts σ t k c) l (omega arith) ∙ ap (all_start (suc t)) (sym (instant_some m t k c σ e))

at_each_instant_lem : (n t : ℕ) (σ : Run) → n ≡ instants_from t → at_each_instant n t σ ≡ all_start t σ
unfolding at_each_instant first_of next_start
at_each_instant_lem zero t σ e =
    let over : next_start σ t ≡ None = ap (first_of (start_at σ) t) (sym e) in
    sym (start_none (waiting σ) t σ over)
at_each_instant_lem (suc n) t σ e = go (at_each_instant_lem n (suc t)) (some_waits σ) refl
  where
    go : ((σ : Run) → n ≡ instants_from (suc t) → at_each_instant n (suc t) σ ≡ all_start (suc t) σ) → (b : Bool) → some_waits σ ≡ b
        → at_each_instant (suc n) t σ ≡ all_start t σ
    go ih false w = each_no n t σ w ∙ sym (none_starts t σ (nobody_waits σ w))
    go ih true w = each_yes n t σ w ∙ ih (at_instant (size σ) t σ) (omega arith) ∙ sym (at_instant_lem (size σ) t σ (omega arith) (waiting_size σ))

-- The carry instant by instant is the carry from start to start.
pub carried_by_starts : (ρ : Run) (H' : ℕ) → carried ρ H' ≡ carry_by_starts ρ H'
unfolding carried carry_by_starts
carried_by_starts ρ H' = at_each_instant_lem (instants_from ρ.setting.horizon) ρ.setting.horizon (opening ρ H') refl
