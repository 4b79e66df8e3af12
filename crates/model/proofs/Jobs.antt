-- The existing jobs: which they are, in what order, and that none stands twice. Assumes nothing.
use Prim.Native.Nat.{ℕ, zero, suc, ◌+◌, ◌*◌, ◌-◌, ◌/◌, ◌≤◌, ◌<◌}
use mathlib.Core.Path.{◌≡◌, refl, sym, ◌∙◌, ap}
use mathlib.Core.Logic.{◌⊎◌, inl, inr, ◌↔◌}
use mathlib.Core.List.{List, [], ◌∷◌, ◌++◌}
use native.Mathlib.Numerals.{add-one}
use native.Mathlib.Omega.{arith}
use native.Mathlib.Decide.{dec_lt}
use native.Mathlib.Nat.{not-suc-le-zero, le_of_suc-le-suc, le-div_iff_mul-le, add-zero, div-zero, add-div_right}
use lib.ListN.{length, get_or, take, length-append, get_or-append}
use lib.Seq.{get_or-append-add, take-suc}
use Rattle.model.specs.declared.task.Task.{Task}
use Rattle.model.specs.Model.{Run, Job, Exists, task, no_task, job_count, count_up, jobs_from, counts, jobs, sum, total_jobs, existing}

-- How many jobs a task has
-- ------------------------

-- Job j exists exactly if jP + O < H.
pub job_exists : (τ : Task) (H j : ℕ) → 1 ≤ τ.period → (j < job_count τ H) ↔ Exists τ H j
unfolding job_count
job_exists τ H j h = (λ l. omega (arith, rounded.0 l), λ l. rounded.1 (omega arith))
  where
    rounded : (suc j ≤ ((H - τ.offset) + (τ.period - 1)) / τ.period) ↔ (suc j * τ.period ≤ (H - τ.offset) + (τ.period - 1))
    rounded = le-div_iff_mul-le h

-- With O ≥ H not even job 0 exists.
pub no_job : (τ : Task) (H : ℕ) → 1 ≤ τ.period → H ≤ τ.offset → job_count τ H ≡ 0
no_job τ H h l = go (dec_lt 0 (job_count τ H))
  where
    go : Dec (0 < job_count τ H) → job_count τ H ≡ 0
    go (yes z) = let x : Exists τ H 0 = (job_exists τ H 0 h).0 z in absurd (omega arith)
    go (no z) = omega (arith, z)

-- Without a period there is no job, since n / 0 is 0.
pub no_period : (τ : Task) (H : ℕ) → τ.period ≡ 0 → job_count τ H ≡ 0
unfolding job_count
no_period τ H e = ap (λ p. ((H - τ.offset) + (τ.period - 1)) / p) e ∙ div-zero _

-- Rounded up is one more than rounded down below it, which fits where the sum may not.
pub some_jobs : (τ : Task) (H : ℕ) → 1 ≤ τ.period → τ.offset < H → (H - τ.offset - 1) / τ.period + 1 ≡ job_count τ H
unfolding job_count
some_jobs τ H h l =
    let e : (H - τ.offset - 1) + τ.period ≡ (H - τ.offset) + (τ.period - 1) = omega arith in
    sym (add-div_right (H - τ.offset - 1) h) ∙ ap (λ n. n / τ.period) e

-- The jobs of tasks with so many jobs each
-- ----------------------------------------

-- What `get_or` gives beyond the end.
abbrev none : Job
none = (0, 0)

pub length-count_up : (i j n : ℕ) → length (count_up i j n) ≡ n
length-count_up i j zero = refl
length-count_up i j (suc n) = ap suc (length-count_up i (suc j) n)

pub at_count_up : (i j n k : ℕ) → k < n → get_or (count_up i j n) k (0, 0) ≡ (i, j + k)
at_count_up i j zero k h = absurd (not-suc-le-zero h)
at_count_up i j (suc n) zero h = rw (add-zero j)
at_count_up i j (suc n) (suc k) h = at_count_up i (suc j) n k (le_of_suc-le-suc h) ∙ ap (λ m. (i, m)) (omega arith)

length_from : (i : ℕ) (ns : List ℕ) → length (jobs_from i ns) ≡ sum ns
length_from i [] = refl
length_from i (n ∷ ns) = length-append (count_up i 0 n) (jobs_from (suc i) ns) ∙ rw (length-count_up i 0 n, length_from (suc i) ns)

-- A place in the list is among the first task's jobs, or behind them.
data Where (i n : ℕ) (ns : List ℕ) (k : ℕ) : Type 0 where
  here : k < n → get_or (jobs_from i (n ∷ ns)) k none ≡ (i, k) → Where i n ns k
  behind : (l : ℕ) → k ≡ n + l → l < length (jobs_from (suc i) ns)
      → get_or (jobs_from i (n ∷ ns)) k none ≡ get_or (jobs_from (suc i) ns) l none → Where i n ns k

find : (i n : ℕ) (ns : List ℕ) (k : ℕ) → k < length (jobs_from i (n ∷ ns)) → Where i n ns k
find i n ns k h = go (dec_lt k n)
  where
    front : List Job
    front = count_up i 0 n

    rest : List Job
    rest = jobs_from (suc i) ns

    go : Dec (k < n) → Where i n ns k
    go (yes l) =
        here l (get_or-append front rest none k (rw (length-count_up i 0 n) l) ∙ at_count_up i 0 n k l ∙ ap (λ m. (i, m)) (omega arith))
    go (no l) =
        let e : k ≡ n + (k - n) = omega (arith, l) in
        behind (k - n) e (omega (arith, l, length-append front rest, length-count_up i 0 n))
        (ap (λ m. get_or (front ++ rest) m none) (e ∙ ap (λ m. m + (k - n)) (sym (length-count_up i 0 n)))
        ∙ get_or-append-add front rest (k - n) none)

-- q is job q .1 of task i + m, which has more jobs than that.
record Among (i : ℕ) (ns : List ℕ) (q : Job) : Type 0 where
  m : ℕ
  range : m < length ns
  number : q.0 ≡ i + m
  before : q.1 < get_or ns m 0

-- q stands somewhere in the list.
abbrev pub Stands : List Job → Job → Type 0
Stands qs q = (k : ℕ) × (k < length qs) × (get_or qs k (0, 0) ≡ q)

each_among : (i : ℕ) (ns : List ℕ) (k : ℕ) → k < length (jobs_from i ns) → Among i ns (get_or (jobs_from i ns) k none)
each_among i [] k h = absurd (not-suc-le-zero h)
each_among i (n ∷ ns) k h = go (each_among (suc i) ns) (find i n ns k h)
  where
    go : ((k : ℕ) → k < length (jobs_from (suc i) ns) → Among (suc i) ns (get_or (jobs_from (suc i) ns) k none))
        → Where i n ns k → Among i (n ∷ ns) (get_or (jobs_from i (n ∷ ns)) k none)
    go ih (here l e) = rw e (record { m = 0; range = omega arith; number = omega arith; before = l })
    go ih (behind l w z e) =
        let x = ih l z in
        rw e (record { m = suc x.m; range = omega (arith, x.range); number = omega (arith, x.number); before = x.before })

each_stands : (i : ℕ) (ns : List ℕ) (q : Job) → Among i ns q → Stands (jobs_from i ns) q
each_stands i [] q x = absurd (not-suc-le-zero x.range)
each_stands i (n ∷ ns) q x = go (each_stands (suc i) ns q) x.m x.range x.number x.before
  where
    front : List Job
    front = count_up i 0 n

    rest : List Job
    rest = jobs_from (suc i) ns

    go : (Among (suc i) ns q → Stands rest q)
        → (m : ℕ) → m < length (n ∷ ns) → q.0 ≡ i + m → q.1 < get_or (n ∷ ns) m 0 → Stands (jobs_from i (n ∷ ns)) q
    go ih zero r e l = (
      q.1,
      omega (arith, length-append front rest, length-count_up i 0 n),
      get_or-append front rest none q.1 (rw (length-count_up i 0 n) l) ∙ at_count_up i 0 n q.1 l ∙ pair,
    )
      where
        pair : ◌≡◌ {A = Job} (i, 0 + q.1) q
        pair = λ κ. (e₀ κ, e₁ κ)
          where
            e₀ : i ≡ q.0
            e₀ = omega arith

            e₁ : 0 + q.1 ≡ q.1
            e₁ = omega arith
    go ih (suc m) r e l =
        let (k, h, w) = ih (record { m = m; range = le_of_suc-le-suc r; number = omega arith; before = l }) in
        (length front + k, omega (arith, length-append front rest), get_or-append-add front rest k none ∙ w)

-- Where a job stands that is not its task's first, the one before it stands too.
before_from : (i : ℕ) (ns : List ℕ) (m j : ℕ) → Stands (jobs_from i ns) (m, suc j) → Stands (jobs_from i ns) (m, j)
before_from i ns m j (k, h, w) =
    let x : Among i ns (m, suc j) = rw w at (each_among i ns k h) in
    each_stands i ns (m, j) (record { m = x.m; range = x.range; number = x.number; before = omega (arith, x.before) })

-- By task, then job.
abbrev pub Lower : Job → Job → Type 0
Lower p q = (p.0 < q.0) ⊎ ((p.0 ≡ q.0) × (p.1 < q.1))

rising_from : (i : ℕ) (ns : List ℕ) (k l : ℕ) → k < l → l < length (jobs_from i ns)
    → Lower (get_or (jobs_from i ns) k none) (get_or (jobs_from i ns) l none)
rising_from i [] k l h z = absurd (not-suc-le-zero z)
rising_from i (n ∷ ns) k l h z = go (rising_from (suc i) ns) (find i n ns k (omega arith)) (find i n ns l z)
  where
    rest : List Job
    rest = jobs_from (suc i) ns

    go : ((k l : ℕ) → k < l → l < length rest → Lower (get_or rest k none) (get_or rest l none))
        → Where i n ns k → Where i n ns l → Lower (get_or (jobs_from i (n ∷ ns)) k none) (get_or (jobs_from i (n ∷ ns)) l none)
    go ih (here a d) (here b e) = rw (d, e) (inr (refl, h))
    go ih (here a d) (behind y b c e) = let x = each_among (suc i) ns y c in rw (d, e) (inl (omega (arith, x.number)))
    go ih (behind y a b d) (here c e) = absurd (omega arith)
    go ih (behind y a b d) (behind x c f e) = rw (d, e) (ih y x (omega arith) f)

lower_ne : (p q : Job) → Lower p q → p ≡ q → ⊥
lower_ne p q (inl h) e = let w = ap (λ (x : Job). x.0) e in omega arith
lower_ne p q (inr h) e = let w = ap (λ (x : Job). x.1) e in omega arith

-- The existing jobs of tasks at a horizon
-- ---------------------------------------

-- the jobs of one task more
pub jobs_on : (τs : List Task) (τ : Task) (H : ℕ) → total_jobs (τs ++ (τ ∷ [])) H ≡ total_jobs τs H + job_count τ H
jobs_on [] τ H = omega arith
jobs_on (x ∷ τs) τ H = let e = jobs_on τs τ H in omega arith

pub length-jobs : (τs : List Task) (H : ℕ) → length (jobs τs H) ≡ total_jobs τs H
length-jobs τs H = length_from 0 (counts τs H)

-- The list rises by task, then job.
pub rising : (τs : List Task) (H k l : ℕ) → k < l → l < length (jobs τs H)
    → Lower (get_or (jobs τs H) k (0, 0)) (get_or (jobs τs H) l (0, 0))
rising τs H = rising_from 0 (counts τs H)

pub before_stands : (τs : List Task) (H i j : ℕ) → Stands (jobs τs H) (i, suc j) → Stands (jobs τs H) (i, j)
before_stands τs H = before_from 0 (counts τs H)

-- So no job stands twice.
pub distinct : (τs : List Task) (H k l : ℕ) → k < length (jobs τs H) → l < length (jobs τs H)
    → get_or (jobs τs H) k (0, 0) ≡ get_or (jobs τs H) l (0, 0) → k ≡ l
distinct τs H k l h z e = go (dec_lt k l) (dec_lt l k)
  where
    go : Dec (k < l) → Dec (l < k) → k ≡ l
    go (yes a) b = absurd (lower_ne _ _ (rising τs H k l a z) e)
    go (no a) (yes b) = absurd (lower_ne _ _ (rising τs H l k b h) (sym e))
    go (no a) (no b) = omega (arith, a, b)

length-counts : (τs : List Task) (H : ℕ) → length (counts τs H) ≡ length τs
length-counts [] H = refl
length-counts (τ ∷ τs) H = ap suc (length-counts τs H)

at_counts : (τs : List Task) (H m : ℕ) → m < length τs → get_or (counts τs H) m 0 ≡ job_count (task τs m) H
at_counts [] H m h = absurd (not-suc-le-zero h)
at_counts (τ ∷ τs) H zero h = refl
at_counts (τ ∷ τs) H (suc m) h = at_counts τs H m (le_of_suc-le-suc h)

-- Where the jobs of a task stand: after those of the tasks before it
-- -------------------------------------------------------------------

-- how many jobs the first i tasks have
abbrev pub jobs_before : List Task → ℕ → ℕ → ℕ
jobs_before τs H i = total_jobs (take i τs) H

pub before_on : (τs : List Task) (H i : ℕ) → i < length τs → jobs_before τs H (i + 1) ≡ jobs_before τs H i + job_count (task τs i) H
before_on τs H i h = rw (add-one i, take-suc τs i no_task h) (jobs_on (take i τs) (task τs i) H)

pub before_within : (τs : List Task) (H i : ℕ) → jobs_before τs H i ≤ total_jobs τs H
before_within [] H zero = omega arith
before_within [] H (suc i) = omega arith
before_within (τ ∷ τs) H zero = omega arith
before_within (τ ∷ τs) H (suc i) = omega (arith, before_within τs H i)

job_at_from : (m : ℕ) (τs : List Task) (H i j : ℕ) → i < length τs → j < job_count (task τs i) H
    → get_or (jobs_from m (counts τs H)) (jobs_before τs H i + j) none ≡ (m + i, j)
job_at_from m [] H i j h l = absurd (not-suc-le-zero h)
job_at_from m (τ ∷ τs) H zero j h l =
    let front = count_up m 0 (job_count τ H) in
    let e : m ≡ m + 0 = omega arith in
    let z : 0 + j ≡ j = omega arith in
    ap (λ k. get_or (front ++ jobs_from (suc m) (counts τs H)) k none) z
    ∙ get_or-append front (jobs_from (suc m) (counts τs H)) none j (rw (length-count_up m 0 (job_count τ H)) l)
    ∙ at_count_up m 0 (job_count τ H) j l
    ∙ (λ κ. (e κ, z κ))
job_at_from m (τ ∷ τs) H (suc i) j h l =
    let front = count_up m 0 (job_count τ H) in
    let e : suc m + i ≡ m + suc i = omega arith in
    let at : job_count τ H + jobs_before τs H i + j ≡ length front + (jobs_before τs H i + j) = omega (arith, length-count_up m 0 (job_count τ H)) in
    ap (λ k. get_or (front ++ jobs_from (suc m) (counts τs H)) k none) at
    ∙ get_or-append-add front (jobs_from (suc m) (counts τs H)) (jobs_before τs H i + j) none
    ∙ job_at_from (suc m) τs H i j (le_of_suc-le-suc h) l
    ∙ (λ κ. (e κ, j))

pub job_at : (τs : List Task) (H i j : ℕ) → i < length τs → j < job_count (task τs i) H → get_or (jobs τs H) (jobs_before τs H i + j) (0, 0) ≡ (i, j)
job_at τs H i j h l = job_at_from 0 τs H i j h l ∙ (λ κ. (z κ, j))
  where
    z : 0 + i ≡ i
    z = omega arith

-- The existing jobs of a run are those of its tasks
-- -------------------------------------------------
pub existing_jobs : (ρ : Run) (H : ℕ) → existing ρ H ≡ jobs ρ.tasks H
unfolding existing
existing_jobs ρ H = refl

-- As many as refusal 6 counts. Where that there are not too many is all that is asked, the law below is cited, and not this one: the count
-- is of the tasks alone, and which jobs exist need not be.
pub existing_total : (ρ : Run) (H : ℕ) → length (existing ρ H) ≡ total_jobs ρ.tasks H
existing_total ρ H = ap length (existing_jobs ρ H) ∙ length-jobs ρ.tasks H

pub existing_few : (ρ : Run) (H : ℕ) → length (existing ρ H) ≤ total_jobs ρ.tasks H
existing_few ρ H = omega (arith, existing_total ρ H)

-- Which exist
-- -----------

-- Every task has a period.
abbrev pub Good : List Task → Type 0
Good τs = (i : ℕ) → i < length τs → 1 ≤ (task τs i).period

-- A job stands in the list exactly if its task is there and it exists.
pub exists_iff : (τs : List Task) (H : ℕ) → Good τs → (q : Job)
    → Stands (jobs τs H) q ↔ ((q.0 < length τs) × Exists (task τs q.0) H q.1)
exists_iff τs H g q = (to, from)
  where
    to : Stands (jobs τs H) q → (q.0 < length τs) × Exists (task τs q.0) H q.1
    to (k, h, w) =
        let x : Among 0 (counts τs H) q = rw w at (each_among 0 (counts τs H) k h) in
        let e : q.0 ≡ x.m = omega (arith, x.number) in
        let r : x.m < length τs = rw (length-counts τs H) at x.range in
        (rw e r, rw e ((job_exists (task τs x.m) H q.1 (g x.m r)).0 (rw (at_counts τs H x.m r) at x.before)))

    from : (q.0 < length τs) × Exists (task τs q.0) H q.1 → Stands (jobs τs H) q
    from (r, l) = each_stands 0 (counts τs H) q (record {
      m = q.0;
      range = rw (length-counts τs H) r;
      number = omega arith;
      before = rw (at_counts τs H q.0 r) ((job_exists (task τs q.0) H q.1 (g q.0 r)).1 l);
    })
