-- What each refusal is given exactly when: `read` refuses with the number of the first fault, and else tells the run. Assumes nothing.
use Rattle.std.specs.Prelude.{Option}
use Prim.Native.Nat.{ℕ, ◌+◌, ◌≤◌, ◌<◌}
use mathlib.Core.Path.{◌≡◌, refl, sym, subst, ◌∙◌, ap}
use mathlib.Core.Logic.{◌↔◌, inl, inr}
use mathlib.Core.Bool.{Bool, true, false}
use mathlib.Core.List.{List, [], ◌∷◌, ◌++◌}
use native.Mathlib.Omega.{arith}
use lib.ListN.{length}
use Rattle.base.proofs.Test.{Says, says_leb, says_eqb, decides, stable}
use Rattle.base.proofs.Searches.{Finds, total_number, first_unique}
use Rattle.model.specs.Model.{Run, TaskInRange, most_tasks, most_jobs, most_records, total_jobs, task}
use Rattle.model.specs.File.{Read, refused, whole, num, setting_at, tasks_place, records_place, size_of, gate, gate_task, read_records, read_tasks, read}
use Rattle.model.specs.Answers.{Five, refusal, Verdict}
use Rattle.model.specs.Refusals.{Asked, FirstFault, NoFault, task_count, tasks_told, record_count, run_in, asked_of_file, Names}
use Rattle.model.specs.Compute.Verdict.{verdict, check_of, check}
use Rattle.model.proofs.Limits.{says_within, says_setting, says_task, bad_task_finds}
use Rattle.model.proofs.Reading.{whole≢refused}
use Rattle.model.proofs.Verdict.{verdict_iff}

-- The first fault
-- ---------------
pub fault_once : (qs : Asked) (μ ν : ℕ) → FirstFault qs μ → FirstFault qs ν → μ ≡ ν
fault_once [] μ ν f g = absurd f
fault_once ((κ, A) ∷ qs) μ ν (inl f) (inl g) = sym f.1 ∙ g.1
fault_once ((κ, A) ∷ qs) μ ν (inl f) (inr g) = absurd (f.0 g.0)
fault_once ((κ, A) ∷ qs) μ ν (inr f) (inl g) = absurd (g.0 f.0)
fault_once ((κ, A) ∷ qs) μ ν (inr f) (inr g) = fault_once qs μ ν f.1 g.1

pub no_fault : (qs : Asked) (ν : ℕ) → NoFault qs → ¬ FirstFault qs ν
no_fault [] ν h f = f
no_fault ((κ, A) ∷ qs) ν h (inl f) = f.0 h.0
no_fault ((κ, A) ∷ qs) ν h (inr f) = no_fault qs ν h.1 f.1

-- of two lists, one after the other
pub fault_front : (qs cs : Asked) (ν : ℕ) → FirstFault qs ν → FirstFault (qs ++ cs) ν
fault_front [] cs ν f = absurd f
fault_front ((κ, A) ∷ qs) cs ν (inl f) = inl f
fault_front ((κ, A) ∷ qs) cs ν (inr f) = inr (f.0, fault_front qs cs ν f.1)

pub fault_back : (qs cs : Asked) (ν : ℕ) → NoFault qs → FirstFault cs ν → FirstFault (qs ++ cs) ν
fault_back [] cs ν h f = f
fault_back ((κ, A) ∷ qs) cs ν h f = inr (h.0, fault_back qs cs ν h.1 f)

pub no_fault_both : (qs cs : Asked) → NoFault (qs ++ cs) ↔ (NoFault qs × NoFault cs)
no_fault_both [] cs = (λ h. (tt, h), λ h. h.1)
no_fault_both ((κ, A) ∷ qs) cs =
    (λ h. let (x, y) = (no_fault_both qs cs).0 h.1 in ((h.0, x), y), λ h. (h.0.0, (no_fault_both qs cs).1 (h.0.1, h.1)))

-- What comes of judging: a refusal with the number of the first fault, or the good result.
-- ----------------------------------------------------------------------------------------
pub data Comes {R : Type 0} (refuse : ℕ → ℕ → R) (good : R) (Named : ℕ → ℕ → Type 0) (qs : Asked) (r : R) : Type 0 where
  refuses : (ν i : ℕ) → FirstFault qs ν → Named ν i → r ≡ refuse ν i → Comes refuse good Named qs r
  passes : NoFault qs → r ≡ good → Comes refuse good Named qs r

module _ {R : Type 0} (refuse : ℕ → ℕ → R) (good : R) (Named : ℕ → ℕ → Type 0) where
  -- One thing more is asked in front: what is asked after it may use it.
  pub comes_asked : (ν : ℕ) (A : Type 0) (qs : Asked) (G : Bool → R → R) → ((r : R) → G true r ≡ r) → ((r : R) → G false r ≡ refuse ν 0) → Named ν 0
      → (t : Bool) (r : R) → Says t A → (A → Comes refuse good Named qs r) → Comes refuse good Named ((ν, A) ∷ qs) (G t r)
  comes_asked ν A qs G opens shuts n true r s c = go (c (s.sound refl))
    where
      go : Comes refuse good Named qs r → Comes refuse good Named ((ν, A) ∷ qs) (G true r)
      go (Comes.refuses μ i f m e) = Comes.refuses μ i (inr (s.sound refl, f)) m (opens r ∙ e)
      go (Comes.passes h e) = Comes.passes (s.sound refl, h) (opens r ∙ e)
  comes_asked ν A qs G opens shuts n false r s c = Comes.refuses ν 0 (inl (s.refutes refl, refl)) n (shuts r)

  -- Refused with a number exactly if it is that of the first fault; the good result exactly if there is none.
  module _ (tell : R → ℕ × ℕ) (tells : (ν i : ℕ) → tell (refuse ν i) ≡ (ν, i)) (other : (ν i : ℕ) → ¬ (good ≡ refuse ν i))
      (named-once : (ν i j : ℕ) → Named ν i → Named ν j → i ≡ j) (qs : Asked) (r : R) (c : Comes refuse good Named qs r) where
    pub comes_refused : (ν i : ℕ) → (r ≡ refuse ν i) ↔ (FirstFault qs ν × Named ν i)
    comes_refused ν i = (λ e. to e c, λ h. back h.0 h.1 c)
      where
        to : r ≡ refuse ν i → Comes refuse good Named qs r → FirstFault qs ν × Named ν i
        to e (Comes.refuses μ j f m q) =
            let p : ◌≡◌ {A = ℕ × ℕ} (μ, j) (ν, i) = sym (tells μ j) ∙ ap tell (sym q ∙ e) ∙ tells ν i in
            (subst (FirstFault qs) (ap (λ z. z.0) p) f, subst (λ z. Named z.0 z.1) p m)
        to e (Comes.passes h q) = absurd (other ν i (sym q ∙ e))

        back : FirstFault qs ν → Named ν i → Comes refuse good Named qs r → r ≡ refuse ν i
        back f m (Comes.refuses μ j g n q) =
            let x : μ ≡ ν = fault_once qs μ ν g f in
            let y : j ≡ i = named-once ν j i (subst (λ μ. Named μ j) x n) m in
            q ∙ (λ κ. refuse (x κ) (y κ))
        back f m (Comes.passes h q) = absurd (no_fault qs ν h f)

    pub comes_good : (r ≡ good) ↔ NoFault qs
    comes_good = (λ e. to e c, λ h. back h c)
      where
        to : r ≡ good → Comes refuse good Named qs r → NoFault qs
        to e (Comes.refuses μ j f m q) = absurd (other μ j (sym e ∙ q))
        to e (Comes.passes h q) = h

        back : NoFault qs → Comes refuse good Named qs r → r ≡ good
        back h (Comes.refuses μ j f m q) = absurd (no_fault qs μ h f)
        back h (Comes.passes g q) = q

-- The number and the task of five numbers, and of what was read.
abbrev pub five_told : Five → ℕ × ℕ
five_told f = (f.code, f.place.x)

abbrev read_told : Read → ℕ × ℕ
read_told (refused ν i) = (ν, i)
read_told (whole ρ) = (0, 0)

-- what is said of a run is no refusal
judged≢refused : (ρ : Run) (ν i : ℕ) → ¬ (verdict ρ ≡ refusal ν i)
judged≢refused ρ ν i = go (verdict ρ) ((verdict_iff ρ (verdict ρ)).0 refl)
  where
    go : (f : Five) → Verdict ρ f → ¬ (f ≡ refusal ν i)
    go f (Verdict.in_time_row O h) e = omega (arith, ap (λ g. g.answer) e)
    go f (Verdict.late_before_H_row O N F) e = omega (arith, ap (λ g. g.answer) e)
    go f (Verdict.late_from_H_row O N h F) e = omega (arith, ap (λ g. g.answer) e)
    go f (Verdict.rule_broken_row μ L F) e = omega (arith, ap (λ g. g.answer) e)

-- What a file is refused with.
-- ----------------------------
module _ (b : List ℕ) where
  -- a refusal other than 5 names no task
  pub names_none : (ν : ℕ) → ¬ (ν ≡ 5) → Names b ν 0
  names_none ν n = (λ e. absurd (n e), λ m. refl)

  pub names_once : (ν i j : ℕ) → Names b ν i → Names b ν j → i ≡ j
  names_once ν i j m n = go (decides (says_eqb ν 5))
    where
      go : Dec (ν ≡ 5) → i ≡ j
      go (yes e) = first_unique total_number (m.0 e) (n.0 e)
      go (no e) = m.1 e ∙ sym (n.1 e)

  abbrev ReadComes : Asked → Read → Type 0
  ReadComes = Comes refused (whole (run_in b)) (Names b)

  asked : (ν : ℕ) → ¬ (ν ≡ 5) → (A : Type 0) (qs : Asked) (t : Bool) (r : Read) → Says t A → ReadComes qs r → ReadComes ((ν, A) ∷ qs) (gate ν t r)
  unfolding gate
  asked ν n A qs t r s c =
      comes_asked refused (whole (run_in b)) (Names b) ν A qs (gate ν) (λ q. refl) (λ q. refl) (names_none ν n) t r s (λ h. c)

  -- 5, and the task that it names
  asked_tasks : (qs : Asked) (o : Option ℕ) (r : Read) → Finds ◌<◌ (λ k. (k < length (tasks_told b)) × ¬ TaskInRange (task (tasks_told b) k)) o
      → ReadComes qs r → ReadComes ((5, (i : ℕ) → i < length (tasks_told b) → TaskInRange (task (tasks_told b) i)) ∷ qs) (gate_task o r)
  unfolding gate_task
  asked_tasks qs o r (Finds.passes i e F) c =
      Comes.refuses 5 i (inl (λ h. F.here.1 (h i F.here.0), refl)) (λ z. F, λ n. absurd (n refl)) (ap (λ o. gate_task o r) e)
  asked_tasks qs o r (Finds.none_passes e f) c = go c
    where
      fine : (i : ℕ) → i < length (tasks_told b) → TaskInRange (task (tasks_told b) i)
      fine i h = stable (says_task (task (tasks_told b) i)) (λ w. f i (h, w))

      go : ReadComes qs r → ReadComes ((5, (i : ℕ) → i < length (tasks_told b) → TaskInRange (task (tasks_told b) i)) ∷ qs) (gate_task o r)
      go (Comes.refuses μ i g m q) = Comes.refuses μ i (inr (fine, g)) m (ap (λ o. gate_task o r) e ∙ q)
      go (Comes.passes h q) = Comes.passes (fine, h) (ap (λ o. gate_task o r) e ∙ q)

  pub read_comes : ReadComes (asked_of_file b) (read b)
  unfolding run_in read read_tasks read_records
  read_comes =
      asked 1 (λ e. omega (arith, e)) _ _ _ _ (says_leb 4 (length b))
      (asked 2 (λ e. omega (arith, e)) _ _ _ _ (says_eqb (num b 0) 2)
      (asked 1 (λ e. omega (arith, e)) _ _ _ _ (says_leb tasks_place (length b))
      (asked 3 (λ e. omega (arith, e)) _ _ _ _ (says_setting (setting_at b 4))
      (asked 1 (λ e. omega (arith, e)) _ _ _ _ (says_leb (tasks_place + 4) (length b))
      (asked 4 (λ e. omega (arith, e)) _ _ _ _ (says_within 1 most_tasks (task_count b))
      (asked 1 (λ e. omega (arith, e)) _ _ _ _ (says_leb (records_place (task_count b)) (length b))
      (asked_tasks _ _ _ (bad_task_finds (tasks_told b))
      (asked 6 (λ e. omega (arith, e)) _ _ _ _ (says_leb (total_jobs (tasks_told b) (setting_at b 4).horizon) most_jobs)
      (asked 1 (λ e. omega (arith, e)) _ _ _ _ (says_leb (records_place (task_count b) + 4) (length b))
      (asked 7 (λ e. omega (arith, e)) _ _ _ _ (says_leb (record_count b) most_records)
      (asked 1 (λ e. omega (arith, e)) _ _ _ _ (says_leb (size_of (task_count b) (record_count b)) (length b))
      (asked 8 (λ e. omega (arith, e)) _ _ _ _ (says_leb (length b) (size_of (task_count b) (record_count b)))
      (Comes.passes tt refl)))))))))))))

  check_comes : ReadComes (asked_of_file b) (read b) → Comes refusal (verdict (run_in b)) (Names b) (asked_of_file b) (check b)
  unfolding check
  check_comes (Comes.refuses ν i f m e) = Comes.refuses ν i f m (ap check_of e)
  check_comes (Comes.passes h e) = Comes.passes h (ap check_of e)

  -- Of the judgement of a file, and of a check.
  pub refused_exactly_when : (ν i : ℕ) → (read b ≡ refused ν i) ↔ (FirstFault (asked_of_file b) ν × Names b ν i)
  refused_exactly_when =
      comes_refused refused (whole (run_in b)) (Names b) read_told (λ ν i. refl) (λ ν i e. whole≢refused (sym e)) names_once (asked_of_file b) (read b) read_comes

  pub told_exactly_when : (read b ≡ whole (run_in b)) ↔ NoFault (asked_of_file b)
  told_exactly_when =
      comes_good refused (whole (run_in b)) (Names b) read_told (λ ν i. refl) (λ ν i e. whole≢refused (sym e)) names_once (asked_of_file b) (read b) read_comes

  pub check_refuses : (ν i : ℕ) → (check b ≡ refusal ν i) ↔ (FirstFault (asked_of_file b) ν × Names b ν i)
  check_refuses =
      comes_refused refusal (verdict (run_in b)) (Names b) five_told (λ ν i. refl) (judged≢refused (run_in b)) names_once (asked_of_file b) (check b)
      (check_comes read_comes)

  pub judged : NoFault (asked_of_file b) → check b ≡ verdict (run_in b)
  unfolding check
  judged h = ap check_of (told_exactly_when.1 h)

  -- a file that is accepted is not refused
  pub accepted_reads : (check b).answer ≤ 2 → read b ≡ whole (run_in b)
  unfolding check
  accepted_reads h = go read_comes
    where
      go : ReadComes (asked_of_file b) (read b) → read b ≡ whole (run_in b)
      go (Comes.refuses ν i f m e) = absurd (omega (arith, h, ap (λ r. (check_of r).answer) e))
      go (Comes.passes g e) = e
