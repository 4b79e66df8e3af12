-- Where the sections of a file begin: a file that is refused has no records, and else they are where its head says. Assumes nothing.
use Prim.Native.Nat.{ℕ, ◌+◌, ◌*◌}
use mathlib.Core.Path.{◌≡◌, refl, sym, ◌∙◌, ap}
use mathlib.Core.List.{List}
use native.Mathlib.Omega.{arith}
use Rattle.base.specs.Find.{first}
use Rattle.base.proofs.Same.{first_same}
use Rattle.model.specs.Model.{Run, Job, job_of, rec, same_job, place_of}
use Rattle.model.specs.File.{Read, refused, whole, read, record_at, record_size}
use Rattle.openfile.specs.declared.head.Head.{Head}
use Rattle.openfile.specs.Head.{head_of, Tells}
use Rattle.openfile.proofs.WholeOrRefused.{tells_record, tells_count}
use Rattle.reader.specs.declared.Starts.{Starts}
use Rattle.reader.specs.LentFile.{starts_of}

-- what a head says of it
abbrev pub starts_in : Head → Starts
starts_in h = record { tasks = h.tasks_at; records = h.records_at; count = h.records }

abbrev pub no_starts : Starts
no_starts = record { tasks = 0; records = 0; count = 0 }

pub starts_refused : (b : List ℕ) {ν i : ℕ} → read b ≡ refused ν i → no_starts ≡ starts_of (read b)
starts_refused b e = rw e

pub starts_told : {b : List ℕ} {h : Head} {ρ : Run} → Tells b h ρ → starts_in h ≡ starts_of (read b)
starts_told T = rw T.reads (ap starts_in T.head)

-- a file, known by where its sections begin
pub data Begins (b : List ℕ) (s : Starts) : Type 0 where
  refused_file : {ν i : ℕ} → read b ≡ refused ν i → s ≡ no_starts → Begins b s
  whole_file : {h : Head} {ρ : Run} → Tells b h ρ → s ≡ starts_in h → Begins b s

pub begins : (b : List ℕ) {s : Starts} → s ≡ starts_of (read b) → Begins b s
begins b {s} = go (read b) refl
  where
    go : (r : Read) → read b ≡ r → s ≡ starts_of r → Begins b s
    go (refused ν i) q e = Begins.refused_file q e
    go (whole ρ) q e = Begins.whole_file {h = head_of ρ} (record { reads = q; head = refl }) e

-- The least record of a job among those that stand in a file is the run's.
pub least_told : {b : List ℕ} {h : Head} {ρ : Run} → Tells b h ρ → (q : Job)
    → first (λ k. same_job (job_of (record_at b (h.records_at + record_size * k))) q) 0 h.records ≡ place_of ρ q
least_told {b} {h} {ρ} T q =
    first_same _ _ h.records 0 (λ k l. ap (λ x. same_job (job_of x) q) (sym (tells_record T k (omega arith))))
    ∙ ap (first (λ k. same_job (job_of (rec ρ k)) q) 0) (tells_count T)
