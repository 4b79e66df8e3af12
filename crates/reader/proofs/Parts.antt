-- A record's part: where it is in the file, and where it is not. Assumes nothing.
use Prim.Native.Nat.{ℕ, ◌+◌, ◌*◌, ◌-◌, ◌≤◌, ◌<◌}
use mathlib.Core.Path.{◌≡◌, refl, ◌∙◌, ap, subst}
use mathlib.Core.Bool.{Bool, true, false, ◌&&◌}
use mathlib.Core.List.{List}
use denote.Ref.{Bor}
use lib.Dec.{leb, ltb}
use lib.ListN.{length, take, drop}
use native.Mathlib.Omega.{arith}
use borrow.Author.Tests.{ltb-true}
use Rattle.base.proofs.Test.{Says, says_and, says_ltb, says_leb, says_true, says_false}
use Rattle.model.specs.Model.{Run}
use Rattle.model.specs.File.{read, record_size, record_place, empty_part, part_if, record_part_of, record_part}
use Rattle.openfile.specs.declared.head.Head.{Head}
use Rattle.openfile.specs.Head.{Tells}
use Rattle.openfile.proofs.WholeOrRefused.{tells_task_count, tells_count, tells_place, tells_size}
use Rattle.reader.specs.declared.Starts.{Starts}
use Rattle.reader.specs.declared.Reader.{Reader}
use Rattle.reader.specs.LentFile.{starts_of, part_in, IsPart, Opens, Gives}
use Rattle.reader.proofs.SectionStarts.{Begins, begins}

module _ (l at n k : ℕ) where
  says_in : Says (ltb k n && leb (at + record_size * k + record_size) l) ((k < n) × (at + record_size * k + record_size ≤ l))
  says_in = says_and (says_ltb k n) (says_leb (at + record_size * k + record_size) l)

  pub part_there : k < n → at + record_size * k + record_size ≤ l → part_in l at n k ≡ record { from = at + record_size * k; size = record_size }
  unfolding part_in
  part_there h t = rw (says_true says_in (h, t))

  pub part_missing : ¬ ((k < n) × (at + record_size * k + record_size ≤ l)) → part_in l at n k ≡ empty_part
  unfolding part_in
  part_missing h = rw (says_false says_in h)

-- what is returned is the part
module _ (r file : Bor (List ℕ)) (l at n k : ℕ) where
  pub is_front : ¬ ((k < n) × (at + record_size * k + record_size ≤ l)) → r.now ≡ take 0 file.now → r.ref_ptr ≡ file.ref_ptr → IsPart r file (part_in l at n k)
  is_front h e p =
      rw (part_missing l at n k h) (record { bytes = e; block = ap (λ x. x.0) p; place = let z : r.ref_ptr.1 ≡ file.ref_ptr.1 = ap (λ x. x.1) p in omega arith })

  pub is_there : k < n → at + record_size * k + record_size ≤ l → {e : ℕ} → e ≡ at + record_size * k + record_size
      → r.now ≡ take (e - (at + record_size * k)) (drop (at + record_size * k) file.now) → r.ref_ptr.0 ≡ file.ref_ptr.0 → r.ref_ptr.1 ≡ at + record_size * k + file.ref_ptr.1
      → IsPart r file (part_in l at n k)
  is_there h t {e} z q p o =
      let w : e - (at + record_size * k) ≡ record_size = omega arith in
      rw (part_there l at n k h t)
      (record { bytes = q ∙ ap (λ m. take m (drop (at + record_size * k) file.now)) w; block = p; place = omega arith })

-- Record k of a file is record k of those that begin where its records begin.
module _ (b : List ℕ) (k : ℕ) where
  of_whole : {h : Head} {ρ : Run} → Tells b h ρ → (t : Bool) → ltb k (length ρ.records) ≡ t → part_in (length b) h.records_at h.records k ≡ part_if t ρ k
  of_whole {h} {ρ} T true q =
      let l = ltb-true k (length ρ.records) q in
      let n = tells_task_count T in
      let m = tells_count T in
      let p = tells_place T in
      let place : h.records_at + record_size * k ≡ record_place ρ k = omega arith in
      part_there (length b) h.records_at h.records k (omega arith) (omega (arith, tells_size T)) ∙ (λ κ. record { from = place κ; size = record_size })
  of_whole {h} {ρ} T false q =
      part_missing (length b) h.records_at h.records k (λ l. (says_ltb k (length ρ.records)).refutes q (omega (arith, l.0, tells_count T)))

  part_is : {s : Starts} → s ≡ starts_of (read b) → part_in (length b) s.records s.count k ≡ record_part b k
  unfolding record_part
  part_is {s} e = go (begins b e)
    where
      go : Begins b s → part_in (length b) s.records s.count k ≡ record_part_of (read b) k
      go (Begins.refused_file q z) = rw (q, z) (part_missing (length b) 0 0 k (λ h. omega (arith, h.0)))
      go (Begins.whole_file {h} {ρ} T z) = rw (T.reads, z) (of_whole T (ltb k (length ρ.records)) refl)

-- what is returned of a file is its record k
is_record : (k : ℕ) {r file : Bor (List ℕ)} {s : Starts} → s ≡ starts_of (read file.now) → IsPart r file (part_in (length file.now) s.records s.count k)
    → IsPart r file (record_part file.now k)
is_record k {r} {file} {s} e = subst (IsPart r file) (part_is file.now k e)

-- what a reader of a file gives is the file's record k
pub gives_record : (k : ℕ) {file s : Bor (List ℕ)} {r : Reader} → Opens file r → Gives r k s → IsPart s file (record_part file.now k)
gives_record k {file} {s} {r} (same, starts) g =
    is_record k starts (subst (λ (x : Bor (List ℕ)). IsPart s x (part_in (length x.now) r.starts.records r.starts.count k)) same g)
