-- Whether records rise strictly: of those of a file record by record, and of the run that the file tells.
-- Assumes nothing.
use Rattle.std.specs.List.{IsAllAdjacentAnswer}
use Prim.Native.Nat.{ℕ, suc, ◌+◌, ◌-◌, ◌≤◌, ◌<◌}
use mathlib.Core.Path.{◌≡◌, refl, sym, ◌∙◌, ap}
use mathlib.Core.Bool.{Bool, true, false, not, true≢false}
use mathlib.Core.List.{List}
use native.Mathlib.Numerals.{add-one}
use native.Mathlib.Omega.{arith}
use lib.ListN.{length, get_or}
use Rattle.base.specs.Find.{first, found}
use Rattle.base.proofs.Find.{Answer, answer}
use Rattle.base.proofs.Loop.{first_miss}
use Rattle.base.proofs.Same.{first_same}
use Rattle.model.specs.declared.record.Record.{Record}
use Rattle.model.specs.Model.{Run, rec}
use Rattle.exchange.specs.Import.{job_before}
use Rattle.exchange.specs.Export.{rise}
use Rattle.openfile.specs.declared.head.Head.{Head}
use Rattle.openfile.specs.Head.{Tells}
use Rattle.openfile.proofs.WholeOrRefused.{tells_count, tells_record}
use Rattle.exportfile.specs.LinesOf.{record_of, stays, rises_at}

-- The first records of those that begin at a place, of which each goes before the next or one does not.
module _ (b : List ℕ) (at : ℕ) (xs : List Record) (d : Record) (is : (k : ℕ) → k < length xs → get_or xs k d ≡ record_of b at k) where
  neighbours : (k : ℕ) → k + 1 < length xs → {t : Bool} → job_before (get_or xs k d) (get_or xs (k + 1) d) ≡ t
      → stays b at k ≡ not t
  unfolding stays
  neighbours k l e =
      let p = is k (omega arith) in
      let q = is (k + 1) l in
      ap not ((λ κ. job_before (sym p κ) (sym q κ)) ∙ e)

  pub rise_said : (n : ℕ) (r : Bool) → length xs ≤ n → (r ≡ true → length xs ≡ n) → IsAllAdjacentAnswer (λ x y t. job_before x y ≡ t) xs r
      → r ≡ rises_at b at n
  unfolding rises_at
  rise_said n true few all h =
      let long = all refl in
      ap (λ o. not (found o))
      (first_miss (stays b at) 0 (n - 1) {k = n - 1} (omega arith)
      (record { below = λ j u v. neighbours j (omega arith) (h j d (omega arith)) }))
  rise_said n false few all (k, l, h) = go (answer (stays b at) (n - 1) 0)
    where
      go : Answer (stays b at) 0 (n - 1) → false ≡ not (found (first (stays b at) 0 (n - 1)))
      go (Answer.nothing q g) = absurd (true≢false (sym (neighbours k l (h d)) ∙ g k (omega arith) (omega arith)))
      go (Answer.finds j q u v e g) = ap (λ o. not (found o)) (sym q)

module _ {b : List ℕ} {h : Head} {ρ : Run} (T : Tells b h ρ) where
  pub rise_told : rises_at b h.records_at h.records ≡ rise ρ
  unfolding rises_at stays rise
  rise_told =
      ap (λ o. not (found o))
      (first_same (stays b h.records_at) next (h.records - 1) 0 same ∙ ap (λ n. first next 0 (n - 1)) (tells_count T))
    where
      next : ℕ → Bool
      next k = not (job_before (rec ρ k) (rec ρ (suc k)))

      same : (k : ℕ) → k < 0 + (h.records - 1) → stays b h.records_at k ≡ next k
      same k l =
          let p = tells_record T k (omega arith) in
          let q = tells_record T (k + 1) (omega arith) in
          (λ κ. not (job_before (sym p κ) (sym q κ))) ∙ rw add-one
