-- An order by key is one by task and job: the records in that order are those of the imported run, and fill its table. Assumes nothing.
use Prim.Native.Nat.{ℕ, ◌+◌, ◌*◌, ◌<◌}
use mathlib.Core.Path.{◌≡◌, refl, sym, ◌∙◌, ap, subst}
use mathlib.Core.Logic.{inl, inr}
use mathlib.Core.List.{List}
use native.Mathlib.Omega.{arith}
use native.Mathlib.Decide.{dec_lt}
use lib.ListN.{length, get_or, length-map}
use Rattle.std.proofs.lemmas.List.{get_or-map}
use Rattle.base.specs.Fill.{Fills}
use Rattle.model.specs.declared.record.Record.{Record}
use Rattle.model.specs.declared.task.Task.{Task}
use Rattle.model.specs.Model.{Run, no_record, rec}
use Rattle.openfile.specs.declared.head.Head.{Head}
use Rattle.openfile.specs.Head.{Leads}
use Rattle.openfile.proofs.Leading.{leads_same}
use Rattle.openfile.proofs.WholeOrRefused.{tells_limits, tells_setting, tells_task_count}
use Rattle.sorting.specs.Sorted.{SameEntries, Rises, KeyBefore, by_key}
use Rattle.sorting.proofs.Entries.{same_map, same_length}
use Rattle.sorting.proofs.Rising.{each_at, rises_at_lem, rises_map}
use Rattle.sorting.proofs.Sorted.{by_key_same, by_key_rises, order_within}
use Rattle.sorting.proofs.UpTo.{map_up}
use Rattle.table.specs.Table.{Lent, recorded, columns}
use Rattle.table.proofs.LentLaws.{lent_none}
use Rattle.writing.specs.RunOfTable.{Tabled}
use Rattle.exchange.specs.TextTable.{Taken}
use Rattle.exchange.specs.Import.{JobBefore, imported}
use Rattle.exchange.proofs.ImportedRun.{imported_only, imported_same, imported_within}
use Rattle.importfile.specs.Importable.{key_in, NumbersOf, in_order, Importable}

-- record k of a run whose records are those of an order
pub picked : (σ : Run) (xs : List Record) (order : List ℕ) (k : ℕ) → σ.records ≡ in_order xs order → k < length order
    → rec σ k ≡ get_or xs (get_or order k 0) no_record
picked σ xs order k e h = ap (λ l. get_or l k no_record) e ∙ get_or-map (λ i. get_or xs i no_record) order k 0 no_record h

-- The order by key.
-- -----------------
module _ {xs : List Record} (W : Taken xs) {ks keys order : List ℕ} (F : Fills ks 0 (length xs) (key_in xs) keys) (e : order ≡ by_key keys (length xs)) where
  key_at : (k : ℕ) → k < length xs → get_or keys k 0 ≡ key_in xs k
  key_at k h = let z : 0 + k ≡ k = omega arith in ap (λ i. get_or keys i 0) (sym z) ∙ F.here k h

  -- a smaller key is an earlier job, and no two have one key
  key_tells : (a c : ℕ) → a < length xs → c < length xs → KeyBefore keys a c → JobBefore (get_or xs a no_record) (get_or xs c no_record)
  key_tells a c h k (inl l) = go (dec_lt (get_or xs a no_record).task (get_or xs c no_record).task)
    where
      go : Dec ((get_or xs a no_record).task < (get_or xs c no_record).task) → JobBefore (get_or xs a no_record) (get_or xs c no_record)
      go (yes u) = inl u
      go (no u) =
          let fa = each_at W.fit a no_record h 1 in
          let fc = each_at W.fit c no_record k 1 in
          let p = key_at a h in
          let q = key_at c k in
          inr (omega (arith, u), omega (arith, u))
  key_tells a c h k (inr (e, l)) =
      let fa = each_at W.fit a no_record h 1 in
      let fc = each_at W.fit c no_record k 1 in
      let p = key_at a h in
      let q = key_at c k in
      let s : (get_or xs a no_record).task ≡ (get_or xs c no_record).task = omega arith in
      let t : (get_or xs a no_record).job ≡ (get_or xs c no_record).job = omega arith in
      absurd (rises_at_lem W.apart a c no_record l k (λ κ. (s κ, t κ)))

  pub numbers_of : NumbersOf xs order
  numbers_of k h = subst (λ (o : List ℕ). k < length o → get_or o k 0 < length xs) (sym e) (each_at (order_within keys (length xs)) k 0) h

  -- the records of the imported run, in the order
  pub in_rows : (ρ : Run) → (imported ρ xs).records ≡ in_order xs order
  in_rows ρ =
      let n : ℕ = length xs in
      let pick : ℕ → Record = λ k. get_or xs k no_record in
      imported_only ρ xs W (in_order xs order)
      (subst (λ o. Rises JobBefore (in_order xs o)) (sym e) (rises_map pick (order_within keys n) key_tells (by_key_rises keys n)))
      (subst (λ o. SameEntries xs (in_order xs o)) (sym e)
      (subst (λ ys. SameEntries ys (in_order xs (by_key keys n))) (map_up xs no_record) (same_map pick (by_key_same keys n))))

-- What is handed on to the file: the run that stands in the table.
module _ {b : List ℕ} {h : Head} {xs : List Record} {room : ℕ} {ρ : Run} (I : Importable b h xs room ρ) where
  pub tabled : (order : List ℕ) {l : List Task} {t t' : List ℕ} → (imported ρ xs).records ≡ in_order xs order → length t ≡ columns * length xs
      → ((σ : Run) → σ.records ≡ in_order xs order → Lent 0 σ t (length order) → Lent recorded σ t' (length order)) → Leads ρ l
      → Tabled h h.setting.horizon l t' (length xs) (imported ρ xs)
  unfolding imported
  tabled order {l} {t} {t'} e long lay L =
      let count : length (imported ρ xs).records ≡ length order = ap length e ∙ length-map order (λ k. get_or xs k no_record) in
      let many : length xs ≡ length order = same_length (imported_same ρ xs) ∙ count in
      let none : Lent 0 (imported ρ xs) t (length order) = lent_none (imported_within ρ xs I.taken (tells_limits I.tells)) (sym count) (omega arith) in
      record {
        setting = sym (tells_setting I.tells);
        task_total = tells_task_count I.tells;
        tasks = leads_same refl L;
        table = subst (λ n. Lent recorded (imported ρ xs) t' n) (sym many) (lay (imported ρ xs) e none);
      }
