-- The records of a file by start and then by place: read out of a column of keys, of the run that the file tells, and as long as the table of
-- the records as they stand. Assumes nothing.
use Prim.Native.Nat.{ℕ, zero, suc, ◌+◌, ◌*◌, ◌<◌}
use mathlib.Core.Path.{◌≡◌, refl, sym, ◌∙◌, ap}
use mathlib.Core.Bool.{Bool, true, false}
use mathlib.Core.List.{List, [], ◌∷◌, map}
use native.Mathlib.Omega.{arith}
use lib.ListN.{length, get_or, length-append, get_or-map}
use Rattle.base.specs.Fill.{Fills}
use Rattle.model.specs.File.{joined, record_at, record_size}
use Rattle.model.specs.Model.{Run, rec, no_record}
use Rattle.model.proofs.Reading.{entries_at}
use Rattle.sorting.specs.Sorted.{Each, each_none, each_more, inserted, sorted_by, up_to, key_before, by_key}
use Rattle.sorting.proofs.Sorted.{by_key_agree}
use Rattle.exchange.specs.RecordLine.{header, record_line, table_of}
use Rattle.exchange.specs.Export.{by_start, exported}
use Rattle.exchange.proofs.ExportedLines.{lines_within}
use Rattle.openfile.specs.declared.head.Head.{Head}
use Rattle.openfile.specs.Head.{Tells}
use Rattle.openfile.proofs.WholeOrRefused.{tells_count, tells_records, tells_record}
use Rattle.exportfile.specs.LinesOf.{record_of, records_at, table_by, start_of, start_order}

-- Lines in another order.
-- -----------------------
module _ {A B : Type 0} (before : A → A → Bool) (g : A → B) (f : B → List ℕ) where
  abbrev long : List A → ℕ
  long l = length (joined f (map g l))

  long_more : (a : A) (l : List A) → long (a ∷ l) ≡ length (f (g a)) + long l
  long_more a l = length-append (f (g a)) (joined f (map g l))

  inserted_long : (a : A) (l : List A) → long (inserted before a l) ≡ length (f (g a)) + long l
  unfolding inserted
  inserted_long a [] = long_more a []
  inserted_long a (b ∷ l) = go (before a b) (inserted_long a l)
    where
      go : (t : Bool) → long (inserted before a l) ≡ length (f (g a)) + long l
          → long (elim t [ true ↦ a ∷ b ∷ l | false ↦ b ∷ inserted before a l ]) ≡ length (f (g a)) + long (b ∷ l)
      go true e = long_more a (b ∷ l)
      go false e = omega (arith, long_more b (inserted before a l), long_more b l)

  sorted_long : (l : List A) → long (sorted_by before l) ≡ long l
  unfolding sorted_by
  sorted_long [] = refl
  sorted_long (a ∷ l) = omega (arith, inserted_long a (sorted_by before l), sorted_long l, long_more a l)

-- The records that begin at a place.
-- ----------------------------------
module _ (b : List ℕ) (at : ℕ) where
  up_from : (j n : ℕ) → map (record_of b at) (up_to j n) ≡ records_at b (at + record_size * j) n
  up_from j zero = refl
  up_from j (suc n) =
      let e : at + record_size * suc j ≡ at + record_size * j + record_size = omega arith in
      ap (λ l. record_of b at j ∷ l) (up_from (suc j) n ∙ ap (λ i. records_at b i n) e)

  up_records : (n : ℕ) → map (record_of b at) (up_to 0 n) ≡ records_at b at n
  up_records n = let e : at + record_size * 0 ≡ at = omega arith in up_from 0 n ∙ ap (λ i. records_at b i n) e

  pub order_size : (n : ℕ) → length (table_by b at (start_order b at n)) ≡ length (table_of (records_at b at n))
  unfolding start_order by_key
  order_size n =
      let keys = map (λ x. x.start) (records_at b at n) in
      length-append header (joined record_line (map (record_of b at) (sorted_by (key_before keys) (up_to 0 n))))
      ∙ ap (λ k. length header + k) (sorted_long (key_before keys) (record_of b at) record_line (up_to 0 n))
      ∙ ap (λ xs. length header + length (joined record_line xs)) (up_records n)
      ∙ sym (length-append header (joined record_line (records_at b at n)))

  -- out of a column of their starts
  pub start_order_lem : {s keys : List ℕ} {n : ℕ} → Fills s 0 n (start_of b at) keys → by_key keys n ≡ start_order b at n
  unfolding start_order
  start_order_lem {s} {keys} {n} F = by_key_agree keys (map (λ x. x.start) (records_at b at n)) n same
    where
      same : (k : ℕ) → k < n → get_or keys k 0 ≡ get_or (map (λ x. x.start) (records_at b at n)) k 0
      same k h =
          let z : 0 + k ≡ k = omega arith in
          ap (λ i. get_or keys i 0) (sym z)
          ∙ F.here k h
          ∙ ap (λ x. x.start) (sym (entries_at (record_at b) record_size at n k no_record h))
          ∙ sym (get_or-map (λ x. x.start) (records_at b at n) k no_record)

-- Of the run that the file tells.
-- -------------------------------
map_where : {A B : Type 0} {P : A → Type 0} {l : List A} (f g : A → B) → Each P l → ((a : A) → P a → f a ≡ g a) → map f l ≡ map g l
map_where f g each_none e = refl
map_where f g (each_more {a = a} h u) e = let p = e a h in let q = map_where f g u e in λ κ. p κ ∷ q κ

module _ {b : List ℕ} {h : Head} {ρ : Run} (T : Tells b h ρ) where
  order_told : start_order b h.records_at h.records ≡ by_start ρ
  unfolding start_order by_start
  order_told = let r = tells_records T in let n = tells_count T in λ κ. by_key (map (λ x. x.start) (sym r κ)) (n κ)

  pub exported_told : table_by b h.records_at (start_order b h.records_at h.records) ≡ exported ρ
  unfolding exported
  exported_told =
      ap (table_by b h.records_at) order_told
      ∙ ap table_of (map_where (record_of b h.records_at) (rec ρ) (lines_within ρ)
      (λ k l. sym (tells_record T k (omega (arith, tells_count T)))))
