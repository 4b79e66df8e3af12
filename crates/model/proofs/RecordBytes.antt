-- A record's 24 bytes are those of its six numbers, in every file of bytes that is not refused; and the file of the run that such a file
-- tells is that file. Assumes nothing.
use Prim.Native.Nat.{ℕ, zero, suc, ◌+◌, ◌*◌, ◌/◌, ◌%◌, ◌≤◌, ◌<◌}
use mathlib.Core.Path.{◌≡◌, refl, sym, ◌∙◌, ap}
use mathlib.Core.List.{List, [], ◌∷◌, ◌++◌}
use native.Mathlib.Omega.{arith}
use native.Mathlib.Nat.{div-div-eq-div-mul, mod-eq_of_lt, mul-suc}
use lib.ListN.{length, get_or, take, drop}
use lib.Seq.{drop-cons, take_all}
use Rattle.base.proofs.Test.{says_ltb, says_true}
use Rattle.model.specs.Model.{Run, IsRecord, rec}
use Rattle.model.specs.File.{Bytes, num, bytes4, bytes_of, setting_numbers, task_numbers, record_numbers, joined, task_at, record_at, tasks_in, run_at, bytes, entries, whole, read, part_of, record_part, record_place, tasks_place, records_place, task_size, record_size, size_of}
use Rattle.model.specs.Refusals.{run_in}
use Rattle.model.proofs.Reading.{read_records_lem, read_length, read_is, length-entries}
use Rattle.model.proofs.Refusals.{told_exactly_when}

-- What is written is of bytes.
-- ----------------------------
numbers_are_bytes : (vs : List ℕ) → Bytes (bytes_of vs)
numbers_are_bytes [] i = omega arith
numbers_are_bytes (v ∷ vs) zero = omega arith
numbers_are_bytes (v ∷ vs) (suc zero) = omega arith
numbers_are_bytes (v ∷ vs) (suc (suc zero)) = omega arith
numbers_are_bytes (v ∷ vs) (suc (suc (suc zero))) = omega arith
numbers_are_bytes (v ∷ vs) (suc (suc (suc (suc i)))) = numbers_are_bytes vs i

pub written_are_bytes : (ρ : Run) → Bytes (bytes ρ)
unfolding bytes
written_are_bytes ρ =
    numbers_are_bytes
    (2 ∷ setting_numbers ρ.setting
    ++ (length ρ.tasks ∷ joined task_numbers ρ.tasks)
    ++ (length ρ.records ∷ joined record_numbers ρ.records))

-- Four bytes are those of their number.
-- -------------------------------------
low : (w m : ℕ) → w < 256 → (w + 256 * m) % 256 ≡ w
low w m h = omega arith

high : (w m : ℕ) → w < 256 → (w + 256 * m) / 256 ≡ m
high w m h = omega arith

digits : (w x y z : ℕ) → w < 256 → x < 256 → y < 256 → z < 256 → bytes4 (w + 256 * x + 65536 * y + 16777216 * z) ≡ w ∷ x ∷ y ∷ z ∷ []
digits w x y z hw hx hy hz =
    let v : ℕ = w + 256 * x + 65536 * y + 16777216 * z in
    let v₁ : ℕ = x + 256 * (y + 256 * z) in
    let c : v ≡ w + 256 * v₁ = omega arith in
    let d : v / 256 ≡ v₁ = ap (λ n. n / 256) c ∙ high w v₁ hw in
    let e : v / 65536 ≡ y + 256 * z = sym (div-div-eq-div-mul v 256 256) ∙ ap (λ n. n / 256) d ∙ high x (y + 256 * z) hx in
    let f : v / 16777216 ≡ z = sym (div-div-eq-div-mul v 65536 256) ∙ ap (λ n. n / 256) e ∙ high y z hy in
    let p : v % 256 ≡ w = ap (λ n. n % 256) c ∙ low w v₁ hw in
    let q : v / 256 % 256 ≡ x = ap (λ n. n % 256) d ∙ low x (y + 256 * z) hx in
    let r : v / 65536 % 256 ≡ y = ap (λ n. n % 256) e ∙ low y z hy in
    let s : v / 16777216 % 256 ≡ z = ap (λ n. n % 256) f ∙ mod-eq_of_lt hz in
    λ κ. p κ ∷ q κ ∷ r κ ∷ s κ ∷ []

module _ (b : List ℕ) (B : Bytes b) where
  byte : (i j : ℕ) → i < length b → suc i ≡ j → drop i b ≡ get_or b i 0 ∷ drop j b
  byte i j h e = drop-cons b i 0 h ∙ ap (λ n. get_or b i 0 ∷ drop n b) e

  four : (i : ℕ) → i + 4 ≤ length b → drop i b ≡ bytes4 (num b i) ++ drop (i + 4) b
  four i h =
      let e = digits _ _ _ _ (B i) (B (i + 1)) (B (i + 2)) (B (i + 3)) in
      let p = byte i (i + 1) (omega arith) (omega arith) in
      let q = byte (i + 1) (i + 2) (omega arith) (omega arith) in
      let r = byte (i + 2) (i + 3) (omega arith) (omega arith) in
      let s = byte (i + 3) (i + 4) (omega arith) (omega arith) in
      p
      ∙ ap (λ l. get_or b i 0 ∷ l) (q ∙ ap (λ l. get_or b (i + 1) 0 ∷ l) (r ∙ ap (λ l. get_or b (i + 2) 0 ∷ l) s))
      ∙ ap (λ l. l ++ drop (i + 4) b) (sym e)

  numbers : (n i : ℕ) → i + 4 * n ≤ length b → take (4 * n) (drop i b) ≡ bytes_of (entries (num b) 4 i n)
  numbers zero i h = refl
  numbers (suc n) i h =
      let e : 4 * suc n ≡ suc (suc (suc (suc (4 * n)))) = omega arith in
      ap (λ m. take m (drop i b)) e
      ∙ ap (take (suc (suc (suc (suc (4 * n)))))) (four i (omega arith))
      ∙ ap (λ l. bytes4 (num b i) ++ l) (numbers n (i + 4) (omega arith))

  -- the numbers of a record, and of a task, from a place on
  record_numbers_at : (i : ℕ) → entries (num b) 4 i 6 ≡ record_numbers (record_at b i)
  record_numbers_at i =
      let p : i + 4 + 4 ≡ i + 8 = omega arith in
      let q : i + 4 + 4 + 4 ≡ i + 12 = omega arith in
      let r : i + 4 + 4 + 4 + 4 ≡ i + 16 = omega arith in
      let s : i + 4 + 4 + 4 + 4 + 4 ≡ i + 20 = omega arith in
      λ κ. num b i ∷ num b (i + 4) ∷ num b (p κ) ∷ num b (q κ) ∷ num b (r κ) ∷ num b (s κ) ∷ []

  task_numbers_at : (i : ℕ) → entries (num b) 4 i 5 ≡ task_numbers (task_at b i)
  task_numbers_at i =
      let p : i + 4 + 4 ≡ i + 8 = omega arith in
      let q : i + 4 + 4 + 4 ≡ i + 12 = omega arith in
      let r : i + 4 + 4 + 4 + 4 ≡ i + 16 = omega arith in
      λ κ. num b i ∷ num b (i + 4) ∷ num b (p κ) ∷ num b (q κ) ∷ num b (r κ) ∷ []

  -- the bytes of a record from a place on
  record_bytes_at : (i : ℕ) → i + record_size ≤ length b → take record_size (drop i b) ≡ bytes_of (record_numbers (record_at b i))
  record_bytes_at i h = numbers 6 i (omega arith) ∙ ap bytes_of (record_numbers_at i)

  -- the bytes of record k are those of its numbers
  pub record_bytes : (ρ : Run) → read b ≡ whole ρ → (k : ℕ) → IsRecord ρ k → part_of b (record_part b k) ≡ bytes_of (record_numbers (rec ρ k))
  unfolding record_part
  record_bytes ρ e k h =
      let t = says_true (says_ltb k (length ρ.records)) h in
      rw (e, t) (record_bytes_at (record_place ρ k) (omega (arith, read_length b ρ e)) ∙ ap (λ x. bytes_of (record_numbers x)) (sym (read_records_lem b ρ e k h)))

  -- The file of the run that a file tells is that file.
  -- ----------------------------------------------------

  -- some numbers, and those after them
  numbers_on : (j k i : ℕ) → entries (num b) 4 i (j + k) ≡ entries (num b) 4 i j ++ entries (num b) 4 (i + 4 * j) k
  numbers_on zero k i = let p : 0 + k ≡ k = omega arith in let q : i + 4 * 0 ≡ i = omega arith in rw (p, q)
  numbers_on (suc j) k i =
      let p : suc j + k ≡ suc (j + k) = omega arith in
      let q : i + 4 + 4 * j ≡ i + 4 * suc j = omega arith in
      ap (entries (num b) 4 i) p ∙ ap (λ l. num b i ∷ l) (numbers_on j k (i + 4) ∙ ap (λ o. entries (num b) 4 (i + 4) j ++ entries (num b) 4 o k) q)

  -- the numbers of entries of w numbers each
  entries_numbers : {A : Type 0} (f : A → List ℕ) (entry : ℕ → A) (w : ℕ) → ((i : ℕ) → entries (num b) 4 i w ≡ f (entry i)) → (i n : ℕ)
      → joined f (entries entry (4 * w) i n) ≡ entries (num b) 4 i (w * n)
  entries_numbers f entry w is i zero = let p : w * 0 ≡ 0 = omega arith in rw p
  entries_numbers f entry w is i (suc n) =
      let p : w * suc n ≡ w + w * n = omega (arith, mul-suc w n) in
      ap (λ l. l ++ joined f (entries entry (4 * w) (i + 4 * w) n)) (sym (is i))
      ∙ ap (λ l. entries (num b) 4 i w ++ l) (entries_numbers f entry w is (i + 4 * w) n)
      ∙ sym (numbers_on w (w * n) i)
      ∙ ap (entries (num b) 4 i) (sym p)

  abbrev n : ℕ
  n = num b tasks_place

  abbrev m : ℕ
  m = num b (records_place n)

  -- its numbers, from the tasks' count on
  tasks_on : joined task_numbers (tasks_in b n) ++ (m ∷ joined record_numbers (entries (record_at b) record_size (records_place n + 4) m))
      ≡ entries (num b) 4 (tasks_place + 4) (5 * n + (1 + 6 * m))
  tasks_on =
      let tasks = entries_numbers task_numbers (task_at b) 5 task_numbers_at (tasks_place + 4) n in
      let records = entries_numbers record_numbers (record_at b) 6 record_numbers_at (records_place n + 4) m in
      let place : tasks_place + 4 + 4 * (5 * n) ≡ records_place n = omega arith in
      let more : 1 + 6 * m ≡ suc (6 * m) = omega arith in
      (λ κ. tasks κ ++ (m ∷ records κ))
      ∙ ap (λ l. entries (num b) 4 (tasks_place + 4) (5 * n) ++ l) (λ κ. entries (num b) 4 (sym place κ) (sym more κ))
      ∙ sym (numbers_on (5 * n) (1 + 6 * m) (tasks_place + 4))

  pub bytes_back : (ρ : Run) → read b ≡ whole ρ → bytes ρ ≡ b
  unfolding bytes run_at run_in
  bytes_back ρ reads =
      let same : run_in b ≡ ρ = read_is b ρ reads in
      let two : num b 0 ≡ 2 = ((told_exactly_when b).0 (reads ∙ ap whole (sym same))).1.0 in
      let tasks : length (tasks_in b n) ≡ n = length-entries (task_at b) task_size (tasks_place + 4) n in
      let records : length (entries (record_at b) record_size (records_place n + 4) m) ≡ m = length-entries (record_at b) record_size (records_place n + 4) m in
      let long : length b ≡ size_of n m = read_length b (run_in b) (reads ∙ ap whole (sym same)) ∙ (λ κ. size_of (tasks κ) (records κ)) in
      let count : 4 + (5 * n + (1 + 6 * m)) ≡ suc (suc (suc (suc (5 * n + (1 + 6 * m))))) = omega arith in
      let all : take (4 * (4 + (5 * n + (1 + 6 * m)))) (drop 0 b) ≡ b = take_all (4 * (4 + (5 * n + (1 + 6 * m)))) b (omega arith) in
      ap bytes (sym same)
      ∙ (λ κ.
      bytes_of
      (sym two κ ∷ num b 4 ∷ num b 8 ∷ tasks κ ∷ (joined task_numbers (tasks_in b n) ++ (records κ ∷ joined record_numbers (entries (record_at b) record_size (records_place n + 4) m)))))
      ∙ ap (λ l. bytes_of (num b 0 ∷ num b 4 ∷ num b 8 ∷ n ∷ l)) tasks_on
      ∙ ap (λ k. bytes_of (entries (num b) 4 0 k)) (sym count)
      ∙ sym (numbers (4 + (5 * n + (1 + 6 * m))) 0 (omega arith))
      ∙ all
