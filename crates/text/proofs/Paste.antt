-- Bytes pasted one after the other are pasted together, a number with a byte takes few, and five numbers are the line. Assumes nothing.
use Prim.Native.Nat.{ℕ, ◌+◌, ◌≤◌, ◌<◌}
use mathlib.Core.Path.{◌≡◌, refl, sym, ◌∙◌, ap}
use mathlib.Core.List.{List, [], ◌∷◌, ◌++◌, append_assoc, append-nil}
use native.Mathlib.Nat.{add-zero}
use native.Mathlib.Numerals.{add-one}
use native.Mathlib.Omega.{arith}
use lib.ListN.{length, set, take, drop, length-append, length-set, length-drop, take-append-drop}
use lib.Seq.{set_split, take_at, drop-append-add, drop-drop, length-take-le}
use borrow.Rule.Slice.PartMut.{put_mid}
use Rattle.model.specs.Report.{decimal, line}
use Rattle.decimal.proofs.Decimal.{length-decimal}
use Rattle.text.specs.Paste.{pasted, Wrote}

pub pasted_set : (s : List ℕ) (i b : ℕ) → i < length s → set s i b ≡ pasted s i (b ∷ [])
unfolding pasted
pasted_set s i b h = set_split s i b h ∙ rw (add-one, append_assoc)

pub pasted_more : (s : List ℕ) (i j : ℕ) (xs ys : List ℕ) → j ≡ i + length xs → i + length xs ≤ length s → pasted (pasted s i xs) j ys ≡ pasted s i (xs ++ ys)
unfolding pasted
pasted_more s i j xs ys e h =
    let rest : List ℕ = drop (i + length xs) s in
    let l : length (take i s ++ xs) ≡ j = length-append (take i s) xs ∙ ap (λ n. n + length xs) (length-take-le i s (omega arith)) ∙ sym e in
    let p : take j (take i s ++ xs ++ rest) ≡ take i s ++ xs = take_at (take i s ++ xs) rest j l in
    let q : drop (j + length ys) (take i s ++ xs ++ rest) ≡ drop (length ys) rest = ap (λ n. drop (n + length ys) (take i s ++ xs ++ rest)) (sym l) ∙ drop-append-add (take i s ++ xs) rest (length ys) in
    let o : i + length xs + length ys ≡ i + length (xs ++ ys) = omega (arith, length-append xs ys) in
    let r : drop (length ys) rest ≡ drop (i + length (xs ++ ys)) s = drop-drop (length ys) (i + length xs) s ∙ ap (λ n. drop n s) o in
    rw (p, q, r, append_assoc (take i s) xs ys)

pub wrote_byte : (s : List ℕ) (i b : ℕ) → i < length s → Wrote s i (b ∷ []) (set s i b) (i + 1)
wrote_byte s i b h = record { place = refl; text = pasted_set s i b h; long = length-set s i b }

pub wrote_more : {s t u xs ys : List ℕ} {i j k : ℕ} → Wrote s i xs t j → Wrote t j ys u k → j ≤ length s → Wrote s i (xs ++ ys) u k
wrote_more {s} {t} {u} {xs} {ys} {i} {j} {k} w v h = record {
  place = omega (arith, length-append xs ys);
  text = v.text ∙ rw w.text (pasted_more s i j xs ys w.place (omega arith));
  long = v.long ∙ w.long;
}

-- nothing yet
pub wrote_none : (s : List ℕ) {i j : ℕ} → j ≡ i → Wrote s i [] s j
unfolding pasted
wrote_none s {i} e = record { place = omega arith; text = rw (append-nil, add-zero) (sym (take-append-drop i s)); long = refl }

-- several bytes, as a part of a slice is copied into
pub wrote_bytes : (s : List ℕ) (i k : ℕ) (bs : List ℕ) → k ≡ length bs → i + length bs ≤ length s → Wrote s i bs (put_mid i k s bs) (i + length bs)
unfolding pasted
wrote_bytes s i k bs e h = record {
  place = refl;
  text = rw (e, drop-drop (length bs) i s, append_assoc (take i s) bs (drop (i + length bs) s));
  long = simp (length-append, length-drop) (omega (arith, length-take-le i s (omega arith)));
}

-- a number and a byte after it are at most eleven bytes
pub wrote_few : {s t : List ℕ} {i j : ℕ} (v b : ℕ) → Wrote s i (decimal v ++ (b ∷ [])) t j → j ≤ i + 11
wrote_few v b w = omega (arith, length-append (decimal v) (b ∷ []), length-decimal v)

pub room_few : (v i n : ℕ) → i + 11 ≤ n → i + length (decimal v) + 1 ≤ n
room_few v i n h = omega (arith, length-decimal v)

pub wrote_line : {s t : List ℕ} {j : ℕ} (v u x y z : ℕ) → Wrote s 0 ((decimal v ++ (32 ∷ [])) ++ (decimal u ++ (32 ∷ [])) ++ (decimal x ++ (32 ∷ [])) ++ (decimal y ++ (32 ∷ [])) ++ (decimal z ++ (10 ∷ []))) t j → (j ≡ length (line (v ∷ u ∷ x ∷ y ∷ z ∷ []))) × (t ≡ pasted s 0 (line (v ∷ u ∷ x ∷ y ∷ z ∷ [])))
wrote_line v u x y z w = let l = simp append_assoc at w in (omega arith, l.text)
