-- What four stores leave, and what numbers leave that are put one after the other at the front of a slice. Assumes nothing.
use Prim.Native.Nat.{ℕ, ◌+◌, ◌*◌, ◌/◌, ◌%◌, ◌≤◌, ◌<◌}
use mathlib.Core.Path.{◌≡◌, refl, sym, ◌∙◌, ap}
use mathlib.Core.List.{List, [], ◌∷◌, ◌++◌}
use native.Mathlib.Numerals.{add-one, add-two, add-three}
use lib.Bits.{bit_and, and_mask}
use lib.ListN.{length, set, drop, length-append}
use lib.Pow.{shr_mod}
use lib.Seq.{sets-eq, take_at, drop-append-add, drop-drop}
use Rattle.model.specs.File.{bytes4, bytes_of}
use Rattle.model.specs.Answers.{Five}
use Rattle.model.specs.Calls.{front, numbers, written}
use Rattle.model.proofs.RoundTrip.{length_bytes_of}
use Rattle.wire.specs.Put.{put}

pub put_sets : (s : List ℕ) (i v : ℕ) → i + 4 ≤ length s
    → set (set (set (set s i (v % 256)) (i + 1) (v / 256 % 256)) (i + 2) (v / 65536 % 256)) (i + 3) (v / 16777216 % 256) ≡ put s i v
unfolding put
put_sets s i v h = rw (add-one, add-two, add-three) (sets-eq (bytes4 v) s i h)

-- the same by shifts and masks; of the highest byte nothing is to be masked
pub put_shifted : (s : List ℕ) (i v : ℕ) → v < 4294967296 → i + 4 ≤ length s
    → set (set (set (set s i (bit_and v 255)) (i + 1) (bit_and (v / 256) 255)) (i + 2) (bit_and (v / 65536) 255)) (i + 3) (v / 16777216) ≡ put s i v
put_shifted s i v word h =
    rw (and_mask v 8, and_mask (v / 256) 8, and_mask (v / 65536) 8, sym (shr_mod {n = v} 8 24 word)) (put_sets s i v h)

bytes_of_snoc : (vs : List ℕ) (v : ℕ) → bytes_of (vs ++ (v ∷ [])) ≡ bytes_of vs ++ bytes4 v
bytes_of_snoc [] v = refl
bytes_of_snoc (u ∷ vs) v = ap (λ l. bytes4 u ++ l) (bytes_of_snoc vs v)

-- a number put right after numbers that were put
pub put_next : (vs s : List ℕ) (i v : ℕ) → 4 * length vs ≡ i → put (front (bytes_of vs) s) i v ≡ front (bytes_of (vs ++ (v ∷ []))) s
unfolding put
put_next vs s i v e =
    let l : length (bytes_of vs) ≡ i = length_bytes_of vs ∙ e in
    let m : length (bytes_of vs ++ bytes4 v) ≡ i + 4 = length-append (bytes_of vs) (bytes4 v) ∙ ap (λ n. n + 4) l in
    rw (bytes_of_snoc vs v, m, l, take_at (bytes_of vs) (drop i s) i l)
    (ap (λ t. bytes_of vs ++ bytes4 v ++ t) (ap (λ n. drop (n + 4) (bytes_of vs ++ drop i s)) (sym l) ∙ drop-append-add (bytes_of vs) (drop i s) 4 ∙ drop-drop 4 i s))

-- five numbers, one after the other, are an answer's
pub five_put : (f : Five) (s : List ℕ) (a c x y z : ℕ) → a ∷ c ∷ x ∷ y ∷ z ∷ [] ≡ numbers f → put (put (put (put (put s 0 a) 4 c) 8 x) 12 y) 16 z ≡ written f s
unfolding written
five_put f s a c x y z e =
    rw (put_next [] s 0 a refl, put_next (a ∷ []) s 4 c refl, put_next (a ∷ c ∷ []) s 8 x refl, put_next (a ∷ c ∷ x ∷ []) s 12 y refl, put_next (a ∷ c ∷ x ∷ y ∷ []) s 16 z refl)
    (ap (λ vs. front (bytes_of vs) s) e)
