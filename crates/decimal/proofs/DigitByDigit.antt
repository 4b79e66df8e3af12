-- What a reading shows of the number that stands at the front of a text, digit by digit. Assumes nothing.
use Prim.Native.Nat.{ℕ, ◌+◌, ◌-◌, ◌*◌, ◌≤◌, ◌<◌}
use mathlib.Core.Path.{◌≡◌, refl, sym, ◌∙◌, ap, subst}
use mathlib.Core.List.{List, [], ◌∷◌, ◌++◌, append_assoc}
use native.Mathlib.Decide.{dec_le}
use native.Mathlib.Numerals.{add-one}
use native.Mathlib.Omega.{arith}
use lib.ListN.{length, get_or, drop, length-drop}
use lib.Seq.{drop-cons, drop-length, get_or-drop}
use native.Mathlib.Nat.{add-zero}
use Rattle.std.specs.Prelude.{None, Option}
use Rattle.model.specs.Report.{digit, decimal}
use Rattle.decimal.specs.NumberFirst.{NumberFirst, SaysNumber}
use Rattle.decimal.proofs.Decimal.{Digits, none, more, decimal_some, decimal_small, decimal_on, decimal_digits, decimal_least, zero_alone}

-- two ways to cut a text behind digits: the one goes on where the other stops
pub record Goes (xs m ys : List ℕ) (t : ℕ) (rest : List ℕ) : Type 0 where
  pub between : List ℕ
  pub longer : ys ≡ xs ++ between
  pub digits : Digits between
  pub then : m ≡ between ++ (t ∷ rest)

goes_on : {xs m ys : List ℕ} {t : ℕ} {rest : List ℕ} (x : ℕ) → Goes xs m ys t rest → Goes (x ∷ xs) m (x ∷ ys) t rest
goes_on x g = record { between = g.between; longer = ap (λ l. x ∷ l) g.longer; digits = g.digits; then = g.then }

goes_same : {xs m ys : List ℕ} {t : ℕ} {rest : List ℕ} {x y : ℕ} → x ≡ y → Goes (x ∷ xs) m (x ∷ ys) t rest → Goes (x ∷ xs) m (y ∷ ys) t rest
goes_same {xs} {m} {ys} {t} {rest} {x} {y} e g = subst (λ (z : ℕ). Goes (x ∷ xs) m (z ∷ ys) t rest) e g

pub goes : {xs ys : List ℕ} (m : List ℕ) (t : ℕ) (rest : List ℕ) → Digits xs → Digits ys → t < 48 → xs ++ m ≡ ys ++ (t ∷ rest) → Goes xs m ys t rest
goes {ys = ys} m t rest none g h e = record { between = ys; longer = refl; digits = g; then = e }
goes m t rest (more {d = x} {ds = xs} a b f) none h e = let z : x ≡ t = cc in absurd (omega arith)
goes m t rest (more {d = x} {ds = xs} a b f) (more {d = y} {ds = ys} a' b' g) h e =
    let z : x ≡ y = cc in
    let q : xs ++ m ≡ ys ++ (t ∷ rest) = cc in
    goes_same z (goes_on x (goes m t rest f g h q))

-- what comes next is the byte that stops, or a digit that the number has
data Next (v w stop b : ℕ) : Type 0 where
  stops : b ≡ stop → Next v w stop b
  goes_by : 48 ≤ b → b ≤ 57 → (zs : List ℕ) → decimal w ≡ decimal v ++ (b ∷ zs) → Next v w stop b

-- A number that stands at the front, where the digits of v were read, and m is what is left.
-- ------------------------------------------------------------------------------------------
module _ {l m : List ℕ} (v : ℕ) (few : v < 4294967296) (read : l ≡ decimal v ++ m) {w stop : ℕ} {rest : List ℕ} (ends : stop < 48) (B : NumberFirst l w stop rest) where
  left_is : Goes (decimal v) m (decimal w) stop rest
  left_is = goes m stop rest (decimal_digits v) (decimal_digits w) ends (sym read ∙ B.text)

  -- something is left
  pub not_nothing : ¬ (m ≡ [])
  not_nothing e = go left_is.between (sym e ∙ left_is.then)
    where
      go : (zs : List ℕ) → [] ≡ zs ++ (stop ∷ rest) → ⊥
      go [] q = omega (arith, ap length q)
      go (z ∷ zs) q = omega (arith, ap length q)

  next : (b : ℕ) (n : List ℕ) → m ≡ b ∷ n → Next v w stop b
  next b n e = go left_is.between left_is.digits left_is.longer (sym e ∙ left_is.then)
    where
      go : (zs : List ℕ) → Digits zs → decimal w ≡ decimal v ++ zs → b ∷ n ≡ zs ++ (stop ∷ rest) → Next v w stop b
      go [] none q r = let z : b ≡ stop = cc in stops z
      go (z ∷ zs) (more f g h) q r = let y : z ≡ b = cc in goes_by (omega arith) (omega arith) zs (q ∙ ap (λ x. decimal v ++ (x ∷ zs)) y)

  -- no other byte, no digit behind a zero, and none that makes the number too large
  pub not_more : (b : ℕ) (n : List ℕ) → m ≡ b ∷ n → ¬ (b ≡ stop) → ((1 ≤ v) × (48 ≤ b) × (b ≤ 57) × (v * 10 + (b - 48) < 4294967296) → ⊥) → ⊥
  not_more b n e f g = go (next b n e)
    where
      some : (zs : List ℕ) → decimal w ≡ decimal v ++ (b ∷ zs) → Dec (1 ≤ v) → 1 ≤ v
      some zs r (yes h) = h
      some zs r (no h) =
          let z : v ≡ 0 = omega arith in
          absurd (zero_alone w b zs B.four_bytes (r ∙ ap (λ u. decimal u ++ (b ∷ zs)) z ∙ ap (λ x. x ++ (b ∷ zs)) (decimal_small 0 (omega arith))))

      go : Next v w stop b → ⊥
      go (stops q) = f q
      go (goes_by p q zs r) = g (some zs r (dec_le 1 v), p, q, omega (arith, decimal_least v w b zs few B.four_bytes r, B.four_bytes))

-- The same at the front of a text, where nothing was read yet: a digit stands there.
pub front : {l : List ℕ} {w stop : ℕ} {rest : List ℕ} → NumberFirst l w stop rest → (d : ℕ) → (48 ≤ get_or l 0 d) × (get_or l 0 d ≤ 57) × (1 ≤ length l)
front {l} {w} {stop} {rest} B d = rw B.text (go (decimal w) (decimal_digits w) (decimal_some w))
  where
    go : (zs : List ℕ) → Digits zs → ¬ (zs ≡ []) → (48 ≤ get_or (zs ++ (stop ∷ rest)) 0 d) × (get_or (zs ++ (stop ∷ rest)) 0 d ≤ 57) × (1 ≤ length (zs ++ (stop ∷ rest)))
    go [] none f = absurd (f refl)
    go (z ∷ zs) (more a b g) f = (a, b, omega arith)

-- What a reading has: from a place up to another the text has the digits of v.
-- ---------------------------------------------------------------------------
pub record Has (s : List ℕ) (at i v : ℕ) : Type 0 where
  pub past : at < i
  pub within : i ≤ length s
  pub few : v < 4294967296
  pub text : drop at s ≡ decimal v ++ drop i s

module _ (s : List ℕ) (i : ℕ) (h : i < length s) where
  abbrev byte : ℕ
  byte = get_or s i 0

  here : drop i s ≡ byte ∷ drop (i + 1) s
  here = drop-cons s i 0 h ∙ rw add-one

  pub has_first : {w : ℕ} → 48 ≤ byte → byte ≤ 57 → w ≡ byte - 48 → Has s i (i + 1) w
  has_first {w} a b q = record {
    past = omega arith;
    within = omega arith;
    few = omega arith;
    text =
        let e : byte ≡ digit w = omega arith in
        here ∙ ap (λ x. x ∷ drop (i + 1) s) e ∙ ap (λ l. l ++ drop (i + 1) s) (sym (decimal_small w (omega arith)));
  }

  module _ {at v : ℕ} (H : Has s at i v) where
    pub has_more : {w : ℕ} → ((1 ≤ v) × (48 ≤ byte) × (byte ≤ 57) × (v * 10 + (byte - 48) < 4294967296)) × (w ≡ v * 10 + (byte - 48)) → Has s at (i + 1) w
    has_more {w} ((f, a, b, l), e) = record {
      past = omega (arith, H.past);
      within = omega arith;
      few = omega arith;
      text =
          let d : byte ≡ digit (byte - 48) = omega arith in
          let q : decimal w ≡ decimal v ++ (digit (byte - 48) ∷ []) = ap decimal e ∙ decimal_on v (byte - 48) f (omega arith) l in
          H.text
          ∙ ap (λ x. decimal v ++ x) here
          ∙ ap (λ x. decimal v ++ (x ∷ drop (i + 1) s)) d
          ∙ sym (append_assoc (decimal v) (digit (byte - 48) ∷ []) (drop (i + 1) s))
          ∙ ap (λ x. x ++ drop (i + 1) s) (sym q);
    }

    pub has_number : {stop : ℕ} → byte ≡ stop → (i + 1 ≤ length s) × NumberFirst (drop at s) v stop (drop (i + 1) s)
    has_number e = (omega arith, record { four_bytes = H.few; text = H.text ∙ ap (λ x. decimal v ++ x) here ∙ ap (λ x. decimal v ++ (x ∷ drop (i + 1) s)) e })

    pub bad_more : (stop : ℕ) {r : Option (ℕ × ℕ)} → r ≡ None → stop < 48 → ¬ (byte ≡ stop) → ((1 ≤ v) × (48 ≤ byte) × (byte ≤ 57) × (v * 10 + (byte - 48) < 4294967296) → ⊥) → SaysNumber s at stop r
    bad_more stop e h f g = rw e (λ w rest B. not_more v H.few H.text h B byte (drop (i + 1) s) here f g)

pub bad_end : {s : List ℕ} {at i v : ℕ} → Has s at i v → length s ≤ i → {w stop : ℕ} {rest : List ℕ} → stop < 48 → ¬ NumberFirst (drop at s) w stop rest
bad_end {s} {at} {i} {v} H h l B = not_nothing v H.few H.text l B (let e : length s ≡ i = omega (arith, H.within) in rw (← e) (drop-length s))

-- No digit stands at the front.
pub bad_front : (s : List ℕ) (at stop : ℕ) {r : Option (ℕ × ℕ)} → r ≡ None → ((48 ≤ get_or s at 0) × (get_or s at 0 ≤ 57) × (at < length s) → ⊥) → SaysNumber s at stop r
bad_front s at stop n f =
    rw n
    (λ w rest B.
    let (a, b, c) = front B 0 in
    let e : get_or (drop at s) 0 0 ≡ get_or s at 0 = get_or-drop at s 0 0 ∙ rw add-zero in
    f (omega arith, omega arith, omega (arith, length-drop at s)))
