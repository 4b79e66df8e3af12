-- The record whose line stands first in a text, computed: read the numbers without looking, write their line, and see whether the text has
-- it. What is found is what `LineFirst` says (law `line-in`).
use Rattle.std.specs.Prelude.{ℕ, ◌+◌, ◌-◌, ◌*◌, Bool, true, false, ◌&&◌, List, [], ◌∷◌, ltb, eqb, None, Option, Some}
use Rattle.model.specs.declared.record.Record.{Record}
use Rattle.exchange.specs.RecordLine.{record_line}

-- the rest of a text that begins with another
unfoldable pub after : List ℕ → List ℕ → Option (List ℕ)
after [] l = Some l
after (c ∷ p) [] = None
after (c ∷ p) (d ∷ l) = elim (eqb c d) [ true ↦ after p l | false ↦ None ]

-- a number with the bytes up to the first below '0' as its further digits, and the rest behind that byte
unfoldable pub digits_on : ℕ → List ℕ → ℕ × List ℕ
digits_on v [] = (v, [])
digits_on v (c ∷ l) = elim (ltb c 48) [ true ↦ (v, l) | false ↦ digits_on (v * 10 + (c - 48)) l ]

abbrev pub number_of : List ℕ → ℕ
number_of l = (digits_on 0 l).0

abbrev pub behind : List ℕ → List ℕ
behind l = (digits_on 0 l).1

-- six such numbers
abbrev pub guess : List ℕ → Record
guess l =
    let m = behind l in
    let n = behind m in
    let o = behind n in
    let p = behind o in
    record { task = number_of l; job = number_of m; release = number_of n; start = number_of o; end = number_of p; core = number_of (behind p) }

abbrev pub four_bytes : ℕ → Bool
four_bytes v = ltb v 4294967296

abbrev pub fit : Record → Bool
fit x =
    four_bytes x.task
    && (four_bytes x.job && (four_bytes x.release && (four_bytes x.start && (four_bytes x.end && four_bytes x.core))))

abbrev pub line_if : Bool → Record → Option (List ℕ) → Option (Record × List ℕ)
line_if true x (Some rest) = Some (x, rest)
line_if true x None = None
line_if false x o = None

unfoldable pub line_in : List ℕ → Option (Record × List ℕ)
line_in l = line_if (fit (guess l)) (guess l) (after (record_line (guess l)) l)
