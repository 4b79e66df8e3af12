-- Two results that a contract permits are the same: of the functions of this crate. Assumes nothing.
use Prim.Native.Nat.{ℕ}
use mathlib.Core.Path.{◌≡◌, sym, ◌∙◌}
use mathlib.Core.List.{List}
use Rattle.base.proofs.Once.{Once, ◌also◌, both}
use Rattle.text.specs.Paste.{Wrote}
use Rattle.text.proofs.put_bytes.Reads as put_bytes
use Rattle.text.proofs.put_number.Reads as put_number
use Rattle.text.proofs.line_of.Reads as Line-of

wrote_one : {s bs t u : List ℕ} {i j k : ℕ} → Wrote s i bs t j → Wrote s i bs u k → (j also t) ≡ (k also u)
wrote_one w v = both (w.place ∙ sym v.place) (w.text ∙ sym v.text)

pub put_bytes_once : Once put_bytes.Pre put_bytes.Post (λ r exit. r also exit.0.now)
put_bytes_once κs args _ r r' exit exit' p q = wrote_one p q

pub put_number_once : Once put_number.Pre put_number.Post (λ r exit. r also exit.0.now)
put_number_once κs args _ r r' exit exit' p q = wrote_one p q

pub line_of_once : Once Line-of.Pre Line-of.Post (λ r exit. r)
line_of_once κs args _ r r' exit exit' p q = p.0 ∙ sym q.0
