-- Two results that a contract permits are the same: of the functions of this crate. Assumes nothing.
use Prim.Native.Nat.{ℕ}
use mathlib.Core.Path.{◌≡◌, sym, ◌∙◌}
use mathlib.Core.Bool.{Bool}
use mathlib.Core.List.{List}
use Rattle.base.proofs.Once.{Once}
use Rattle.model.specs.declared.answer.Answer.{Answer}
use Rattle.model.proofs.Once.{five_once}
use Rattle.verdict.specs.Judging.{Judges, Accepts}
use Rattle.verdict.proofs.run.judge_run.Reads as judge_run
use Rattle.verdict.proofs.accepts.accepts_run.Reads as accepts_run

-- what is said of the run of a file, and whether it is accepted
pub judges_once : (file : List ℕ) (a a' : Answer) → Judges file a → Judges file a' → a ≡ a'
judges_once file a a' = five_once a a' _

pub accepts_once : (file : List ℕ) (t t' : Bool) → Accepts file t → Accepts file t' → t ≡ t'
accepts_once file t t' p q = p ∙ sym q

pub judge_run_once : Once judge_run.Pre judge_run.Post (λ r exit. r)
judge_run_once κs args _ r r' exit exit' p q = judges_once _ r r' p q

pub accepts_run_once : Once accepts_run.Pre accepts_run.Post (λ r exit. r)
accepts_run_once κs args _ r r' exit exit' p q = accepts_once _ r r' p q
