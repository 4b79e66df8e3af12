-- Two results that a contract permits are the same: of the functions of this crate. Assumes nothing.
use mathlib.Core.Path.{sym, ◌∙◌}
use Rattle.base.proofs.Once.{Once}
use Rattle.decimal.proofs.NumberFirst.{says_one}
use Rattle.decimal.proofs.number_at.Reads as number_at
use Rattle.decimal.proofs.digit_count.Reads as digit_count

pub number_at_once : Once number_at.Pre number_at.Post (λ r exit. r)
number_at_once κs args h r r' exit exit' p q = says_one args.0.now args.1.0 args.1.1.0 r r' h p q

pub digit_count_once : Once digit_count.Pre digit_count.Post (λ r exit. r)
digit_count_once κs args _ r r' exit exit' p q = p ∙ sym q
