use borrow.Author.Rules.{rules}
use Rattle.wire.proofs.Put.{put_shifted}
use Rattle.wire.proofs.put_u32.Goals as goal

pub returns : goal.returns
returns c = put_shifted _ _ _ (search rules) c.requires
