use Rattle.chain.proofs.FoundInTable.{release_tied}
use Rattle.chain.proofs.cause.at_release.Goals as goal

pub returns : goal.returns
returns c = λ ρ L. release_tied L c.requires.1
