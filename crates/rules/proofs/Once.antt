-- Two results that a contract permits are the same: of the functions of this crate. Assumes nothing.
use mathlib.Core.Path.{sym, ◌∙◌}
use Rattle.base.proofs.Once.{Once}
use Rattle.rules.proofs.release_place.Reads as release_place
use Rattle.rules.proofs.start_place.Reads as start_place
use Rattle.rules.proofs.length_place.Reads as length_place
use Rattle.rules.proofs.core_place.Reads as core_place

pub release_place_once : Once release_place.Pre release_place.Post (λ r exit. r)
release_place_once κs args _ r r' exit exit' p q = p ∙ sym q

pub start_place_once : Once start_place.Pre start_place.Post (λ r exit. r)
start_place_once κs args _ r r' exit exit' p q = p ∙ sym q

pub length_place_once : Once length_place.Pre length_place.Post (λ r exit. r)
length_place_once κs args _ r r' exit exit' p q = p ∙ sym q

pub core_place_once : Once core_place.Pre core_place.Post (λ r exit. r)
core_place_once κs args _ r r' exit exit' p q = p ∙ sym q
