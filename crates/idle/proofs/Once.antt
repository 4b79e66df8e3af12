-- Two results that a contract permits are the same: of `idle_place`. Assumes nothing.
use mathlib.Core.Path.{sym, ◌∙◌}
use Rattle.base.proofs.Once.{Once}
use Rattle.idle.proofs.idle_place.Reads as idle_place

pub idle_place_once : Once idle_place.Pre idle_place.Post (λ r exit. r)
idle_place_once κs args _ r r' exit exit' p q = p ∙ sym q
