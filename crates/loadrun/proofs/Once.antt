-- Two results that a contract permits are the same: of the functions of this crate. Assumes nothing.
use Rattle.std.specs.Prelude.{ℕ, None, Option, Some, option_map}
use mathlib.Core.Path.{◌≡◌, refl}
use mathlib.Core.List.{List}
use Rattle.base.proofs.Once.{Once, told_apart}
use Rattle.model.specs.Compute.Places.{one}
use Rattle.model.specs.Rules.{Place}
use Rattle.loadrun.specs.Loading.{LoadsRecords}
use Rattle.table.proofs.LentLaws.{loads_same}
use Rattle.loadrun.proofs.jobs.jobs_place.Reads as jobs_place
use Rattle.loadrun.proofs.read.read_table.Reads as read_table

abbrev back : Option Place → Option ℕ
back None = None
back (Some p) = Some p.x

back_one : (r : Option ℕ) → back (option_map one r) ≡ r
back_one (Some k) = refl
back_one None = refl

-- the records of a file, put into a table
pub loads_once : (file : List ℕ) (n : ℕ) (before after after' : List ℕ) → LoadsRecords file n before after → LoadsRecords file n before after' → after ≡ after'
loads_once file n before after after' p q = loads_same p q

pub read_table_once : Once read_table.Pre read_table.Post (λ r exit. exit.1.0.now)
read_table_once κs args _ r r' exit exit' p q = loads_once _ _ _ _ _ p q

pub jobs_place_once : Once jobs_place.Pre jobs_place.Post (λ r exit. r)
jobs_place_once κs args (ρ, T, L) r r' exit exit' p q = told_apart (λ s. option_map one s) back back_one r r' _ (p ρ T L) (q ρ T L)
