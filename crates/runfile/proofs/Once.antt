-- Two results that a contract permits are the same: of the functions of this crate. Assumes nothing.
use mathlib.Core.Path.{sym, ◌∙◌}
use Rattle.base.proofs.Fill.{fills_same}
use Rattle.base.proofs.Once.{Once}
use Rattle.runfile.proofs.number.num_at.Reads as num_at
use Rattle.runfile.proofs.entry.setting_of.Reads as setting_of
use Rattle.runfile.proofs.entry.task_at.Reads as task_at
use Rattle.runfile.proofs.entry.records_place.Reads as records_place
use Rattle.runfile.proofs.entry.size_of.Reads as type_size
use Rattle.runfile.proofs.entry.record_at.Reads as record_at
use Rattle.runfile.proofs.entry.longest_file.Reads as longest_file
use Rattle.runfile.proofs.column.read_column.Reads as read_column

pub num_at_once : Once num_at.Pre num_at.Post (λ r exit. r)
num_at_once κs args _ r r' exit exit' p q = p ∙ sym q

pub setting_of_once : Once setting_of.Pre setting_of.Post (λ r exit. r)
setting_of_once κs args _ r r' exit exit' p q = p ∙ sym q

pub task_at_once : Once task_at.Pre task_at.Post (λ r exit. r)
task_at_once κs args _ r r' exit exit' p q = p ∙ sym q

pub records_place_once : Once records_place.Pre records_place.Post (λ r exit. r)
records_place_once κs args _ r r' exit exit' p q = p ∙ sym q

pub size_of_once : Once type_size.Pre type_size.Post (λ r exit. r)
size_of_once κs args _ r r' exit exit' p q = p ∙ sym q

pub record_at_once : Once record_at.Pre record_at.Post (λ r exit. r)
record_at_once κs args _ r r' exit exit' p q = p ∙ sym q

pub longest_file_once : Once longest_file.Pre longest_file.Post (λ r exit. r)
longest_file_once κs args _ r r' exit exit' p q = p ∙ sym q

pub read_column_once : Once read_column.Pre read_column.Post (λ r exit. exit.1.1.1.0.now)
read_column_once κs args _ r r' exit exit' p q = fills_same p q
