-- Two results that a contract permits are the same: of the functions of this crate. Of a part that is returned, where it lies and its
-- bytes: it has no other content. Assumes nothing.
use Prim.Native.Nat.{ℕ}
use mathlib.Core.Path.{◌≡◌, sym, ◌∙◌}
use mathlib.Core.List.{List}
use denote.Ref.{Bor}
use Rattle.base.proofs.Once.{Once, ◌also◌, both}
use Rattle.model.specs.File.{Part}
use Rattle.reader.specs.LentFile.{IsPart, Opens, Gives}
use Rattle.reader.specs.declared.Reader.{Reader}
use Rattle.reader.proofs.starts_of.Reads as starts_of
use Rattle.reader.proofs.open.Reads as open_fn
use Rattle.reader.proofs.record.Reads as record_fn
use Rattle.reader.proofs.part_in.Reads as part_in
use Rattle.reader.proofs.record_of.Reads as record_of
use Rattle.reader.proofs.search.is_of.Reads as is_of
use Rattle.reader.proofs.search.least_record.Reads as least_record

pub part_once : (file r r' : Bor (List ℕ)) (p : Part) → IsPart r file p → IsPart r' file p → (r.ref_ptr also r.now) ≡ (r'.ref_ptr also r'.now)
part_once file r r' p a b =
    both (λ κ. ((a.block ∙ sym b.block) κ, (a.place ∙ sym b.place) κ)) (a.bytes ∙ sym b.bytes)

pub starts_of_once : Once starts_of.Pre starts_of.Post (λ r exit. r)
starts_of_once κs args _ r r' exit exit' p q = p ∙ sym q

pub part_in_once : Once part_in.Pre part_in.Post (λ r exit. r.ref_ptr also r.now)
part_in_once κs args _ r r' exit exit' = part_once _ r r' _

pub record_of_once : Once record_of.Pre record_of.Post (λ r exit. r.ref_ptr also r.now)
record_of_once κs args _ r r' exit exit' = part_once _ r r' _

pub is_of_once : Once is_of.Pre is_of.Post (λ r exit. r)
is_of_once κs args _ r r' exit exit' p q = p ∙ sym q

pub least_record_once : Once least_record.Pre least_record.Post (λ r exit. r)
least_record_once κs args _ r r' exit exit' p q = p ∙ sym q

-- a reader
pub opens_once : (file : Bor (List ℕ)) (r r' : Reader) → Opens file r → Opens file r' → r ≡ r'
opens_once file r r' p q =
    λ κ. record { file = (p.0 ∙ sym q.0) κ; starts = (p.1 ∙ sym q.1) κ }

-- a record of it
pub gives_once : (r : Reader) (k : ℕ) (s s' : Bor (List ℕ)) → Gives r k s → Gives r k s' → (s.ref_ptr also s.now) ≡ (s'.ref_ptr also s'.now)
gives_once r k s s' = part_once r.file s s' _

pub open_once : Once open_fn.Pre open_fn.Post (λ r exit. r)
open_once κs args _ r r' exit exit' p q = opens_once args.0 r r' p q

pub record_once : Once record_fn.Pre record_fn.Post (λ r exit. r.ref_ptr also r.now)
record_once κs args _ r r' exit exit' p q = gives_once args.0 args.1.0 r r' p q
