-- Where the sections of a file begin, how many records there are, and what it is to be a part of a lent file.
use Rattle.std.specs.Prelude.{ℕ, ◌+◌, ◌*◌, Bool, true, false, ◌&&◌, List, ◌≡◌, leb, ltb, length}
use Rattle.std.specs.Borrow.{Bor}
use Rattle.model.specs.File.{Read, refused, whole, read, tasks_place, record_place, record_size, Part, part_of, empty_part}
use Rattle.reader.specs.declared.Starts.{Starts}
use Rattle.reader.specs.declared.Reader.{Reader}

-- a file that is refused has no records
abbrev pub starts_of : Read → Starts
starts_of (refused ν i) = record { tasks = 0; records = 0; count = 0 }
starts_of (whole ρ) = record { tasks = tasks_place + 4; records = record_place ρ 0; count = length ρ.records }

-- the 24 bytes from a place on, or the empty front part
abbrev pub bytes_if : Bool → ℕ → Part
bytes_if true from = record { from = from; size = record_size }
bytes_if false from = empty_part

-- record k of n that begin at a place of a file of so many bytes: if it is one of them, and the file has its bytes
unfoldable pub part_in : ℕ → ℕ → ℕ → ℕ → Part
part_in bytes at n k = bytes_if (ltb k n && leb (at + record_size * k + record_size) bytes) (at + record_size * k)

-- r is that part of the file: it has the part's bytes, and it lies in the file's block, at the part's place
pub record IsPart (r file : Bor (List ℕ)) (p : Part) : Type 0 where
  pub bytes : r.now ≡ part_of file.now p
  pub block : r.ref_ptr.0 ≡ file.ref_ptr.0
  pub place : r.ref_ptr.1 ≡ file.ref_ptr.1 + p.from

-- r is the reader of a file: it holds the file, where its sections begin and how many records there are
abbrev pub Opens : Bor (List ℕ) → Reader → Type 0
Opens file r = (r.file ≡ file) × (r.starts ≡ starts_of (read file.now))

-- s is record k of a reader, or the empty front part
abbrev pub Gives : Reader → ℕ → Bor (List ℕ) → Type 0
Gives r k s = IsPart s r.file (part_in (length r.file.now) r.starts.records r.starts.count k)
