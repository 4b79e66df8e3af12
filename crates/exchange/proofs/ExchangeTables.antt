-- Document 02, request 1: tables that are read, imports and exports, and what their calls leave. Each table stands under a single statement,
-- its lines typed as text. Assumes nothing.
use Prim.Native.Nat.{ℕ, zero, suc}
use Prim.Native.Char.{code}
use Prim.Native.String.{String, [] as ends, ◌∷◌ as ◌then◌}
use mathlib.Core.Path.{◌≡◌, refl}
use mathlib.Core.List.{List, [], ◌∷◌, ◌++◌, map}
use Rattle.model.specs.declared.record.Record.{Record}
use Rattle.model.specs.Report.{decimal_in}
use Rattle.model.specs.Answers.{Outcome, refused_with}
use Rattle.model.specs.Calls.{numbers, written, OutputCall, output_call}
use Rattle.model.proofs.Worked.{computed_carry, file, wrote}
use Rattle.sorting.specs.Sorted.{inserted, sorted_by, key_before, by_key}
use Rattle.exchange.specs.RecordLine.{header, record_line}
use Rattle.exchange.specs.LineIn.{after, digits_on, line_in}
use Rattle.exchange.specs.TextTable.{TableRead, all_taken, stops_at, given, lines_from, table_read}
use Rattle.exchange.specs.Import.{job_before, imported, import_table, import_call}
use Rattle.exchange.specs.Export.{by_start, exported, rise, export_run, export_file, export_call}

-- the import, with all that it computes by laid open: a statement that unfolds this name computes
unfoldable pub computed_import : List ℕ → List ℕ → ℕ → Outcome
unfolding computed_carry decimal_in header record_line after digits_on line_in given lines_from table_read inserted sorted_by job_before imported import_table
computed_import b T room = import_table b T room

-- the export, likewise
unfoldable pub computed_export : List ℕ → ℕ → Outcome
unfolding computed_import key_before by_key by_start exported rise export_run export_file
computed_export b room = export_file b room

-- Text
-- ----

-- the bytes of a text, of which each character has one
abbrev typed : String → List ℕ
typed ends = []
typed (c then s) = code c ∷ typed s

-- lines after the header
abbrev headed : String → List ℕ
headed lines = typed "task,job,release,start,end,core\n" ++ typed lines

-- a record of these numbers: task, job, r, s, e, core
abbrev numbered : ℕ → ℕ → ℕ → ℕ → ℕ → ℕ → Record
numbered task job r s e core = record { task = task; job = job; release = r; start = s; end = e; core = core }

-- Tables that are read
-- --------------------

-- "0,0,1,15,17,2"
abbrev x₀ : Record
x₀ = numbered 0 0 1 15 17 2

-- "0,1,10,17,19,1"
abbrev x₁ : Record
x₁ = numbered 0 1 10 17 19 1

-- "1,0,1,17,25,2"
abbrev x₂ : Record
x₂ = numbered 1 0 1 17 25 2

-- the largest number of four bytes
abbrev most : ℕ
most = 4294967295

-- the table, and what is read of it: the records taken, and the refusal with its line
abbrev pub tables : List (List ℕ × TableRead)
tables =
    -- line 1 is the header
    (typed "", stops_at 12 1 [])
    ∷ (typed "\n", stops_at 12 1 [])
    ∷ (typed "task,job,release,start,end,core\n", all_taken [])
    ∷ (typed "task,job,release,start,end,core", stops_at 12 1 [])
    ∷ (typed "task,job,release,start,end,core\r\n", stops_at 12 1 [])
    ∷ (typed "task,job,release,start,end\n", stops_at 12 1 [])
    ∷ (typed "task, job, release, start, end, core\n", stops_at 12 1 [])
    ∷ (typed "Task,job,release,start,end,core\n", stops_at 12 1 [])
    ∷ (typed "0,0,1,15,17,2\n", stops_at 12 1 [])
    -- lines in any order, each closed by its line feed
    ∷ (headed "0,0,1,15,17,2\n", all_taken (x₀ ∷ []))
    ∷ (headed "0,0,1,15,17,2", stops_at 12 2 [])
    ∷ (headed "1,0,1,17,25,2\n0,0,1,15,17,2\n0,1,10,17,19,1\n", all_taken (x₂ ∷ x₀ ∷ x₁ ∷ []))
    ∷ (headed "1,0,1,17,25,2\n0,0,1,15,17,2\n0,1,10,17,19,1", stops_at 12 4 (x₂ ∷ x₀ ∷ []))
    -- nothing else stands in a line: it is not empty, and has no carriage return, no space, no sign and no other byte
    ∷ (headed "\n", stops_at 12 2 [])
    ∷ (headed "0,0,1,15,17,2\n\n", stops_at 12 3 (x₀ ∷ []))
    ∷ (headed "0,0,1,15,17,2\r\n", stops_at 12 2 [])
    ∷ (headed "0,0,1,15,17,2\r", stops_at 12 2 [])
    ∷ (headed " 0,0,1,15,17,2\n", stops_at 12 2 [])
    ∷ (headed "0,0, 1,15,17,2\n", stops_at 12 2 [])
    ∷ (headed "0,0,1,15,17,2 \n", stops_at 12 2 [])
    ∷ (headed "0,0,+1,15,17,2\n", stops_at 12 2 [])
    ∷ (headed "-0,0,1,15,17,2\n", stops_at 12 2 [])
    ∷ (headed "0,0,1,1:,17,2\n", stops_at 12 2 [])
    ∷ (headed "0,0,0x1,15,17,2\n", stops_at 12 2 [])
    ∷ (headed "0;0;1;15;17;2\n", stops_at 12 2 [])
    ∷ (headed "task,job,release,start,end,core\n", stops_at 12 2 [])
    ∷ (headed "0,0,1,15,17,2\n" ++ (0 ∷ []), stops_at 12 3 (x₀ ∷ []))
    ∷ (headed "0,0,1,15,17,2\n" ++ (255 ∷ []), stops_at 12 3 (x₀ ∷ []))
    -- six numbers, with a comma between two
    ∷ (headed "0,0,1,15,17\n", stops_at 12 2 [])
    ∷ (headed "0,0,1,15,17\n2\n", stops_at 12 2 [])
    ∷ (headed "0,0,1,15,17,2,0\n", stops_at 12 2 [])
    ∷ (headed "0,0,1,15,17,2,\n", stops_at 12 2 [])
    ∷ (headed "0,0,1,15,17,\n", stops_at 12 2 [])
    ∷ (headed ",0,0,1,15,17,2\n", stops_at 12 2 [])
    ∷ (headed "0,0,,15,17,2\n", stops_at 12 2 [])
    -- without leading zeros
    ∷ (headed "0,0,0,0,0,0\n", all_taken (numbered 0 0 0 0 0 0 ∷ []))
    ∷ (headed "00,0,1,15,17,2\n", stops_at 12 2 [])
    ∷ (headed "0,0,01,15,17,2\n", stops_at 12 2 [])
    ∷ (headed "0,0,1,15,17,02\n", stops_at 12 2 [])
    ∷ (headed "10,100,1000,10000,100000,1000000\n", all_taken (numbered 10 100 1000 10000 100000 1000000 ∷ []))
    -- below 2^32
    ∷ (headed "4294967295,4294967295,4294967295,4294967295,4294967295,4294967295\n", all_taken (numbered most most most most most most ∷ []))
    ∷ (headed "4294967296,0,1,15,17,2\n", stops_at 12 2 [])
    ∷ (headed "0,4294967296,1,15,17,2\n", stops_at 12 2 [])
    ∷ (headed "0,0,4294967296,15,17,2\n", stops_at 12 2 [])
    ∷ (headed "0,0,1,4294967296,17,2\n", stops_at 12 2 [])
    ∷ (headed "0,0,1,15,4294967296,2\n", stops_at 12 2 [])
    ∷ (headed "0,0,1,15,17,4294967296\n", stops_at 12 2 [])
    ∷ (headed "0,0,9999999999,15,17,2\n", stops_at 12 2 [])
    ∷ (headed "0,0,18446744073709551617,15,17,2\n", stops_at 12 2 [])
    -- 13: a task and job already given, whatever the other numbers are, by the line before or by one far before
    ∷ (headed "0,0,1,15,17,2\n0,0,1,15,17,2\n", stops_at 13 3 (x₀ ∷ []))
    ∷ (headed "0,0,1,15,17,2\n0,0,2,16,18,1\n", stops_at 13 3 (x₀ ∷ []))
    ∷ (headed "0,0,1,15,17,2\n0,1,10,17,19,1\n1,0,1,17,25,2\n0,0,2,16,18,1\n", stops_at 13 5 (x₀ ∷ x₁ ∷ x₂ ∷ []))
    ∷ (headed "0,0,1,15,17,2\n0,1,10,17,19,1\n1,0,1,17,25,2\n0,1,10,17,19,1\n", stops_at 13 5 (x₀ ∷ x₁ ∷ x₂ ∷ []))
    -- not so the same task, the same job, or the one for the other
    ∷ (headed "0,1,10,17,19,1\n1,0,1,17,25,2\n", all_taken (x₁ ∷ x₂ ∷ []))
    ∷ (headed "0,1,1,15,17,2\n0,2,1,15,17,2\n1,1,1,15,17,2\n", all_taken (numbered 0 1 1 15 17 2 ∷ numbered 0 2 1 15 17 2 ∷ numbered 1 1 1 15 17 2 ∷ []))
    -- a line is judged before the next is read
    ∷ (headed "0,0,1,15,17,2\n0,0,1,15,17,2\n0,1,10,17\n", stops_at 13 3 (x₀ ∷ []))
    ∷ (headed "0,0,1,15,17,2\n0,1,10,17\n0,0,1,15,17,2\n", stops_at 12 3 (x₀ ∷ []))
    -- and for 12 before 13
    ∷ (headed "0,0,1,15,17,2\n0,0,1,15,17\n", stops_at 12 3 (x₀ ∷ []))
    ∷ (headed "0,0,1,15,17,2\n0,0,1,15,17,2", stops_at 12 3 (x₀ ∷ []))
    ∷ []

pub tables_read : map (λ row. table_read row.0) tables ≡ map (λ row. row.1) tables
unfolding computed_import
tables_read = refl

-- how many more records may be taken, those that were, and the lines that are left
abbrev pub nearly_full : List ((ℕ × List Record × String) × TableRead)
nearly_full =
    -- none: the table ends, or its next line is bad, or it is one too many
    ((0, x₀ ∷ x₁ ∷ [], ""), all_taken (x₀ ∷ x₁ ∷ []))
    ∷ ((0, x₀ ∷ x₁ ∷ [], "1,0,1,17,25\n"), stops_at 12 4 (x₀ ∷ x₁ ∷ []))
    ∷ ((0, x₀ ∷ x₁ ∷ [], "1,0,1,17,25,2"), stops_at 12 4 (x₀ ∷ x₁ ∷ []))
    ∷ ((0, x₀ ∷ x₁ ∷ [], "1,0,1,17,25,2\n"), stops_at 7 0 (x₀ ∷ x₁ ∷ []))
    -- 7 before 13, which comes where one may be taken
    ∷ ((0, x₀ ∷ x₁ ∷ [], "0,0,1,15,17,2\n"), stops_at 7 0 (x₀ ∷ x₁ ∷ []))
    ∷ ((1, x₀ ∷ x₁ ∷ [], "0,0,1,15,17,2\n"), stops_at 13 4 (x₀ ∷ x₁ ∷ []))
    -- one: it is taken, and then as before
    ∷ ((1, x₀ ∷ x₁ ∷ [], "1,0,1,17,25,2\n"), all_taken (x₀ ∷ x₁ ∷ x₂ ∷ []))
    ∷ ((1, x₀ ∷ x₁ ∷ [], "1,0,1,17,25,2\n\n"), stops_at 12 5 (x₀ ∷ x₁ ∷ x₂ ∷ []))
    ∷ ((1, x₀ ∷ x₁ ∷ [], "1,0,1,17,25,2\n1,0,1,17,25,2\n"), stops_at 7 0 (x₀ ∷ x₁ ∷ x₂ ∷ []))
    ∷ []

pub lines_judged : map (λ row. lines_from row.0.0 row.0.1 (typed row.0.2)) nearly_full ≡ map (λ row. row.1) nearly_full
unfolding computed_import
lines_judged = refl

-- Imports
-- -------

-- Two cores, H = 20, two tasks: P 10, B 1, W 2, O 0, J 1 and P 300, B 6, W 8, O 0, J 1. What follows is the records' count and numbers.
abbrev holding : List ℕ → List ℕ
holding records = file 2 20 (2 ∷ 10 ∷ 1 ∷ 2 ∷ 0 ∷ 1 ∷ 300 ∷ 6 ∷ 8 ∷ 0 ∷ 1 ∷ []) records

-- four records in rising order of task and job
abbrev four : List ℕ
four =
    4
    ∷ 0 ∷ 0 ∷ 1 ∷ 15 ∷ 17 ∷ 2
    ∷ 0 ∷ 1 ∷ 10 ∷ 17 ∷ 19 ∷ 1
    ∷ 1 ∷ 0 ∷ 1 ∷ 17 ∷ 25 ∷ 2
    ∷ 2 ∷ 0 ∷ 0 ∷ 0 ∷ 17 ∷ 1
    ∷ []

-- x₀ alone
abbrev one : List ℕ
one = 1 ∷ 0 ∷ 0 ∷ 1 ∷ 15 ∷ 17 ∷ 2 ∷ []

abbrev no_record : List ℕ
no_record = 0 ∷ []

-- a run file, a table and the room; what is said and written
abbrev pub imports : List ((List ℕ × List ℕ × ℕ) × Outcome)
imports =
    -- in rising order of task and then job, in whatever order the lines are
    ((holding no_record, headed "0,0,1,15,17,2\n0,1,10,17,19,1\n1,0,1,17,25,2\n2,0,0,0,17,1\n", 12948), wrote 156 (holding four))
    ∷ ((holding no_record, headed "2,0,0,0,17,1\n1,0,1,17,25,2\n0,1,10,17,19,1\n0,0,1,15,17,2\n", 12948), wrote 156 (holding four))
    ∷ ((holding no_record, headed "0,1,10,17,19,1\n2,0,0,0,17,1\n0,0,1,15,17,2\n1,0,1,17,25,2\n", 12948), wrote 156 (holding four))
    -- as numbers, not as texts
    ∷ (
      (holding no_record, headed "10,0,0,0,1,1\n9,256,0,0,1,1\n9,1,0,0,1,1\n", 12948),
      wrote 132 (holding (3 ∷ 9 ∷ 1 ∷ 0 ∷ 0 ∷ 1 ∷ 1 ∷ 9 ∷ 256 ∷ 0 ∷ 0 ∷ 1 ∷ 1 ∷ 10 ∷ 0 ∷ 0 ∷ 0 ∷ 1 ∷ 1 ∷ [])),
    )
    -- a missing job, or all of them
    ∷ ((holding no_record, headed "0,1,10,17,19,1\n", 12948), wrote 84 (holding (1 ∷ 0 ∷ 1 ∷ 10 ∷ 17 ∷ 19 ∷ 1 ∷ [])))
    ∷ ((holding no_record, headed "", 12948), wrote 60 (holding no_record))
    -- the file's own records are not looked at
    ∷ ((holding four, headed "", 12948), wrote 60 (holding no_record))
    ∷ ((holding (1 ∷ 0 ∷ 0 ∷ 9 ∷ 9 ∷ 9 ∷ 9 ∷ []), headed "0,0,1,15,17,2\n", 12948), wrote 84 (holding one))
    -- but judged with it, and before the table
    ∷ (([], typed "", 0), refused_with 1 0)
    ∷ ((holding [], headed "", 12948), refused_with 1 0)
    ∷ ((holding (1 ∷ 0 ∷ []), headed "\n", 12948), refused_with 1 0)
    ∷ ((holding (513 ∷ []), headed "\n", 12948), refused_with 7 0)
    ∷ ((holding (0 ∷ 0 ∷ []), typed "", 0), refused_with 8 0)
    ∷ ((file 2 20 (2 ∷ 10 ∷ 1 ∷ 2 ∷ 0 ∷ 1 ∷ 0 ∷ 1 ∷ 1 ∷ 0 ∷ 0 ∷ []) no_record, typed "", 0), refused_with 5 1)
    -- the lines before the room: 12 and 13 with their line
    ∷ ((holding no_record, typed "", 0), refused_with 12 1)
    ∷ ((holding no_record, headed "0,0,1,15,17,2\n0,1\n", 0), refused_with 12 3)
    ∷ ((holding no_record, headed "0,0,1,15,17,2\n0,1,10,17,19,1\n0,0,1,15,17,2\n", 0), refused_with 13 4)
    -- room for all bytes, and for one less
    ∷ ((holding no_record, headed "0,1,10,17,19,1\n", 84), wrote 84 (holding (1 ∷ 0 ∷ 1 ∷ 10 ∷ 17 ∷ 19 ∷ 1 ∷ [])))
    ∷ ((holding no_record, headed "0,1,10,17,19,1\n", 83), refused_with 11 0)
    ∷ ((holding four, headed "", 60), wrote 60 (holding no_record))
    ∷ ((holding four, headed "", 59), refused_with 11 0)
    ∷ []

pub imports_said : map (λ row. import_table row.0.0 row.0.1 row.0.2) imports ≡ map (λ row. row.1) imports
unfolding computed_import
imports_said = refl

-- Exports
-- -------

-- two records, and nothing but their jobs is looked at
abbrev two : ℕ → ℕ → ℕ → ℕ → List ℕ
two task job task' job' = holding (2 ∷ task ∷ job ∷ 0 ∷ 0 ∷ 1 ∷ 1 ∷ task' ∷ job' ∷ 0 ∷ 0 ∷ 1 ∷ 1 ∷ [])

-- a run file and the room; what is said and written
abbrev pub exports : List ((List ℕ × ℕ) × Outcome)
exports =
    -- by start, not by end or release or place
    ((holding four, 33824), wrote 88 (headed "2,0,0,0,17,1\n0,0,1,15,17,2\n0,1,10,17,19,1\n1,0,1,17,25,2\n"))
    ∷ (
      (holding (3 ∷ 0 ∷ 0 ∷ 2 ∷ 7 ∷ 8 ∷ 1 ∷ 0 ∷ 1 ∷ 3 ∷ 5 ∷ 9 ∷ 1 ∷ 1 ∷ 0 ∷ 1 ∷ 6 ∷ 7 ∷ 1 ∷ []), 33824),
      wrote 68 (headed "0,1,3,5,9,1\n1,0,1,6,7,1\n0,0,2,7,8,1\n"),
    )
    -- then by record place, not by the core or by what else the line says
    ∷ (
      (holding (3 ∷ 0 ∷ 0 ∷ 9 ∷ 5 ∷ 9 ∷ 3 ∷ 0 ∷ 1 ∷ 8 ∷ 5 ∷ 8 ∷ 2 ∷ 1 ∷ 0 ∷ 7 ∷ 5 ∷ 7 ∷ 1 ∷ []), 33824),
      wrote 68 (headed "0,0,9,5,9,3\n0,1,8,5,8,2\n1,0,7,5,7,1\n"),
    )
    -- by start as a number, not as a text; any four-byte number may stand in a record
    ∷ (
      (holding (2 ∷ 0 ∷ 0 ∷ 0 ∷ 10 ∷ most ∷ 1 ∷ most ∷ most ∷ 0 ∷ 9 ∷ 100 ∷ 0 ∷ []), 33824),
      wrote 86 (headed "4294967295,4294967295,0,9,100,0\n0,0,0,10,4294967295,1\n"),
    )
    -- no record: the header alone
    ∷ ((holding no_record, 33824), wrote 32 (headed ""))
    -- rising strictly: by task, and then by job
    ∷ ((two 0 9 1 0, 33824), wrote 56 (headed "0,9,0,0,1,1\n1,0,0,0,1,1\n"))
    ∷ ((two 0 0 0 1, 33824), wrote 56 (headed "0,0,0,0,1,1\n0,1,0,0,1,1\n"))
    ∷ ((two 0 0 0 0, 33824), refused_with 14 0)
    ∷ ((two 0 1 0 0, 33824), refused_with 14 0)
    ∷ ((two 1 0 0 9, 33824), refused_with 14 0)
    ∷ ((holding (3 ∷ 0 ∷ 0 ∷ 0 ∷ 0 ∷ 1 ∷ 1 ∷ 1 ∷ 0 ∷ 0 ∷ 0 ∷ 1 ∷ 1 ∷ 0 ∷ 1 ∷ 0 ∷ 0 ∷ 1 ∷ 1 ∷ []), 33824), refused_with 14 0)
    -- the file's own refusals, then 14, and 11 last
    ∷ (([], 0), refused_with 1 0)
    ∷ ((two 0 0 0 0 ++ (0 ∷ []), 0), refused_with 8 0)
    ∷ ((two 0 0 0 0, 0), refused_with 14 0)
    ∷ ((two 0 0 0 1, 0), refused_with 11 0)
    -- room for all bytes, and for one less
    ∷ ((two 0 0 0 1, 56), wrote 56 (headed "0,0,0,0,1,1\n0,1,0,0,1,1\n"))
    ∷ ((two 0 0 0 1, 55), refused_with 11 0)
    ∷ ((holding no_record, 32), wrote 32 (headed ""))
    ∷ ((holding no_record, 31), refused_with 11 0)
    ∷ []

pub exports_said : map (λ row. export_file row.0.0 row.0.1) exports ≡ map (λ row. row.1) exports
unfolding computed_export
exports_said = refl

-- What the calls leave
-- --------------------

-- a slice of n bytes, no two of them alike: n, n - 1, .., 1
abbrev lent : ℕ → List ℕ
lent zero = []
lent (suc n) = suc n ∷ lent n

-- the twenty bytes of an answer, whose number, code and first place are below 256
abbrev twenty : ℕ → ℕ → ℕ → List ℕ
twenty a c x = a ∷ 0 ∷ 0 ∷ 0 ∷ c ∷ 0 ∷ 0 ∷ 0 ∷ x ∷ 0 ∷ 0 ∷ 0 ∷ 0 ∷ 0 ∷ 0 ∷ 0 ∷ 0 ∷ 0 ∷ 0 ∷ 0 ∷ []

-- the table, the output and the answer slice
abbrev pub import_calls : List ((String × List ℕ × List ℕ) × OutputCall)
import_calls =
    -- 19 bytes are too few, whatever the table is: the output is not written either
    (("0,0,1,15,17,2\n", lent 84, lent 19), record { returns = 4; output = lent 84; answer = lent 19 })
    ∷ (("\n", lent 84, []), record { returns = 4; output = lent 84; answer = [] })
    -- the output is filled as far as the file goes, the answer to its 20th byte
    ∷ (
      ("0,0,1,15,17,2\n", lent 84, lent 20),
      record { returns = 5; output = holding one; answer = twenty 5 84 0 },
    )
    ∷ (
      ("0,0,1,15,17,2\n", lent 87, lent 21),
      record { returns = 5; output = holding one ++ lent 3; answer = twenty 5 84 0 ++ lent 1 },
    )
    -- a refusal leaves the output as it is
    ∷ (("0,0,1,15,17,2\n\n", lent 87, lent 21), record { returns = 4; output = lent 87; answer = twenty 4 12 3 ++ lent 1 })
    ∷ (("0,0,1,15,17,2\n0,0,1,15,17,2\n", lent 87, lent 20), record { returns = 4; output = lent 87; answer = twenty 4 13 3 })
    ∷ (("0,0,1,15,17,2\n", lent 83, lent 20), record { returns = 4; output = lent 83; answer = twenty 4 11 0 })
    ∷ []

pub imports_leave : map (λ row. import_call (holding no_record) (headed row.0.0) row.0.1 row.0.2) import_calls ≡ map (λ row. row.1) import_calls
unfolding computed_import numbers written output_call
imports_leave = refl

-- the file, the output and the answer slice: as for an import
abbrev pub export_calls : List ((List ℕ × List ℕ × List ℕ) × OutputCall)
export_calls =
    ((two 0 0 0 1, lent 56, lent 19), record { returns = 4; output = lent 56; answer = lent 19 })
    ∷ (([], lent 56, []), record { returns = 4; output = lent 56; answer = [] })
    ∷ (
      (two 0 0 0 1, lent 56, lent 20),
      record { returns = 5; output = headed "0,0,0,0,1,1\n0,1,0,0,1,1\n"; answer = twenty 5 56 0 },
    )
    ∷ (
      (two 0 0 0 1, lent 59, lent 21),
      record { returns = 5; output = headed "0,0,0,0,1,1\n0,1,0,0,1,1\n" ++ lent 3; answer = twenty 5 56 0 ++ lent 1 },
    )
    ∷ ((two 0 0 0 0, lent 59, lent 21), record { returns = 4; output = lent 59; answer = twenty 4 14 0 ++ lent 1 })
    ∷ ((two 0 0 0 1, lent 55, lent 20), record { returns = 4; output = lent 55; answer = twenty 4 11 0 })
    ∷ []

pub exports_leave : map (λ row. export_call row.0.0 row.0.1 row.0.2) export_calls ≡ map (λ row. row.1) export_calls
unfolding computed_export numbers written output_call
exports_leave = refl
