-- Each call fills in what the next one asks for. Assumes nothing.
use Rattle.model.specs.Carry.{opening}
use Rattle.openfile.specs.Head.{run_in}
use Rattle.standing.proofs.NextAsks.{stands_jobs, stands_listed}
use Rattle.standing.proofs.open_table.Goals as goal

pub list_jobs-requires : goal.list_jobs-requires
list_jobs-requires c = let (l, C) = c.requires in (l, (_, stands_jobs C))

pub open_records-requires : goal.open_records-requires
open_records-requires c =
    let ρ = run_in c.args.o.file.now in
    let C = c.requires.1 in
    (ρ, _, C, c.list_jobs.ensures (opening ρ _) (stands_jobs C))

pub fill_times-requires : goal.fill_times-requires
fill_times-requires c =
    let ρ = run_in c.args.o.file.now in
    let C = c.requires.1 in
    (opening ρ _, stands_listed C (c.open_records.ensures ρ _ C (c.list_jobs.ensures (opening ρ _) (stands_jobs C))))

pub fill_times-requires-2 : goal.fill_times-requires-2
fill_times-requires-2 c =
    let ρ = run_in c.args.o.file.now in
    let C = c.requires.1 in
    let table = c.open_records.ensures ρ _ C (c.list_jobs.ensures (opening ρ _) (stands_jobs C)) in
    (opening ρ _, stands_listed C (c.fill_times.ensures (opening ρ _) (stands_listed C table)).lent)

pub fill_times-requires-3 : goal.fill_times-requires-3
fill_times-requires-3 c =
    let ρ = run_in c.args.o.file.now in
    let C = c.requires.1 in
    let table = c.open_records.ensures ρ _ C (c.list_jobs.ensures (opening ρ _) (stands_jobs C)) in
    let releases = c.fill_times.ensures (opening ρ _) (stands_listed C table) in
    (opening ρ _, stands_listed C (c.fill_times-2.ensures (opening ρ _) (stands_listed C releases.lent)).lent)

pub returns : goal.returns
returns c =
    let ρ = run_in c.args.o.file.now in
    let C = c.requires.1 in
    let table = c.open_records.ensures ρ _ C (c.list_jobs.ensures (opening ρ _) (stands_jobs C)) in
    let releases = c.fill_times.ensures (opening ρ _) (stands_listed C table) in
    let lengths = c.fill_times-2.ensures (opening ρ _) (stands_listed C releases.lent) in
    (c.fill_times-3.ensures (opening ρ _) (stands_listed C lengths.lent)).lent
