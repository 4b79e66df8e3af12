use Rattle.whyfile.proofs.file.trace.Goals as goal

pub write_chain-requires : goal.write_chain-requires
write_chain-requires c =
    let (S, l, O) = c.requires in
    (l, (_, record { table = c.read_table.ensures.lent; obeys = O }))

pub returns : goal.returns
returns c = let (S, l, O) = c.requires in c.write_chain.ensures _ (record { table = c.read_table.ensures.lent; obeys = O })
