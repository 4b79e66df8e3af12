-- The chain is counted, and then it is written or does not fit. Assumes nothing.
use Prim.Native.Nat.{◌+◌, ◌*◌}
use native.Mathlib.Omega.{arith}
use Rattle.chain.proofs.ChainFits.{its_chain, count_few, says_11, says_6}
use Rattle.chain.proofs.write.write_chain.Goals as goal

pub why_began-count-requires : goal.why_began-count-requires
why_began-count-requires c =
    let a = c.args in
    let (l, (ρ, T)) = c.requires in
    (l, omega (arith, c.type_inv.t (3 * a.n + a.k)), (ρ, T))

pub overflow_mul-count : goal.overflow_mul-count
overflow_mul-count c =
    let (l, (ρ, T)) = c.requires in
    let few = count_few T l (c.why_began-count.ensures ρ _ T (its_chain T l)) in
    omega (arith, few)

pub returns-then-output-count : goal.returns-then-output-count
returns-then-output-count c ρ T =
    let l = c.requires.0 in
    rw c.from.ensures (says_11 T l (c.why_began-count.ensures ρ _ T (its_chain T l)) _ c.if-output-count.true)

pub why_began-requires : goal.why_began-requires
why_began-requires c =
    let a = c.args in
    let (l, (ρ, T)) = c.requires in
    (l, omega (arith, c.type_inv.t (3 * a.n + a.k)), (ρ, T))

pub overflow_cast-result : goal.overflow_cast-result
overflow_cast-result c =
    let (l, (ρ, T)) = c.requires in
    let few = count_few T l (c.why_began-count.ensures ρ _ T (its_chain T l)) in
    omega (arith, few)

pub returns : goal.returns
returns c ρ T =
    let l = c.requires.0 in
    let chain = its_chain T l in
    says_6 T l (c.why_began-count.ensures ρ _ T chain) _ _ c.if-output-count.false (c.why_began.ensures ρ _ T chain)
