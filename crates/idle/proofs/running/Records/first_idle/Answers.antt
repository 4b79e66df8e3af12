-- The first instant at which a core idles is within the wait, or there is none. Assumes nothing.
use Rattle.std.specs.Prelude.{option_map}
use Prim.Native.Nat.{ℕ}
use mathlib.Core.Path.{◌≡◌, ◌∙◌}
use borrow.Author.Rules.{rules}
use native.Mathlib.Omega.{arith}
use Rattle.base.proofs.Loop.{nothing_yet, first_of_miss}
use Rattle.idle.proofs.Idle.{IdleFrom, all_begun, not_begun_lem, none_idles, idles_at}
use Rattle.idle.proofs.running.Records.first_idle.Goals as goal
use Rattle.idle.proofs.running.Records.first_idle.Goals.{Joined-begun-from, then-begun-from, else-begun-from}

-- where the two ways join, the instant is the first from the wait's first on at which a core idles
abbrev Least : Joined-begun-from → Type 0
Least c =
    let a = c.args in
    IdleFrom a.self.start.now a.self.end.now a.self.core.now a.self.cores a.from c.if-begun-from.least

least : (c : Joined-begun-from) → Least c
least c =
    let p = c.requires in
    elim c.if-begun-from.branch [
      | then-begun-from w ↦
          rw w.least-is (all_begun _ _ _ _ p.beside.0 p.untils p.starts (omega arith) (omega arith) w.least_idle-least.ensures)
      | else-begun-from w ↦ rw w.least-is (not_begun_lem _ _ _ _ p.starts (omega arith))
    ]

pub returns-then-to-from : goal.returns-then-to-from
returns-then-to-from c = first_of_miss _ _ _ (omega arith) (nothing_yet _)

pub returns-then-to-least : goal.returns-then-to-least
returns-then-to-least c = first_of_miss _ _ _ (omega arith) (none_idles _ _ _ _ (least ((goal.at.returns-then-to-least c).Joined-begun-from)))

pub returns : goal.returns
returns c =
    let L = least ((goal.at.returns c).Joined-begun-from) in
    let e : c.map.result ≡ option_map (λ (k : ℕ). (c.if-begun-from.least, k)) c.idle_core.result = search rules in
    e ∙ idles_at _ _ _ _ L (omega arith) (omega arith) _ c.idle_core.ensures
