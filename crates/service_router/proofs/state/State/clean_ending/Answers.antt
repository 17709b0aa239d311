use Rattle.std.proofs.Common.{arith, ◌∙◌, ap}
use Rattle.service_router.specs.Standing.{Inbox, silent}
use Rattle.service_router.specs.Steps.{unasked_at}
use Rattle.service_router.proofs.Ports.{read_at}
use Rattle.service_router.proofs.Endings.{told_unasked}
use Rattle.service_router.proofs.state.State.clean_ending.Goals as goal

pub returns-in-Some : goal.returns-in-Some
returns-in-Some c =
    let us = c.args.self.now.ports.items in
    let at = c.in-Some.target in
    let there = read_at us at c.index.result.now (silent 0) c.in-Some.ensures.within c.index.ensures in
    told_unasked us at _ _ _ c.in-Some.ensures.exact (omega arith) c.saturating_add.ensures (c.taken-calls.ensures ∙ ap (λ (i : Inbox). i.taken) there)

pub returns-in-None : goal.returns-in-None
returns-in-None c = ap (unasked_at c.args.self.now.ports.items) c.in-None.ensures.exact
