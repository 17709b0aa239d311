use Rattle.std.proofs.Common.{rules, ◌≡◌, true, None, option_map, ap, ◌∙◌, sym, subst}
use Rattle.std.proofs.Math.ListN.{set}
use Rattle.gate_hub.specs.declared.hub.HubNext.TheVariants as event
use Rattle.gate_memory.specs.declared.link.Passed.TheVariants as passed
use Rattle.gate_memory.specs.declared.fan.Performed.TheVariants as performed
use Rattle.gate_memory.specs.Link.{changed_by, Grows}
use Rattle.gate_memory.specs.FanPorts.{MakesSession, changed_session}
use Rattle.gate_memory.specs.Fan.{has_port_at}
use Rattle.gate_memory.proofs.FanEvents.{ports_ready, ready_of, would_change, set_again}
use Rattle.gate_memory.proofs.fan.change.Goals as goal

pub returns-in-Ok-Over-clause-exact : goal.returns-in-Ok-Over-clause-exact
returns-in-Ok-Over-clause-exact c =
    let on : has_port_at c.args.sessions.now.items c.args.k c.args.port ≡ true = search rules in
    let s = c.index_mut.result.now in
    let over = subst (λ p. MakesSession (changed_session c.args.port (changed_by c.args.change) s) s c.perform.new.self p) c.in-Ok-Over.field-0-is c.in-Ok-Over.ensures.done in
    (ready_of c.args.k c.args.port (changed_by c.args.change) c.args.sessions.now.items s on c.index_mut.ensures.value ∙ ap (λ o. option_map (λ x. (event.Ready c.args.k, set c.args.sessions.now.items c.args.k x)) o) over.0, set_again c.args.sessions.now.items c.args.k s c.perform.new.self c.index_mut.ensures.value over.1)

pub returns-in-Ok-Over-clause-ports : goal.returns-in-Ok-Over-clause-ports
returns-in-Ok-Over-clause-ports c = λ targets all. ports_ready targets c.args.k c.args.port c.args.change (Grows c.args.change) c.args.sessions.now.items (set c.args.sessions.now.items c.args.k c.perform.new.self) performed.PassedOver (returns-in-Ok-Over-clause-exact c) all

pub returns-in-Err-clause-exact : goal.returns-in-Err-clause-exact
returns-in-Err-clause-exact c =
    let on : has_port_at c.args.sessions.now.items c.args.k c.args.port ≡ true = search rules in
    let e = c.in-Err.ensures.err in
    let would = would_change c.args.k c.args.port (changed_by c.args.change) c.args.sessions.now.items c.index_mut.result.now on c.index_mut.ensures.value e.2 in
    (would.0, would.1, e.1, set_again c.args.sessions.now.items c.args.k c.index_mut.result.now c.perform.new.self c.index_mut.ensures.value e.0)

pub returns-in-Err-clause-ports : goal.returns-in-Err-clause-ports
returns-in-Err-clause-ports c = λ targets all. ports_ready targets c.args.k c.args.port c.args.change (Grows c.args.change) c.args.sessions.now.items (set c.args.sessions.now.items c.args.k c.perform.new.self) performed.Refused (returns-in-Err-clause-exact c) all

pub returns-in-Ok-Performed-clause-ports : goal.returns-in-Ok-Performed-clause-ports
returns-in-Ok-Performed-clause-ports c = λ targets all.
    let on : has_port_at c.args.sessions.now.items c.args.k c.args.port ≡ true = search rules in
    let s = c.index_mut.result.now in
    let done = subst (λ p. MakesSession (changed_session c.args.port (changed_by c.args.change) s) s c.perform.new.self p) c.in-Ok-Performed.field-0-is c.in-Ok-Performed.ensures.done in
    ports_ready targets c.args.k c.args.port c.args.change (Grows c.args.change) c.args.sessions.now.items (set c.args.sessions.now.items c.args.k c.perform.new.self) (performed.Ready c.args.k)
    (ready_of c.args.k c.args.port (changed_by c.args.change) c.args.sessions.now.items s on c.index_mut.ensures.value ∙ ap (λ o. option_map (λ x. (event.Ready c.args.k, set c.args.sessions.now.items c.args.k x)) o) done) all
