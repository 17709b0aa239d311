use Rattle.std.proofs.Common.{◌≡◌, ◌<◌, length, map, get_or, arith, sym, ◌∙◌}
use Rattle.std.proofs.lemmas.List.{ext_get_or, length-map}
use Rattle.std.proofs.Math.ListN.{get_or-map}
use Rattle.gate_memory.specs.Link.{new_link_state, unasked_link}
use Rattle.gate_memory.proofs.fan_session.forget_answers.Goals as goal

pub returns : goal.returns
returns c =
    let i = c.loop-port.invariant in
    ext_get_or new_link_state c.loop-port.ports (map unasked_link c.args.ports.now) (i.long ∙ sym (length-map c.args.ports.now unasked_link))
    (λ k under. i.before k new_link_state (omega (arith, under, i.long)) ∙ sym (get_or-map unasked_link c.args.ports.now k new_link_state))
