use Rattle.std.proofs.Common.{◌≡◌, Option, None, Some, false, inl, refl, sym, ◌∙◌, ap, subst}
use Rattle.gate_words.specs.Commands.{command}
use Rattle.gate_words.specs.declared.command.Command.{Command}
use Rattle.gate_run.specs.Running.{reads_input, has_posts, is_unframed}
use Rattle.gate_run.proofs.Faults.{by_code}
use Rattle.gate_run.proofs.Routed.{unread_router}
use Rattle.gate_run.proofs.Starts.{unread, unread_server}
use Rattle.gate_run.proofs.commands.run.Goals as goal

pub returns-in-Ok-Some-clause-does : goal.returns-in-Ok-Some-clause-does
returns-in-Ok-Some-clause-does g c =
    let named : Some c.in-Ok-Some.command ≡ command c.args.words.now = cc (c.in-Ok-Some.ensures.value) in
    rw (← named) (c.obey-ending.result, c.status.ensures, c.obey-ending.ensures.does)

pub returns-in-Ok-Some-clause-serves : goal.returns-in-Ok-Some-clause-serves
returns-in-Ok-Some-clause-serves g c = λ s declared is.
    let named : Some c.in-Ok-Some.command ≡ command c.args.words.now = cc (c.in-Ok-Some.ensures.value) in
    (c.obey-ending.result, c.status.ensures, c.obey-ending.ensures.serves s declared (cc (named ∙ is)))

pub returns-in-Ok-Some-clause-no_file_fault : goal.returns-in-Ok-Some-clause-no_file_fault
returns-in-Ok-Some-clause-no_file_fault g c = by_code _ c.obey-ending.result _ _ c.status.ensures c.obey-ending.ensures.no_file_fault

pub returns-in-Ok-Some-clause-input : goal.returns-in-Ok-Some-clause-input
returns-in-Ok-Some-clause-input g c = λ e.
    let named : Some c.in-Ok-Some.command ≡ command c.args.words.now = cc (c.in-Ok-Some.ensures.value) in
    c.obey-ending.ensures.input (subst (λ (o : Option Command). reads_input o ≡ false) (sym named) e)

pub returns-in-Ok-Some-clause-hub : goal.returns-in-Ok-Some-clause-hub
returns-in-Ok-Some-clause-hub g c = λ none.
    let named : Some c.in-Ok-Some.command ≡ command c.args.words.now = cc (c.in-Ok-Some.ensures.value) in
    c.obey-ending.ensures.hub (λ s d is. none s d (sym named ∙ ap Some is))

pub returns-in-Ok-Some-clause-fan : goal.returns-in-Ok-Some-clause-fan
returns-in-Ok-Some-clause-fan g c = λ none.
    let named : Some c.in-Ok-Some.command ≡ command c.args.words.now = cc (c.in-Ok-Some.ensures.value) in
    c.obey-ending.ensures.fan (λ r d is. none r d (sym named ∙ ap Some is))

pub returns-in-Ok-Some-clause-hub_waits : goal.returns-in-Ok-Some-clause-hub_waits
returns-in-Ok-Some-clause-hub_waits g c = λ e.
    let named : Some c.in-Ok-Some.command ≡ command c.args.words.now = cc (c.in-Ok-Some.ensures.value) in
    c.obey-ending.ensures.hub_waits (subst (λ (o : Option Command). has_posts o ≡ false) (sym named) e)

pub returns-in-Ok-Some-clause-hub_links : goal.returns-in-Ok-Some-clause-hub_links
returns-in-Ok-Some-clause-hub_links g c = λ e f.
    let named : Some c.in-Ok-Some.command ≡ command c.args.words.now = cc (c.in-Ok-Some.ensures.value) in
    c.obey-ending.ensures.hub_links (subst (λ (o : Option Command). has_posts o ≡ false) (sym named) e) (subst (λ (o : Option Command). is_unframed o ≡ false) (sym named) f)

pub returns-in-Ok-None-clause-does : goal.returns-in-Ok-None-clause-does
returns-in-Ok-None-clause-does g c =
    let named : None ≡ command c.args.words.now = cc (c.in-Ok-None.ensures.value) in
    rw (← named) (
      c.usage.result,
      c.status-in-Ok-None.ensures,
      inl (record { left = refl; written = refl; front = c.usage.ensures.front; ends = c.usage.ensures.ends }),
    )

pub returns-in-Ok-None-clause-serves : goal.returns-in-Ok-None-clause-serves
returns-in-Ok-None-clause-serves g c = λ s declared is.
    let named : None ≡ command c.args.words.now = cc (c.in-Ok-None.ensures.value) in
    absurd (cc (named ∙ is))

pub returns-in-Err-clause-does : goal.returns-in-Err-clause-does
returns-in-Err-clause-does g c = (
  c.halt.result,
  c.status-in-Err.ensures,
  unread (command c.args.words.now) _ _ _ _ _ (c.halt.ensures.halts (g.I.Source.left c.args.input.now) (g.O.Sink.written c.args.output.now) (g.I.Source.faults c.args.input.now) (g.O.Sink.faults c.args.output.now)),
)

pub returns-in-Err-clause-serves : goal.returns-in-Err-clause-serves
returns-in-Err-clause-serves g c = λ s declared is. (
  c.halt.result,
  c.status-in-Err.ensures,
  λ left input. unread_server g.H.Hub s declared _ _ _ _ c.args.hub.now _ (c.halt.ensures.halts left (g.O.Sink.written c.args.output.now) input (g.O.Sink.faults c.args.output.now)),
)

pub returns-in-Ok-Some-clause-routes : goal.returns-in-Ok-Some-clause-routes
returns-in-Ok-Some-clause-routes g c = λ r declared is.
    let named : Some c.in-Ok-Some.command ≡ command c.args.words.now = cc (c.in-Ok-Some.ensures.value) in
    (c.obey-ending.result, c.status.ensures, c.obey-ending.ensures.routes r declared (cc (named ∙ is)))

pub returns-in-Ok-None-clause-routes : goal.returns-in-Ok-None-clause-routes
returns-in-Ok-None-clause-routes g c = λ r declared is.
    let named : None ≡ command c.args.words.now = cc (c.in-Ok-None.ensures.value) in
    absurd (cc (named ∙ is))

pub returns-in-Err-clause-routes : goal.returns-in-Err-clause-routes
returns-in-Err-clause-routes g c = λ r declared is. (
  c.halt.result,
  c.status-in-Err.ensures,
  λ left input. unread_router g.G.Fan r declared _ _ _ _ c.args.fan.now _ (c.halt.ensures.halts left (g.O.Sink.written c.args.output.now) input (g.O.Sink.faults c.args.output.now)),
)
