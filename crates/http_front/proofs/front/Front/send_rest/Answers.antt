use Rattle.std.proofs.Common.{◌+◌, ◌-◌, drop, ap, ◌∙◌, subst}
use Rattle.gate_io.specs.Buffer.{Buffer}
use Rattle.gate_hub.specs.declared.hub.LinkPut.{LinkPut}
use Rattle.http_front.specs.Fronts.{Front}
use Rattle.http_front.specs.Moving.{SendsUpTo}
use Rattle.http_front.specs.declared.stage.Stage.{Stage}
use Rattle.http_front.specs.declared.stage.Stage.TheVariants as stage
use Rattle.http_front.proofs.Turning.{rest_took, rest_less}
use Rattle.http_front.proofs.front.Front.send_rest.Goals as goal

pub returns-in-Took-clause-goes : goal.returns-in-Took-clause-goes
returns-in-Took-clause-goes g c =
    let now = c.args.self.now in
    let tells = g.H.Hub.tells in
    let laid = c.lay_response.ensures.laid in
    rest_took (tells c.args.inner.now) (tells c.write_through-count.new.inner) c.args.k now _ c.args.sent laid.0 c.write_through-count.result.0 c.lay_response.result c.args.last c.bytes.result.now c.in-Took.field-0 c.requires.at c.requires.head c.lay_response.ensures.head
    (c.bytes.ensures.bytes ∙ (ap (λ (b : Buffer). b.bytes) c.drop_front.ensures ∙ ap (λ (b : Buffer). drop c.args.sent b.bytes) laid.2))
    (subst (λ (p : LinkPut). SendsUpTo ((c.lay_response.result - c.args.sent) - 1) c.bytes.result.now c.write_through-count.result.0 p) c.in-Took.is c.write_through-count.ensures.within)
    (ap (λ (f : Front). record f { stage = c.behind_response-self-inside.result }) c.self.view_is ∙ ap (λ (s : Stage). record now { stage = s }) c.behind_response-self-inside.ensures) c.write_through-count.ensures.goes

pub returns-in-NotReady-clause-goes : goal.returns-in-NotReady-clause-goes
returns-in-NotReady-clause-goes g c =
    let tells = g.H.Hub.tells in
    let laid = c.lay_response.ensures.laid in
    rest_less (tells c.args.inner.now) (tells c.write_through-count.new.inner) c.args.k c.args.self.now _ c.args.sent laid.0 c.write_through-count.result.0 c.args.last c.bytes.result.now c.requires.at
    (c.bytes.ensures.bytes ∙ (ap (λ (b : Buffer). b.bytes) c.drop_front.ensures ∙ ap (λ (b : Buffer). drop c.args.sent b.bytes) laid.2))
    (ap (λ (f : Front). record f { stage = stage.Empty (c.args.sent + c.write_through-count.result.0) c.args.last }) c.self.view_is) c.write_through-count.ensures.goes

pub returns-in-Failed-clause-goes : goal.returns-in-Failed-clause-goes
returns-in-Failed-clause-goes g c =
    let tells = g.H.Hub.tells in
    let laid = c.lay_response.ensures.laid in
    rest_less (tells c.args.inner.now) (tells c.write_through-count.new.inner) c.args.k c.args.self.now _ c.args.sent laid.0 c.write_through-count.result.0 c.args.last c.bytes.result.now c.requires.at
    (c.bytes.ensures.bytes ∙ (ap (λ (b : Buffer). b.bytes) c.drop_front.ensures ∙ ap (λ (b : Buffer). drop c.args.sent b.bytes) laid.2))
    (ap (λ (f : Front). record f { stage = stage.Empty (c.args.sent + c.write_through-count.result.0) c.args.last }) c.self.view_is) c.write_through-count.ensures.goes
