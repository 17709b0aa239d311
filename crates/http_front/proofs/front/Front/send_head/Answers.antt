use Rattle.std.proofs.Common.{arith, ◌+◌, ◌-◌, drop, refl, ap, ◌∙◌, subst}
use Rattle.std.proofs.lemmas.Grind.{common_steps}
use Rattle.gate_io.specs.Buffer.{Buffer}
use Rattle.gate_hub.specs.declared.hub.LinkPut.{LinkPut}
use Rattle.http_front.specs.Fronts.{Front}
use Rattle.http_front.specs.Moving.{SendsUpTo}
use Rattle.http_front.specs.declared.stage.Stage.{Stage}
use Rattle.http_front.specs.declared.stage.Stage.TheVariants as stage
use Rattle.http_front.proofs.Turning.{head_took, head_less}
use Rattle.http_front.proofs.front.Front.send_head.Goals as goal

pub returns-in-Took-clause-goes : goal.returns-in-Took-clause-goes
returns-in-Took-clause-goes g c =
    let now = c.args.self.now in
    let tells = g.H.Hub.tells in
    let laid = c.lay_response.ensures.laid in
    head_took (tells c.args.inner.now) (tells c.write_through-count.new.inner) c.args.k now _ c.args.size c.args.sent laid.0 c.write_through-count.result.0 c.lay_response.result c.args.last c.args.from.now c.bytes.result.now c.in-Took.field-0 c.requires.at c.ranges.size.fits c.requires.head c.lay_response.ensures.head laid.1
    (c.bytes.ensures.bytes ∙ (ap (λ (b : Buffer). b.bytes) c.drop_front.ensures ∙ ap (λ (b : Buffer). drop c.args.sent b.bytes) laid.2))
    (subst (λ (p : LinkPut). SendsUpTo (c.lay_response.result - c.args.sent) c.bytes.result.now c.write_through-count.result.0 p) c.in-Took.is c.write_through-count.ensures.within)
    (ap (λ (f : Front). record f { stage = c.behind_content-self-inside.result }) c.self.view_is ∙ ap (λ (s : Stage). record now { stage = s }) c.behind_content-self-inside.ensures) c.write_through-count.ensures.goes

pub returns-in-NotReady-clause-goes : goal.returns-in-NotReady-clause-goes
returns-in-NotReady-clause-goes g c =
    let now = c.args.self.now in
    let tells = g.H.Hub.tells in
    let laid = c.lay_response.ensures.laid in (
      head_less (tells c.args.inner.now) (tells c.write_through-count.new.inner) c.args.k now _ c.args.size c.args.sent laid.0 c.write_through-count.result.0 c.lay_response.result c.args.last c.args.from.now c.bytes.result.now c.requires.at c.requires.head c.lay_response.ensures.head
          (c.bytes.ensures.bytes ∙ (ap (λ (b : Buffer). b.bytes) c.drop_front.ensures ∙ ap (λ (b : Buffer). drop c.args.sent b.bytes) laid.2))
          (subst (λ (p : LinkPut). SendsUpTo (c.lay_response.result - c.args.sent) c.bytes.result.now c.write_through-count.result.0 p) c.in-NotReady.is c.write_through-count.ensures.within)
          (ap (λ (f : Front). record f { stage = stage.Response c.args.size (c.args.sent + c.write_through-count.result.0) c.args.last }) c.self.view_is) c.write_through-count.ensures.goes,
      refl,
    )

pub returns-in-Failed-clause-goes : goal.returns-in-Failed-clause-goes
returns-in-Failed-clause-goes g c =
    let now = c.args.self.now in
    let tells = g.H.Hub.tells in
    let laid = c.lay_response.ensures.laid in (
      head_less (tells c.args.inner.now) (tells c.write_through-count.new.inner) c.args.k now _ c.args.size c.args.sent laid.0 c.write_through-count.result.0 c.lay_response.result c.args.last c.args.from.now c.bytes.result.now c.requires.at c.requires.head c.lay_response.ensures.head
          (c.bytes.ensures.bytes ∙ (ap (λ (b : Buffer). b.bytes) c.drop_front.ensures ∙ ap (λ (b : Buffer). drop c.args.sent b.bytes) laid.2))
          (subst (λ (p : LinkPut). SendsUpTo (c.lay_response.result - c.args.sent) c.bytes.result.now c.write_through-count.result.0 p) c.in-Failed.is c.write_through-count.ensures.within)
          (ap (λ (f : Front). record f { stage = stage.Response c.args.size (c.args.sent + c.write_through-count.result.0) c.args.last }) c.self.view_is) c.write_through-count.ensures.goes,
      refl,
    )

pub write_through-count-requires : goal.write_through-count-requires
write_through-count-requires c = grind (arith, common_steps)

pub returns-in-Took-clause-within : goal.returns-in-Took-clause-within
returns-in-Took-clause-within c = grind (arith, common_steps)

pub drop_front-requires : goal.drop_front-requires
drop_front-requires c = grind (arith, common_steps)

pub overflow_sub-size : goal.overflow_sub-size
overflow_sub-size c = grind (arith, common_steps)
