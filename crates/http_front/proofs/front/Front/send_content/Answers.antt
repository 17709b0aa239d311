use Rattle.std.proofs.Common.{length, take, ap, ◌∙◌, arith, length-take}
use Rattle.std.proofs.lemmas.Grind.{common_steps}
use Rattle.gate_hub.specs.Meaning.{Wrote}
use Rattle.gate_hub.specs.Hubs.{LinkWrites}
use Rattle.gate_hub.specs.declared.hub.Side.TheVariants as side
use Rattle.gate_hub.specs.declared.hub.LinkPut.TheVariants as put
use Rattle.http_front.specs.Fronts.{Front}
use Rattle.http_front.specs.declared.stage.Stage.{Stage}
use Rattle.http_front.proofs.Clients.{goes_call}
use Rattle.http_front.proofs.Turning.{sends_content, write_sends}
use Rattle.http_front.proofs.front.Front.send_content.Goals as goal

pub returns-in-Took-clause-goes : goal.returns-in-Took-clause-goes
returns-in-Took-clause-goes g c =
    let now = c.args.self.now in
    let from = c.args.from.now in
    let most = c.min-most.result in
    let piece = take most from in
    let n = c.in-Took.count in
    goes_call (g.H.Hub.tells c.args.inner.now) (g.H.Hub.tells c.write.new.self) c.args.k (Wrote c.args.k side.Client (length piece) (put.Took n)) (LinkWrites piece (put.Took n)) _
    (λ l m h. sends_content now _ c.args.left most n c.args.last from c.requires.at (omega (arith, c.in-Took.ensures.within.1, length-take most from)) (omega (arith, c.min-most.ensures)) (omega (arith, c.min-most.ensures))
    (ap (λ (f : Front). record f { stage = c.behind_content-self-inside.result }) c.self.view_is ∙ ap (λ (s : Stage). record now { stage = s }) c.behind_content-self-inside.ensures) l m (write_sends piece n l m h)) c.in-Took.ensures.leads

pub returns-in-Failed-clause-goes : goal.returns-in-Failed-clause-goes
returns-in-Failed-clause-goes c = grind (arith, common_steps)

pub returns-in-NotReady-clause-goes : goal.returns-in-NotReady-clause-goes
returns-in-NotReady-clause-goes c = grind (arith, common_steps)
