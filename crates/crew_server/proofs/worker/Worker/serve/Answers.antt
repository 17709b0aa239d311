use Rattle.gate_words.specs.Serving.{part_of}
use Rattle.crew_server.proofs.Leaving.{works}
use Rattle.crew_server.proofs.worker.Worker.serve.Goals as goal

pub returns : goal.returns
returns g c =
    works g.O.Sink g.H.Hub g.X.Exit (part_of c.args.serving.now c.args.threads c.args.at) c.args.start.now c.args.self.now c.serve_part.new.self c.leave.new.self
    c.leave.ensures.same c.serve_part.ensures.serves c.leave.ensures.leaves c.serve_part.ensures.output_later c.serve_part.ensures.hub_faults
    c.serve_part.ensures.hub_waits c.serve_part.ensures.hub_links
