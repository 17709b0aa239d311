use Rattle.session_core.proofs.Lengths.{closed_within}
use Rattle.service_router.specs.Judging.{output_of}
use Rattle.service_router.proofs.judge.RouteJudge.client.Goals as goal

pub returns-clause-within : goal.returns-clause-within
returns-clause-within c =
    closed_within c.args.out.now.bytes c.begin-at.new.out c.route-routed.new.out c.close.new.out (output_of c.args.self.now c.args.frame.now) c.begin-at.result c.args.out.now.room c.requires.empty c.begin-at.ensures.place c.begin-at.ensures.bytes c.route-routed.ensures.out c.close.ensures c.route-routed.ensures.within
