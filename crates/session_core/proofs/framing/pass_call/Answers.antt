use Rattle.session_core.proofs.Lengths.{closed_within}
use Rattle.session_core.proofs.framing.pass_call.Goals as goal

pub returns-in-Opens-clause-within : goal.returns-in-Opens-clause-within
returns-in-Opens-clause-within g c =
    closed_within c.args.out.now.bytes c.begin-at.new.out c.pass_call.new.out c.close.new.out ((g.J.Judge.rules c.args.judge.now).output c.args.frame.now) c.begin-at.result c.args.out.now.room c.requires.empty c.begin-at.ensures.place c.begin-at.ensures.bytes c.in-Opens.ensures.out c.close.ensures c.in-Opens.ensures.within

pub returns-in-Goes-clause-within : goal.returns-in-Goes-clause-within
returns-in-Goes-clause-within g c =
    closed_within c.args.out.now.bytes c.begin-at.new.out c.pass_call.new.out c.close-in-Goes.new.out ((g.J.Judge.rules c.args.judge.now).output c.args.frame.now) c.begin-at.result c.args.out.now.room c.requires.empty c.begin-at.ensures.place c.begin-at.ensures.bytes c.in-Goes.ensures.out c.close-in-Goes.ensures c.in-Goes.ensures.within
