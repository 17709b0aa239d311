use Rattle.session_core.proofs.Lengths.{closed_within}
use Rattle.session_core.proofs.framing.pass_reply.Goals as goal

pub returns-then-pass_reply-clause-within : goal.returns-then-pass_reply-clause-within
returns-then-pass_reply-clause-within g c =
    closed_within c.args.out.now.bytes c.begin-at.new.out c.pass_reply.new.out c.close.new.out ((g.J.Judge.rules c.args.judge.now).reply c.args.call c.args.frame.now) c.begin-at.result c.args.out.now.room c.requires.empty c.begin-at.ensures.place c.begin-at.ensures.bytes (c.pass_reply.ensures.out c.if-pass_reply.true) c.close.ensures c.pass_reply.ensures.within
