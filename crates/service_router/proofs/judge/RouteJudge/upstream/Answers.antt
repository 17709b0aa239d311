use Rattle.session_core.proofs.Lengths.{closed_within}
use Rattle.service_router.proofs.judge.RouteJudge.upstream.Goals as goal

pub returns-clause-within : goal.returns-clause-within
returns-clause-within c =
    closed_within c.args.out.now.bytes c.begin-at.new.out c.judge_reply-judged.new.out c.close.new.out _ c.begin-at.result c.args.out.now.room c.requires.empty c.begin-at.ensures.place c.begin-at.ensures.bytes c.judge_reply-judged.ensures.out c.close.ensures c.judge_reply-judged.ensures.within
