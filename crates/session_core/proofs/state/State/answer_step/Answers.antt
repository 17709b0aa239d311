use Rattle.std.proofs.Common.{arith, subst}
use Rattle.session_core.specs.declared.judge.ClientJudged.TheVariants as client
use Rattle.session_core.proofs.Moves.{call_told, refused_at}
use Rattle.session_core.proofs.state.State.answer_step.Goals as goal

pub answer_call-requires-clause-fits : goal.answer_call-requires-clause-fits
answer_call-requires-clause-fits g c =
    let cut = c.in-Frame.ensures.cut c.in-Frame.frame.now c.in-Frame.ensures.exact.0 c.in-Frame.ensures.exact.1 in
    omega (arith, cut.within, c.requires.works.fits)

pub answer_call-requires-clause-refused : goal.answer_call-requires-clause-refused
answer_call-requires-clause-refused g c = refused_at (g.J.Judge.rules c.args.judge.now) _ _ c.args.cause c.in-Frame.frame.now c.in-Frame.ensures.exact.0 c.requires.found c.in-Frame.ensures.exact.1

pub answer_call-requires-clause-room : goal.answer_call-requires-clause-room
answer_call-requires-clause-room g c =
    let cut = c.in-Frame.ensures.cut c.in-Frame.frame.now c.in-Frame.ensures.exact.0 c.in-Frame.ensures.exact.1 in
    omega (arith, cut.within, c.requires.works.ready.client.due_room_is)

pub returns-then-not-is_empty-clause-told : goal.returns-then-not-is_empty-clause-told
returns-then-not-is_empty-clause-told g c = g.met.N.Notes.stays c.args.notes.now

pub returns-clause-told : goal.returns-clause-told
returns-clause-told g c = g.met.N.Notes.stays c.args.notes.now

pub returns-in-Frame-clause-told : goal.returns-in-Frame-clause-told
returns-in-Frame-clause-told g c =
    let s = c.args.self.now in
    let rules = g.J.Judge.rules c.args.judge.now in
    let frame = c.in-Frame.frame.now in
    let rest = c.in-Frame.ensures.exact.0 in
    subst (λ ns. g.N.Notes.tells c.args.notes.now c.note_call.new.notes ns)
    (call_told rules s.client.held.limit s.client.count s.client.held.held frame rest (client.Refused c.args.cause) _ c.in-Frame.ensures.exact.1 (refused_at rules _ _ c.args.cause frame rest c.requires.found c.in-Frame.ensures.exact.1) c.next_of.ensures)
    c.note_call.ensures
