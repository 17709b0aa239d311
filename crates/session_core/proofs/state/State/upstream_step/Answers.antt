use Rattle.std.proofs.Common.{◌≡◌, ◌<◌, ◌++◌, ◌∷◌, [], length, List, ℕ, drop, arith, refl, None, sym, ◌∙◌, ap, subst}
use Rattle.std.proofs.lemmas.Grind.{common_steps}
use Rattle.gate_io.specs.Buffer.{Buffer}
use Rattle.framed_transport.specs.Frames.{framed}
use Rattle.framed_transport.specs.Front.{Part, Whole, front, is_part}
use Rattle.session_core.specs.Standing.{Standing}
use Rattle.session_core.specs.Steps.{Move, Takes}
use Rattle.session_core.specs.Working.{standing, Comes, ends_step}
use Rattle.session_core.specs.declared.state.SessionStep.{SessionStep}
use Rattle.session_core.specs.declared.judge.UpstreamJudged.TheVariants as upstream
use Rattle.session_core.proofs.Moves.{told_ends, reply_told, paid_none, owed_some, knows_kept, answers, no_call, due_first, no_reply, first_of, no_first, none_open, some_open, behind_whole, other_limit, after_upstream}
use Rattle.session_core.specs.declared.state.State.{State}
use Rattle.gate_hub.specs.declared.hub.Side.TheVariants as side
use Rattle.session_core.specs.Looks.{came}
use Rattle.session_core.proofs.Keeping.{keeps_still, keeps_looking, ready_written}
use Rattle.session_core.proofs.state.State.upstream_step.Goals as goal

pub returns-in_default-clause-comes : goal.returns-in_default-clause-comes
returns-in_default-clause-comes g c = (no_call _ _ (standing c.args.self.now) (no_first c.args.self.now.calls.items (sym c.in_default.ensures)), refl)

pub returns-then-is_empty-clause-comes : goal.returns-then-is_empty-clause-comes
returns-then-is_empty-clause-comes g c = (no_call _ _ (standing c.args.self.now) (none_open c.is_empty.result c.args.self.now.calls.items c.if-is_empty.true c.is_empty.ensures), refl)

-- what the end of the upstream does, by its own limit
ends : (limit other : ℕ) (held : List ℕ) (ended : Rattle.std.proofs.Common.Bool) (step : SessionStep) (m : Move) (s t : State) → other ≡ limit → step ≡ ends_step (is_part (front other held)) ended → t ≡ record s { halt = t.halt } → Comes (ends_step (is_part (front limit held)) ended) m (standing s) (standing s) → Comes step m (standing s) (standing t)
ends limit other held ended step m s t e is same h =
    subst (λ (u : Standing). Comes step m (standing s) u) (sym (ap standing same))
    (subst (λ (u : SessionStep). Comes u m (standing s) (standing s)) (ap (λ n. ends_step (is_part (front n held)) ended) (sym e) ∙ sym is) h)

pub returns-then-not-is_paid-clause-comes : goal.returns-then-not-is_paid-clause-comes
returns-then-not-is_paid-clause-comes g c =
    let s = standing c.args.self.now in
    let some : 0 < length c.args.self.now.client.due.bytes = owed_some c.is_paid.result c.args.self.now.client.due.bytes c.if-not-is_paid.true c.is_paid.ensures in
    let oldest = some_open c.is_empty.result c.args.self.now.calls.items c.if-is_empty.false c.is_empty.ensures in
    ends c.args.self.now.client.held.limit c.args.self.now.upstream.held.limit c.args.self.now.upstream.held.held c.args.self.now.upstream.ended (came c.upstream_ends.result c.upstream_ends.new.self.halt) _ c.args.self.now c.upstream_ends.new.self c.requires.works.ready.upstream.limit_is c.upstream_ends.ensures.ends c.upstream_ends.ensures.same
    (due_first (g.J.Judge.rules c.args.judge.now) c.args.self.now.client.held.limit s oldest.0 (drop 1 c.args.self.now.calls.items) oldest.1 some)

pub pass_reply-requires-clause-fits : goal.pass_reply-requires-clause-fits
pass_reply-requires-clause-fits g c =
    let cut = c.in-Frame.ensures.cut c.in-Frame.frame.now c.in-Frame.ensures.exact.0 c.in-Frame.ensures.exact.1 in
    omega (arith, cut.within, c.requires.works.fits, c.requires.works.ready.upstream.limit_is)

pub pass_reply-requires-clause-room : goal.pass_reply-requires-clause-room
pass_reply-requires-clause-room g c =
    let cut = c.in-Frame.ensures.cut c.in-Frame.frame.now c.in-Frame.ensures.exact.0 c.in-Frame.ensures.exact.1 in
    omega (arith, cut.within, c.requires.works.ready.client.due_room_is, c.requires.works.ready.upstream.limit_is)

pub returns-in-NeedMore-clause-comes : goal.returns-in-NeedMore-clause-comes
returns-in-NeedMore-clause-comes g c =
    let s = standing c.args.self.now in
    let none : c.args.self.now.client.due.bytes ≡ [] = paid_none c.is_paid.result c.args.self.now.client.due.bytes c.if-not-is_paid.false c.is_paid.ensures in
    let oldest = some_open c.is_empty.result c.args.self.now.calls.items c.if-is_empty.false c.is_empty.ensures in
    let part = other_limit c.args.self.now.client.held.limit c.args.self.now.upstream.held.limit c.args.self.now.upstream.held.held Part c.requires.works.ready.upstream.limit_is c.in-NeedMore.ensures.exact in
    ends c.args.self.now.client.held.limit c.args.self.now.upstream.held.limit c.args.self.now.upstream.held.held c.args.self.now.upstream.ended (came c.upstream_ends-in-NeedMore.result c.upstream_ends-in-NeedMore.new.self.halt) _ c.args.self.now c.upstream_ends-in-NeedMore.new.self c.requires.works.ready.upstream.limit_is c.upstream_ends-in-NeedMore.ensures.ends c.upstream_ends-in-NeedMore.ensures.same
    (no_reply (g.J.Judge.rules c.args.judge.now) c.args.self.now.client.held.limit s oldest.0 (drop 1 c.args.self.now.calls.items) oldest.1 none part)

pub returns-then-pass_reply-clause-comes : goal.returns-then-pass_reply-clause-comes
returns-then-pass_reply-clause-comes g c =
    let s = standing c.args.self.now in
    let none : c.args.self.now.client.due.bytes ≡ [] = paid_none c.is_paid.result c.args.self.now.client.due.bytes c.if-not-is_paid.false c.is_paid.ensures in
    let calls : c.args.self.now.calls.items ≡ c.in-Some.field-0.now ∷ drop 1 c.args.self.now.calls.items = first_of c.args.self.now.calls.items c.in-Some.field-0.now (sym c.in-Some.ensures) in
    let frame = c.in-Frame.frame.now in
    let rest = c.in-Frame.ensures.exact.0 in
    let rules = g.J.Judge.rules c.args.judge.now in
    let whole = other_limit c.args.self.now.client.held.limit c.args.self.now.upstream.held.limit c.args.self.now.upstream.held.held (Whole frame rest) c.requires.works.ready.upstream.limit_is c.in-Frame.ensures.exact.1 in
    let left = behind_whole c.args.self.now.upstream.held.limit c.args.self.now.upstream.held.held frame rest c.in-Frame.ensures.exact.1 in
    let out : c.pass_reply.new.out.bytes ≡ framed (rules.reply c.in-Some.field-0.now frame) = ap (λ (b : Buffer). b.bytes) (c.pass_reply.ensures.out c.if-pass_reply.true) in
    answers rules c.args.self.now.client.held.limit s c.in-Some.field-0.now (drop 1 c.args.self.now.calls.items) frame rest (upstream.Answers None) calls none whole (c.pass_reply.ensures.verdict c.if-pass_reply.true)
    ∙ ap Takes (after_upstream s (standing c.close_call.new.self) _ rest _ (framed (rules.reply c.in-Some.field-0.now frame)) _ _ c.close_call.ensures.stands left out refl)

-- ---- what is kept

pub returns-in_default-clause-keeps : goal.returns-in_default-clause-keeps
returns-in_default-clause-keeps g c = keeps_still (g.J.Judge.rules c.args.judge.now) _ c.args.self.now c.requires.works

pub returns-then-is_empty-clause-keeps : goal.returns-then-is_empty-clause-keeps
returns-then-is_empty-clause-keeps g c = keeps_still (g.J.Judge.rules c.args.judge.now) _ c.args.self.now c.requires.works

pub returns-then-not-is_paid-clause-keeps : goal.returns-then-not-is_paid-clause-keeps
returns-then-not-is_paid-clause-keeps g c = keeps_looking (g.J.Judge.rules c.args.judge.now) _ c.args.self.now c.upstream_ends.new.self c.upstream_ends.ensures.same c.requires.works

pub returns-in-NeedMore-clause-keeps : goal.returns-in-NeedMore-clause-keeps
returns-in-NeedMore-clause-keeps g c = keeps_looking (g.J.Judge.rules c.args.judge.now) _ c.args.self.now c.upstream_ends-in-NeedMore.new.self c.upstream_ends-in-NeedMore.ensures.same c.requires.works

pub returns-then-pass_reply-clause-keeps : goal.returns-then-pass_reply-clause-keeps
returns-then-pass_reply-clause-keeps g c =
    let s = c.args.self.now in
    let out = c.pass_reply.new.out in
    let mid : State = record s { client = record (s.client) { due = out } } in
    let room = ap (λ (b : Buffer). b.room) (c.pass_reply.ensures.out c.if-pass_reply.true) in
    record {
      ready = c.close_call.ensures.ready _ _ (ready_written side.Client s.client.held.limit s.calls.capacity s out room c.pass_reply.ensures.within c.requires.works.ready);
      known = knows_kept (g.J.Judge.rules c.args.judge.now) mid c.close_call.new.self c.close_call.ensures.kept.0 c.close_call.ensures.kept.1 c.requires.works.known;
    }

-- ---- what is told

pub returns-in_default-clause-told : goal.returns-in_default-clause-told
returns-in_default-clause-told g c = g.met.N.Notes.stays c.args.notes.now

pub returns-then-is_empty-clause-told : goal.returns-then-is_empty-clause-told
returns-then-is_empty-clause-told g c = g.met.N.Notes.stays c.args.notes.now

pub returns-then-not-is_paid-clause-told : goal.returns-then-not-is_paid-clause-told
returns-then-not-is_paid-clause-told g c =
    let a = c.args.notes.now in
    subst (λ ns. g.N.Notes.tells a a ns) (told_ends (came c.upstream_ends.result c.upstream_ends.new.self.halt) _ _ _ c.upstream_ends.ensures.ends) (g.met.N.Notes.stays a)

pub returns-in-NeedMore-clause-told : goal.returns-in-NeedMore-clause-told
returns-in-NeedMore-clause-told g c =
    let a = c.args.notes.now in
    subst (λ ns. g.N.Notes.tells a a ns) (told_ends (came c.upstream_ends-in-NeedMore.result c.upstream_ends-in-NeedMore.new.self.halt) _ _ _ c.upstream_ends-in-NeedMore.ensures.ends) (g.met.N.Notes.stays a)

pub returns-then-pass_reply-clause-told : goal.returns-then-pass_reply-clause-told
returns-then-pass_reply-clause-told g c =
    let s = c.args.self.now in
    let rules = g.J.Judge.rules c.args.judge.now in
    let frame = c.in-Frame.frame.now in
    let rest = c.in-Frame.ensures.exact.0 in
    let calls : s.calls.items ≡ c.in-Some.field-0.now ∷ drop 1 s.calls.items = first_of s.calls.items c.in-Some.field-0.now (sym c.in-Some.ensures) in
    let whole = other_limit s.client.held.limit s.upstream.held.limit s.upstream.held.held (Whole frame rest) c.requires.works.ready.upstream.limit_is c.in-Frame.ensures.exact.1 in
    let a = c.args.notes.now in
    subst (λ ns. g.N.Notes.tells a a ns)
    (reply_told rules s.client.held.limit (standing s) c.in-Some.field-0.now (drop 1 s.calls.items) frame rest None _ calls whole (c.pass_reply.ensures.verdict c.if-pass_reply.true) refl)
    (g.met.N.Notes.stays a)

pub reply_step-requires-in-Frame : goal.reply_step-requires-in-Frame
reply_step-requires-in-Frame g c = grind (arith, common_steps)

pub returns-else-pass_reply-clause-keeps : goal.returns-else-pass_reply-clause-keeps
returns-else-pass_reply-clause-keeps g c = grind (arith, common_steps)

pub returns-else-pass_reply-clause-same : goal.returns-else-pass_reply-clause-same
returns-else-pass_reply-clause-same g c = grind (arith, common_steps)

pub returns-else-pass_reply-clause-comes : goal.returns-else-pass_reply-clause-comes
returns-else-pass_reply-clause-comes g c = grind (arith, common_steps)

pub returns-else-pass_reply-clause-told : goal.returns-else-pass_reply-clause-told
returns-else-pass_reply-clause-told g c = grind (arith, common_steps)
