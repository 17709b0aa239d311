use Rattle.std.proofs.Common.{◌≡◌, ◌<◌, ◌++◌, ◌∷◌, [], length, List, ℕ, drop, arith, rules, refl, sym, ◌∙◌, ap, subst}
use Rattle.std.specs.Int.{w32}
use mir.Val.{SFits}
use Rattle.std.proofs.lemmas.Int.{to_z-of_z}
use Rattle.gate_io.specs.Buffer.{Buffer}
use Rattle.framed_transport.specs.Frames.{framed}
use Rattle.framed_transport.specs.Front.{Part, Large, Whole, front, is_part}
use Rattle.session_core.specs.Standing.{Standing}
use Rattle.session_core.specs.Steps.{Move, Takes}
use Rattle.session_core.specs.Working.{standing, Comes, ends_step}
use Rattle.session_core.specs.declared.state.SessionStep.{SessionStep}
use Rattle.session_core.specs.declared.judge.UpstreamJudged.TheVariants as upstream
use Rattle.session_core.proofs.Moves.{told_ends, reply_told, paid_none, owed_some, knows_kept, asks, answers, no_call, due_first, no_reply, first_of, no_first, none_open, some_open, behind_whole, other_limit, after_upstream}
use Rattle.session_core.specs.declared.state.State.{State}
use Rattle.gate_hub.specs.declared.hub.Side.TheVariants as side
use Rattle.session_core.specs.Looks.{came}
use Rattle.session_core.proofs.Keeping.{keeps_still, keeps_halting, keeps_looking, ready_halting, ready_written, cut_within}
use Rattle.session_core.proofs.state.State.reply_step.Goals as goal

pub returns-in_default-clause-comes : goal.returns-in_default-clause-comes
returns-in_default-clause-comes g c = (no_call _ _ (standing c.args.self.now) (no_first c.args.self.now.calls.items (sym c.in_default.ensures)), refl)

pub returns-then-is_empty-clause-comes : goal.returns-then-is_empty-clause-comes
returns-then-is_empty-clause-comes g c = (no_call _ _ (standing c.args.self.now) (none_open c.is_empty.result c.args.self.now.calls.items c.if-is_empty.true c.is_empty.ensures), refl)

-- what the end of the upstream does, by its own limit
ends : (limit other : ℕ) (held : List ℕ) (ended : Rattle.std.proofs.Common.Bool) (step : SessionStep) (m : Move) (s t : State) → other ≡ limit → step ≡ ends_step (is_part (front other held)) ended → t ≡ record s { halt = t.halt } → Comes (ends_step (is_part (front limit held)) ended) m (standing s) (standing s) → Comes step m (standing s) (standing t)
ends limit other held ended step m s t e is same h =
    subst (λ (u : Standing). Comes step m (standing s) u) (sym (ap standing same))
    (subst (λ (u : SessionStep). Comes u m (standing s) (standing s)) (ap (λ n. ends_step (is_part (front n held)) ended) (sym e) ∙ sym is) h)

pub returns-then-not-is_paid-clause-comes : goal.returns-then-not-is_paid-clause-comes
returns-then-not-is_paid-clause-comes g c =
    let s = standing c.args.self.now in
    let some : 0 < length c.args.self.now.client.due.bytes = owed_some c.is_paid.result c.args.self.now.client.due.bytes c.if-not-is_paid.true c.is_paid.ensures in
    let oldest = some_open c.is_empty.result c.args.self.now.calls.items c.if-is_empty.false c.is_empty.ensures in
    ends c.args.self.now.client.held.limit c.args.self.now.upstream.held.limit c.args.self.now.upstream.held.held c.args.self.now.upstream.ended (came c.upstream_ends.result c.upstream_ends.new.self.halt) _ c.args.self.now c.upstream_ends.new.self c.requires.works.ready.upstream.limit_is c.upstream_ends.ensures.ends c.upstream_ends.ensures.same
    (due_first (g.J.Judge.rules c.args.judge.now) c.args.self.now.client.held.limit s oldest.0 (drop 1 c.args.self.now.calls.items) oldest.1 some)

pub judge_upstream-requires-clause-fits : goal.judge_upstream-requires-clause-fits
judge_upstream-requires-clause-fits g c =
    let cut = c.in-Frame.ensures.cut c.in-Frame.frame.now c.in-Frame.ensures.exact.0 c.in-Frame.ensures.exact.1 in
    omega (arith, cut.within, c.requires.works.fits, c.requires.works.ready.upstream.limit_is)

pub judge_upstream-requires-clause-room : goal.judge_upstream-requires-clause-room
judge_upstream-requires-clause-room g c =
    let cut = c.in-Frame.ensures.cut c.in-Frame.frame.now c.in-Frame.ensures.exact.0 c.in-Frame.ensures.exact.1 in
    omega (arith, cut.within, c.requires.works.ready.client.due_room_is, c.requires.works.ready.upstream.limit_is)

pub returns-in-NeedMore-clause-comes : goal.returns-in-NeedMore-clause-comes
returns-in-NeedMore-clause-comes g c =
    let s = standing c.args.self.now in
    let none : c.args.self.now.client.due.bytes ≡ [] = paid_none c.is_paid.result c.args.self.now.client.due.bytes c.if-not-is_paid.false c.is_paid.ensures in
    let oldest = some_open c.is_empty.result c.args.self.now.calls.items c.if-is_empty.false c.is_empty.ensures in
    let part = other_limit c.args.self.now.client.held.limit c.args.self.now.upstream.held.limit c.args.self.now.upstream.held.held Part c.requires.works.ready.upstream.limit_is c.in-NeedMore.ensures.exact in
    ends c.args.self.now.client.held.limit c.args.self.now.upstream.held.limit c.args.self.now.upstream.held.held c.args.self.now.upstream.ended (came c.upstream_ends-in-NeedMore.result c.upstream_ends-in-NeedMore.new.self.halt) _ c.args.self.now c.upstream_ends-in-NeedMore.new.self c.requires.works.ready.upstream.limit_is c.upstream_ends-in-NeedMore.ensures.ends c.upstream_ends-in-NeedMore.ensures.same
    (no_reply (g.J.Judge.rules c.args.judge.now) c.args.self.now.client.held.limit s oldest.0 (drop 1 c.args.self.now.calls.items) oldest.1 none part)

pub returns-in-TooLarge-clause-comes : goal.returns-in-TooLarge-clause-comes
returns-in-TooLarge-clause-comes g c =
    let s = standing c.args.self.now in
    let none : c.args.self.now.client.due.bytes ≡ [] = paid_none c.is_paid.result c.args.self.now.client.due.bytes c.if-not-is_paid.false c.is_paid.ensures in
    let oldest = some_open c.is_empty.result c.args.self.now.calls.items c.if-is_empty.false c.is_empty.ensures in
    let large = other_limit c.args.self.now.client.held.limit c.args.self.now.upstream.held.limit c.args.self.now.upstream.held.held (Large c.in-TooLarge.length) c.requires.works.ready.upstream.limit_is c.in-TooLarge.ensures.exact in
    let fits : SFits w32 c.in-TooLarge.length = search rules in
    (rw (to_z-of_z w32 c.in-TooLarge.length fits) (asks (g.J.Judge.rules c.args.judge.now) c.args.self.now.client.held.limit s oldest.0 (drop 1 c.args.self.now.calls.items) (Large c.in-TooLarge.length) oldest.1 none large), refl)

pub returns-in-Halts-clause-comes : goal.returns-in-Halts-clause-comes
returns-in-Halts-clause-comes g c =
    let s = standing c.args.self.now in
    let none : c.args.self.now.client.due.bytes ≡ [] = paid_none c.is_paid.result c.args.self.now.client.due.bytes c.if-not-is_paid.false c.is_paid.ensures in
    let calls : c.args.self.now.calls.items ≡ c.in-Some.field-0.now ∷ drop 1 c.args.self.now.calls.items = first_of c.args.self.now.calls.items c.in-Some.field-0.now (sym c.in-Some.ensures) in
    let frame = c.in-Frame.frame.now in
    let rest = c.in-Frame.ensures.exact.0 in
    let whole = other_limit c.args.self.now.client.held.limit c.args.self.now.upstream.held.limit c.args.self.now.upstream.held.held (Whole frame rest) c.requires.works.ready.upstream.limit_is c.in-Frame.ensures.exact.1 in
    let out : c.cut.new.self.bytes ≡ [] = ap (λ (b : Buffer). b.bytes) c.cut.ensures in
    (answers (g.J.Judge.rules c.args.judge.now) c.args.self.now.client.held.limit s c.in-Some.field-0.now (drop 1 c.args.self.now.calls.items) frame rest (upstream.Halts c.in-Halts.halt) calls none whole (sym c.in-Halts.ensures.verdict), cc (out, none))

pub returns-in-Answers-clause-comes : goal.returns-in-Answers-clause-comes
returns-in-Answers-clause-comes g c =
    let s = standing c.args.self.now in
    let none : c.args.self.now.client.due.bytes ≡ [] = paid_none c.is_paid.result c.args.self.now.client.due.bytes c.if-not-is_paid.false c.is_paid.ensures in
    let calls : c.args.self.now.calls.items ≡ c.in-Some.field-0.now ∷ drop 1 c.args.self.now.calls.items = first_of c.args.self.now.calls.items c.in-Some.field-0.now (sym c.in-Some.ensures) in
    let frame = c.in-Frame.frame.now in
    let rest = c.in-Frame.ensures.exact.0 in
    let rules = g.J.Judge.rules c.args.judge.now in
    let whole = other_limit c.args.self.now.client.held.limit c.args.self.now.upstream.held.limit c.args.self.now.upstream.held.held (Whole frame rest) c.requires.works.ready.upstream.limit_is c.in-Frame.ensures.exact.1 in
    let left = behind_whole c.args.self.now.upstream.held.limit c.args.self.now.upstream.held.held frame rest c.in-Frame.ensures.exact.1 in
    let out : c.judge_upstream.new.out.bytes ≡ framed (rules.reply c.in-Some.field-0.now frame) = ap (λ (b : Buffer). b.bytes) c.judge_upstream.ensures.out in
    answers rules c.args.self.now.client.held.limit s c.in-Some.field-0.now (drop 1 c.args.self.now.calls.items) frame rest (upstream.Answers c.in-Answers.refused) calls none whole (sym c.in-Answers.ensures.verdict)
    ∙ ap Takes (after_upstream s (standing c.close_call.new.self) _ rest _ (framed (rules.reply c.in-Some.field-0.now frame)) _ _ c.close_call.ensures.stands left out refl)

-- ---- what is kept

pub returns-in_default-clause-keeps : goal.returns-in_default-clause-keeps
returns-in_default-clause-keeps g c = keeps_still (g.J.Judge.rules c.args.judge.now) _ c.args.self.now c.requires.works

pub returns-then-is_empty-clause-keeps : goal.returns-then-is_empty-clause-keeps
returns-then-is_empty-clause-keeps g c = keeps_still (g.J.Judge.rules c.args.judge.now) _ c.args.self.now c.requires.works

pub returns-then-not-is_paid-clause-keeps : goal.returns-then-not-is_paid-clause-keeps
returns-then-not-is_paid-clause-keeps g c = keeps_looking (g.J.Judge.rules c.args.judge.now) _ c.args.self.now c.upstream_ends.new.self c.upstream_ends.ensures.same c.requires.works

pub returns-in-NeedMore-clause-keeps : goal.returns-in-NeedMore-clause-keeps
returns-in-NeedMore-clause-keeps g c = keeps_looking (g.J.Judge.rules c.args.judge.now) _ c.args.self.now c.upstream_ends-in-NeedMore.new.self c.upstream_ends-in-NeedMore.ensures.same c.requires.works

pub returns-in-TooLarge-clause-keeps : goal.returns-in-TooLarge-clause-keeps
returns-in-TooLarge-clause-keeps g c = keeps_halting (g.J.Judge.rules c.args.judge.now) _ c.args.self.now _ c.requires.works

pub returns-in-Halts-clause-keeps : goal.returns-in-Halts-clause-keeps
returns-in-Halts-clause-keeps g c =
    let s = c.args.self.now in
    let room = ap (λ (b : Buffer). b.room) c.cut.ensures ∙ ap (λ (b : Buffer). b.room) c.judge_upstream.ensures.out in
    record {
      ready = ready_halting s.client.held.limit s.calls.capacity (record s { client = record (s.client) { due = c.cut.new.self } }) _
          (ready_written side.Client s.client.held.limit s.calls.capacity s c.cut.new.self room (cut_within c.cut.new.self (ap (λ (b : Buffer). b.bytes) c.cut.ensures)) c.requires.works.ready);
      known = c.requires.works.known;
    }

pub returns-in-Answers-clause-keeps : goal.returns-in-Answers-clause-keeps
returns-in-Answers-clause-keeps g c =
    let s = c.args.self.now in
    let out = c.judge_upstream.new.out in
    let mid : State = record s { client = record (s.client) { due = out } } in
    let room = ap (λ (b : Buffer). b.room) c.judge_upstream.ensures.out in
    record {
      ready = c.close_call.ensures.ready _ _ (ready_written side.Client s.client.held.limit s.calls.capacity s out room c.judge_upstream.ensures.within c.requires.works.ready);
      known = knows_kept (g.J.Judge.rules c.args.judge.now) mid c.close_call.new.self c.close_call.ensures.kept.0 c.close_call.ensures.kept.1 c.requires.works.known;
    }

-- ---- what is told

pub returns-in_default-clause-told : goal.returns-in_default-clause-told
returns-in_default-clause-told g c = g.met.N.Notes.stays c.args.notes.now

pub returns-then-is_empty-clause-told : goal.returns-then-is_empty-clause-told
returns-then-is_empty-clause-told g c = g.met.N.Notes.stays c.args.notes.now

pub returns-then-not-is_paid-clause-told : goal.returns-then-not-is_paid-clause-told
returns-then-not-is_paid-clause-told g c =
    let a = c.args.notes.now in
    subst (λ ns. g.N.Notes.tells a a ns) (told_ends (came c.upstream_ends.result c.upstream_ends.new.self.halt) _ _ _ c.upstream_ends.ensures.ends) (g.met.N.Notes.stays a)

pub returns-in-NeedMore-clause-told : goal.returns-in-NeedMore-clause-told
returns-in-NeedMore-clause-told g c =
    let a = c.args.notes.now in
    subst (λ ns. g.N.Notes.tells a a ns) (told_ends (came c.upstream_ends-in-NeedMore.result c.upstream_ends-in-NeedMore.new.self.halt) _ _ _ c.upstream_ends-in-NeedMore.ensures.ends) (g.met.N.Notes.stays a)

pub returns-in-TooLarge-clause-told : goal.returns-in-TooLarge-clause-told
returns-in-TooLarge-clause-told g c = g.met.N.Notes.stays c.args.notes.now

pub returns-in-Halts-clause-told : goal.returns-in-Halts-clause-told
returns-in-Halts-clause-told g c = g.met.N.Notes.stays c.args.notes.now

pub returns-in-Answers-clause-told : goal.returns-in-Answers-clause-told
returns-in-Answers-clause-told g c =
    let s = c.args.self.now in
    let rules = g.J.Judge.rules c.args.judge.now in
    let frame = c.in-Frame.frame.now in
    let rest = c.in-Frame.ensures.exact.0 in
    let calls : s.calls.items ≡ c.in-Some.field-0.now ∷ drop 1 s.calls.items = first_of s.calls.items c.in-Some.field-0.now (sym c.in-Some.ensures) in
    let whole = other_limit s.client.held.limit s.upstream.held.limit s.upstream.held.held (Whole frame rest) c.requires.works.ready.upstream.limit_is c.in-Frame.ensures.exact.1 in
    subst (λ ns. g.N.Notes.tells c.args.notes.now c.note_reply.new.notes ns)
    (reply_told rules s.client.held.limit (standing s) c.in-Some.field-0.now (drop 1 s.calls.items) frame rest c.in-Answers.refused _ calls whole (sym c.in-Answers.ensures.verdict) c.next_of.ensures)
    c.note_reply.ensures
