use Rattle.std.proofs.Common.{◌≡◌, ◌≤◌, length, length-append, Option, Some, ◌++◌, ◌∷◌, [], List, ℕ, arith, rules, refl, sym, ◌∙◌, ap, subst}
use Rattle.std.specs.Int.{w32}
use mir.Val.{SFits}
use Rattle.std.proofs.lemmas.Int.{to_z-of_z}
use Rattle.std.proofs.lemmas.Grind.{common_steps}
use Rattle.gate_io.specs.Buffer.{Buffer}
use Rattle.circular_buffer.specs.Buffer.{Buffer as Ring}
use Rattle.session_core.specs.declared.judge.Call.{Call}
use Rattle.framed_transport.specs.Frames.{framed}
use Rattle.framed_transport.specs.Front.{Part, Large, front}
use Rattle.session_core.specs.Standing.{Standing}
use Rattle.session_core.specs.Steps.{Takes}
use Rattle.session_core.specs.Working.{standing, told_if, call_front_notes}
use Rattle.session_core.specs.declared.state.Waiting.TheVariants as waiting
use Rattle.session_core.specs.declared.state.State.{State}
use Rattle.session_core.specs.declared.judge.ClientJudged.TheVariants as client
use Rattle.session_core.proofs.Moves.{call_told, looks, judges, behind_whole, pushed, after_client, refused_step, knows_nothing, found_at, found_by, knows_by}
use Rattle.session_core.specs.Looks.{came}
use Rattle.session_core.proofs.Keeping.{keeps_still, keeps_halting, ready_written, ready_calling, ready_halting, ready_knowing, cut_within, works_at}
use Rattle.session_core.specs.declared.state.Waiting.{Waiting}
use Rattle.gate_hub.specs.declared.hub.Side.TheVariants as side
use Rattle.session_core.proofs.state.State.judge_step.Goals as goal

pub judge_client-requires-clause-fits : goal.judge_client-requires-clause-fits
judge_client-requires-clause-fits g c =
    let cut = c.in-Frame.ensures.cut c.in-Frame.frame.now c.in-Frame.ensures.exact.0 c.in-Frame.ensures.exact.1 in
    omega (arith, cut.within, c.requires.works.fits)

pub judge_client-requires-clause-room : goal.judge_client-requires-clause-room
judge_client-requires-clause-room g c =
    let cut = c.in-Frame.ensures.cut c.in-Frame.frame.now c.in-Frame.ensures.exact.0 c.in-Frame.ensures.exact.1 in
    omega (arith, cut.within, c.requires.works.ready.upstream.due_room_is)

pub returns-in-NeedMore-clause-comes : goal.returns-in-NeedMore-clause-comes
returns-in-NeedMore-clause-comes g c =
    let none = c.requires.empty in
    (looks _ _ _ (standing c.args.self.now) Part none c.requires.few c.in-NeedMore.ensures.exact, refl)

pub returns-in-TooLarge-clause-comes : goal.returns-in-TooLarge-clause-comes
returns-in-TooLarge-clause-comes g c =
    let none = c.requires.empty in
    let fits : SFits w32 c.in-TooLarge.length = search rules in
    (rw (to_z-of_z w32 c.in-TooLarge.length fits) (looks _ _ _ (standing c.args.self.now) (Large c.in-TooLarge.length) none c.requires.few c.in-TooLarge.ensures.exact), refl)

pub returns-in-Opens-clause-comes : goal.returns-in-Opens-clause-comes
returns-in-Opens-clause-comes g c =
    let s = standing c.args.self.now in
    let none = c.requires.empty in
    let few = c.requires.few in
    let rules = g.J.Judge.rules c.args.judge.now in
    let frame = c.in-Frame.frame.now in
    let rest = c.in-Frame.ensures.exact.0 in
    let moves = judges rules c.args.self.now.client.held.limit c.args.self.now.calls.capacity s frame rest (client.Opens c.in-Opens.call) none few c.in-Frame.ensures.exact.1 (sym c.in-Opens.ensures.verdict) in
    let left = behind_whole c.args.self.now.client.held.limit c.args.self.now.client.held.held frame rest c.in-Frame.ensures.exact.1 in
    let more = pushed c.args.self.now.calls.items c.in-Opens.call c.args.self.now.calls.capacity few in
    let out : c.judge_client.new.out.bytes ≡ framed (rules.output frame) = ap (λ (b : Buffer). b.bytes) c.judge_client.ensures.out in
    moves ∙ ap Takes (after_client s (standing c.count_frame.new.self) _ rest _ (framed (rules.output frame)) _ (c.args.self.now.calls.items ++ c.in-Opens.call ∷ []) c.count_frame.ensures.stands left out (ap (λ (b : Ring Call). b.items) c.push_back.ensures.items ∙ more))

pub returns-in-Goes-clause-comes : goal.returns-in-Goes-clause-comes
returns-in-Goes-clause-comes g c =
    let s = standing c.args.self.now in
    let none = c.requires.empty in
    let few = c.requires.few in
    let rules = g.J.Judge.rules c.args.judge.now in
    let frame = c.in-Frame.frame.now in
    let rest = c.in-Frame.ensures.exact.0 in
    let moves = judges rules c.args.self.now.client.held.limit c.args.self.now.calls.capacity s frame rest client.Goes none few c.in-Frame.ensures.exact.1 (sym c.in-Goes.ensures.verdict) in
    let left = behind_whole c.args.self.now.client.held.limit c.args.self.now.client.held.held frame rest c.in-Frame.ensures.exact.1 in
    let out : c.judge_client.new.out.bytes ≡ framed (rules.output frame) = ap (λ (b : Buffer). b.bytes) c.judge_client.ensures.out in
    moves ∙ ap Takes (after_client s (standing c.count_frame-in-Goes.new.self) _ rest _ (framed (rules.output frame)) _ c.args.self.now.calls.items c.count_frame-in-Goes.ensures.stands left out refl)

pub returns-in-Dropped-clause-comes : goal.returns-in-Dropped-clause-comes
returns-in-Dropped-clause-comes g c =
    let s = standing c.args.self.now in
    let none = c.requires.empty in
    let few = c.requires.few in
    let rules = g.J.Judge.rules c.args.judge.now in
    let frame = c.in-Frame.frame.now in
    let rest = c.in-Frame.ensures.exact.0 in
    let moves = judges rules c.args.self.now.client.held.limit c.args.self.now.calls.capacity s frame rest (client.Dropped c.in-Dropped.cause) none few c.in-Frame.ensures.exact.1 (sym c.in-Dropped.ensures.verdict) in
    let left = behind_whole c.args.self.now.client.held.limit c.args.self.now.client.held.held frame rest c.in-Frame.ensures.exact.1 in
    let out : c.cut.new.self.bytes ≡ [] = ap (λ (b : Buffer). b.bytes) c.cut.ensures in
    moves ∙ ap Takes (after_client s (standing c.count_frame-in-Dropped.new.self) _ rest _ c.args.self.now.upstream.due.bytes _ c.args.self.now.calls.items c.count_frame-in-Dropped.ensures.stands left (out ∙ sym none) refl)

pub returns-in-Refused-clause-comes : goal.returns-in-Refused-clause-comes
returns-in-Refused-clause-comes g c =
    let s = standing c.args.self.now in
    let none = c.requires.empty in
    let few = c.requires.few in
    let rules = g.J.Judge.rules c.args.judge.now in
    let frame = c.in-Frame.frame.now in
    let rest = c.in-Frame.ensures.exact.0 in
    let out : c.cut-in-Refused.new.self.bytes ≡ [] = ap (λ (b : Buffer). b.bytes) c.cut-in-Refused.ensures in
    refused_step (came c.answer_step.result c.answer_step.new.self.halt) rules c.args.self.now.client.held.limit c.args.self.now.calls.capacity s (record s { to_upstream = c.cut-in-Refused.new.self.bytes }) (standing c.answer_step.new.self) frame rest ((g.J.Judge.rules c.judge_client.new.judge).answer frame) c.in-Refused.cause none few c.in-Frame.ensures.exact.1 (sym c.in-Refused.ensures.verdict) (ap (λ (xs : List ℕ). let r : Standing = record s { to_upstream = xs } in r) (out ∙ sym none)) (ap (λ (j : g.row.J.Denot). (g.J.Judge.rules j).answer frame) c.judge_client.ensures.same) (c.answer_step.ensures.comes frame rest c.in-Frame.ensures.exact.1)

pub returns-in-Halts-clause-comes : goal.returns-in-Halts-clause-comes
returns-in-Halts-clause-comes g c =
    let s = standing c.args.self.now in
    let none = c.requires.empty in
    let few = c.requires.few in
    let rules = g.J.Judge.rules c.args.judge.now in
    let out : c.cut-in-Halts.new.self.bytes ≡ [] = ap (λ (b : Buffer). b.bytes) c.cut-in-Halts.ensures in (
      judges rules c.args.self.now.client.held.limit c.args.self.now.calls.capacity s c.in-Frame.frame.now c.in-Frame.ensures.exact.0 (client.Halts c.in-Halts.halt) none few c.in-Frame.ensures.exact.1 (sym c.in-Halts.ensures.verdict),
      cc (out, none),
    )

-- ---- what is kept

pub returns-in-NeedMore-clause-keeps : goal.returns-in-NeedMore-clause-keeps
returns-in-NeedMore-clause-keeps g c = keeps_still (g.J.Judge.rules c.args.judge.now) _ c.args.self.now c.requires.works

pub returns-in-TooLarge-clause-keeps : goal.returns-in-TooLarge-clause-keeps
returns-in-TooLarge-clause-keeps g c = keeps_halting (g.J.Judge.rules c.args.judge.now) _ c.args.self.now _ c.requires.works

pub returns-in-Opens-clause-keeps : goal.returns-in-Opens-clause-keeps
returns-in-Opens-clause-keeps g c =
    let s = c.args.self.now in
    let out = c.judge_client.new.out in
    let written = ready_written side.Upstream s.client.held.limit s.calls.capacity s out (ap (λ (b : Buffer). b.room) c.judge_client.ensures.out) c.judge_client.ensures.within c.requires.works.ready in
    let more = pushed s.calls.items c.in-Opens.call s.calls.capacity c.requires.few in
    let items : c.push_back.new.self.items ≡ s.calls.items ++ c.in-Opens.call ∷ [] = ap (λ (b : Ring Call). b.items) c.push_back.ensures.items ∙ more in
    let many : length c.push_back.new.self.items ≤ s.calls.capacity = omega (arith, ap length items, length-append s.calls.items (c.in-Opens.call ∷ []), c.requires.few) in
    record {
      ready = c.count_frame.ensures.ready _ _ (ready_calling s.client.held.limit s.calls.capacity (record s { upstream = record (s.upstream) { due = out } }) c.push_back.new.self (ap (λ (b : Ring Call). b.capacity) c.push_back.ensures.items) many written);
      known = knows_nothing (g.J.Judge.rules c.args.judge.now) c.count_frame.new.self (c.count_frame.ensures.kept ∙ c.requires.unknown);
    }

pub returns-in-Goes-clause-keeps : goal.returns-in-Goes-clause-keeps
returns-in-Goes-clause-keeps g c =
    let s = c.args.self.now in
    record {
      ready = c.count_frame-in-Goes.ensures.ready _ _ (ready_written side.Upstream s.client.held.limit s.calls.capacity s c.judge_client.new.out (ap (λ (b : Buffer). b.room) c.judge_client.ensures.out) c.judge_client.ensures.within c.requires.works.ready);
      known = knows_nothing (g.J.Judge.rules c.args.judge.now) c.count_frame-in-Goes.new.self (c.count_frame-in-Goes.ensures.kept ∙ c.requires.unknown);
    }

pub returns-in-Dropped-clause-keeps : goal.returns-in-Dropped-clause-keeps
returns-in-Dropped-clause-keeps g c =
    let s = c.args.self.now in
    let room = ap (λ (b : Buffer). b.room) c.cut.ensures ∙ ap (λ (b : Buffer). b.room) c.judge_client.ensures.out in
    record {
      ready = c.count_frame-in-Dropped.ensures.ready _ _ (ready_written side.Upstream s.client.held.limit s.calls.capacity s c.cut.new.self room (cut_within c.cut.new.self (ap (λ (b : Buffer). b.bytes) c.cut.ensures)) c.requires.works.ready);
      known = knows_nothing (g.J.Judge.rules c.args.judge.now) c.count_frame-in-Dropped.new.self (c.count_frame-in-Dropped.ensures.kept ∙ c.requires.unknown);
    }

pub returns-in-Halts-clause-keeps : goal.returns-in-Halts-clause-keeps
returns-in-Halts-clause-keeps g c =
    let s = c.args.self.now in
    let room = ap (λ (b : Buffer). b.room) c.cut-in-Halts.ensures ∙ ap (λ (b : Buffer). b.room) c.judge_client.ensures.out in
    let known : Option Waiting = Some (waiting.Halts c.in-Halts.halt) in
    record {
      ready = ready_halting s.client.held.limit s.calls.capacity (record s { upstream = record (s.upstream) { due = c.cut-in-Halts.new.self }; known = known }) _
          (ready_knowing s.client.held.limit s.calls.capacity (record s { upstream = record (s.upstream) { due = c.cut-in-Halts.new.self } }) known
          (ready_written side.Upstream s.client.held.limit s.calls.capacity s c.cut-in-Halts.new.self room (cut_within c.cut-in-Halts.new.self (ap (λ (b : Buffer). b.bytes) c.cut-in-Halts.ensures)) c.requires.works.ready));
      known = found_at (g.J.Judge.rules c.args.judge.now) s.client.held.limit s.client.held.held c.in-Frame.frame.now c.in-Frame.ensures.exact.0 (waiting.Halts c.in-Halts.halt) c.in-Frame.ensures.exact.1 c.in-Frame.ensures.cut (sym c.in-Halts.ensures.verdict);
    }

-- the state that waits with a refused call
pub answer_step-requires-clause-works : goal.answer_step-requires-clause-works
answer_step-requires-clause-works g c =
    let s = c.args.self.now in
    let room = ap (λ (b : Buffer). b.room) c.cut-in-Refused.ensures ∙ ap (λ (b : Buffer). b.room) c.judge_client.ensures.out in
    let known : Option Waiting = Some (waiting.Refused c.in-Refused.cause) in
    let mid : State = record s { upstream = record (s.upstream) { due = c.cut-in-Refused.new.self }; known = known } in
    works_at _ g.J.Judge.rules g.J.Judge.longest c.args.judge.now c.judge_client.new.judge mid c.judge_client.ensures.same
    (record {
      ready = ready_knowing s.client.held.limit s.calls.capacity (record s { upstream = record (s.upstream) { due = c.cut-in-Refused.new.self } }) known
          (ready_written side.Upstream s.client.held.limit s.calls.capacity s c.cut-in-Refused.new.self room (cut_within c.cut-in-Refused.new.self (ap (λ (b : Buffer). b.bytes) c.cut-in-Refused.ensures)) c.requires.works.ready);
      fits = c.requires.works.fits;
      known = found_at (g.J.Judge.rules c.args.judge.now) s.client.held.limit s.client.held.held c.in-Frame.frame.now c.in-Frame.ensures.exact.0 (waiting.Refused c.in-Refused.cause) c.in-Frame.ensures.exact.1 c.in-Frame.ensures.cut (sym c.in-Refused.ensures.verdict);
    })

pub answer_step-requires-clause-found : goal.answer_step-requires-clause-found
answer_step-requires-clause-found g c =
    let s = c.args.self.now in
    found_by _ g.J.Judge.rules c.args.judge.now c.judge_client.new.judge s.client.held.limit s.client.held.held (waiting.Refused c.in-Refused.cause) c.judge_client.ensures.same
    (found_at (g.J.Judge.rules c.args.judge.now) s.client.held.limit s.client.held.held c.in-Frame.frame.now c.in-Frame.ensures.exact.0 (waiting.Refused c.in-Refused.cause) c.in-Frame.ensures.exact.1 c.in-Frame.ensures.cut (sym c.in-Refused.ensures.verdict))

pub returns-in-Refused-clause-keeps : goal.returns-in-Refused-clause-keeps
returns-in-Refused-clause-keeps g c =
    let keeps = c.answer_step.ensures.keeps in
    record {
      ready = keeps.ready;
      known = knows_by _ g.J.Judge.rules c.args.judge.now c.judge_client.new.judge c.answer_step.new.self c.judge_client.ensures.same keeps.known;
    }

-- ---- what is told

pub returns-in-NeedMore-clause-told : goal.returns-in-NeedMore-clause-told
returns-in-NeedMore-clause-told g c = g.met.N.Notes.stays c.args.notes.now

pub returns-in-TooLarge-clause-told : goal.returns-in-TooLarge-clause-told
returns-in-TooLarge-clause-told g c = g.met.N.Notes.stays c.args.notes.now

pub returns-in-Halts-clause-told : goal.returns-in-Halts-clause-told
returns-in-Halts-clause-told g c = g.met.N.Notes.stays c.args.notes.now

pub returns-in-Opens-clause-told : goal.returns-in-Opens-clause-told
returns-in-Opens-clause-told g c =
    let s = c.args.self.now in
    let a = c.args.notes.now in
    subst (λ ns. g.N.Notes.tells a a ns)
    (call_told (g.J.Judge.rules c.args.judge.now) s.client.held.limit s.client.count s.client.held.held c.in-Frame.frame.now c.in-Frame.ensures.exact.0 (client.Opens c.in-Opens.call) _ c.in-Frame.ensures.exact.1 (sym c.in-Opens.ensures.verdict) refl)
    (g.met.N.Notes.stays a)

pub returns-in-Goes-clause-told : goal.returns-in-Goes-clause-told
returns-in-Goes-clause-told g c =
    let s = c.args.self.now in
    let a = c.args.notes.now in
    subst (λ ns. g.N.Notes.tells a a ns)
    (call_told (g.J.Judge.rules c.args.judge.now) s.client.held.limit s.client.count s.client.held.held c.in-Frame.frame.now c.in-Frame.ensures.exact.0 client.Goes _ c.in-Frame.ensures.exact.1 (sym c.in-Goes.ensures.verdict) refl)
    (g.met.N.Notes.stays a)

pub returns-in-Dropped-clause-told : goal.returns-in-Dropped-clause-told
returns-in-Dropped-clause-told g c =
    let s = c.args.self.now in
    subst (λ ns. g.N.Notes.tells c.args.notes.now c.note_call.new.notes ns)
    (call_told (g.J.Judge.rules c.args.judge.now) s.client.held.limit s.client.count s.client.held.held c.in-Frame.frame.now c.in-Frame.ensures.exact.0 (client.Dropped c.in-Dropped.cause) _ c.in-Frame.ensures.exact.1 (sym c.in-Dropped.ensures.verdict) c.next_of.ensures)
    c.note_call.ensures

pub returns-in-Refused-clause-told : goal.returns-in-Refused-clause-told
returns-in-Refused-clause-told g c =
    let s = c.args.self.now in
    subst (λ j. g.N.Notes.tells c.args.notes.now c.answer_step.new.notes (told_if (came c.answer_step.result c.answer_step.new.self.halt) (call_front_notes (g.J.Judge.rules j) s.client.count (front s.client.held.limit s.client.held.held)))) c.judge_client.ensures.same c.answer_step.ensures.told

pub returns-in-Refused-clause-same : goal.returns-in-Refused-clause-same
returns-in-Refused-clause-same g c = grind (arith, common_steps)
