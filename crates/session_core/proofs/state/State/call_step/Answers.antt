use Rattle.std.proofs.Common.{◌≡◌, ◌≤◌, length, length-append, ◌++◌, ◌∷◌, [], arith, refl, sym, ◌∙◌, ap}
use Rattle.std.proofs.lemmas.Grind.{common_steps}
use Rattle.gate_io.specs.Buffer.{Buffer}
use Rattle.circular_buffer.specs.Buffer.{Buffer as Ring}
use Rattle.session_core.specs.declared.judge.Call.{Call}
use Rattle.framed_transport.specs.Frames.{framed}
use Rattle.framed_transport.specs.Front.{Part}
use Rattle.session_core.specs.Steps.{Takes}
use Rattle.session_core.specs.Working.{standing}
use Rattle.session_core.specs.declared.judge.ClientJudged.TheVariants as client
use Rattle.session_core.proofs.Moves.{looks, judges, behind_whole, pushed, after_client, knows_nothing}
use Rattle.session_core.proofs.Keeping.{ready_written, ready_calling}
use Rattle.gate_hub.specs.declared.hub.Side.TheVariants as side
use Rattle.session_core.proofs.state.State.call_step.Goals as goal

pub pass_call-requires-clause-fits : goal.pass_call-requires-clause-fits
pass_call-requires-clause-fits g c =
    let cut = c.in-Frame.ensures.cut c.in-Frame.frame.now c.in-Frame.ensures.exact.0 c.in-Frame.ensures.exact.1 in
    omega (arith, cut.within, c.requires.works.fits)

pub pass_call-requires-clause-room : goal.pass_call-requires-clause-room
pass_call-requires-clause-room g c =
    let cut = c.in-Frame.ensures.cut c.in-Frame.frame.now c.in-Frame.ensures.exact.0 c.in-Frame.ensures.exact.1 in
    omega (arith, cut.within, c.requires.works.ready.upstream.due_room_is)

pub returns-in-NeedMore-clause-comes : goal.returns-in-NeedMore-clause-comes
returns-in-NeedMore-clause-comes g c =
    let none = c.requires.empty in
    (looks _ _ _ (standing c.args.self.now) Part none c.requires.few c.in-NeedMore.ensures.exact, refl)

pub returns-in-Opens-clause-comes : goal.returns-in-Opens-clause-comes
returns-in-Opens-clause-comes g c =
    let s = standing c.args.self.now in
    let none = c.requires.empty in
    let few = c.requires.few in
    let rules = g.J.Judge.rules c.args.judge.now in
    let frame = c.in-Frame.frame.now in
    let rest = c.in-Frame.ensures.exact.0 in
    let moves = judges rules c.args.self.now.client.held.limit c.args.self.now.calls.capacity s frame rest (client.Opens c.in-Opens.call) none few c.in-Frame.ensures.exact.1 (sym c.in-Opens.ensures.verdict) in
    let left = behind_whole c.args.self.now.client.held.limit c.args.self.now.client.held.held frame rest c.in-Frame.ensures.exact.1 in
    let more = pushed c.args.self.now.calls.items c.in-Opens.call c.args.self.now.calls.capacity few in
    let out : c.pass_call.new.out.bytes ≡ framed (rules.output frame) = ap (λ (b : Buffer). b.bytes) c.in-Opens.ensures.out in
    moves ∙ ap Takes (after_client s (standing c.count_frame.new.self) _ rest _ (framed (rules.output frame)) _ (c.args.self.now.calls.items ++ c.in-Opens.call ∷ []) c.count_frame.ensures.stands left out (ap (λ (b : Ring Call). b.items) c.push_back.ensures.items ∙ more))

pub returns-in-Goes-clause-comes : goal.returns-in-Goes-clause-comes
returns-in-Goes-clause-comes g c =
    let s = standing c.args.self.now in
    let none = c.requires.empty in
    let few = c.requires.few in
    let rules = g.J.Judge.rules c.args.judge.now in
    let frame = c.in-Frame.frame.now in
    let rest = c.in-Frame.ensures.exact.0 in
    let moves = judges rules c.args.self.now.client.held.limit c.args.self.now.calls.capacity s frame rest client.Goes none few c.in-Frame.ensures.exact.1 (sym c.in-Goes.ensures.verdict) in
    let left = behind_whole c.args.self.now.client.held.limit c.args.self.now.client.held.held frame rest c.in-Frame.ensures.exact.1 in
    let out : c.pass_call.new.out.bytes ≡ framed (rules.output frame) = ap (λ (b : Buffer). b.bytes) c.in-Goes.ensures.out in
    moves ∙ ap Takes (after_client s (standing c.count_frame-in-Goes.new.self) _ rest _ (framed (rules.output frame)) _ c.args.self.now.calls.items c.count_frame-in-Goes.ensures.stands left out refl)

pub returns-in-Opens-clause-keeps : goal.returns-in-Opens-clause-keeps
returns-in-Opens-clause-keeps g c =
    let s = c.args.self.now in
    let out = c.pass_call.new.out in
    let written = ready_written side.Upstream s.client.held.limit s.calls.capacity s out (ap (λ (b : Buffer). b.room) c.in-Opens.ensures.out) c.in-Opens.ensures.within c.requires.works.ready in
    let more = pushed s.calls.items c.in-Opens.call s.calls.capacity c.requires.few in
    let items : c.push_back.new.self.items ≡ s.calls.items ++ c.in-Opens.call ∷ [] = ap (λ (b : Ring Call). b.items) c.push_back.ensures.items ∙ more in
    let many : length c.push_back.new.self.items ≤ s.calls.capacity = omega (arith, ap length items, length-append s.calls.items (c.in-Opens.call ∷ []), c.requires.few) in
    record {
      ready = c.count_frame.ensures.ready _ _ (ready_calling s.client.held.limit s.calls.capacity (record s { upstream = record (s.upstream) { due = out } }) c.push_back.new.self (ap (λ (b : Ring Call). b.capacity) c.push_back.ensures.items) many written);
      known = knows_nothing (g.J.Judge.rules c.args.judge.now) c.count_frame.new.self (c.count_frame.ensures.kept ∙ c.requires.unknown);
    }

pub judge_step-requires-in-Nothing-clause-works : goal.judge_step-requires-in-Nothing-clause-works
judge_step-requires-in-Nothing-clause-works g c = grind (arith, common_steps)

pub returns-in-Nothing-clause-same : goal.returns-in-Nothing-clause-same
returns-in-Nothing-clause-same g c = grind (arith, common_steps)
