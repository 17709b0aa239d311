use Rattle.std.proofs.Common.{◌≡◌, ◌+◌, [], ◌∷◌, List, ℕ, true, arith, rules, refl, sym, ◌∙◌, ap, subst}
use Rattle.std.specs.Int.{w32}
use mir.Val.{SFits}
use Rattle.std.proofs.lemmas.Int.{to_z-of_z}
use Rattle.gate_io.specs.Buffer.{Buffer}
use Rattle.framed_transport.specs.Frames.{framed}
use Rattle.framed_transport.specs.Front.{Part, Large}
use Rattle.session_core.specs.declared.state.Waiting.TheVariants as waiting
use Rattle.session_core.specs.declared.judge.ClientJudged.TheVariants as client
use Rattle.session_core.specs.Fits.{told}
use Rattle.session_core.specs.Notes.{note_of, refused_call}
use Rattle.session_core.proofs.Moves.{behind_whole, found_at}
use Rattle.service_router.specs.Judging.{rules_of, goes_on}
use Rattle.service_router.specs.Standing.{Standing}
use Rattle.service_router.specs.Working.{standing}
use Rattle.service_router.proofs.Moves.{client_front_is, client_judged_is, found_by}
use Rattle.service_router.proofs.Keeping.{works_at, cut_within}
use Rattle.service_router.proofs.Taking.{asks_in, stands_behind, led_to, keeps_opened, keeps_counted, works_waiting}
use Rattle.service_router.proofs.state.State.judge_step.Goals as goal

pub client-routed-requires-clause-fits : goal.client-routed-requires-clause-fits
client-routed-requires-clause-fits g c =
    let cut = c.in-Frame.ensures.cut c.in-Frame.frame.now c.in-Frame.ensures.exact.0 c.in-Frame.ensures.exact.1 in
    omega (arith, cut.within, c.requires.works.fits)

pub client-routed-requires-clause-room : goal.client-routed-requires-clause-room
client-routed-requires-clause-room g c =
    let cut = c.in-Frame.ensures.cut c.in-Frame.frame.now c.in-Frame.ensures.exact.0 c.in-Frame.ensures.exact.1 in
    omega (arith, cut.within, c.requires.works.ready.to_upstream_room)

pub returns-in-NeedMore-clause-comes : goal.returns-in-NeedMore-clause-comes
returns-in-NeedMore-clause-comes g c = ([], g.met.N.Notes.stays _, (client_front_is _ _ _ (standing c.args.self.now) Part c.requires.empty c.requires.few c.in-NeedMore.ensures.exact, refl, refl))

pub returns-in-TooLarge-clause-comes : goal.returns-in-TooLarge-clause-comes
returns-in-TooLarge-clause-comes g c =
    let fits : SFits w32 c.in-TooLarge.length = search rules in
    ([], g.met.N.Notes.stays _, (rw (to_z-of_z w32 c.in-TooLarge.length fits) (client_front_is _ _ _ (standing c.args.self.now) (Large c.in-TooLarge.length) c.requires.empty c.requires.few c.in-TooLarge.ensures.exact), refl, refl))

pub returns-in-Opens-clause-comes : goal.returns-in-Opens-clause-comes
returns-in-Opens-clause-comes g c =
    let s = c.args.self.now in
    let rules = rules_of c.args.judge.now in
    let frame = c.in-Frame.frame.now in
    let rest = c.in-Frame.ensures.exact.0 in
    let whole = c.in-Frame.ensures.exact.1 in
    let toward = c.client-routed.ensures.target (ap goes_on c.in-Opens.is) in (
      [],
      g.met.N.Notes.stays _,
      asks_in rules s.client.limit s.calls.capacity (standing s) (standing c.open_call.new.self) frame rest (client.Opens c.in-Opens.call) c.requires.empty c.requires.few whole (c.in-Frame.ensures.cut frame rest whole) (sym c.client-routed.ensures.verdict ∙ c.in-Opens.is)
          (stands_behind (standing s) (standing c.open_call.new.self) _ rest c.client-routed.new.out.bytes (framed (rules.judging.output frame)) c.client-routed.result.target (rules.target frame) c.open_call.new.self.calls.items _ (ap standing c.open_call.ensures.others) (behind_whole s.client.limit s.client.held frame rest whole) (ap (λ (b : Buffer). b.bytes) c.client-routed.ensures.out) toward (led_to s.calls.items c.in-Opens.call c.client-routed.result.target (rules.target frame) c.open_call.new.self.calls.items c.open_call.ensures.calls toward)),
    )

pub returns-in-Goes-clause-comes : goal.returns-in-Goes-clause-comes
returns-in-Goes-clause-comes g c =
    let s = c.args.self.now in
    let rules = rules_of c.args.judge.now in
    let frame = c.in-Frame.frame.now in
    let rest = c.in-Frame.ensures.exact.0 in
    let whole = c.in-Frame.ensures.exact.1 in
    let toward = c.client-routed.ensures.target (ap goes_on c.in-Goes.is) in (
      [],
      g.met.N.Notes.stays _,
      asks_in rules s.client.limit s.calls.capacity (standing s) (standing c.count_frame.new.self) frame rest client.Goes c.requires.empty c.requires.few whole (c.in-Frame.ensures.cut frame rest whole) (sym c.client-routed.ensures.verdict ∙ c.in-Goes.is)
          (stands_behind (standing s) (standing c.count_frame.new.self) _ rest c.client-routed.new.out.bytes (framed (rules.judging.output frame)) c.client-routed.result.target (rules.target frame) s.calls.items s.calls.items (ap standing c.count_frame.ensures) (behind_whole s.client.limit s.client.held frame rest whole) (ap (λ (b : Buffer). b.bytes) c.client-routed.ensures.out) toward refl),
    )

pub returns-in-Dropped-clause-comes : goal.returns-in-Dropped-clause-comes
returns-in-Dropped-clause-comes g c =
    let s = c.args.self.now in
    let rules = rules_of c.args.judge.now in
    let frame = c.in-Frame.frame.now in
    let rest = c.in-Frame.ensures.exact.0 in
    let whole = c.in-Frame.ensures.exact.1 in
    let out : c.cut.new.self.bytes ≡ [] = ap (λ (b : Buffer). b.bytes) c.cut.ensures in
    let cause = c.in-Dropped.cause in (
      note_of (refused_call (told (s.client.taken + 1)) cause true) frame ∷ [],
      subst (λ k. g.N.Notes.tells c.args.notes.now c.note_call.new.notes (note_of (refused_call (told (k + 1)) cause true) frame ∷ [])) c.taken.ensures c.note_call.ensures,
      asks_in rules s.client.limit s.calls.capacity (standing s) (standing c.count_frame-in-Dropped.new.self) frame rest (client.Dropped c.in-Dropped.cause) c.requires.empty c.requires.few whole (c.in-Frame.ensures.cut frame rest whole) (sym c.client-routed.ensures.verdict ∙ c.in-Dropped.is)
          (stands_behind (standing s) (standing c.count_frame-in-Dropped.new.self) _ rest c.cut.new.self.bytes s.to_upstream.bytes s.toward s.toward s.calls.items s.calls.items (ap standing c.count_frame-in-Dropped.ensures) (behind_whole s.client.limit s.client.held frame rest whole) (out ∙ sym c.requires.empty) refl refl),
    )

pub returns-in-Halts-clause-comes : goal.returns-in-Halts-clause-comes
returns-in-Halts-clause-comes g c =
    let s = c.args.self.now in
    let out : c.cut-in-Halts.new.self.bytes ≡ [] = ap (λ (b : Buffer). b.bytes) c.cut-in-Halts.ensures in (
      [],
      g.met.N.Notes.stays _,
      (
        client_judged_is (rules_of c.args.judge.now).judging s.client.limit s.calls.capacity (standing s) c.in-Frame.frame.now c.in-Frame.ensures.exact.0 (client.Halts c.in-Halts.halt) c.requires.empty c.requires.few c.in-Frame.ensures.exact.1 (sym c.client-routed.ensures.verdict ∙ c.in-Halts.is),
        ap (λ (b : List ℕ). let x : Standing = record (standing s) { to_upstream = b } in x) (out ∙ sym c.requires.empty),
        refl,
      ),
    )

-- ---- what is kept

pub returns-in-Opens-clause-keeps : goal.returns-in-Opens-clause-keeps
returns-in-Opens-clause-keeps g c =
    keeps_opened c.args.judge.now c.args.self.now c.open_call.new.self c.client-routed.new.out c.client-routed.result.target c.in-Opens.call (ap (λ (b : Buffer). b.room) c.client-routed.ensures.out) c.client-routed.ensures.within c.requires.few (c.client-routed.ensures.known (ap goes_on c.in-Opens.is)) c.open_call.ensures.calls c.open_call.ensures.capacity c.open_call.ensures.others c.requires.works

pub returns-in-Goes-clause-keeps : goal.returns-in-Goes-clause-keeps
returns-in-Goes-clause-keeps g c =
    keeps_counted c.args.judge.now c.args.self.now c.count_frame.new.self c.client-routed.new.out c.client-routed.result.target (ap (λ (b : Buffer). b.room) c.client-routed.ensures.out) c.client-routed.ensures.within c.count_frame.ensures c.requires.works

pub returns-in-Dropped-clause-keeps : goal.returns-in-Dropped-clause-keeps
returns-in-Dropped-clause-keeps g c =
    keeps_counted c.args.judge.now c.args.self.now c.count_frame-in-Dropped.new.self c.cut.new.self c.args.self.now.toward (ap (λ (b : Buffer). b.room) c.cut.ensures ∙ ap (λ (b : Buffer). b.room) c.client-routed.ensures.out) (cut_within c.cut.new.self (ap (λ (b : Buffer). b.bytes) c.cut.ensures)) c.count_frame-in-Dropped.ensures c.requires.works

pub returns-in-Halts-clause-keeps : goal.returns-in-Halts-clause-keeps
returns-in-Halts-clause-keeps g c =
    let s = c.args.self.now in
    let works = works_waiting c.args.judge.now s c.cut-in-Halts.new.self (waiting.Halts c.in-Halts.halt) (ap (λ (b : Buffer). b.room) c.cut-in-Halts.ensures ∙ ap (λ (b : Buffer). b.room) c.client-routed.ensures.out) (cut_within c.cut-in-Halts.new.self (ap (λ (b : Buffer). b.bytes) c.cut-in-Halts.ensures))
    (found_at (rules_of c.args.judge.now).judging s.client.limit s.client.held c.in-Frame.frame.now c.in-Frame.ensures.exact.0 (waiting.Halts c.in-Halts.halt) c.in-Frame.ensures.exact.1 c.in-Frame.ensures.cut (sym c.client-routed.ensures.verdict ∙ c.in-Halts.is)) c.requires.works in
    record { ready = works.ready; known = works.known }

-- the state that waits with a refused call
pub answer_step-requires-clause-works : goal.answer_step-requires-clause-works
answer_step-requires-clause-works g c =
    let s = c.args.self.now in
    works_at c.args.judge.now c.client-routed.new.self _ c.client-routed.ensures.same
    (works_waiting c.args.judge.now s c.cut-in-Refused.new.self (waiting.Refused c.in-Refused.cause) (ap (λ (b : Buffer). b.room) c.cut-in-Refused.ensures ∙ ap (λ (b : Buffer). b.room) c.client-routed.ensures.out) (cut_within c.cut-in-Refused.new.self (ap (λ (b : Buffer). b.bytes) c.cut-in-Refused.ensures))
    (found_at (rules_of c.args.judge.now).judging s.client.limit s.client.held c.in-Frame.frame.now c.in-Frame.ensures.exact.0 (waiting.Refused c.in-Refused.cause) c.in-Frame.ensures.exact.1 c.in-Frame.ensures.cut (sym c.client-routed.ensures.verdict ∙ c.in-Refused.is)) c.requires.works)

pub answer_step-requires-clause-found : goal.answer_step-requires-clause-found
answer_step-requires-clause-found g c =
    let s = c.args.self.now in
    found_by c.args.judge.now c.client-routed.new.self s.client.limit s.client.held (waiting.Refused c.in-Refused.cause) c.client-routed.ensures.same
    (found_at (rules_of c.args.judge.now).judging s.client.limit s.client.held c.in-Frame.frame.now c.in-Frame.ensures.exact.0 (waiting.Refused c.in-Refused.cause) c.in-Frame.ensures.exact.1 c.in-Frame.ensures.cut (sym c.client-routed.ensures.verdict ∙ c.in-Refused.is))
