use Rattle.std.proofs.Common.{◌≡◌, suc, ◌+◌, drop, ◌∷◌, [], List, ℕ, arith, rules, refl, sym, ◌∙◌, ap, subst}
use Rattle.std.specs.Int.{w32}
use mir.Val.{SFits}
use Rattle.std.proofs.lemmas.Int.{to_z-of_z}
use Rattle.gate_io.specs.Buffer.{Buffer}
use Rattle.framed_transport.specs.Front.{Large}
use Rattle.session_core.specs.Fits.{told}
use Rattle.session_core.specs.Notes.{reply_notes_by}
use Rattle.session_core.proofs.Moves.{empty_is, some_is, first_of, no_first}
use Rattle.service_router.specs.Judging.{rules_of}
use Rattle.service_router.specs.Standing.{Standing}
use Rattle.service_router.specs.Working.{standing}
use Rattle.service_router.proofs.Moves.{none_open, ends_first, ends_part, asks_front, reply_halts}
use Rattle.service_router.proofs.Targets.{target_known, target_read, target_limit, keeps_answered, answers_in}
use Rattle.service_router.proofs.state.State.upstream_step.Goals as goal

pub returns-in_default-clause-comes : goal.returns-in_default-clause-comes
returns-in_default-clause-comes g c = ([], g.met.N.Notes.stays _, (none_open _ _ (standing c.args.self.now) (no_first c.args.self.now.calls.items (sym c.in_default.ensures)), refl, refl))

pub returns-then-not-is_empty-clause-comes : goal.returns-then-not-is_empty-clause-comes
returns-then-not-is_empty-clause-comes g c =
    let s = c.args.self.now in
    let first = c.in-Some.field-0.now in
    let inbox = c.index-port.result.now in
    let r = c.requires.works.ready in
    let calls : s.calls.items ≡ first ∷ drop 1 s.calls.items = first_of s.calls.items first (sym c.in-Some.ensures) in
    let within = target_known _ _ _ s first r calls in
    let is = target_read s first inbox within c.index-port.ensures in (
      [],
      g.met.N.Notes.stays _,
      ends_first (rules_of c.args.judge.now).judging s.client.limit (standing s) first (drop 1 s.calls.items) inbox c.ends.result calls is (target_limit _ _ _ s first inbox r within is) c.ends.ensures
          (some_is c.is_empty.result c.bytes.result.now s.to_client.bytes c.if-not-is_empty.true c.is_empty.ensures c.bytes.ensures.bytes),
    )

pub upstream-requires-clause-fits : goal.upstream-requires-clause-fits
upstream-requires-clause-fits g c =
    let s = c.args.self.now in
    let first = c.in-Some.field-0.now in
    let inbox = c.index-port.result.now in
    let r = c.requires.works.ready in
    let calls : s.calls.items ≡ first ∷ drop 1 s.calls.items = first_of s.calls.items first (sym c.in-Some.ensures) in
    let within = target_known _ _ _ s first r calls in
    let is = target_read s first inbox within c.index-port.ensures in
    let cut = c.in-Frame.ensures.cut c.in-Frame.frame.now c.in-Frame.ensures.exact.0 c.in-Frame.ensures.exact.1 in
    omega (arith, cut.within, c.requires.works.fits, target_limit _ _ _ s first inbox r within is)

pub upstream-requires-clause-room : goal.upstream-requires-clause-room
upstream-requires-clause-room g c =
    let s = c.args.self.now in
    let first = c.in-Some.field-0.now in
    let inbox = c.index-port.result.now in
    let r = c.requires.works.ready in
    let calls : s.calls.items ≡ first ∷ drop 1 s.calls.items = first_of s.calls.items first (sym c.in-Some.ensures) in
    let within = target_known _ _ _ s first r calls in
    let is = target_read s first inbox within c.index-port.ensures in
    let cut = c.in-Frame.ensures.cut c.in-Frame.frame.now c.in-Frame.ensures.exact.0 c.in-Frame.ensures.exact.1 in
    omega (arith, cut.within, r.to_client_room, target_limit _ _ _ s first inbox r within is)

pub returns-in-NeedMore-clause-comes : goal.returns-in-NeedMore-clause-comes
returns-in-NeedMore-clause-comes g c =
    let s = c.args.self.now in
    let first = c.in-Some.field-0.now in
    let inbox = c.index-port.result.now in
    let r = c.requires.works.ready in
    let calls : s.calls.items ≡ first ∷ drop 1 s.calls.items = first_of s.calls.items first (sym c.in-Some.ensures) in
    let within = target_known _ _ _ s first r calls in
    let is = target_read s first inbox within c.index-port.ensures in (
      [],
      g.met.N.Notes.stays _,
      ends_part (rules_of c.args.judge.now).judging s.client.limit (standing s) first (drop 1 s.calls.items) inbox c.ends-in-NeedMore.result calls is (target_limit _ _ _ s first inbox r within is) c.ends-in-NeedMore.ensures
          (empty_is c.is_empty.result c.bytes.result.now s.to_client.bytes c.if-not-is_empty.false c.is_empty.ensures c.bytes.ensures.bytes) c.in-NeedMore.ensures.exact,
    )

pub returns-in-TooLarge-clause-comes : goal.returns-in-TooLarge-clause-comes
returns-in-TooLarge-clause-comes g c =
    let s = c.args.self.now in
    let first = c.in-Some.field-0.now in
    let inbox = c.index-port.result.now in
    let r = c.requires.works.ready in
    let calls : s.calls.items ≡ first ∷ drop 1 s.calls.items = first_of s.calls.items first (sym c.in-Some.ensures) in
    let within = target_known _ _ _ s first r calls in
    let is = target_read s first inbox within c.index-port.ensures in
    let fits : SFits w32 c.in-TooLarge.length = search rules in (
      [],
      g.met.N.Notes.stays _,
      (
        rw (to_z-of_z w32 c.in-TooLarge.length fits) (asks_front (rules_of c.args.judge.now).judging s.client.limit (standing s) first (drop 1 s.calls.items) inbox (Large c.in-TooLarge.length) calls is (target_limit _ _ _ s first inbox r within is)
            (empty_is c.is_empty.result c.bytes.result.now s.to_client.bytes c.if-not-is_empty.false c.is_empty.ensures c.bytes.ensures.bytes) c.in-TooLarge.ensures.exact),
        refl,
        refl,
      ),
    )

pub returns-in-Halts-clause-comes : goal.returns-in-Halts-clause-comes
returns-in-Halts-clause-comes g c =
    let s = c.args.self.now in
    let first = c.in-Some.field-0.now in
    let inbox = c.index-port.result.now in
    let r = c.requires.works.ready in
    let calls : s.calls.items ≡ first ∷ drop 1 s.calls.items = first_of s.calls.items first (sym c.in-Some.ensures) in
    let within = target_known _ _ _ s first r calls in
    let is = target_read s first inbox within c.index-port.ensures in
    let none = empty_is c.is_empty.result c.bytes.result.now s.to_client.bytes c.if-not-is_empty.false c.is_empty.ensures c.bytes.ensures.bytes in
    let out : c.cut.new.self.bytes ≡ [] = ap (λ (b : Buffer). b.bytes) c.cut.ensures in (
      [],
      g.met.N.Notes.stays _,
      (
        reply_halts (rules_of c.args.judge.now).judging s.client.limit (standing s) first (drop 1 s.calls.items) inbox c.in-Frame.frame.now c.in-Frame.ensures.exact.0 c.in-Halts.halt calls is (target_limit _ _ _ s first inbox r within is) none c.in-Frame.ensures.exact.1 (sym c.in-Halts.ensures.verdict),
        ap (λ (b : List ℕ). let x : Standing = record (standing s) { to_client = b } in x) (out ∙ sym none),
        refl,
      ),
    )

pub returns-in-Answers-clause-keeps : goal.returns-in-Answers-clause-keeps
returns-in-Answers-clause-keeps g c =
    let s = c.args.self.now in
    let first = c.in-Some.field-0.now in
    let r = c.requires.works.ready in
    let calls : s.calls.items ≡ first ∷ drop 1 s.calls.items = first_of s.calls.items first (sym c.in-Some.ensures) in
    keeps_answered c.args.judge.now s c.close_call.new.self c.upstream.new.out first.target (ap (λ (b : Buffer). b.room) c.upstream.ensures.out) c.upstream.ensures.within (target_known _ _ _ s first r calls) c.close_call.ensures.closed c.requires.works

pub returns-in-Answers-clause-comes : goal.returns-in-Answers-clause-comes
returns-in-Answers-clause-comes g c =
    let s = c.args.self.now in
    let first = c.in-Some.field-0.now in
    let inbox = c.index-port.result.now in
    let r = c.requires.works.ready in
    let calls : s.calls.items ≡ first ∷ drop 1 s.calls.items = first_of s.calls.items first (sym c.in-Some.ensures) in
    let within = target_known _ _ _ s first r calls in
    let is = target_read s first inbox within c.index-port.ensures in
    let frame = c.in-Frame.frame.now in
    let rest = c.in-Frame.ensures.exact.0 in
    let refused = c.in-Answers.refused in (
      reply_notes_by (suc first.target) refused (told (inbox.taken + 1)) frame,
      subst (λ k. g.N.Notes.tells c.args.notes.now c.note_answer.new.notes (reply_notes_by (suc first.target) refused (told (k + 1)) frame)) c.taken.ensures c.note_answer.ensures,
      answers_in (rules_of c.args.judge.now).judging s.client.limit s c.close_call.new.self first inbox frame rest c.upstream.new.out refused calls within is (target_limit _ _ _ s first inbox r within is)
          (empty_is c.is_empty.result c.bytes.result.now s.to_client.bytes c.if-not-is_empty.false c.is_empty.ensures c.bytes.ensures.bytes) c.in-Frame.ensures.exact.1 (c.in-Frame.ensures.cut frame rest c.in-Frame.ensures.exact.1) (sym c.in-Answers.ensures.verdict) (ap (λ (b : Buffer). b.bytes) c.upstream.ensures.out) c.close_call.ensures.closed,
    )

pub note_answer-requires : goal.note_answer-requires
note_answer-requires g c =
    let s = c.args.self.now in
    let first = c.in-Some.field-0.now in
    let r = c.requires.works.ready in
    let calls : s.calls.items ≡ first ∷ drop 1 s.calls.items = first_of s.calls.items first (sym c.in-Some.ensures) in
    omega (arith, target_known _ _ _ s first r calls, r.few_targets)
