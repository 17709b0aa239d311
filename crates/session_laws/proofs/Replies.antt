-- What the session's judge makes of a frame of the upstream, by what the frame says.
use Rattle.std.proofs.Common.{◌≡◌, ℕ, ◌<◌, ◌^◌, List, [], length, false, Option, Some, None, refl, ap, ◌∙◌, sym}
use Rattle.std.specs.Prelude.{if◌then◌else◌}
use Rattle.thrift_value.specs.declared.kind.MessageType.{MessageType}
use Rattle.thrift_value.specs.declared.kind.MessageType.TheVariants as types
use Rattle.protocol_traits.specs.Heads.{Header}
use Rattle.translate_verdicts.specs.Routes.{info_of}
use Rattle.translate_verdicts.specs.declared.verdict.Cause.{Cause}
use Rattle.protocol_pairs.specs.Pairs.{answered}
use Rattle.session_core.specs.declared.judge.Call.{Call}
use Rattle.session_core.specs.declared.judge.UpstreamJudged.TheVariants as upstream
use Rattle.session_core.specs.declared.outcome.Halt.{Halt}
use Rattle.session_core.specs.declared.outcome.Halt.TheVariants as halt
use Rattle.session_judge.specs.Setting.{Setting}
use Rattle.session_judge.specs.Client.{call_of}
use Rattle.session_judge.specs.Upstream.{of_type, of_upstream, back}
use Rattle.session_judge.specs.Upstream as judging
use Rattle.session_judge.specs.Rules.{told, rules_of}
use Rattle.gate_base.specs.Bytes.{AreBytes}
use Rattle.session_laws.specs.Saying.{Said, GoesOn, Says}
use Rattle.session_laws.specs.Saying as saying
use Rattle.session_laws.specs.Exchange.{replying, method_of, is_reply, returned, EndsUpstream}
use Rattle.session_laws.proofs.Fates.{IsSaidBy, ByMessage, ByCause, ByFault, said_by, short_in}

-- an open call keeps what its method returns
abbrev pub kept : Setting → Header → Call
kept s call = call_of (method_of s call)

-- the rules of the session agree with what the frame says in the place of the reply to this call
pub data IsReplyFate (s : Setting) (call : Header) (y : List ℕ) (r : Said) : Type 0 where
  Answers : (refused : Option Cause) → (rules_of s).replied (kept s call) y ≡ upstream.Answers refused → (rules_of s).reply (kept s call) y ≡ returned r → ((h : Halt) → EndsUpstream r h → ⊥) → IsReplyFate s call y r
  HaltsReply : (h : Halt) → (rules_of s).replied (kept s call) y ≡ upstream.Halts h → (rules_of s).reply (kept s call) y ≡ returned r → EndsUpstream r h → IsReplyFate s call y r

module _ (s : Setting) (call : Header) (y : List ℕ) where
  by_type : (r : Said) (mtype : MessageType) (refused : Option Cause) (bytes : List ℕ) → (rules_of s).replied (kept s call) y ≡ of_type mtype refused → (rules_of s).reply (kept s call) y ≡ back (of_type mtype refused) bytes
      → returned r ≡ (if is_reply mtype then bytes else []) → ((h : Halt) → EndsUpstream r h → (is_reply mtype ≡ false) × (h ≡ halt.WrongWay))
      → (is_reply mtype ≡ false → EndsUpstream r halt.WrongWay) → IsReplyFate s call y r
  by_type r types.Call refused bytes v e is ends end = HaltsReply halt.WrongWay v (e ∙ sym is) (end refl)
  by_type r types.Oneway refused bytes v e is ends end = HaltsReply halt.WrongWay v (e ∙ sym is) (end refl)
  by_type r types.Reply refused bytes v e is ends end = Answers refused v (e ∙ sym is) (λ h x. let wrong = (ends h x).0 in absurd (cc))
  by_type r types.Exception refused bytes v e is ends end = Answers refused v (e ∙ sym is) (λ h x. let wrong = (ends h x).0 in absurd (cc))

  -- each frame of the upstream says something in the place of a reply, and the judge agrees
  pub reply_fate : AreBytes y → length y < 2 ^ 31 → (r : Said) × Says (replying s call) y r × IsReplyFate s call y r
  unfolding info_of
  reply_fate are small = by_said (said_by (replying s call) y are (short_in s.upstream y small))
    where
      by_said : IsSaidBy (replying s call) (answered s.upstream s.client y) y (told s (kept s call) y) → (r : Said) × Says (replying s call) y r × IsReplyFate s call y r
      by_said (ByMessage m out says e) =
          (GoesOn m out, says, by_type (GoesOn m out) m.mtype None out (ap (λ j. of_upstream j.verdict) e) (ap (λ j. judging.returned (answered s.upstream s.client y) j.verdict j.bytes) e) refl (λ h x. x) (λ x. (x, refl)))
      by_said (ByCause h cause says e) = (
        saying.IsRefused h cause (answered s.upstream s.client y cause),
        says,
        by_type (saying.IsRefused h cause (answered s.upstream s.client y cause)) h.mtype (Some cause) (answered s.upstream s.client y cause)
            (ap (λ j. of_upstream j.verdict) e) (ap (λ j. judging.returned (answered s.upstream s.client y) j.verdict j.bytes) e) refl (λ h x. x) (λ x. (x, refl)),
      )
      by_said (ByFault f says e) = (saying.IsUnread f, says, HaltsReply (halt.Unread f) (ap (λ j. of_upstream j.verdict) e) (ap (λ j. judging.returned (answered s.upstream s.client y) j.verdict j.bytes) e) refl)
