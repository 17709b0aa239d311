-- What is seen of a frame that the quick way takes.
use Rattle.std.specs.Prelude.{◌≡◌, ℕ, List, Option, Some, None, IfSome}
use Rattle.translate_verdicts.specs.declared.verdict.HeadInfo.{HeadInfo}
use Rattle.translate_verdicts.specs.declared.verdict.Verdict.TheVariants.{Passed}
use Rattle.translate_verdicts.specs.Judged.{IsJudged, Judged}
use Rattle.session_core.specs.declared.judge.ClientJudged.{ClientJudged}
use Rattle.session_core.specs.declared.judge.ClientJudged.TheVariants as client
use Rattle.session_core.specs.declared.judge.UpstreamJudged.{UpstreamJudged}
use Rattle.session_core.specs.declared.judge.UpstreamJudged.TheVariants as upstream
use Rattle.session_core.specs.declared.outcome.Halt.TheVariants as halt
use Rattle.session_judge.specs.declared.calls.CallSeen.{CallSeen}
use Rattle.session_judge.specs.declared.calls.CallSeen.TheVariants as call
use Rattle.session_judge.specs.declared.replies.ReplySeen.{ReplySeen}
use Rattle.session_judge.specs.declared.replies.ReplySeen.TheVariants as reply
use Rattle.session_judge.specs.Client.{passed_on}
use Rattle.session_judge.specs.Upstream.{of_type}

-- what it means for a frame of the client, where it was taken
abbrev pub client_told : CallSeen → Option ClientJudged
client_told call.Nothing = None
client_told (call.Known s) = Some (client.Opens (record { result = Some s }))
client_told call.Unknown = Some (client.Opens (record { result = None }))
client_told call.Goes = Some client.Goes
client_told call.WrongWay = Some (client.Halts halt.WrongWay)

-- the message passed, and of its header this was told
abbrev pub PassedOn : CallSeen → List ℕ → List ℕ → Judged → Type 0
PassedOn seen old new j =
    IfSome (client_told seen) (λ c. (info : HeadInfo) × IsJudged (Passed info) old new j × (passed_on info.method info.mtype ≡ c))

-- what it means for a frame of the upstream, where it was taken
abbrev pub upstream_told : ReplySeen → Option UpstreamJudged
upstream_told reply.Nothing = None
upstream_told reply.Answers = Some (upstream.Answers None)
upstream_told reply.WrongWay = Some (upstream.Halts halt.WrongWay)

-- the message passed, and of its header this was told
abbrev pub PassedBack : ReplySeen → List ℕ → List ℕ → Judged → Type 0
PassedBack seen old new j =
    IfSome (upstream_told seen) (λ u. (info : HeadInfo) × IsJudged (Passed info) old new j × (of_type info.mtype None ≡ u))
