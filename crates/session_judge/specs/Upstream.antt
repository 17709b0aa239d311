-- What becomes of a frame of the upstream, by the verdict on it.
use Rattle.std.specs.Prelude.{ℕ, List, [], length, Option, Some, None, nat_lt, if◌then◌else◌}
use Rattle.thrift_value.specs.declared.kind.MessageType.{MessageType}
use Rattle.thrift_value.specs.declared.kind.MessageType.TheVariants as types
use Rattle.type_tables.specs.declared.declared.StructId.{StructId}
use Rattle.type_tables.specs.Declarations.{Declarations}
use Rattle.protocol_traits.specs.declared.proto.Proto.{Proto}
use Rattle.translate_verdicts.specs.Judged.{Judged}
use Rattle.translate_verdicts.specs.declared.route.Route.TheVariants.{Answer}
use Rattle.protocol_pairs.specs.Pairs.{judged, answered}
use Rattle.translate_verdicts.specs.declared.verdict.Cause.{Cause}
use Rattle.translate_verdicts.specs.declared.verdict.Verdict.{Verdict}
use Rattle.translate_verdicts.specs.declared.verdict.Verdict.TheVariants.{Passed, Refused, Unread}
use Rattle.session_core.specs.declared.judge.UpstreamJudged.{UpstreamJudged}
use Rattle.session_core.specs.declared.judge.UpstreamJudged.TheVariants as upstream
use Rattle.session_core.specs.declared.outcome.Halt.TheVariants as halt

-- the struct that a reply is expected to be: a number that is none of these declarations' says nothing
abbrev pub expected : Declarations → Option StructId → Option StructId
expected d None = None
expected d (Some s) = if nat_lt s.0 (length d.structs) then Some s else None

-- a reply or an exception answers its call, refused for a cause or not; a call is no message of an upstream
abbrev pub of_type : MessageType → Option Cause → UpstreamJudged
of_type types.Call cause = upstream.Halts halt.WrongWay
of_type types.Oneway cause = upstream.Halts halt.WrongWay
of_type types.Reply cause = upstream.Answers cause
of_type types.Exception cause = upstream.Answers cause

abbrev pub of_upstream : Verdict → UpstreamJudged
of_upstream (Passed info) = of_type info.mtype None
of_upstream (Refused info cause) = of_type info.mtype (Some cause)
of_upstream (Unread fault) = upstream.Halts (halt.Unread fault)

-- what goes to the client for a message of this type
abbrev pub back : UpstreamJudged → List ℕ → List ℕ
back (upstream.Answers refused) bytes = bytes
back (upstream.Halts h) bytes = []

-- the reply, or what tells that it is refused
abbrev pub returned : (Cause → List ℕ) → Verdict → List ℕ → List ℕ
returned answer (Passed info) bytes = back (of_type info.mtype None) bytes
returned answer (Refused info cause) bytes = back (of_type info.mtype (Some cause)) (answer cause)
returned answer (Unread fault) bytes = []

-- the same of a frame that was judged
abbrev pub reply_of : (Cause → List ℕ) → Judged → List ℕ
reply_of answer judged = returned answer judged.verdict judged.bytes

-- what becomes of a frame of the upstream that is judged as the reply of this struct
abbrev pub reply_verdict : Declarations → Option StructId → Proto → Proto → List ℕ → UpstreamJudged
reply_verdict d reply from to frame = of_upstream (judged d (Answer (expected d reply)) from to frame).verdict

-- what goes to the client for it
abbrev pub reply_bytes : Declarations → Option StructId → Proto → Proto → List ℕ → List ℕ
reply_bytes d reply from to frame = reply_of (answered from to frame) (judged d (Answer (expected d reply)) from to frame)
