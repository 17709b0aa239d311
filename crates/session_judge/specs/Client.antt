-- What becomes of a frame of the client, by the verdict on it.
use Rattle.std.specs.Prelude.{ℕ, List, [], Option, Some, None, Bool, true, not, if◌then◌else◌}
use Rattle.thrift_value.specs.declared.kind.MessageType.{MessageType}
use Rattle.thrift_value.specs.declared.kind.MessageType.TheVariants as types
use Rattle.type_tables.specs.declared.declared.MethodInfo.{MethodInfo}
use Rattle.translate_verdicts.specs.declared.verdict.Cause.{Cause}
use Rattle.translate_verdicts.specs.declared.verdict.Verdict.{Verdict}
use Rattle.translate_verdicts.specs.declared.verdict.Verdict.TheVariants as verdicts
use Rattle.type_tables.specs.declared.declared.ServiceId.{ServiceId}
use Rattle.type_tables.specs.Declarations.{Declarations}
use Rattle.protocol_traits.specs.declared.proto.Proto.{Proto}
use Rattle.translate_verdicts.specs.declared.route.Route.TheVariants.{ByName}
use Rattle.translate_verdicts.specs.Judged.{Judged}
use Rattle.translate_verdicts.specs.Routes.{result_of}
use Rattle.protocol_pairs.specs.Pairs.{judged}
use Rattle.session_core.specs.declared.judge.Call.{Call}
use Rattle.session_core.specs.declared.judge.ClientJudged.{ClientJudged}
use Rattle.session_core.specs.declared.judge.ClientJudged.TheVariants as client
use Rattle.session_core.specs.declared.outcome.Halt.TheVariants as halt

-- a call is answered, unless its method is known and declared oneway
abbrev pub is_answered : Option MethodInfo → Bool
is_answered None = true
is_answered (Some m) = not m.oneway

-- an open call keeps the struct of its reply
abbrev pub call_of : Option MethodInfo → Call
call_of method = record { result = result_of method }

-- a call opens or goes without an answer; a reply or an exception is no message of a client
abbrev pub passed_on : Option MethodInfo → MessageType → ClientJudged
passed_on method types.Call = if is_answered method then client.Opens (call_of method) else client.Goes
passed_on method types.Oneway = client.Goes
passed_on method types.Reply = client.Halts halt.WrongWay
passed_on method types.Exception = client.Halts halt.WrongWay

abbrev pub refused : Option MethodInfo → Cause → MessageType → ClientJudged
refused method cause types.Call = if is_answered method then client.Refused cause else client.Dropped cause
refused method cause types.Oneway = client.Dropped cause
refused method cause types.Reply = client.Halts halt.WrongWay
refused method cause types.Exception = client.Halts halt.WrongWay

abbrev pub of_client : Verdict → ClientJudged
of_client (verdicts.Passed info) = passed_on info.method info.mtype
of_client (verdicts.Refused info cause) = refused info.method cause info.mtype
of_client (verdicts.Unread fault) = client.Halts (halt.Unread fault)

-- what goes to the upstream, where these bytes are the message in its protocol
abbrev pub onward : ClientJudged → List ℕ → List ℕ
onward (client.Opens call) bytes = bytes
onward client.Goes bytes = bytes
onward (client.Halts h) bytes = []
onward (client.Refused cause) bytes = []
onward (client.Dropped cause) bytes = []

-- the same of a frame that was judged
abbrev pub output_of : Judged → List ℕ
output_of judged = onward (of_client judged.verdict) judged.bytes

-- what becomes of a frame of the client by a schema, where names without a service are those of this one
abbrev pub call_verdict : Declarations → Option ServiceId → Proto → Proto → List ℕ → ClientJudged
call_verdict d service from to frame = of_client (judged d (ByName service) from to frame).verdict

-- what goes to the upstream for it
abbrev pub call_bytes : Declarations → Option ServiceId → Proto → Proto → List ℕ → List ℕ
call_bytes d service from to frame = output_of (judged d (ByName service) from to frame)

-- what answers the frame, where it is refused and waits for an answer
abbrev pub answer_by : (Cause → List ℕ) → ClientJudged → List ℕ
answer_by answer (client.Refused cause) = answer cause
answer_by answer (client.Opens call) = []
answer_by answer client.Goes = []
answer_by answer (client.Halts h) = []
answer_by answer (client.Dropped cause) = []
