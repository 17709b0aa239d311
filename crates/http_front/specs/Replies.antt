-- Which response a body gets, and how a response is written (RFC 9112, section 4; Apache Thrift, THttpTransport).
use Rattle.std.specs.Prelude.{◌≡◌, ℕ, ◌<◌, ◌≤◌, List, ◌++◌, length, take, decimal, codes, Option, Some, None, Ok, Err, if◌then◌else◌}
use Rattle.gate_io.specs.Buffer.{Buffer}
use Rattle.thrift_value.specs.declared.kind.MessageType.{MessageType}
use Rattle.thrift_value.specs.declared.kind.MessageType.TheVariants as types
use Rattle.protocol_traits.specs.declared.proto.Proto.{Proto}
use Rattle.protocol_traits.specs.declared.proto.Proto.TheVariants as protocols
use Rattle.protocol_traits.specs.Heads.{Header}
use Rattle.protocol_traits.specs.Steps.{Step}
use Rattle.type_tables.specs.Declarations.{Declarations}
use Rattle.type_tables.specs.declared.declared.MethodInfo.{MethodInfo}
use Rattle.type_tables.specs.declared.declared.ServiceId.{ServiceId}
use Rattle.multiplex_names.specs.Names.{find_in}
use Rattle.binary_protocol.specs.Reading as binary
use Rattle.compact_protocol.specs.Reading as compact
use Rattle.json_protocol.specs.Reading as json
use Rattle.json_protocol.specs.Head as json_head
use Rattle.http_front.specs.declared.replies.Reply.{Reply}
use Rattle.http_front.specs.declared.replies.Reply.TheVariants as reply

-- a call is answered, unless its method is known and declared oneway
abbrev pub reply_to_call : Option MethodInfo → Reply
reply_to_call None = reply.Answer
reply_to_call (Some method) = if method.oneway then reply.Empty else reply.Answer

-- a reply or an exception is no message of a client
abbrev pub reply_by : Option MethodInfo → MessageType → Reply
reply_by method types.Call = reply_to_call method
reply_by method types.Oneway = reply.Empty
reply_by method types.Reply = reply.Missing
reply_by method types.Exception = reply.Missing

-- by the header, where it is whole
abbrev pub reply_for : {S : Type 0} → Declarations → Option ServiceId → Step S Header → Reply
reply_for d service (Ok x) = reply_by (find_in d service x.0.name) x.0.mtype
reply_for d service (Err fault) = reply.Missing

-- the response that a body gets, whose names without a prefix are those of this service
unfoldable pub reply_to : Declarations → Option ServiceId → Proto → List ℕ → Reply
reply_to d service protocols.Binary body = reply_for d service (binary.reads_head (binary.begun body))
reply_to d service protocols.Compact body = reply_for d service (compact.reads_head (compact.begun body))
reply_to d service protocols.Json body = reply_for d service (json_head.reads_head (json.begun body))

-- the head of a response with so many bytes of content
unfoldable pub response_head : ℕ → List ℕ
response_head size = codes "HTTP/1.1 200 OK\r\nContent-Type: application/x-thrift\r\nContent-Length: " ++ decimal size ++ codes "\r\n\r\n"

abbrev pub response : List ℕ → List ℕ
response content = response_head (length content) ++ content

-- the head of a response is held, and behind it the first bytes of its content, of so many as are wanted
abbrev pub IsLaid : Buffer → Buffer → ℕ → List ℕ → ℕ → Type 0
IsLaid old new size content wanted =
    (count : ℕ) × (count ≤ wanted) × (new ≡ record old { bytes = response_head size ++ take count content }) × (0 < wanted → 0 < count)
