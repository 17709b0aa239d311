-- Which struct a message's body is, by its header.
use Rattle.std.specs.Prelude.{◌<◌, length, Option, Some, None, IfSome}
use Rattle.thrift_value.specs.declared.kind.MessageType.{MessageType}
use Rattle.thrift_value.specs.declared.kind.MessageType.TheVariants as types
use Rattle.type_tables.specs.declared.declared.MethodInfo.{MethodInfo}
use Rattle.type_tables.specs.declared.declared.StructId.{StructId}
use Rattle.type_tables.specs.Declarations.{Declarations}
use Rattle.type_walk.specs.Positions.{Position, start}
use Rattle.protocol_traits.specs.Heads.{Header}
use Rattle.multiplex_names.specs.Names.{find_in}
use Rattle.translate_verdicts.specs.declared.route.Route.{Route}
use Rattle.translate_verdicts.specs.declared.route.Route.TheVariants.{ByName, Answer}
use Rattle.translate_verdicts.specs.declared.verdict.HeadInfo.{HeadInfo}

-- the service or the struct that a route names is one of these declarations
abbrev pub IsKnownRoute : Declarations → Route → Type 0
IsKnownRoute d (ByName service) = IfSome service (λ s. s.0 < length d.services)
IsKnownRoute d (Answer reply) = IfSome reply (λ s. s.0 < length d.structs)

abbrev pub args_of : Option MethodInfo → Option StructId
args_of None = None
args_of (Some m) = Some m.args

abbrev pub result_of : Option MethodInfo → Option StructId
result_of None = None
result_of (Some m) = Some m.result

-- TApplicationException
abbrev pub failure : StructId
failure = record { 0 = 0 }

-- a call has the arguments of its method as its body, a reply this struct, and an exception a TApplicationException
abbrev pub body_by : Option MethodInfo → Option StructId → MessageType → Option StructId
body_by method reply types.Call = args_of method
body_by method reply types.Oneway = args_of method
body_by method reply types.Reply = reply
body_by method reply types.Exception = Some failure

-- The method of a message is the one that its name means. A reply has the result of the method that its own name means,
-- or as an answer the struct that is expected, whatever its name.
abbrev pub body_of : Declarations → Route → Header → Option StructId
body_of d (ByName service) h = body_by (find_in d service h.name) (result_of (find_in d service h.name)) h.mtype
body_of d (Answer reply) h = body_by (find_in d None h.name) reply h.mtype

-- what is told of the method: nothing where an answer is expected
abbrev pub method_by : Declarations → Route → Header → Option MethodInfo
method_by d (ByName service) h = find_in d service h.name
method_by d (Answer reply) h = None

unfoldable pub info_of : Declarations → Route → Header → HeadInfo
info_of d route h = record { mtype = h.mtype; seq = h.seq; method = method_by d route h }

-- the position at the beginning of the body
unfoldable pub start_of : Declarations → Route → Header → Position
start_of d route h = start d (body_of d route h)
