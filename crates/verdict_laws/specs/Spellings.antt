-- What spells a message in a protocol, and its plain spelling: the header, and each item with what is declared of its position.
use Rattle.std.specs.Prelude.{⊤, ℕ, ◌<◌, ◌^◌, List, ◌++◌, length}
use Rattle.thrift_value.specs.Trees.{Message, items_of_members}
use Rattle.protocol_traits.specs.declared.proto.Proto.{Proto}
use Rattle.protocol_traits.specs.declared.proto.Proto.TheVariants as protocols
use Rattle.protocol_traits.specs.Heads.{Header}
use Rattle.type_tables.specs.Declarations.{Declarations}
use Rattle.translate_verdicts.specs.declared.route.Route.{Route}
use Rattle.translate_verdicts.specs.Routes.{body_of, start_of}
use Rattle.translate_verdicts.specs.Body.{TargetRules}
use Rattle.translate_core.specs.Answers.{marked, spelled}
use Rattle.binary_protocol.specs.Grammar.{BinarySpells}
use Rattle.compact_protocol.specs.Grammar.{CompactSpells}
use Rattle.binary_laws.specs.Reads.{header_of_message}
use Rattle.json_laws.specs.Stated.{Known, JsonSpells}

-- what is known of a body: what is declared, and the struct that the header and the route name
abbrev pub known_by : Declarations → Route → Header → Known
known_by d route h = record { declared = d; body = body_of d route h }

-- the bytes spell the message in the protocol; in JSON a string is spelled as its position is declared
abbrev pub SpellsBy : Declarations → Route → Proto → Message → List ℕ → Type 0
SpellsBy d route protocols.Binary m bytes = BinarySpells m bytes
SpellsBy d route protocols.Compact m bytes = CompactSpells m bytes
SpellsBy d route protocols.Json m bytes = JsonSpells (known_by d route (header_of_message m)) m bytes

-- the laws read frames of JSON that have less than 2^31 bytes, as every length of a frame has, and of Binary and Compact any
abbrev pub IsShort : Proto → List ℕ → Type 0
IsShort protocols.Json frame = length frame < 2 ^ 31
IsShort protocol frame = ⊤

-- the plain spelling of a whole message in the protocol of this target
abbrev pub plain_of : {T : Type 0} → TargetRules T → Declarations → Route → Message → List ℕ
plain_of target d route m =
    target.plain_head (header_of_message m) ++ spelled target.plain target.after target.begun (marked (start_of d route (header_of_message m)) (items_of_members m.body))
