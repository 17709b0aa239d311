-- What is found of a frame in one of the three protocols by what is declared of its message.
use Rattle.std.specs.Prelude.{ℕ, List, Option}
use Rattle.protocol_traits.specs.declared.proto.Proto.{Proto}
use Rattle.protocol_traits.specs.declared.proto.Proto.TheVariants as protocols
use Rattle.type_tables.specs.declared.declared.ServiceId.{ServiceId}
use Rattle.type_tables.specs.Declarations.{Declarations}
use Rattle.protocol_pairs.specs.Pairs.{binary_source, compact_source, json_source}
use Rattle.conform_check.specs.Checking.{Finding, checked_by}

-- names without a service before them are those of this service
unfoldable pub finding : Declarations → Option ServiceId → Proto → List ℕ → Finding
finding d service protocols.Binary frame = checked_by binary_source d service frame
finding d service protocols.Compact frame = checked_by compact_source d service frame
finding d service protocols.Json frame = checked_by json_source d service frame
