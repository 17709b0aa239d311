-- The header of a message as a value.
use Rattle.std.specs.Prelude.{ℕ, ℤ, List}
use Rattle.thrift_value.specs.declared.kind.MessageType.{MessageType}
use Rattle.protocol_traits.specs.declared.proto.Head.{Head}

pub record Header : Type 0 where
  pub name : List ℕ
  pub mtype : MessageType
  pub seq : ℤ

abbrev pub header_of : Head → Header
header_of h = record { name = h.name.now; mtype = h.mtype; seq = h.seq }
