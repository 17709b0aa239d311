-- Between whom a session goes.
use Rattle.std.specs.Prelude.{ℕ, Option}
use Rattle.protocol_traits.specs.declared.proto.Proto.{Proto}
use Rattle.type_tables.specs.declared.declared.ServiceId.{ServiceId}
use Rattle.type_tables.specs.Declarations.{Declarations}

-- what is declared, the service of names that have none before them, the protocols, and the longest frame
pub record Setting : Type 0 where
  pub declarations : Declarations
  pub service : Option ServiceId
  pub client : Proto
  pub upstream : Proto
  pub longest : ℕ
