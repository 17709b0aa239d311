-- Between whom a router goes.
use Rattle.std.specs.Prelude.{ℕ, List, Option, nat_eq}
use Rattle.std.specs.Cmp.Lexicographic.{pointwise}
use Rattle.std.specs.List.{position}
use Rattle.protocol_traits.specs.declared.proto.Proto.{Proto}
use Rattle.type_tables.specs.Declarations.{Declarations}
use Rattle.gate_fan.specs.declared.fan.Target.{Target}

-- what is declared, the protocols, the targets in order, and the longest frame
pub record Routing : Type 0 where
  pub declarations : Declarations
  pub client : Proto
  pub upstream : Proto
  pub targets : List Target
  pub longest : ℕ

-- the first of these targets that has this service
abbrev pub server_of : List Target → List ℕ → Option ℕ
server_of targets service = position (λ (t : Target). pointwise nat_eq t.service service) targets
