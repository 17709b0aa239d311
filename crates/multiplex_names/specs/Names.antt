-- A method's name with the name of its service before it (Apache Thrift, TMultiplexedProtocol: "service:method").
use Rattle.std.specs.Prelude.{ℕ, ◌+◌, List, Option, Some, None, Bool, ◌==◌, take, drop}
use Rattle.std.specs.List.{position}
use Rattle.type_tables.specs.declared.declared.MethodInfo.{MethodInfo}
use Rattle.type_tables.specs.declared.declared.ServiceId.{ServiceId}
use Rattle.type_tables.specs.Declarations.{Declarations}
use Rattle.type_tables.specs.Names.{value_of}
use Rattle.type_tables.specs.Services.{method_in}

abbrev pub is_colon : ℕ → Bool
is_colon byte = byte == 58

-- what stands before a place, and what stands behind it
abbrev pub parted : List ℕ → Option ℕ → Option (List ℕ) × List ℕ
parted name None = (None, name)
parted name (Some at) = (Some (take at name), drop (at + 1) name)

-- the service's name, where there is one, and the method's: the first colon parts them
unfoldable pub split_of : List ℕ → Option (List ℕ) × List ℕ
split_of name = parted name (position is_colon name)

-- the service that a prefix means, or else this one
abbrev pub service_in : Declarations → Option ServiceId → Option (List ℕ) → Option ServiceId
service_in d default None = default
service_in d default (Some prefix) = value_of prefix d.names

abbrev pub method_of : Declarations → Option ServiceId → List ℕ → Option MethodInfo
method_of d None name = None
method_of d (Some service) name = method_in d.services service name

-- the method that a name means, where names without a prefix are those of this service
unfoldable pub find_in : Declarations → Option ServiceId → List ℕ → Option MethodInfo
find_in d default name = method_of d (service_in d default (split_of name).0) (split_of name).1
