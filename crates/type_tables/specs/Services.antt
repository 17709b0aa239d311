-- Services by their numbers and names, and methods with those that are inherited.
use Rattle.std.specs.Prelude.{ℕ, zero, suc, List, [], ◌∷◌, ◌++◌, length, Option, Some, None, slice_get}
use Rattle.type_tables.specs.declared.declared.MethodInfo.{MethodInfo}
use Rattle.type_tables.specs.declared.declared.ServiceId.{ServiceId}
use Rattle.type_tables.specs.declared.services.ServiceDecl.{ServiceDecl}
use Rattle.type_tables.specs.Names.{value_of}
use Rattle.type_tables.specs.Roots.{with_name}

-- the services in the order of their numbers; a name stands beside the number of its service
pub record ServiceLists : Type 0 where
  pub list : List ServiceDecl
  pub names : List (List ℕ × ServiceId)

abbrev pub own_methods : Option ServiceDecl → List (List ℕ × MethodInfo)
own_methods None = []
own_methods (Some t) = t.methods

-- the own methods of the service with this number
abbrev pub methods_of : List ServiceDecl → ℕ → List (List ℕ × MethodInfo)
methods_of services s = own_methods (slice_get services s)

abbrev pub own_base : Option ServiceDecl → Option ServiceId
own_base None = None
own_base (Some t) = t.base

-- the service that it extends
abbrev pub base_of : List ServiceDecl → ℕ → Option ServiceId
base_of services s = own_base (slice_get services s)

-- the services, with these methods of one
abbrev pub services_with : List ServiceDecl → ℕ → List (List ℕ × MethodInfo) → List ServiceDecl
services_with [] s methods = []
services_with (t ∷ ts) zero methods = record { base = t.base; methods = methods } ∷ ts
services_with (t ∷ ts) (suc s) methods = t ∷ services_with ts s methods

abbrev pub or_else : Option MethodInfo → Option MethodInfo → Option MethodInfo
or_else (Some m) other = Some m
or_else None other = other

-- the own method of this name, else the one of the nearest base that has it, among so many services
abbrev pub found_up : ℕ → List ServiceDecl → List ℕ → Option ServiceId → Option MethodInfo
found_up n services name None = None
found_up zero services name (Some s) = None
found_up (suc n) services name (Some s) = or_else (value_of name (methods_of services s.0)) (found_up n services name (base_of services s.0))

-- No chain of bases is longer than the list, unless it goes round in a circle.
abbrev pub method_in : List ServiceDecl → ServiceId → List ℕ → Option MethodInfo
method_in services s name = found_up (length services) services name (Some s)

abbrev pub number : ℕ → ServiceId
number n = record { 0 = n }

-- a service without methods last
abbrev pub with_service : ServiceLists → Option (List ℕ) → Option ServiceId → ServiceLists
with_service s name base = record {
  list = s.list ++ record { base = base; methods = [] } ∷ [];
  names = with_name s.names name (number (length s.list));
}

abbrev pub with_method : ServiceLists → ℕ → List ℕ → MethodInfo → ServiceLists
with_method s at name m = record { list = services_with s.list at (methods_of s.list at ++ (name, m) ∷ []); names = s.names }
