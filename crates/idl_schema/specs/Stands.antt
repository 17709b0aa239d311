-- Which declarations tables can have.
use Rattle.std.specs.Prelude.{◌≡◌, ℕ, List, [], ◌∷◌, ◌++◌, None, Result, IsOkUnless}
use Rattle.type_tables.specs.declared.declared.ServiceId.{ServiceId}
use Rattle.type_tables.specs.Declarations.{Declarations}
use Rattle.type_tables.specs.Known.{IsClosed}
use Rattle.type_tables.specs.Names.{value_of}
use Rattle.idl_schema.specs.Shares.{Share}
use Rattle.idl_schema.specs.declared.fault.NoSchema.{NoSchema}
use Rattle.idl_schema.specs.declared.fault.NoSchema.TheVariants as stops

-- no name stands twice
abbrev pub AreApart : List (List ℕ × ServiceId) → Type 0
AreApart [] = Unit {0}
AreApart (e ∷ es) = (value_of e.0 es ≡ None) × AreApart es

-- each number is one of theirs, and no two services have one name in the root file
pub record CanStand (d : Declarations) : Type 0 where
  pub closed : IsClosed d
  pub apart : AreApart d.names

-- where the names stand once each with those that are added, only memory may be wanting
abbrev pub IsUnless : {X : Type 0} → Declarations → Share → Result X NoSchema → Type 0
IsUnless d added result = AreApart (d.names ++ added.names) → IsOkUnless result stops.OutOfMemory
