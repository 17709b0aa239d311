-- What stays known of the open levels, and how many they are.
use Rattle.std.proofs.Common.{◌≡◌, ℕ, ℤ, zero, suc, ◌+◌, ◌<◌, List, [], ◌∷◌, Bool, true, false, Option, Some, None, length, arith, refl}
use Rattle.std.specs.Prelude.{IfSome, if◌then◌else◌}
use Rattle.type_tables.specs.Declarations.{Declarations}
use Rattle.type_walk.specs.declared.levels.Level.{Level}
use Rattle.type_walk.specs.declared.levels.Level.TheVariants as levels
use Rattle.type_walk.specs.Stack.{first_of, rest_of}
use Rattle.thrift_value.specs.declared.kind.Kind.{Kind}
use Rattle.thrift_value.specs.declared.kind.Kind.TheVariants as kinds
use Rattle.thrift_value.specs.Kinds.{rank_of, same_kind}
use Rattle.type_tables.specs.declared.declared.FieldInfo.{FieldInfo}
use Rattle.type_tables.specs.declared.declared.Ty.TheVariants as types
use Rattle.type_tables.specs.Fields.{field_in}
use Rattle.type_tables.specs.Kinds.{kind_of}
use Rattle.type_tables.specs.Structs.{fields_of}
use Rattle.type_walk.specs.Positions.{passed, kept, under, has_kind, of_kind, declared_type, declared_in, field_type}
use Rattle.type_walk.specs.Known.{IsKnownLevel, AreKnown, shaded}

pub known-first : (d : Declarations) (known : List Level) → AreKnown d known → IfSome (first_of known) (IsKnownLevel d)
known-first d [] all = tt
known-first d (level ∷ up) all = all.0

pub known-rest : (d : Declarations) (known : List Level) → AreKnown d known → AreKnown d (rest_of known)
known-rest d [] all = tt
known-rest d (level ∷ up) all = all.1

pub known-passed : (d : Declarations) (known : List Level) → AreKnown d known → AreKnown d (passed known)
known-passed d [] all = tt
known-passed d (levels.Unknown ∷ up) all = all
known-passed d (levels.Fields s ∷ up) all = all
known-passed d (levels.Elements element ∷ up) all = all
known-passed d (levels.Keys key value ∷ up) all = all
known-passed d (levels.Values key value ∷ up) all = all

pub length-shaded : (n : ℕ) (known : List Level) → length (shaded n known) ≡ n + length known
length-shaded zero known = omega arith
length-shaded (suc n) known = omega (arith, length-shaded n known)

chosen : (own : Bool) (f : FieldInfo) → declared_type (if own then Some f else None) ≡ (if own then f.ty else types.Unknown)
chosen true f = refl
chosen false f = refl

of_own_kind : (own : Option Kind) (kind : Kind) (f : FieldInfo) → declared_type (if has_kind own kind then Some f else None) ≡ kept own kind f.ty
of_own_kind None kind f = refl
of_own_kind (Some own) kind f = chosen (same_kind own kind) f

declared_kinds : (found : Option FieldInfo) (kind : Kind) → declared_type (of_kind kind found) ≡ under (declared_type found) kind
declared_kinds None kind = refl
declared_kinds (Some f) kind = of_own_kind (kind_of f.ty) kind f

-- the declared field has the type that is known where it is announced
pub declared_types : (d : Declarations) (level : Level) (id : ℤ) (kind : Kind) → declared_type (declared_in d (Some level) id kind) ≡ field_type d (Some level) id kind
declared_types d levels.Unknown id kind = refl
declared_types d (levels.Fields s) id kind = declared_kinds (field_in id (fields_of d.structs s.0)) kind
declared_types d (levels.Elements element) id kind = refl
declared_types d (levels.Keys key value) id kind = refl
declared_types d (levels.Values key value) id kind = refl

-- there are twelve kinds
pub rank_short : (kind : Kind) → rank_of kind < 12
rank_short kinds.Bool = omega arith
rank_short kinds.I8 = omega arith
rank_short kinds.I16 = omega arith
rank_short kinds.I32 = omega arith
rank_short kinds.I64 = omega arith
rank_short kinds.Double = omega arith
rank_short kinds.Str = omega arith
rank_short kinds.Struct = omega arith
rank_short kinds.Map = omega arith
rank_short kinds.Set = omega arith
rank_short kinds.List = omega arith
rank_short kinds.Uuid = omega arith
