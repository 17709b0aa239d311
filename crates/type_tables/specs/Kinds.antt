-- The kinds that types travel as.
use Rattle.std.specs.Prelude.{Option, Some, None}
use Rattle.thrift_value.specs.declared.kind.Kind.{Kind}
use Rattle.thrift_value.specs.declared.kind.Kind.TheVariants as kinds
use Rattle.type_tables.specs.declared.declared.Ty.{Ty}
use Rattle.type_tables.specs.declared.declared.Ty.TheVariants as types

abbrev pub kind_of : Ty → Option Kind
kind_of types.Unknown = None
kind_of types.Bool = Some kinds.Bool
kind_of types.I8 = Some kinds.I8
kind_of types.I16 = Some kinds.I16
kind_of types.I32 = Some kinds.I32
kind_of types.I64 = Some kinds.I64
kind_of types.Double = Some kinds.Double
kind_of types.Text = Some kinds.Str
kind_of types.Blob = Some kinds.Str
kind_of (types.Enum e) = Some kinds.I32
kind_of (types.Struct s) = Some kinds.Struct
kind_of (types.Map key value) = Some kinds.Map
kind_of (types.Set element) = Some kinds.Set
kind_of (types.List element) = Some kinds.List
kind_of types.Uuid = Some kinds.Uuid
