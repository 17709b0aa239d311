-- When two kinds are the same, as a test: by their places in the list of kinds.
use Rattle.std.specs.Prelude.{ℕ, Bool, nat_eq}
use Rattle.thrift_value.specs.declared.kind.Kind.{Kind}
use Rattle.thrift_value.specs.declared.kind.Kind.TheVariants as kinds

abbrev pub rank_of : Kind → ℕ
rank_of kinds.Bool = 0
rank_of kinds.I8 = 1
rank_of kinds.I16 = 2
rank_of kinds.I32 = 3
rank_of kinds.I64 = 4
rank_of kinds.Double = 5
rank_of kinds.Str = 6
rank_of kinds.Struct = 7
rank_of kinds.Map = 8
rank_of kinds.Set = 9
rank_of kinds.List = 10
rank_of kinds.Uuid = 11

abbrev pub same_kind : Kind → Kind → Bool
same_kind a b = nat_eq (rank_of a) (rank_of b)
