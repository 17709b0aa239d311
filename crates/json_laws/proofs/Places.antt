-- Positions follow the tree: what is declared of a part of a value is what the walk from item to item finds there.
use Rattle.std.proofs.Common.{◌≡◌, ℕ, zero, suc, ℤ, Bool, true, false, List, [], ◌∷◌, Option, Some, None, refl, ap, ◌∙◌, sym, arith, ◌⊎◌, inl, inr}
use Rattle.std.proofs.lemmas.Bool.Decides.{nat_tests}
use Rattle.std.specs.Prelude.{if◌then◌else◌}
use Rattle.thrift_value.specs.declared.kind.Kind.{Kind}
use Rattle.thrift_value.specs.declared.kind.Kind.TheVariants as kinds
use Rattle.thrift_value.specs.Kinds.{rank_of, same_kind}
use Rattle.type_tables.specs.declared.declared.StructId.{StructId}
use Rattle.type_tables.specs.declared.declared.Ty.{Ty}
use Rattle.type_tables.specs.declared.declared.Ty.TheVariants as types
use Rattle.type_tables.specs.Declarations.{Declarations}
use Rattle.type_tables.specs.Kinds as own
use Rattle.type_walk.specs.declared.levels.Level.{Level}
use Rattle.type_walk.specs.declared.levels.Level.TheVariants as levels
use Rattle.type_walk.specs.Positions.{Position, kept, under, type_at, field_type, in_struct, in_map, in_set, in_list, called_for, passed, standing, start}
use Rattle.json_laws.specs.Positions.{field_of, element_of, key_of, value_of, body_of}

-- ---- kinds that are the same

abbrev nth : Kind → List Kind → ℕ → Kind
nth other [] n = other
nth other (k ∷ ks) zero = k
nth other (k ∷ ks) (suc n) = nth other ks n

abbrev ranked_kind : ℕ → Kind
ranked_kind = nth kinds.Uuid (kinds.Bool ∷ kinds.I8 ∷ kinds.I16 ∷ kinds.I32 ∷ kinds.I64 ∷ kinds.Double ∷ kinds.Str ∷ kinds.Struct ∷ kinds.Map ∷ kinds.Set ∷ kinds.List ∷ [])

ranked : (k : Kind) → ranked_kind (rank_of k) ≡ k
ranked kinds.Bool = refl
ranked kinds.I8 = refl
ranked kinds.I16 = refl
ranked kinds.I32 = refl
ranked kinds.I64 = refl
ranked kinds.Double = refl
ranked kinds.Str = refl
ranked kinds.Struct = refl
ranked kinds.Map = refl
ranked kinds.Set = refl
ranked kinds.List = refl
ranked kinds.Uuid = refl

kinds_same : (a b : Kind) → same_kind a b ≡ true → a ≡ b
kinds_same a b same =
    let ranks : rank_of a ≡ rank_of b = grind (arith, nat_tests) in
    sym (ranked a) ∙ ap ranked_kind ranks ∙ ranked b

-- ---- a position's type is that of the value that stands there, or none

abbrev pub IsOf : Ty → Kind → Type 0
IsOf ty kind = (own.kind_of ty ≡ None) ⊎ (own.kind_of ty ≡ Some kind)

chosen : (b : Bool) (ty : Ty) (kind : Kind) → (b ≡ true → own.kind_of ty ≡ Some kind) → IsOf (if b then ty else types.Unknown) kind
chosen true ty kind h = inr (h refl)
chosen false ty kind h = inl refl

kept_of : (found : Option Kind) (kind : Kind) (ty : Ty) → own.kind_of ty ≡ found → IsOf (kept found kind ty) kind
kept_of None kind ty e = inl refl
kept_of (Some k) kind ty e = chosen (same_kind k kind) ty kind (λ t. e ∙ ap Some (kinds_same k kind t))

pub under_of : (ty : Ty) (kind : Kind) → IsOf (under ty kind) kind
under_of ty kind = kept_of (own.kind_of ty) kind ty refl

pub body_is : (body : Option StructId) → IsOf (body_of body) kinds.Struct
body_is None = inl refl
body_is (Some s) = inr refl

some_same : (k l : Kind) → Some k ≡ Some l → k ≡ l
some_same k l e = cc

-- a type of another kind
no_kind : (ty : Ty) (k l : Kind) → own.kind_of ty ≡ Some k → (k ≡ l → ⊥) → IsOf ty l → ⊥
no_kind ty k l e differs (inl none) = let wrong : None ≡ Some k = sym none ∙ e in absurd (cc)
no_kind ty k l e differs (inr is) = differs (some_same k l (sym e ∙ is))

-- ---- the levels inside a value

-- no key is awaited: a value that has been read leaves the level as it is
abbrev pub IsSteady : Level → Type 0
IsSteady level = (up : List Level) → passed (level ∷ up) ≡ level ∷ up

pub struct_steady : (ty : Ty) → IsSteady (in_struct ty)
struct_steady (types.Struct s) up = refl
struct_steady types.Unknown up = refl
struct_steady types.Bool up = refl
struct_steady types.I8 up = refl
struct_steady types.I16 up = refl
struct_steady types.I32 up = refl
struct_steady types.I64 up = refl
struct_steady types.Double up = refl
struct_steady types.Text up = refl
struct_steady types.Blob up = refl
struct_steady (types.Enum e) up = refl
struct_steady (types.Map k v) up = refl
struct_steady (types.Set e) up = refl
struct_steady (types.List e) up = refl
struct_steady types.Uuid up = refl

pub field_place : (d : Declarations) (ty : Ty) (id : ℤ) (kind : Kind) → field_type d (Some (in_struct ty)) id kind ≡ under (field_of d ty id) kind
field_place d (types.Struct s) id kind = refl
field_place d types.Unknown id kind = refl
field_place d types.Bool id kind = refl
field_place d types.I8 id kind = refl
field_place d types.I16 id kind = refl
field_place d types.I32 id kind = refl
field_place d types.I64 id kind = refl
field_place d types.Double id kind = refl
field_place d types.Text id kind = refl
field_place d types.Blob id kind = refl
field_place d (types.Enum e) id kind = refl
field_place d (types.Map k v) id kind = refl
field_place d (types.Set e) id kind = refl
field_place d (types.List e) id kind = refl
field_place d types.Uuid id kind = refl

-- the level of a list or a set, in which the elements have this type
pub record Holds (level : Level) (ty : Ty) : Type 0 where
  pub steady : IsSteady level
  pub calls : called_for (Some level) ≡ ty

pub list_holds : (d : Declarations) (ty : Ty) (kind : Kind) → IsOf ty kinds.List → Holds (in_list d ty kind) (under (element_of d ty) kind)
list_holds d (types.List e) kind h = record { steady = λ up. refl; calls = refl }
list_holds d (types.Set e) kind h = absurd (no_kind (types.Set e) kinds.Set kinds.List refl (λ same. absurd (cc)) h)
list_holds d types.Unknown kind h = record { steady = λ up. refl; calls = refl }
list_holds d types.Bool kind h = record { steady = λ up. refl; calls = refl }
list_holds d types.I8 kind h = record { steady = λ up. refl; calls = refl }
list_holds d types.I16 kind h = record { steady = λ up. refl; calls = refl }
list_holds d types.I32 kind h = record { steady = λ up. refl; calls = refl }
list_holds d types.I64 kind h = record { steady = λ up. refl; calls = refl }
list_holds d types.Double kind h = record { steady = λ up. refl; calls = refl }
list_holds d types.Text kind h = record { steady = λ up. refl; calls = refl }
list_holds d types.Blob kind h = record { steady = λ up. refl; calls = refl }
list_holds d (types.Enum e) kind h = record { steady = λ up. refl; calls = refl }
list_holds d (types.Struct s) kind h = record { steady = λ up. refl; calls = refl }
list_holds d (types.Map k v) kind h = record { steady = λ up. refl; calls = refl }
list_holds d types.Uuid kind h = record { steady = λ up. refl; calls = refl }

pub set_holds : (d : Declarations) (ty : Ty) (kind : Kind) → IsOf ty kinds.Set → Holds (in_set d ty kind) (under (element_of d ty) kind)
set_holds d (types.Set e) kind h = record { steady = λ up. refl; calls = refl }
set_holds d (types.List e) kind h = absurd (no_kind (types.List e) kinds.List kinds.Set refl (λ same. absurd (cc)) h)
set_holds d types.Unknown kind h = record { steady = λ up. refl; calls = refl }
set_holds d types.Bool kind h = record { steady = λ up. refl; calls = refl }
set_holds d types.I8 kind h = record { steady = λ up. refl; calls = refl }
set_holds d types.I16 kind h = record { steady = λ up. refl; calls = refl }
set_holds d types.I32 kind h = record { steady = λ up. refl; calls = refl }
set_holds d types.I64 kind h = record { steady = λ up. refl; calls = refl }
set_holds d types.Double kind h = record { steady = λ up. refl; calls = refl }
set_holds d types.Text kind h = record { steady = λ up. refl; calls = refl }
set_holds d types.Blob kind h = record { steady = λ up. refl; calls = refl }
set_holds d (types.Enum e) kind h = record { steady = λ up. refl; calls = refl }
set_holds d (types.Struct s) kind h = record { steady = λ up. refl; calls = refl }
set_holds d (types.Map k v) kind h = record { steady = λ up. refl; calls = refl }
set_holds d types.Uuid kind h = record { steady = λ up. refl; calls = refl }

-- the two levels of a map, before a key and before a value
pub record HoldsPairs (keys values : Level) (key value : Ty) : Type 0 where
  pub key_calls : called_for (Some keys) ≡ key
  pub value_calls : called_for (Some values) ≡ value
  pub key_passed : (up : List Level) → passed (keys ∷ up) ≡ values ∷ up
  pub value_passed : (up : List Level) → passed (values ∷ up) ≡ keys ∷ up

unknown_pairs : HoldsPairs levels.Unknown levels.Unknown types.Unknown types.Unknown
unknown_pairs = record { key_calls = refl; value_calls = refl; key_passed = λ up. refl; value_passed = λ up. refl }

abbrev pub MapHolds : Declarations → Ty → Kind → Kind → Type 0
MapHolds d ty k v = (values : Level) × HoldsPairs (in_map d ty k v) values (under (key_of d ty) k) (under (value_of d ty) v)

pub map_holds : (d : Declarations) (ty : Ty) (k v : Kind) → MapHolds d ty k v
map_holds d (types.Map key value) k v =
    (levels.Values (under (type_at d key) k) (under (type_at d value) v), record { key_calls = refl; value_calls = refl; key_passed = λ up. refl; value_passed = λ up. refl })
map_holds d types.Unknown k v = (levels.Unknown, unknown_pairs)
map_holds d types.Bool k v = (levels.Unknown, unknown_pairs)
map_holds d types.I8 k v = (levels.Unknown, unknown_pairs)
map_holds d types.I16 k v = (levels.Unknown, unknown_pairs)
map_holds d types.I32 k v = (levels.Unknown, unknown_pairs)
map_holds d types.I64 k v = (levels.Unknown, unknown_pairs)
map_holds d types.Double k v = (levels.Unknown, unknown_pairs)
map_holds d types.Text k v = (levels.Unknown, unknown_pairs)
map_holds d types.Blob k v = (levels.Unknown, unknown_pairs)
map_holds d (types.Enum e) k v = (levels.Unknown, unknown_pairs)
map_holds d (types.Struct s) k v = (levels.Unknown, unknown_pairs)
map_holds d (types.Set e) k v = (levels.Unknown, unknown_pairs)
map_holds d (types.List e) k v = (levels.Unknown, unknown_pairs)
map_holds d types.Uuid k v = (levels.Unknown, unknown_pairs)

-- ---- positions

-- where a value of this type stands, inside these levels
abbrev pub at_type : Declarations → List Level → Ty → Position
at_type d levels ty = record { schema = d; levels = levels; next = ty }

pub at_level : (d : Declarations) (level : Level) (up : List Level) (ty : Ty) → called_for (Some level) ≡ ty → standing d (level ∷ up) ≡ at_type d (level ∷ up) ty
at_level d level up ty e = ap (at_type d (level ∷ up)) e

pub start_is : (d : Declarations) (body : Option StructId) → start d body ≡ standing d (in_struct (body_of body) ∷ [])
start_is d None = refl
start_is d (Some s) = refl
