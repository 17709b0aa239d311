-- The first breach of a value, by the order in which its pieces stand, and the path that leads to it from the value.
use Rattle.std.specs.Prelude.{ℕ, ℤ, List, [], ◌∷◌, ◌++◌, Option, Some, None}
use Rattle.thrift_value.specs.Trees.{Tree, Members, Trees, Pairs, truth, whole_8, whole_16, whole_32, whole_64, double, characters, loose_number, loose_text, structure, mapping_of_none, mapping, collection, sequence, unique_id, no_members, one_member, no_trees, one_tree, no_pairs, one_pair}
use Rattle.thrift_value.specs.Trees as trees
use Rattle.type_tables.specs.declared.declared.StructId.{StructId}
use Rattle.type_tables.specs.declared.declared.Ty.{Ty}
use Rattle.type_tables.specs.declared.declared.Ty.TheVariants as types
use Rattle.type_tables.specs.Declarations.{Declarations}
use Rattle.type_walk.specs.Positions.{declared_type, type_at}
use Rattle.conform_check.specs.declared.step.Step.{Step}
use Rattle.conform_check.specs.declared.step.Step.TheVariants as steps
use Rattle.conform_check.specs.declared.breach.Breach.{Breach}
use Rattle.conform_check.specs.declared.breach.Breach.TheVariants as breaches
use Rattle.conform_check.specs.Inside.{next_place}
use Rattle.conform_check.specs.Breaches.{Standing, breach_unless, declared_for, field_breach, list_agrees, map_agrees, number_agrees, set_agrees, stood, stop_breach, text_agrees}
use Rattle.conform_check.specs.Checking.{Broken, broken, first_broken, last_steps}

-- a breach one step further down
abbrev pub below : Step → Option Broken → Option Broken
below step None = None
below step (Some b) = Some (broken b.breach (step ∷ b.path))

-- a breach of the value itself
abbrev pub itself : Option Breach → Option Broken
itself None = None
itself (Some breach) = Some (broken breach [])

-- what stands against a struct's end
abbrev pub ending : Standing → Option Broken
ending None = None
ending (Some f) = Some (broken f.breach (last_steps f.last))

abbrev pub key_type : Declarations → Ty → Ty
key_type d (types.Map key value) = type_at d key
key_type d ty = types.Unknown

abbrev pub value_type : Declarations → Ty → Ty
value_type d (types.Map key value) = type_at d value
value_type d ty = types.Unknown

abbrev pub element_type : Declarations → Ty → Ty
element_type d (types.Set element) = type_at d element
element_type d (types.List element) = type_at d element
element_type d ty = types.Unknown

abbrev pub struct_of : Ty → Option StructId
struct_of (types.Struct s) = Some s
struct_of ty = None

abbrev mutual
  -- of a value whose kind is the type's
  pub breach_of : Declarations → Ty → Tree → Option Broken
  breach_of d ty (truth b) = None
  breach_of d ty (whole_8 n) = None
  breach_of d ty (whole_16 n) = None
  breach_of d ty (whole_32 n) = itself (breach_unless (number_agrees d ty n) breaches.NotMember)
  breach_of d ty (whole_64 n) = None
  breach_of d ty (double bytes) = None
  breach_of d ty (characters bytes) = itself (breach_unless (text_agrees ty bytes) breaches.NotText)
  breach_of d ty (loose_number bytes) = None
  breach_of d ty (loose_text bytes) = itself (breach_unless (text_agrees ty bytes) breaches.NotText)
  breach_of d ty (structure ms) = breach_of_fields d (struct_of ty) [] ms
  breach_of d ty mapping_of_none = None
  breach_of d ty (mapping key value ps) = first_broken (itself (breach_unless (map_agrees d ty key value) breaches.WrongKind)) (breach_of_pairs d (key_type d ty) (value_type d ty) 0 ps)
  breach_of d ty (collection kind ts) = first_broken (itself (breach_unless (set_agrees d ty kind) breaches.WrongKind)) (breach_of_all d (element_type d ty) 0 ts)
  breach_of d ty (sequence kind ts) = first_broken (itself (breach_unless (list_agrees d ty kind) breaches.WrongKind)) (breach_of_all d (element_type d ty) 0 ts)
  breach_of d ty (unique_id bytes) = None

  -- of the fields of a struct behind these ids: at a field its id, its value's kind, whether its id stood before, and then what is inside
  pub breach_of_fields : Declarations → Option StructId → List ℤ → Members → Option Broken
  breach_of_fields d s seen no_members = ending (stop_breach d s seen)
  breach_of_fields d s seen (one_member id t ms) =
      first_broken (below (steps.Field id) (itself (field_breach (declared_for d s id) (trees.kind_of t) (stood id seen))))
      (first_broken (below (steps.Field id) (breach_of d (declared_type (declared_for d s id)) t)) (breach_of_fields d s (seen ++ id ∷ []) ms))

  -- of elements from this place on
  pub breach_of_all : Declarations → Ty → ℕ → Trees → Option Broken
  breach_of_all d ty n no_trees = None
  breach_of_all d ty n (one_tree t ts) = first_broken (below (steps.Item n) (breach_of d ty t)) (breach_of_all d ty (next_place n) ts)

  -- of pairs from this place on
  pub breach_of_pairs : Declarations → Ty → Ty → ℕ → Pairs → Option Broken
  breach_of_pairs d key value n no_pairs = None
  breach_of_pairs d key value n (one_pair k v ps) =
      first_broken (below (steps.Key n) (breach_of d key k)) (first_broken (below (steps.Part n) (breach_of d value v)) (breach_of_pairs d key value (next_place n) ps))

-- of a body of this struct; one that isn't declared breaks at once
abbrev pub breach_of_body : Declarations → Option StructId → Members → Option Broken
breach_of_body d None ms = Some (broken breaches.UnknownMethod [])
breach_of_body d (Some s) ms = breach_of_fields d (Some s) [] ms
