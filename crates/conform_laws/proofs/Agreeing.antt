-- Kinds, tests and small pieces.
use Rattle.std.proofs.Common.{◌≡◌, ℕ, ℤ, zero, suc, List, [], ◌∷◌, Bool, true, false, ◌&&◌, Option, Some, None, refl, sym, ap, ◌∙◌, arith}
use Rattle.std.proofs.lemmas.Bool.Decides.{nat_tests}
use Rattle.std.specs.Prelude.{Contains, not}
use Rattle.std.specs.List.{list_any}
use Rattle.std.specs.Ordering.{int_eq}
use Rattle.std.proofs.lemmas.Str.{IsUtf8-from_is_utf8, is_utf8-from_IsUtf8}
use Rattle.std.proofs.lemmas.Cmp.{int_eq_equiv}
use Rattle.std.proofs.lemmas.Bool.Decides.{Decides-int_eq}
use Rattle.std.proofs.lemmas.Map.Views.{list_any-from_Contains, Contains-from_any}
use Rattle.thrift_value.specs.declared.kind.Kind.{Kind}
use Rattle.thrift_value.specs.declared.kind.Kind.TheVariants as kinds
use Rattle.thrift_value.specs.Kinds.{rank_of, same_kind}
use Rattle.type_tables.specs.declared.declared.FieldInfo.{FieldInfo}
use Rattle.type_tables.specs.declared.declared.StructId.{StructId}
use Rattle.type_tables.specs.declared.declared.TyId.{TyId}
use Rattle.type_tables.specs.declared.declared.Ty.{Ty}
use Rattle.type_tables.specs.declared.declared.Ty.TheVariants as types
use Rattle.type_tables.specs.Declarations.{Declarations}
use Rattle.type_tables.specs.Kinds.{kind_of}
use Rattle.type_tables.specs.Structs.{members_of}
use Rattle.type_walk.specs.Positions.{has_kind, type_at}
use Rattle.conform_check.specs.declared.breach.Breach.{Breach}
use Rattle.conform_check.specs.declared.breach.Breach.TheVariants as breaches
use Rattle.conform_check.specs.Breaches.{breach_unless, field_breach, list_agrees, map_agrees, number_agrees, set_agrees, stood, text_agrees}
use Rattle.conform_laws.specs.Meeting.{HasKind, IsMember, IsText}

-- ---- kinds

abbrev nth : Kind → List Kind → ℕ → Kind
nth other [] n = other
nth other (k ∷ ks) zero = k
nth other (k ∷ ks) (suc n) = nth other ks n

abbrev kind_at : ℕ → Kind
kind_at = nth kinds.Uuid (kinds.Bool ∷ kinds.I8 ∷ kinds.I16 ∷ kinds.I32 ∷ kinds.I64 ∷ kinds.Double ∷ kinds.Str ∷ kinds.Struct ∷ kinds.Map ∷ kinds.Set ∷ kinds.List ∷ [])

ranked : (k : Kind) → kind_at (rank_of k) ≡ k
ranked kinds.Bool = refl
ranked kinds.I8 = refl
ranked kinds.I16 = refl
ranked kinds.I32 = refl
ranked kinds.I64 = refl
ranked kinds.Double = refl
ranked kinds.Str = refl
ranked kinds.Struct = refl
ranked kinds.Map = refl
ranked kinds.Set = refl
ranked kinds.List = refl
ranked kinds.Uuid = refl

kinds_same : (a b : Kind) → same_kind a b ≡ true → a ≡ b
kinds_same a b same =
    let ranks : rank_of a ≡ rank_of b = grind (arith, nat_tests) in
    sym (ranked a) ∙ ap kind_at ranks ∙ ranked b

kind_itself : (k : Kind) → same_kind k k ≡ true
kind_itself kinds.Bool = refl
kind_itself kinds.I8 = refl
kind_itself kinds.I16 = refl
kind_itself kinds.I32 = refl
kind_itself kinds.I64 = refl
kind_itself kinds.Double = refl
kind_itself kinds.Str = refl
kind_itself kinds.Struct = refl
kind_itself kinds.Map = refl
kind_itself kinds.Set = refl
kind_itself kinds.List = refl
kind_itself kinds.Uuid = refl

own_has : (own : Option Kind) (kind : Kind) → has_kind own kind ≡ true → own ≡ Some kind
own_has None kind e = absurd (cc)
own_has (Some own) kind e = ap Some (kinds_same own kind e)

pub has_is : (ty : Ty) (kind : Kind) → has_kind (kind_of ty) kind ≡ true → HasKind ty kind
has_is ty kind e = own_has (kind_of ty) kind e

pub is_has : (ty : Ty) (kind : Kind) → HasKind ty kind → has_kind (kind_of ty) kind ≡ true
is_has ty kind e = ap (λ own. has_kind own kind) e ∙ kind_itself kind

pub same_kinds : (ty : Ty) (a b : Kind) → HasKind ty a → HasKind ty b → a ≡ b
same_kinds ty a b x y = cc

-- ---- shapes

pub is_struct : (ty : Ty) → HasKind ty kinds.Struct → (s : StructId) × (ty ≡ types.Struct s)
is_struct types.Unknown e = absurd (cc)
is_struct types.Bool e = absurd (cc)
is_struct types.I8 e = absurd (cc)
is_struct types.I16 e = absurd (cc)
is_struct types.I32 e = absurd (cc)
is_struct types.I64 e = absurd (cc)
is_struct types.Double e = absurd (cc)
is_struct types.Text e = absurd (cc)
is_struct types.Blob e = absurd (cc)
is_struct (types.Enum n) e = absurd (cc)
is_struct (types.Struct s) e = (s, refl)
is_struct (types.Map key value) e = absurd (cc)
is_struct (types.Set element) e = absurd (cc)
is_struct (types.List element) e = absurd (cc)
is_struct types.Uuid e = absurd (cc)

both : (a b : Bool) → (a && b) ≡ true → (a ≡ true) × (b ≡ true)
both true b h = (refl, h)
both false b h = absurd (cc)

and_true : (a b : Bool) → a ≡ true → b ≡ true → (a && b) ≡ true
and_true a b x y = rw (x, y) refl

pub is_map : (d : Declarations) (ty : Ty) (k v : Kind) → map_agrees d ty k v ≡ true
    → (key : TyId) × (value : TyId) × (ty ≡ types.Map key value) × HasKind (type_at d key) k × HasKind (type_at d value) v
is_map d types.Unknown k v e = absurd (cc)
is_map d types.Bool k v e = absurd (cc)
is_map d types.I8 k v e = absurd (cc)
is_map d types.I16 k v e = absurd (cc)
is_map d types.I32 k v e = absurd (cc)
is_map d types.I64 k v e = absurd (cc)
is_map d types.Double k v e = absurd (cc)
is_map d types.Text k v e = absurd (cc)
is_map d types.Blob k v e = absurd (cc)
is_map d (types.Enum n) k v e = absurd (cc)
is_map d (types.Struct s) k v e = absurd (cc)
is_map d (types.Map key value) k v e =
    let two = both _ _ e in
    (key, value, refl, has_is (type_at d key) k two.0, has_is (type_at d value) v two.1)
is_map d (types.Set element) k v e = absurd (cc)
is_map d (types.List element) k v e = absurd (cc)
is_map d types.Uuid k v e = absurd (cc)

pub map_is : (d : Declarations) (key value : TyId) (k v : Kind) → HasKind (type_at d key) k → HasKind (type_at d value) v → map_agrees d (types.Map key value) k v ≡ true
map_is d key value k v a b = and_true _ _ (is_has (type_at d key) k a) (is_has (type_at d value) v b)

pub is_set : (d : Declarations) (ty : Ty) (k : Kind) → set_agrees d ty k ≡ true → (element : TyId) × (ty ≡ types.Set element) × HasKind (type_at d element) k
is_set d types.Unknown k e = absurd (cc)
is_set d types.Bool k e = absurd (cc)
is_set d types.I8 k e = absurd (cc)
is_set d types.I16 k e = absurd (cc)
is_set d types.I32 k e = absurd (cc)
is_set d types.I64 k e = absurd (cc)
is_set d types.Double k e = absurd (cc)
is_set d types.Text k e = absurd (cc)
is_set d types.Blob k e = absurd (cc)
is_set d (types.Enum n) k e = absurd (cc)
is_set d (types.Struct s) k e = absurd (cc)
is_set d (types.Map key value) k e = absurd (cc)
is_set d (types.Set element) k e = (element, refl, has_is (type_at d element) k e)
is_set d (types.List element) k e = absurd (cc)
is_set d types.Uuid k e = absurd (cc)

pub is_list : (d : Declarations) (ty : Ty) (k : Kind) → list_agrees d ty k ≡ true → (element : TyId) × (ty ≡ types.List element) × HasKind (type_at d element) k
is_list d types.Unknown k e = absurd (cc)
is_list d types.Bool k e = absurd (cc)
is_list d types.I8 k e = absurd (cc)
is_list d types.I16 k e = absurd (cc)
is_list d types.I32 k e = absurd (cc)
is_list d types.I64 k e = absurd (cc)
is_list d types.Double k e = absurd (cc)
is_list d types.Text k e = absurd (cc)
is_list d types.Blob k e = absurd (cc)
is_list d (types.Enum n) k e = absurd (cc)
is_list d (types.Struct s) k e = absurd (cc)
is_list d (types.Map key value) k e = absurd (cc)
is_list d (types.Set element) k e = absurd (cc)
is_list d (types.List element) k e = (element, refl, has_is (type_at d element) k e)
is_list d types.Uuid k e = absurd (cc)

-- ---- leaves

int_same : (x y : ℤ) → int_eq x y ≡ true → x ≡ y
int_same x y e = grind (arith, Decides-int_eq, e)

-- an id stood among these where it is one of them
pub stood_is : (id : ℤ) (ids : List ℤ) → stood id ids ≡ true → Contains ids id
stood_is id ids e = Contains-from_any int_same id ids (sym (turned id ids) ∙ e)
  where
    turned : (id : ℤ) (ids : List ℤ) → list_any (λ other. int_eq other id) ids ≡ list_any (int_eq id) ids
    turned id [] = refl
    turned id (x ∷ xs) = rw (int_eq_equiv.symm x id, turned id xs) refl

pub is_stood : (id : ℤ) (ids : List ℤ) → Contains ids id → stood id ids ≡ true
is_stood id ids has = turned id ids ∙ list_any-from_Contains int_eq_equiv id ids has
  where
    turned : (id : ℤ) (ids : List ℤ) → list_any (λ other. int_eq other id) ids ≡ list_any (int_eq id) ids
    turned id [] = refl
    turned id (x ∷ xs) = rw (int_eq_equiv.symm x id, turned id xs) refl

pub member_is : (d : Declarations) (ty : Ty) (n : ℤ) → number_agrees d ty n ≡ true → IsMember d ty n
member_is d types.Unknown n e = tt
member_is d types.Bool n e = tt
member_is d types.I8 n e = tt
member_is d types.I16 n e = tt
member_is d types.I32 n e = tt
member_is d types.I64 n e = tt
member_is d types.Double n e = tt
member_is d types.Text n e = tt
member_is d types.Blob n e = tt
member_is d (types.Enum m) n e = stood_is n (members_of d.enums m.0) e
member_is d (types.Struct s) n e = tt
member_is d (types.Map key value) n e = tt
member_is d (types.Set element) n e = tt
member_is d (types.List element) n e = tt
member_is d types.Uuid n e = tt

pub is_member : (d : Declarations) (ty : Ty) (n : ℤ) → IsMember d ty n → number_agrees d ty n ≡ true
is_member d types.Unknown n e = refl
is_member d types.Bool n e = refl
is_member d types.I8 n e = refl
is_member d types.I16 n e = refl
is_member d types.I32 n e = refl
is_member d types.I64 n e = refl
is_member d types.Double n e = refl
is_member d types.Text n e = refl
is_member d types.Blob n e = refl
is_member d (types.Enum m) n e = is_stood n (members_of d.enums m.0) e
is_member d (types.Struct s) n e = refl
is_member d (types.Map key value) n e = refl
is_member d (types.Set element) n e = refl
is_member d (types.List element) n e = refl
is_member d types.Uuid n e = refl

pub text_is : (ty : Ty) (bytes : List ℕ) → text_agrees ty bytes ≡ true → IsText ty bytes
text_is types.Unknown bytes e = tt
text_is types.Bool bytes e = tt
text_is types.I8 bytes e = tt
text_is types.I16 bytes e = tt
text_is types.I32 bytes e = tt
text_is types.I64 bytes e = tt
text_is types.Double bytes e = tt
text_is types.Text bytes e = IsUtf8-from_is_utf8 bytes e
text_is types.Blob bytes e = tt
text_is (types.Enum m) bytes e = tt
text_is (types.Struct s) bytes e = tt
text_is (types.Map key value) bytes e = tt
text_is (types.Set element) bytes e = tt
text_is (types.List element) bytes e = tt
text_is types.Uuid bytes e = tt

pub is_text : (ty : Ty) (bytes : List ℕ) → IsText ty bytes → text_agrees ty bytes ≡ true
is_text types.Unknown bytes e = refl
is_text types.Bool bytes e = refl
is_text types.I8 bytes e = refl
is_text types.I16 bytes e = refl
is_text types.I32 bytes e = refl
is_text types.I64 bytes e = refl
is_text types.Double bytes e = refl
is_text types.Text bytes e = is_utf8-from_IsUtf8 bytes e
is_text types.Blob bytes e = refl
is_text (types.Enum m) bytes e = refl
is_text (types.Struct s) bytes e = refl
is_text (types.Map key value) bytes e = refl
is_text (types.Set element) bytes e = refl
is_text (types.List element) bytes e = refl
is_text types.Uuid bytes e = refl

-- ---- a field

unless_true : (b : Bool) (breach : Breach) → breach_unless b breach ≡ None → b ≡ true
unless_true true breach e = refl
unless_true false breach e = absurd (cc)

-- nothing stands against a field: it is declared, has the kind, and stands for the first time
pub field_good : (f : Option FieldInfo) (kind : Kind) (before : Bool) → field_breach f kind before ≡ None
    → (g : FieldInfo) × (f ≡ Some g) × HasKind g.ty kind × (before ≡ false)
field_good None kind before e = absurd (cc)
field_good (Some g) kind before e = by (has_kind (kind_of g.ty) kind) refl
  where
    new : (b : Bool) → breach_unless (not b) breaches.Repeated ≡ None → b ≡ false
    new true n = absurd (cc)
    new false n = refl

    by : (b : Bool) → has_kind (kind_of g.ty) kind ≡ b → (h : FieldInfo) × (Some g ≡ Some h) × HasKind h.ty kind × (before ≡ false)
    by true is = (g, refl, has_is g.ty kind is, new before (rw is at e))
    by false is = absurd (cc (rw is at e))

pub good_field : (g : FieldInfo) (kind : Kind) → HasKind g.ty kind → field_breach (Some g) kind false ≡ None
good_field g kind has = rw (is_has g.ty kind has) refl
