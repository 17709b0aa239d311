-- Some number of levels is enough.
use Rattle.std.proofs.Common.{◌≡◌, ◌∙◌, ap, refl, ℕ, zero, suc, ◌+◌, ◌≤◌, List, [], ◌∷◌, Option, Some, None, arith}
use Rattle.idl_document.specs.Item.{ValueItem, whole, double, literal, named, list_begin, list_end, map_begin, map_end}
use Rattle.idl_document.specs.Trees.{DefinitionTree, const_of, typedef_of, enum_of, struct_of, service_of, DocumentTree, FieldTree, FunctionTree, TypeTree, base_at, named_at, map_at, set_at, list_at}
use Rattle.grammar_laws.specs.Depth.{definition_deep, definitions_deep, document_deep, field_deep, fields_deep, first_of, function_deep, functions_deep, items_deep, preset_deep, returns_deep, type_deep}

-- so many levels, or more, are enough
abbrev Enough : (ℕ → Option ℕ) → Type 0
Enough deep = (n : ℕ) × ((k : ℕ) → n ≤ k → deep k ≡ None)

always : (deep : ℕ → Option ℕ) → ((k : ℕ) → deep k ≡ None) → Enough deep
always deep e = (0, λ k h. e k)

none_first : (o u : Option ℕ) → o ≡ None → u ≡ None → first_of o u ≡ None
none_first o u e f = ap (λ (x : Option ℕ). first_of x u) e ∙ f

both : (f g : ℕ → Option ℕ) → Enough f → Enough g → Enough (λ k. first_of (f k) (g k))
both f g a b = (a.0 + b.0, λ k h. none_first (f k) (g k) (a.1 k (omega (arith, h))) (b.1 k (omega (arith, h))))

-- one level more
above : (n k : ℕ) → suc n ≤ k → (j : ℕ) × (k ≡ suc j) × (n ≤ j)
above n zero h = absurd (omega arith)
above n (suc j) h = (j, refl, omega arith)

deeper : (f g : ℕ → Option ℕ) → ((k : ℕ) → f (suc k) ≡ g k) → Enough g → Enough f
deeper f g same a = (suc a.0, λ k h. let up = above a.0 k h in ap f up.1 ∙ same up.0 ∙ a.1 up.0 up.2)

type_enough : (ty : TypeTree) → Enough (λ k. type_deep k ty)
type_enough (base_at at word) = always (λ k. type_deep k (base_at at word)) (λ k. refl)
type_enough (named_at at word) = always (λ k. type_deep k (named_at at word)) (λ k. refl)
type_enough (map_at at key value) = deeper (λ k. type_deep k (map_at at key value)) (λ k. first_of (type_deep k key) (type_deep k value)) (λ k. refl)
    (both (λ k. type_deep k key) (λ k. type_deep k value) (type_enough key) (type_enough value))
type_enough (set_at at element) = deeper (λ k. type_deep k (set_at at element)) (λ k. type_deep k element) (λ k. refl) (type_enough element)
type_enough (list_at at element) = deeper (λ k. type_deep k (list_at at element)) (λ k. type_deep k element) (λ k. refl) (type_enough element)

-- with one level more, those that are enough are so with one less
shallower : (f : ℕ → Option ℕ) → Enough f → Enough (λ k. f (suc k))
shallower f a = (a.0, λ k h. a.1 (suc k) (omega (arith, h)))

items_enough : (items : List ValueItem) → Enough (λ k. items_deep k items)
items_enough [] = always (λ k. items_deep k []) (λ k. refl)
items_enough (whole at z ∷ items) = items_enough items
items_enough (double at text ∷ items) = items_enough items
items_enough (literal at text ∷ items) = items_enough items
items_enough (named at text ∷ items) = items_enough items
items_enough (list_begin at ∷ items) = deeper (λ k. items_deep k (list_begin at ∷ items)) (λ k. items_deep k items) (λ k. refl) (items_enough items)
items_enough (list_end ∷ items) = shallower (λ k. items_deep k items) (items_enough items)
items_enough (map_begin at ∷ items) = deeper (λ k. items_deep k (map_begin at ∷ items)) (λ k. items_deep k items) (λ k. refl) (items_enough items)
items_enough (map_end ∷ items) = shallower (λ k. items_deep k items) (items_enough items)

preset_enough : (o : Option (List ValueItem)) → Enough (λ k. preset_deep k o)
preset_enough None = always (λ k. preset_deep k None) (λ k. refl)
preset_enough (Some items) = items_enough items

field_enough : (f : FieldTree) → Enough (λ k. field_deep k f)
field_enough f = both (λ k. type_deep k f.ty) (λ k. preset_deep k f.preset) (type_enough f.ty) (preset_enough f.preset)

fields_enough : (fs : List FieldTree) → Enough (λ k. fields_deep k fs)
fields_enough [] = always (λ k. fields_deep k []) (λ k. refl)
fields_enough (f ∷ fs) = both (λ k. field_deep k f) (λ k. fields_deep k fs) (field_enough f) (fields_enough fs)

returns_enough : (o : Option TypeTree) → Enough (λ k. returns_deep k o)
returns_enough None = always (λ k. returns_deep k None) (λ k. refl)
returns_enough (Some ty) = type_enough ty

function_enough : (f : FunctionTree) → Enough (λ k. function_deep k f)
function_enough f =
    both (λ k. returns_deep k f.returns) (λ k. first_of (fields_deep k f.args) (fields_deep k f.throws)) (returns_enough f.returns)
    (both (λ k. fields_deep k f.args) (λ k. fields_deep k f.throws) (fields_enough f.args) (fields_enough f.throws))

functions_enough : (fs : List FunctionTree) → Enough (λ k. functions_deep k fs)
functions_enough [] = always (λ k. functions_deep k []) (λ k. refl)
functions_enough (f ∷ fs) = both (λ k. function_deep k f) (λ k. functions_deep k fs) (function_enough f) (functions_enough fs)

definition_enough : (d : DefinitionTree) → Enough (λ k. definition_deep k d)
definition_enough (const_of name ty value) = both (λ k. type_deep k ty) (λ k. items_deep k value) (type_enough ty) (items_enough value)
definition_enough (typedef_of name ty) = type_enough ty
definition_enough (enum_of name members) = always (λ k. definition_deep k (enum_of name members)) (λ k. refl)
definition_enough (struct_of kin name fields) = fields_enough fields
definition_enough (service_of name base functions) = functions_enough functions

definitions_enough : (ds : List DefinitionTree) → Enough (λ k. definitions_deep k ds)
definitions_enough [] = always (λ k. definitions_deep k []) (λ k. refl)
definitions_enough (d ∷ ds) = both (λ k. definition_deep k d) (λ k. definitions_deep k ds) (definition_enough d) (definitions_enough ds)

pub enough : (d e : DocumentTree) → (levels : ℕ) × (document_deep levels d ≡ None) × (document_deep levels e ≡ None)
enough d e =
    let one = definitions_enough d.definitions in
    let two = definitions_enough e.definitions in
    (one.0 + two.0, one.1 (one.0 + two.0) (omega arith), two.1 (one.0 + two.0) (omega arith))
