-- What the rules of one file see to, item by item.
use Rattle.std.proofs.Common.{◌≡◌, ◌∙◌, ap, sym, subst, refl, ℕ, zero, suc, ◌<◌, ℤ, pos, negsuc, ◌+ℤ◌, List, [], ◌∷◌, ◌++◌, map, length, get_or, Option, Some, None, Bool, true, false, cond, not, ◌||◌, ◌&&◌, int_eq, int_lt, nat_eq, FitsSigned, arith, true≢false}
use Rattle.std.proofs.lemmas.Bool.Decides.{nat_tests, Decides-int_eq}
use Rattle.std.specs.Int.{w16, w32}
use Rattle.std.specs.Cmp.Lexicographic.{pointwise}
use Rattle.std.specs.List.{list_any}
use Rattle.idl_document.specs.declared.document.Definition.{Definition}
use Rattle.idl_document.specs.declared.document.Function.{Function}
use Rattle.idl_document.specs.declared.document.Kin.{Kin}
use Rattle.idl_document.specs.declared.document.Member.{Member}
use Rattle.idl_document.specs.declared.document.Name.{Name}
use Rattle.idl_document.specs.Trees.{definition_tree, definition_trees, enum_of, struct_of, service_of, function_tree, function_trees, FieldTree, FunctionTree, TypeTree}
use Rattle.idl_rules.specs.declared.ids.FieldId.{FieldId}
use Rattle.idl_rules.specs.declared.row.IdlRow.{IdlRow}
use Rattle.idl_rules.specs.declared.row.IdlRow.TheVariants as rows
use Rattle.idl_rules.specs.declared.scopes.Scope.TheVariants as scopes
use Rattle.idl_rules.specs.Doubles.{double_names, is_among, repeated, when}
use Rattle.idl_rules.specs.Ids.{counted, id_by, id_of, id_refusals, ids_from, is_given_id, is_id_among, refused_ids}
use Rattle.idl_rules.specs.Order.{Refusal}
use Rattle.idl_rules.specs.Rules.{all_inner, field_refusals, inner_refusals, method_refusals, methods_refusals, oneway_refusals, scope_refusals}
use Rattle.idl_rules.specs.Values.{is_outside, number_after, refused_values, value_refusals}
use Rattle.idl_rules.proofs.Sets.{ids_same, repeated_same}
use Rattle.idl_names.specs.declared.documents.FileDoc.{FileDoc}
use Rattle.idl_names.specs.Files.{file_trees}
use Rattle.type_tables.specs.declared.declared.FieldInfo.{FieldInfo}
use Rattle.type_tables.specs.declared.declared.MethodInfo.{MethodInfo}
use Rattle.type_tables.specs.declared.declared.Ty.{Ty}
use Rattle.type_tables.specs.Fields.{later, place_of, same_id}
use Rattle.type_tables.specs.Names.{name_place}
use Rattle.type_tables.proofs.Places.{same_is}
use Rattle.idl_schema.specs.Fields.{success}
use Rattle.idl_schema.specs.Kept.{AreFree, AreNew, KeepRules}

none_of_both : (xs ys : List Refusal) → xs ++ ys ≡ [] → (xs ≡ []) × (ys ≡ [])
none_of_both [] ys e = (refl, e)
none_of_both (x ∷ xs) ys e = absurd cc

none_when : (t : Bool) (at : ℕ) (row : IdlRow) → when t at row ≡ [] → t ≡ false
none_when true at row e = absurd cc
none_when false at row e = refl

neither : (a b : Bool) → (a || b) ≡ false → (a ≡ false) × (b ≡ false)
neither true b e = absurd cc
neither false b e = (refl, e)

both : (a b : Bool) → (a && b) ≡ true → (a ≡ true) × (b ≡ true)
both true b e = (refl, e)
both false b e = absurd cc

turned : (t : Bool) → not t ≡ false → t ≡ true
turned true e = refl
turned false e = absurd cc

-- ---- the items of a list

pub inner_kept : (ds : List Definition) (i : ℕ) (d : Definition) → i < length ds → d ≡ get_or ds i d → all_inner (definition_trees ds) ≡ [] → inner_refusals (definition_tree d) ≡ []
inner_kept [] i d h e k = absurd (omega arith)
inner_kept (x ∷ ds) zero d h e k =
    subst (λ (y : Definition). inner_refusals (definition_tree y) ≡ []) (sym e) (none_of_both (inner_refusals (definition_tree x)) (all_inner (definition_trees ds)) k).0
inner_kept (x ∷ ds) (suc i) d h e k = inner_kept ds i d (omega arith) e (none_of_both (inner_refusals (definition_tree x)) (all_inner (definition_trees ds)) k).1

pub method_kept : (fs : List Function) (i : ℕ) (f : Function) → i < length fs → f ≡ get_or fs i f → methods_refusals (function_trees fs) ≡ [] → method_refusals (function_tree f) ≡ []
method_kept [] i f h e k = absurd (omega arith)
method_kept (x ∷ fs) zero f h e k =
    subst (λ (y : Function). method_refusals (function_tree y) ≡ []) (sym e) (none_of_both (method_refusals (function_tree x)) (methods_refusals (function_trees fs)) k).0
method_kept (x ∷ fs) (suc i) f h e k = method_kept fs i f (omega arith) e (none_of_both (method_refusals (function_tree x)) (methods_refusals (function_trees fs)) k).1

pub file_kept : (docs : List FileDoc) (i : ℕ) (f : FileDoc) → i < length docs → f ≡ get_or docs i f → KeepRules (file_trees docs) → all_inner (definition_trees f.document.definitions) ≡ []
file_kept [] i f h e k = absurd (omega arith)
file_kept (x ∷ docs) zero f h e k =
    let ds = definition_trees x.document.definitions in
    let scoped = scope_refusals scopes.Types ds ++ scope_refusals scopes.Constants ds ++ scope_refusals scopes.Services ds in
    subst (λ (y : FileDoc). all_inner (definition_trees y.document.definitions) ≡ []) (sym e) (none_of_both scoped (all_inner ds) k.0).1
file_kept (x ∷ docs) (suc i) f h e k = file_kept docs i f (omega arith) e k.1

-- ---- the parts of a definition

pub enum_kept : (name : Name) (members : List Member) → inner_refusals (enum_of name members) ≡ [] → value_refusals members ≡ []
enum_kept name members k = (none_of_both (double_names rows.DuplicateName (map (λ m. m.name) members)) (value_refusals members) k).1

fields_kept : (fields : List FieldTree) → field_refusals fields ≡ [] → AreFree [] 0 fields
fields_kept fields k = (none_of_both (double_names rows.DuplicateFieldName (map (λ f. f.name) fields)) (id_refusals fields) k).1

pub struct_kept : (kin : Kin) (name : Name) (fields : List FieldTree) → inner_refusals (struct_of kin name fields) ≡ [] → AreFree [] 0 fields
struct_kept kin name fields k = fields_kept fields k

pub service_kept : (name : Name) (base : Option Name) (functions : List FunctionTree) → inner_refusals (service_of name base functions) ≡ [] → AreNew [] functions × (methods_refusals functions ≡ [])
service_kept name base functions k = none_of_both (double_names rows.DuplicateName (map (λ f. f.name) functions)) (methods_refusals functions) k

pub args_kept : (f : FunctionTree) → method_refusals f ≡ [] → AreFree [] 0 f.args
args_kept f k = fields_kept f.args (none_of_both (oneway_refusals f) (field_refusals f.args) (none_of_both (oneway_refusals f ++ field_refusals f.args) (field_refusals f.throws) k).0).1

throws_kept : (f : FunctionTree) → method_refusals f ≡ [] → AreFree [] 0 f.throws
throws_kept f k = fields_kept f.throws (none_of_both (oneway_refusals f ++ field_refusals f.args) (field_refusals f.throws) k).1

-- ---- ids

differs : (a b : ℤ) → (a ≡ b → ⊥) → int_eq a b ≡ false
differs a b h = by (int_eq a b) refl
  where
    by : (t : Bool) → int_eq a b ≡ t → t ≡ false
    by true e = absurd (h ((Decides-int_eq a b).0 e))
    by false e = refl

apart : (a b : ℤ) → int_eq b a ≡ false → same_id a b ≡ false
apart a b e = by (same_id a b) refl
  where
    by : (t : Bool) → same_id a b ≡ t → t ≡ false
    by true f = absurd (true≢false (sym ((Decides-int_eq b a).1 (sym (same_is a b f))) ∙ e))
    by false f = refl

-- an id that is none of the list's has no place there
pub absent : (id : ℤ) (list : List FieldInfo) → is_id_among id (map (λ f. f.id) list) ≡ false → place_of id list ≡ None
absent id [] e = refl
absent id (f ∷ fs) e =
    let other = neither (int_eq id f.id) (is_id_among id (map (λ f. f.id) fs)) e in
    ap (λ (t : Bool). cond t (Some 0) (later (place_of id fs))) (apart f.id id other.0) ∙ ap later (absent id fs other.1)

pub first_free : (earlier : List ℤ) (x : FieldId) (xs : List FieldId) → refused_ids earlier (x ∷ xs) ≡ [] → (is_id_among x.id earlier ≡ false) × (x.fits ≡ true) × (refused_ids (x.id ∷ earlier) xs ≡ [])
first_free earlier x xs e =
    let again = when (is_id_among x.id earlier) x.at rows.DuplicateFieldId in
    let outside = when (not x.fits) x.at rows.IdOutOfRange in
    let rest = none_of_both (again ++ outside) (refused_ids (x.id ∷ earlier) xs) e in
    let first = none_of_both again outside rest.0 in
    (none_when (is_id_among x.id earlier) x.at rows.DuplicateFieldId first.0, turned x.fits (none_when (not x.fits) x.at rows.IdOutOfRange first.1), rest.1)

all_free : (earlier : List ℤ) (x : FieldId) (xs : List FieldId) → is_id_among x.id earlier ≡ false → x.fits ≡ true → refused_ids (x.id ∷ earlier) xs ≡ [] → refused_ids earlier (x ∷ xs) ≡ []
all_free earlier x xs a f r =
    let rest = refused_ids (x.id ∷ earlier) xs in
    ap (λ (t : Bool). when t x.at rows.DuplicateFieldId ++ when (not x.fits) x.at rows.IdOutOfRange ++ rest) a
    ∙ ap (λ (t : Bool). when false x.at rows.DuplicateFieldId ++ when (not t) x.at rows.IdOutOfRange ++ rest) f ∙ r

fits_by : (o : Option (ℕ × ℤ)) (at before : ℕ) → (id_by o at before).fits ≡ true → FitsSigned w16 (id_by o at before).id
fits_by None at before e = record { sfits = grind (arith, nat_tests) }
fits_by (Some given) at before e = within given.1 e
  where
    within : (z : ℤ) → is_given_id z ≡ true → FitsSigned w16 z
    within (pos n) e = let below = (both (int_lt (pos 0) (pos n)) (int_lt (pos n) (pos 32768)) e).1 in record { sfits = grind (arith, nat_tests) }
    within (negsuc n) e = absurd cc

-- an id that the rules allow has 16 bits
pub id_fits : (before : ℕ) (f : FieldTree) → (id_of before f).fits ≡ true → FitsSigned w16 (id_of before f).id
id_fits before f e = fits_by f.id f.name.at before e

nonzero_by : (o : Option (ℕ × ℤ)) (at before : ℕ) → (id_by o at before).fits ≡ true → int_eq (id_by o at before).id (pos 0) ≡ false
nonzero_by None at before e = differs (negsuc before) (pos 0) (λ h. true≢false (ap (λ (z : ℤ). int_lt z (pos 0)) h))
nonzero_by (Some given) at before e =
    let above = (both (int_lt (pos 0) given.1) (int_lt given.1 (pos 32768)) e).0 in
    differs given.1 (pos 0) (λ h. true≢false (sym above ∙ ap (int_lt (pos 0)) h))

swapped : (a b c : Bool) → (a || (b || c)) ≡ (b || (a || c))
swapped true true c = refl
swapped true false c = refl
swapped false b c = refl

any_last : {X : Type 0} (p : X → Bool) (xs : List X) (y : X) → list_any p (xs ++ y ∷ []) ≡ (p y || list_any p xs)
any_last p [] y = refl
any_last p (x ∷ xs) y = ap (λ (t : Bool). p x || t) (any_last p xs y) ∙ swapped (p x) (p y) (list_any p xs)

-- nor is it 0
zero_free : (earlier : List ℤ) (before : ℕ) (fs : List FieldTree) → refused_ids earlier (ids_from before fs) ≡ [] → refused_ids (earlier ++ pos 0 ∷ []) (ids_from before fs) ≡ []
zero_free earlier before [] e = refl
zero_free earlier before (f ∷ fs) e =
    let x = id_of before f in
    let rest = ids_from (counted before f.id) fs in
    let first = first_free earlier x rest e in
    let among : is_id_among x.id (earlier ++ pos 0 ∷ []) ≡ false =
    any_last (int_eq x.id) earlier (pos 0) ∙ ap (λ (t : Bool). t || is_id_among x.id earlier) (nonzero_by f.id f.name.at before first.1) ∙ first.0
    in
    all_free (earlier ++ pos 0 ∷ []) x rest among first.1 (zero_free (x.id ∷ earlier) (counted before f.id) fs first.2)

-- what is thrown stands beside a result
pub throws_free : (ty : ℕ → TypeTree → Ty) (base : ℕ) (f : FunctionTree) → method_refusals f ≡ [] → AreFree (success ty base f.returns) 0 f.throws
throws_free ty base f k = by f.returns
  where
    by : (returns : Option TypeTree) → AreFree (success ty base returns) 0 f.throws
    by None = throws_kept f k
    by (Some tree) = zero_free [] 0 f.throws (throws_kept f k)

mapped : (list : List FieldInfo) (r : FieldInfo) → map (λ f. f.id) (list ++ r ∷ []) ≡ map (λ f. f.id) list ++ r.id ∷ []
mapped [] r = refl
mapped (f ∷ fs) r = ap (λ (ids : List ℤ). f.id ∷ ids) (mapped fs r)

-- one field more
pub free_on : (list more : List FieldInfo) (r : FieldInfo) (before after : ℕ) (f : FieldTree) (rest : List FieldTree) → more ≡ list ++ r ∷ [] → r.id ≡ (id_of before f).id → after ≡ counted before f.id →
    AreFree list before (f ∷ rest) → AreFree more after rest
free_on list more r before after f rest m i a e =
    let x = id_of before f in
    let ids = map (λ f. f.id) list in
    let first = first_free ids x (ids_from (counted before f.id) rest) e in
    ap (λ (l : List FieldInfo). refused_ids (map (λ f. f.id) l) (ids_from after rest)) m ∙ ap (λ (l : List ℤ). refused_ids l (ids_from after rest)) (mapped list r)
    ∙ ap (λ (z : ℤ). refused_ids (ids ++ z ∷ []) (ids_from after rest)) i ∙ ap (λ (n : ℕ). refused_ids (ids ++ x.id ∷ []) (ids_from n rest)) a
    ∙ ids_same (ids ++ x.id ∷ []) (x.id ∷ ids) (ids_from (counted before f.id) rest) (λ id. any_last (int_eq id) ids x.id) ∙ first.2

-- ---- names of methods

abbrev Methods : Type 0
Methods = List (List ℕ × MethodInfo)

pub name_absent : (name : List ℕ) (methods : Methods) → is_among name (map (λ m. m.0) methods) ≡ false → name_place name methods ≡ None
name_absent name [] e = refl
name_absent name (m ∷ ms) e =
    let other = neither (pointwise nat_eq name m.0) (is_among name (map (λ m. m.0) ms)) e in
    ap (λ (t : Bool). cond t (Some 0) (later (name_place name ms))) other.0 ∙ ap later (name_absent name ms other.1)

pub first_new : (earlier : List (List ℕ)) (n : Name) (ns : List Name) → repeated rows.DuplicateName earlier (n ∷ ns) ≡ [] → (is_among n.text earlier ≡ false) × (repeated rows.DuplicateName (n.text ∷ earlier) ns ≡ [])
first_new earlier n ns e =
    let parts = none_of_both (when (is_among n.text earlier) n.at rows.DuplicateName) (repeated rows.DuplicateName (n.text ∷ earlier) ns) e in
    (none_when (is_among n.text earlier) n.at rows.DuplicateName parts.0, parts.1)

named : (ms : Methods) (name : List ℕ) (m : MethodInfo) → map (λ m. m.0) (ms ++ (name, m) ∷ []) ≡ map (λ m. m.0) ms ++ name ∷ []
named [] name m = refl
named (x ∷ ms) name m = ap (λ (names : List (List ℕ)). x.0 ∷ names) (named ms name m)

-- one method more
pub new_on : (methods more : Methods) (info : MethodInfo) (f : FunctionTree) (rest : List FunctionTree) → more ≡ methods ++ (f.name.text, info) ∷ [] → AreNew methods (f ∷ rest) → AreNew more rest
new_on methods more info f rest m e =
    let names = map (λ m. m.0) methods in
    let behind = map (λ f. f.name) rest in
    ap (λ (ms : Methods). repeated rows.DuplicateName (map (λ m. m.0) ms) behind) m ∙ ap (λ (ns : List (List ℕ)). repeated rows.DuplicateName ns behind) (named methods f.name.text info)
    ∙ repeated_same rows.DuplicateName (names ++ f.name.text ∷ []) (f.name.text ∷ names) behind (λ name. any_last (pointwise nat_eq name) names f.name.text) ∙ (first_new names f.name behind e).1

-- ---- numbers of members

pub first_inside : (name : Name) (z : ℤ) (vs : List (Name × ℤ)) → refused_values ((name, z) ∷ vs) ≡ [] → (is_outside z ≡ false) × (refused_values vs ≡ [])
first_inside name z vs e =
    let parts = none_of_both (when (is_outside z) name.at rows.EnumValueOutOfRange) (refused_values vs) e in
    (none_when (is_outside z) name.at rows.EnumValueOutOfRange parts.0, parts.1)

-- a number that the rules allow has 32 bits
pub value_fits : (z : ℤ) → is_outside z ≡ false → FitsSigned w32 z
value_fits (pos n) e =
    let over = (neither (int_lt (pos n) (negsuc 2147483647)) (int_lt (pos 2147483647) (pos n)) e).1 in
    record { sfits = grind (arith, nat_tests) }
value_fits (negsuc n) e =
    let under = (neither (int_lt (negsuc n) (negsuc 2147483647)) (int_lt (pos 2147483647) (negsuc n)) e).0 in
    record { sfits = grind (arith, nat_tests) }

-- so 64 bits don't end it
pub counts_on : (z : ℤ) → is_outside z ≡ false → number_after z ≡ z +ℤ pos 1
counts_on z e = by (int_lt z (pos 9223372036854775807)) refl
  where
    small : (z : ℤ) → is_outside z ≡ false → int_lt z (pos 9223372036854775807) ≡ true
    small (pos n) e =
        let over = (neither (int_lt (pos n) (negsuc 2147483647)) (int_lt (pos 2147483647) (pos n)) e).1 in
        grind (arith, nat_tests)
    small (negsuc n) e = refl

    by : (t : Bool) → int_lt z (pos 9223372036854775807) ≡ t → cond t (z +ℤ pos 1) z ≡ z +ℤ pos 1
    by true h = refl
    by false h = absurd (true≢false (sym (small z e) ∙ h))
