-- What is looked up in the tables is what the files declare.
use Rattle.std.proofs.Common.{◌≡◌, ◌∙◌, ap, sym, subst, refl, ℕ, zero, suc, ◌+◌, ℤ, List, [], ◌∷◌, length, slice_get, Option, Some, None, Bool, true, false, cond, nat_eq, arith, int_lt, true≢false}
use Rattle.std.specs.Cmp.Lexicographic.{bytes_decides, pointwise, same_text}
use Rattle.idl_document.specs.declared.document.Name.{Name}
use Rattle.idl_document.specs.Trees.{DefinitionTree, const_of, typedef_of, enum_of, struct_of, service_of, FieldTree, FunctionTree}
use Rattle.idl_rules.specs.declared.scopes.Scope.TheVariants as scopes
use Rattle.idl_rules.specs.Ids.{counted, id_of}
use Rattle.idl_names.specs.declared.documents.Spot.{Spot}
use Rattle.idl_names.specs.Files.{FileTree}
use Rattle.idl_names.specs.Meaning.{declares}
use Rattle.idl_names.specs.Targets.{definition_at}
use Rattle.type_tables.specs.declared.declared.FieldInfo.{FieldInfo}
use Rattle.type_tables.specs.declared.declared.MethodInfo.{MethodInfo}
use Rattle.type_tables.specs.declared.declared.ServiceId.{ServiceId}
use Rattle.type_tables.specs.declared.declared.Ty.{Ty}
use Rattle.type_tables.specs.declared.services.ServiceDecl.{ServiceDecl}
use Rattle.type_tables.specs.Declarations.{Declarations}
use Rattle.type_tables.specs.Fields.{at_place, field_in, later, place_of, same_id}
use Rattle.type_tables.specs.Names.{value_of}
use Rattle.type_tables.specs.Services.{found_up, number, or_else, own_base, own_methods}
use Rattle.type_tables.proofs.Places.{same_is}
use Rattle.type_tables.proofs.Ranks.{lt_irrefl}
use Rattle.idl_resolve.specs.Loads.{Resolved}
use Rattle.idl_laws.specs.Counts.{service_number}
use Rattle.idl_laws.specs.Declared.{AreFields, AreMethods, HasAll, HasService, IsBase, IsField, IsMethod}
use Rattle.idl_laws.specs.LookUps.{AnswersId, AnswersIds, AnswersMethods, HasNoId, HasNoMethod, IsMethodOf, own, inherited, IsOwnMethod}
use Rattle.idl_laws.proofs.Placed.{meaning_found}
use Rattle.idl_laws.proofs.Tables.{all_declared}

same_itself : (a : ℤ) → same_id a a ≡ true
same_itself a = by (int_lt a a) refl
  where
    by : (t : Bool) → int_lt a a ≡ t → cond t false (cond t false true) ≡ true
    by true e = absurd (true≢false (sym e ∙ lt_irrefl a))
    by false e = refl

is_same : (a b : ℤ) → a ≡ b → same_id a b ≡ true
is_same a b e = ap (same_id a) (sym e) ∙ same_itself a

module _ (files : List FileTree) (parts : List Ty) (file : ℕ) (id : ℤ) where
  abbrev Answers : ℕ → List FieldTree → Option FieldInfo → Type 0
  Answers before declared answer = AnswersId files parts file before declared id answer

  -- behind a field that hasn't this id
  one_more : (before : ℕ) (f : FieldTree) (fs : List FieldTree) (i : FieldInfo) → IsField files parts file before f i → same_id i.id id ≡ false → (answer : Option FieldInfo) →
      Answers (counted before f.id) fs answer → Answers before (f ∷ fs) answer
  one_more before f fs i is other (Some field) a = record { place = suc a.place; tree = a.tree; stands = a.stands; is = a.is; has = a.has }
  one_more before f fs i is other None none = by
    where
      by : HasNoId files parts file before (f ∷ fs) id
      by zero tree e h =
          let same : f ≡ tree = cc in
          let here : i.id ≡ id = is.id ∙ ap (λ (t : FieldTree). (id_of before t).id) same ∙ h in
          let yes = is_same i.id id here in
          cc
      by (suc place) tree e h = none place tree e h

  behind : (i : FieldInfo) (is : List FieldInfo) (o : Option ℕ) → at_place is o ≡ at_place (i ∷ is) (later o)
  behind i is None = refl
  behind i is (Some n) = let next : suc n ≡ 1 + n = omega arith in ap (slice_get (i ∷ is)) next

  looked_up : (before : ℕ) (declared : List FieldTree) (fields : List FieldInfo) → AreFields files parts file before declared fields → Answers before declared (field_in id fields)
  looked_up before [] [] are = λ place tree e h. absurd (cc)
  looked_up before [] (i ∷ is) are = absurd are
  looked_up before (f ∷ fs) [] are = absurd are
  looked_up before (f ∷ fs) (i ∷ is) are = by (looked_up (counted before f.id) fs is are.1) (same_id i.id id) refl
    where
      by : Answers (counted before f.id) fs (field_in id is) → (t : Bool) → same_id i.id id ≡ t → Answers before (f ∷ fs) (at_place (i ∷ is) (cond t (Some 0) (later (place_of id is))))
      by rest true e = record { place = 0; tree = f; stands = refl; is = are.0; has = same_is i.id id e }
      by rest false e = subst (Answers before (f ∷ fs)) (behind i is (place_of id is)) (one_more before f fs i are.0 e (field_in id is) rest)

pub fields_looked_up : (files : List FileTree) → AnswersIds files
fields_looked_up files types file declared fields id are = looked_up files types file id 0 declared fields are

module _ (files : List FileTree) (d : Declarations) (word : List ℕ) where
  abbrev pub OwnAnswer : ℕ → List FunctionTree → Option MethodInfo → Type 0
  OwnAnswer file functions None = HasNoMethod files d functions word
  OwnAnswer file functions (Some m) = IsOwnMethod files d file functions word m

  other_name : (file : ℕ) (f : FunctionTree) (fs : List FunctionTree) (name : List ℕ) → name ≡ f.name.text → pointwise nat_eq word name ≡ false → (answer : Option MethodInfo) →
      OwnAnswer file fs answer → OwnAnswer file (f ∷ fs) answer
  other_name file f fs name named other (Some m) a = record { place = suc a.place; tree = a.tree; stands = a.stands; is = a.is }
  other_name file f fs name named other None none = by
    where
      by : HasNoMethod files d (f ∷ fs) word
      by zero tree e h =
          let same : f ≡ tree = cc in
          let text : word ≡ name = sym (named ∙ ap (λ (t : FunctionTree). t.name.text) same ∙ h) in
          let yes : pointwise nat_eq word name ≡ true = (bytes_decides word name).1 text in
          cc
      by (suc place) tree e h = none place tree e h

  pub own_found : (file : ℕ) (functions : List FunctionTree) (methods : List (List ℕ × MethodInfo)) → AreMethods files d file functions methods → OwnAnswer file functions (value_of word methods)
  own_found file [] [] are = λ place tree e h. absurd (cc)
  own_found file [] (m ∷ ms) are = absurd are
  own_found file (f ∷ fs) [] are = absurd are
  own_found file (f ∷ fs) (m ∷ ms) are = by (own_found file fs ms are.1) (pointwise nat_eq word m.0) refl
    where
      by : OwnAnswer file fs (value_of word ms) → (t : Bool) → pointwise nat_eq word m.0 ≡ t → OwnAnswer file (f ∷ fs) (cond t (Some m.1) (value_of word ms))
      by rest true e =
          let same : m.0 ≡ word = sym (same_text word m.0 (sym e)) in
          record { place = 0; tree = f; stands = refl; is = subst (λ (w : List ℕ). IsMethod files d file f w m.1) same are.0 }
      by rest false e = other_name file f fs m.0 (are.0).named e (value_of word ms) rest

  none_up : (n : ℕ) → found_up n d.services word None ≡ None
  none_up zero = refl
  none_up (suc n) = refl

  module _ (all : HasAll files d) (method : MethodInfo) where
    -- a service whose look-up goes on for so many services more
    abbrev Finds : ℕ → Type 0
    Finds n = (spot : Spot) (name : Name) (base : Option Name) (functions : List FunctionTree) → definition_at files spot ≡ Some (service_of name base functions) →
        found_up n d.services word (Some (number (service_number files spot))) ≡ Some method → IsMethodOf files d spot word method

    extended_is : (n : ℕ) → Finds n → (spot : Spot) → (o : DefinitionTree) (other : List ℕ) → definition_at files spot ≡ Some o → declares scopes.Services other o ≡ true →
        found_up n d.services word (Some (number (service_number files spot))) ≡ Some method → IsMethodOf files d spot word method
    extended_is n finds spot (const_of name ty value) other e is h = absurd (cc)
    extended_is n finds spot (typedef_of name ty) other e is h = absurd (cc)
    extended_is n finds spot (enum_of name members) other e is h = absurd (cc)
    extended_is n finds spot (struct_of kin name fields) other e is h = absurd (cc)
    extended_is n finds spot (service_of name base functions) other e is h = finds spot name base functions e h

    goes_up : (n : ℕ) → Finds n → (spot : Spot) (name : Name) (base : Option Name) (functions : List FunctionTree) → definition_at files spot ≡ Some (service_of name base functions) →
        HasNoMethod files d functions word → (b : Option ServiceId) → IsBase files d spot.file base b → found_up n d.services word b ≡ Some method → IsMethodOf files d spot word method
    goes_up n finds spot name None functions e none b is h =
        let no : None ≡ Some method = sym (none_up n) ∙ ap (found_up n d.services word) (sym is) ∙ h in
        absurd (cc)
    goes_up n finds spot name (Some extended) functions e none b is h =
        let other = is.0 in
        let there = meaning_found files scopes.Services spot.file extended.text other is.1 in
        let up : found_up n d.services word (Some (number (service_number files other))) ≡ Some method = ap (found_up n d.services word) (sym is.2) ∙ h in
        inherited spot other name extended functions word method e none is.1 (extended_is n finds other there.0 there.2.0 there.1 there.2.1 up)

    finds_all : (n : ℕ) → Finds n
    finds_all zero spot name base functions e h = absurd (cc)
    finds_all (suc n) spot name base functions e h =
        by (finds_all n) (value_of word (has.service).methods) (own_found spot.file functions (has.service).methods has.methods)
        (ap (λ (o : Option ServiceDecl). or_else (value_of word (own_methods o)) (found_up n d.services word (own_base o))) (sym has.stands) ∙ h)
      where
        has : HasService files d spot base functions
        has = all spot (service_of name base functions) e

        by : Finds n → (o : Option MethodInfo) → OwnAnswer spot.file functions o → or_else o (found_up n d.services word (has.service).base) ≡ Some method → IsMethodOf files d spot word method
        by finds (Some m) mine g =
            let same : m ≡ method = cc in
            own spot name base functions word method e (subst (λ (q : MethodInfo). IsOwnMethod files d spot.file functions word q) same mine)
        by finds None none g = goes_up n finds spot name base functions e none (has.service).base has.extends g

pub methods_looked_up : (files : List FileTree) (schema : Declarations) → Resolved files schema → AnswersMethods files schema
methods_looked_up files schema r spot name base functions word method e h =
    finds_all files schema word (all_declared files schema r) method (length schema.services) spot name base functions e h
