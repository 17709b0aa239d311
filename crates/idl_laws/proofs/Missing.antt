-- A method that is declared or inherited is not missed.
use Rattle.std.proofs.Common.{◌≡◌, ◌∙◌, ap, sym, subst, refl, ℕ, zero, suc, ◌+◌, inl, inr, List, [], ◌∷◌, ◌++◌, length, length-append, slice_get, Option, Some, None, option_and_then, arith}
use Rattle.idl_document.specs.declared.document.Name.{Name}
use Rattle.idl_document.specs.Trees.{DefinitionTree, const_of, typedef_of, enum_of, struct_of, service_of, FunctionTree}
use Rattle.idl_rules.specs.declared.scopes.Scope.TheVariants as scopes
use Rattle.idl_names.specs.declared.cycles.Cycle.{Cycle}
use Rattle.idl_names.specs.declared.documents.Spot.{Spot}
use Rattle.idl_names.specs.Cycles.{LeadsTo, at_once, TellsCycles, next_spots, spots_by}
use Rattle.idl_names.specs.Files.{FileTree}
use Rattle.idl_names.specs.Meaning.{meaning, spot_at}
use Rattle.idl_names.specs.Sets.{Has, listed_spot}
use Rattle.idl_names.specs.Targets.{definition_at}
use Rattle.type_tables.specs.declared.declared.MethodInfo.{MethodInfo}
use Rattle.type_tables.specs.declared.services.ServiceDecl.{ServiceDecl}
use Rattle.type_tables.specs.Declarations.{Declarations}
use Rattle.type_tables.specs.Names.{value_of}
use Rattle.type_tables.specs.Services.{found_up, number, or_else, own_base, own_methods}
use Rattle.idl_schema.specs.Numbers.{after, after_all, start}
use Rattle.idl_schema.specs.Schema.{declarations_of}
use Rattle.idl_schema.specs.Shares.{files_shares, share, shares}
use Rattle.idl_resolve.specs.Loads.{Resolved}
use Rattle.idl_resolve.specs.Refused.{first_refusal}
use Rattle.idl_laws.specs.Counts.{service_number}
use Rattle.idl_laws.specs.Declared.{HasAll, HasService}
use Rattle.idl_laws.specs.LookUps.{FindsMethods, IsMethodOf, own, inherited}
use Rattle.idl_laws.proofs.Firsts.{First}
use Rattle.idl_laws.proofs.Lawful.{service_ends}
use Rattle.idl_laws.proofs.LookedUp.{OwnAnswer, own_found}
use Rattle.idl_laws.proofs.Meant.{further}
use Rattle.idl_laws.proofs.Placed.{has_left, has_right}
use Rattle.idl_laws.proofs.Runs.{IsDistinct, few}
use Rattle.idl_laws.proofs.Standing.{all_shares}
use Rattle.idl_laws.proofs.Tables.{all_declared}

abbrev service_spot : ℕ → ℕ → DefinitionTree → List Spot
service_spot file place (service_of name base functions) = spot_at file place ∷ []
service_spot file place (const_of name ty value) = []
service_spot file place (typedef_of name ty) = []
service_spot file place (enum_of name members) = []
service_spot file place (struct_of kin name fields) = []

abbrev services_in : ℕ → ℕ → List DefinitionTree → List Spot
services_in file place [] = []
services_in file place (d ∷ ds) = service_spot file place d ++ services_in file (suc place) ds

-- each service's
abbrev services_spots : ℕ → List FileTree → List Spot
services_spots file [] = []
services_spots file (f ∷ fs) = services_in file 0 f.document.definitions ++ services_spots (suc file) fs

module _ (files : List FileTree) where
  one_counted : (file place : ℕ) (n : First) (d : DefinitionTree) → length (service_spot file place d) ≡ length (share files file n d).services
  one_counted file place n (service_of name base functions) = refl
  one_counted file place n (const_of name ty value) = refl
  one_counted file place n (typedef_of name ty) = refl
  one_counted file place n (enum_of name members) = refl
  one_counted file place n (struct_of kin name fields) = refl

  file_counted : (file place : ℕ) (n : First) (ds : List DefinitionTree) → length (services_in file place ds) ≡ length (shares files file n ds).services
  file_counted file place n [] = refl
  file_counted file place n (d ∷ ds) =
      let here = one_counted file place n d in
      let rest = file_counted file (suc place) (after n d) ds in
      let a = length-append (service_spot file place d) (services_in file (suc place) ds) in
      let b = length-append (share files file n d).services (shares files file (after n d) ds).services in
      omega (arith, here, rest, a, b)

  files_counted : (file : ℕ) (n : First) (fs : List FileTree) → length (services_spots file fs) ≡ length (files_shares files file n fs).services
  files_counted file n [] = refl
  files_counted file n (f ∷ fs) =
      let ds = f.document.definitions in
      let here = file_counted file 0 n ds in
      let rest = files_counted (suc file) (after_all n ds) fs in
      let a = length-append (services_in file 0 ds) (services_spots (suc file) fs) in
      let b = length-append (shares files file n ds).services (files_shares files (suc file) (after_all n ds) fs).services in
      omega (arith, here, rest, a, b)

module _ (name : Name) (base : Option Name) (functions : List FunctionTree) where
  in_file : (file place : ℕ) (ds : List DefinitionTree) (j : ℕ) → slice_get ds j ≡ Some (service_of name base functions) → Has (services_in file place ds) (spot_at file (place + j))
  in_file file place [] j e = absurd (cc)
  in_file file place (x ∷ ds) zero e =
      let same : x ≡ service_of name base functions = cc in
      let at : place + 0 ≡ place = omega arith in
      has_left (service_spot file place x) (services_in file (suc place) ds) (spot_at file (place + 0))
      (subst (λ (d : DefinitionTree). Has (service_spot file place d) (spot_at file (place + 0))) (sym same) (inl (ap (spot_at file) at)))
  in_file file place (x ∷ ds) (suc j) e =
      let next : suc place + j ≡ place + suc j = omega arith in
      has_right (service_spot file place x) (services_in file (suc place) ds) (spot_at file (place + suc j))
      (subst (λ (n : ℕ). Has (services_in file (suc place) ds) (spot_at file n)) next (in_file file (suc place) ds j e))

  in_files : (file : ℕ) (fs : List FileTree) (k j : ℕ) → option_and_then (λ tree. slice_get tree.document.definitions j) (slice_get fs k) ≡ Some (service_of name base functions) →
      Has (services_spots file fs) (spot_at (file + k) j)
  in_files file [] k j e = absurd (cc)
  in_files file (f ∷ fs) zero j e =
      let here : file ≡ file + 0 = omega arith in
      let place : 0 + j ≡ j = omega arith in
      let inner = subst (λ (n : ℕ). Has (services_in file 0 f.document.definitions) (spot_at file n)) place (in_file file 0 f.document.definitions j e) in
      has_left (services_in file 0 f.document.definitions) (services_spots (suc file) fs) (spot_at (file + 0) j)
      (subst (λ (n : ℕ). Has (services_in file 0 f.document.definitions) (spot_at n j)) here inner)
  in_files file (f ∷ fs) (suc k) j e =
      let next : suc file + k ≡ file + suc k = omega arith in
      has_right (services_in file 0 f.document.definitions) (services_spots (suc file) fs) (spot_at (file + suc k) j)
      (subst (λ (n : ℕ). Has (services_spots (suc file) fs) (spot_at n j)) next (in_files (suc file) fs k j e))

  is_service : (files : List FileTree) (spot : Spot) → definition_at files spot ≡ Some (service_of name base functions) → Has (services_spots 0 files) spot
  is_service files spot e =
      let at : 0 + spot.file ≡ spot.file = omega arith in
      subst (λ (n : ℕ). Has (services_spots 0 files) (spot_at n spot.definition)) at (in_files 0 files spot.file spot.definition e)

none_else : (o p : Option MethodInfo) → or_else o p ≡ None → (o ≡ None) × (p ≡ None)
none_else None p e = (refl, e)
none_else (Some m) p e = absurd (cc)

-- the services through which one came, each once; each leads here
record IsPath (files : List FileTree) (path : List Spot) (spot : Spot) : Type 0 where
  distinct : IsDistinct path
  declared : (s : Spot) → Has path s → Has (services_spots 0 files) s
  leads : (s : Spot) → Has path s → LeadsTo files s spot

module _ (files : List FileTree) (told : List (List Cycle)) (cycles_are : TellsCycles files told) (clean : first_refusal files told ≡ None) (d : Declarations) (all : HasAll files d)
    (count : length (services_spots 0 files) ≡ length d.services) (word : List ℕ) (method : MethodInfo) where
  with_this : (path : List Spot) (spot : Spot) (name : Name) (base : Option Name) (functions : List FunctionTree) → definition_at files spot ≡ Some (service_of name base functions) → IsPath files path spot →
      IsDistinct (spot ∷ path) × ((s : Spot) → Has (spot ∷ path) s → Has (services_spots 0 files) s)
  with_this path spot name base functions e p = ((λ h. service_ends files told clean cycles_are spot name base functions e (p.leads spot h), p.distinct), declared)
    where
      declared : (s : Spot) → Has (spot ∷ path) s → Has (services_spots 0 files) s
      declared s (inl q) = subst (Has (services_spots 0 files)) (sym q) (is_service name base functions files spot e)
      declared s (inr h) = p.declared s h

  none_left : (path : List Spot) (spot : Spot) (name : Name) (base : Option Name) (functions : List FunctionTree) → definition_at files spot ≡ Some (service_of name base functions) → IsPath files path spot →
      length path + 0 ≡ length d.services → ⊥
  none_left path spot name base functions e p left =
      let longer = with_this path spot name base functions e p in
      let fits = few (spot ∷ path) (services_spots 0 files) longer.0 longer.1 in
      omega (arith, fits, count, left)

  goes_up : (path : List Spot) (spot other : Spot) (name extended : Name) (functions : List FunctionTree) → definition_at files spot ≡ Some (service_of name (Some extended) functions) →
      meaning files spot.file scopes.Services extended.text ≡ Some other → IsPath files path spot → IsPath files (spot ∷ path) other
  unfolding next_spots
  goes_up path spot other name extended functions e means p = record { distinct = longer.0; declared = longer.1; leads = leads }
    where
      longer : IsDistinct (spot ∷ path) × ((s : Spot) → Has (spot ∷ path) s → Has (services_spots 0 files) s)
      longer = with_this path spot name (Some extended) functions e p

      next : Has (next_spots files spot) other
      next =
          subst (λ (o : Option DefinitionTree). Has (spots_by files spot.file o) other) (sym e)
          (subst (λ (o : Option Spot). Has (listed_spot o) other) (sym means) (inl refl))

      leads : (s : Spot) → Has (spot ∷ path) s → LeadsTo files s other
      leads s (inl q) = subst (λ (r : Spot). LeadsTo files r other) (sym q) (at_once spot other next)
      leads s (inr h) = further files s spot other (p.leads s h) next

  -- what a service's look-up comes to that finds nothing
  halves : (n : ℕ) (spot : Spot) (base : Option Name) (functions : List FunctionTree) (has : HasService files d spot base functions) → found_up (suc n) d.services word (Some (number (service_number files spot))) ≡ None →
      (value_of word (has.service).methods ≡ None) × (found_up n d.services word (has.service).base ≡ None)
  halves n spot base functions has h =
      none_else (value_of word (has.service).methods) (found_up n d.services word (has.service).base)
      (ap (λ (o : Option ServiceDecl). or_else (value_of word (own_methods o)) (found_up n d.services word (own_base o))) (sym has.stands) ∙ h)

  missed : (n : ℕ) (path : List Spot) (spot : Spot) → IsPath files path spot → length path + n ≡ length d.services → found_up n d.services word (Some (number (service_number files spot))) ≡ None →
      IsMethodOf files d spot word method → ⊥
  missed zero path spot p left h (own _ name base functions _ _ e mine) = none_left path spot name base functions e p left
  missed zero path spot p left h (inherited _ other name extended functions _ _ e none means up) = none_left path spot name (Some extended) functions e p left
  missed (suc n) path spot p left h (own _ name base functions _ _ e mine) =
      let has : HasService files d spot base functions = all spot (service_of name base functions) e in
      let nothing = halves n spot base functions has h in
      let none = subst (OwnAnswer files d word spot.file functions) nothing.0 (own_found files d word spot.file functions (has.service).methods has.methods) in
      none mine.place mine.tree mine.stands (sym (mine.is).named)
  missed (suc n) path spot p left h (inherited _ other name extended functions _ _ e none means up) =
      let has : HasService files d spot (Some extended) functions = all spot (service_of name (Some extended) functions) e in
      let nothing = halves n spot (Some extended) functions has h in
      let base = has.extends in
      let there : Some base.0 ≡ Some other = sym base.1 ∙ means in
      let same : base.0 ≡ other = cc in
      let number_is : (has.service).base ≡ Some (number (service_number files other)) = base.2 ∙ ap (λ (s : Spot). Some (number (service_number files s))) same in
      let fewer : length (spot ∷ path) + n ≡ length d.services = omega (arith, left) in
      missed n (spot ∷ path) other (goes_up path spot other name extended functions e means p) fewer (ap (found_up n d.services word) (sym number_is) ∙ nothing.1) up

pub methods_found : (files : List FileTree) (schema : Declarations) → Resolved files schema → FindsMethods files schema
unfolding declarations_of
methods_found files schema r spot word h method x =
    let services : schema.services ≡ (all_shares files).services = ap (λ (d : Declarations). d.services) r.means in
    let count : length (services_spots 0 files) ≡ length schema.services = files_counted files 0 start files ∙ sym (ap (λ (s : List ServiceDecl). length s) services) in
    let p : IsPath files [] spot = record { distinct = tt; declared = λ s g. absurd g; leads = λ s g. absurd g } in
    let left : length {A = Spot} [] + length schema.services ≡ length schema.services = omega arith in
    missed files r.lawful.0 r.lawful.1.0 r.lawful.1.1 schema (all_declared files schema r) count word method (length schema.services) [] spot p left h x
