-- What files declare that nothing is refused in stands in the tables of their schema.
use Rattle.std.proofs.Common.{◌≡◌, ◌∙◌, ap, sym, subst, refl, ℕ, ◌+◌, List, [], ◌∷◌, ◌++◌, length, slice_get, Option, Some, None, true, false, not, is_some, map, length-append, arith}
use Rattle.idl_document.specs.declared.document.Kin.{Kin}
use Rattle.idl_document.specs.declared.document.Member.{Member}
use Rattle.idl_document.specs.declared.document.Name.{Name}
use Rattle.idl_document.specs.Trees.{DefinitionTree, const_of, typedef_of, enum_of, struct_of, service_of, FieldTree, FunctionTree, TypeTree}
use Rattle.idl_rules.specs.declared.row.IdlRow.TheVariants as rows
use Rattle.idl_rules.specs.declared.scopes.Scope.TheVariants as scopes
use Rattle.idl_rules.specs.Ids.{counted}
use Rattle.idl_rules.specs.Values.{member_values}
use Rattle.idl_names.specs.declared.cycles.Cycle.{Cycle}
use Rattle.idl_names.specs.declared.documents.Spot.{Spot}
use Rattle.idl_names.specs.Cycles.{TellsCycles}
use Rattle.idl_names.specs.Files.{FileTree}
use Rattle.idl_names.specs.Meaning.{meaning}
use Rattle.idl_names.specs.Refusals.{base_refusals, cycle_refusals, fields_refusals, function_refusals, functions_refusals, returned_refusals, throws_refusals, thrown_refusals, type_refusals}
use Rattle.idl_names.specs.Targets.{definition_at}
use Rattle.type_tables.specs.declared.declared.Ty.{Ty}
use Rattle.type_tables.specs.declared.services.ServiceDecl.{ServiceDecl}
use Rattle.type_tables.specs.declared.tables.StructDecl.{StructDecl}
use Rattle.type_tables.specs.Declarations.{Declarations}
use Rattle.type_tables.specs.Known.{failure_struct}
use Rattle.type_tables.specs.Services.{number}
use Rattle.idl_schema.specs.Fields.{fields_from, fields_types, form_of, returns_types, success}
use Rattle.idl_schema.specs.Methods.{args_struct, methods_from, methods_structs, methods_types, result_struct, result_types}
use Rattle.idl_schema.specs.Numbers.{fields_parts, method_parts, parts, returns_parts}
use Rattle.idl_schema.specs.Schema.{declarations_of}
use Rattle.idl_schema.specs.Shares.{base_at, base_of, service_number as service_at}
use Rattle.idl_schema.specs.Types.{part_types, ty_in}
use Rattle.idl_schema.proofs.Counting.{fields_length, parts_length, result_length}
use Rattle.idl_schema.proofs.Meaning.{numbered}
use Rattle.idl_resolve.specs.Loads.{Resolved}
use Rattle.idl_resolve.specs.Refused.{first_refusal}
use Rattle.idl_laws.specs.Counts.{enum_number, service_number}
use Rattle.idl_laws.specs.Declared.{AreFields, AreMethods, AreResults, HasAll, HasDeclared, HasDefinition, HasEnum, HasService, IsBase}
use Rattle.idl_laws.specs.Denoted.{IsTypeOf}
use Rattle.idl_laws.proofs.Firsts.{First}
use Rattle.idl_laws.proofs.Lawful.{none_refused, none_when}
use Rattle.idl_laws.proofs.Meant.{type_is}
use Rattle.idl_laws.proofs.Numbered.{enum_counts, service_counts, struct_counts}
use Rattle.idl_laws.proofs.Placed.{meaning_found}
use Rattle.idl_laws.proofs.Runs.{IsRun, in_right, none_of_both, run_at, run_first, run_left, run_rest, run_right}
use Rattle.idl_laws.proofs.Standing.{all_shares, enums_stand, services_stand, structs_stand, types_stand}

module _ (files : List FileTree) (told : List (List Cycle)) (cycles_are : TellsCycles files told) (clean : first_refusal files told ≡ None) (d : Declarations) (whole : d ≡ declarations_of files) where
  pub all_types : d.types ≡ (all_shares files).types
  unfolding declarations_of
  all_types = ap (λ (x : Declarations). x.types) whole

  pub all_structs : d.structs ≡ failure_struct ∷ (all_shares files).structs
  unfolding declarations_of
  all_structs = ap (λ (x : Declarations). x.structs) whole

  all_enums : d.enums ≡ (all_shares files).enums
  unfolding declarations_of
  all_enums = ap (λ (x : Declarations). x.enums) whole

  pub all_services : d.services ≡ (all_shares files).services
  unfolding declarations_of
  all_services = ap (λ (x : Declarations). x.services) whole

  pub a_type : (file base : ℕ) (tree : TypeTree) → type_refusals files file tree ≡ [] → IsRun d.types base (part_types (ty_in files file) base tree) → IsTypeOf files d.types file tree (ty_in files file base tree)
  a_type file base tree named run = type_is files told cycles_are clean d.types all_types file base tree named run

  pub are_fields : (file before base : ℕ) (fs : List FieldTree) → fields_refusals files file fs ≡ [] → IsRun d.types base (fields_types (ty_in files file) base fs) →
      AreFields files d.types file before fs (fields_from (ty_in files file) before base fs)
  are_fields file before base [] named run = tt
  are_fields file before base (f ∷ fs) named run =
      let clear = none_of_both (type_refusals files file f.ty) (fields_refusals files file fs) named in
      let ty = ty_in files file in
      let here = part_types ty base f.ty in
      let rest = fields_types ty (base + parts f.ty) fs in (
        record { id = refl; name = refl; ty = a_type file base f.ty clear.0 (run_left d.types base here rest run); need = refl },
        are_fields file (counted before f.id) (base + parts f.ty) fs clear.1 (run_right d.types base (parts f.ty) here rest (parts_length ty base f.ty) run),
      )

  pub clear_throws : (file : ℕ) (fs : List FieldTree) → throws_refusals files told file fs ≡ [] → fields_refusals files file fs ≡ []
  clear_throws file [] e = refl
  clear_throws file (f ∷ fs) e =
      let rest = none_of_both (type_refusals files file f.ty ++ thrown_refusals files told file f.ty) (throws_refusals files told file fs) e in
      let here = none_of_both (type_refusals files file f.ty) (thrown_refusals files told file f.ty) rest.0 in
      ap (λ xs. xs ++ fields_refusals files file fs) here.0 ∙ clear_throws file fs rest.1

  pub are_results : (file base : ℕ) (returns : Option TypeTree) (throws : List FieldTree) → returned_refusals files file returns ≡ [] → throws_refusals files told file throws ≡ [] →
      IsRun d.types base (returns_types (ty_in files file) base returns ++ fields_types (ty_in files file) (base + returns_parts returns) throws) →
      AreResults files d.types file returns throws (success (ty_in files file) base returns ++ fields_from (ty_in files file) 0 (base + returns_parts returns) throws)
  are_results file base None throws named thrown run =
      are_fields file 0 (base + 0) throws (clear_throws file throws thrown)
      (run_right d.types base 0 [] (fields_types (ty_in files file) (base + 0) throws) refl run)
  are_results file base (Some ty) throws named thrown run =
      let types = ty_in files file in
      let here = part_types types base ty in
      let rest = fields_types types (base + parts ty) throws in (
        record { id = refl; name = refl; ty = a_type file base ty named (run_left d.types base here rest run); need = refl },
        are_fields file 0 (base + parts ty) throws (clear_throws file throws thrown) (run_right d.types base (parts ty) here rest (parts_length types base ty) run),
      )

  pub both_length : (file base : ℕ) (f : FunctionTree) → length (fields_types (ty_in files file) base f.args ++ result_types (ty_in files file) (base + fields_parts f.args) f) ≡ method_parts f
  both_length file base f =
      let a = fields_length (ty_in files file) base f.args in
      let b = result_length (ty_in files file) (base + fields_parts f.args) f in
      let c = length-append (fields_types (ty_in files file) base f.args) (result_types (ty_in files file) (base + fields_parts f.args) f) in
      omega (arith, a, b, c)

  are_methods : (file n base : ℕ) (fs : List FunctionTree) → functions_refusals files told file fs ≡ [] → IsRun d.types base (methods_types (ty_in files file) base fs) →
      IsRun d.structs n (methods_structs (ty_in files file) base fs) → AreMethods files d file fs (methods_from n fs)
  are_methods file n base [] named run stand = tt
  are_methods file n base (f ∷ fs) named run stand =
      let ty = ty_in files file in
      let clear = none_of_both (function_refusals files told file f) (functions_refusals files told file fs) named in
      let thrown = none_of_both (returned_refusals files file f.returns ++ fields_refusals files file f.args) (throws_refusals files told file f.throws) clear.0 in
      let returned = none_of_both (returned_refusals files file f.returns) (fields_refusals files file f.args) thrown.0 in
      let args_types = fields_types ty base f.args in
      let behind = base + fields_parts f.args in
      let results = result_types ty behind f in
      let last = methods_types ty (base + method_parts f) fs in
      let mine = run_left d.types base (args_types ++ results) last run in
      let args_run = run_left d.types base args_types results mine in
      let results_run = run_right d.types base (fields_parts f.args) args_types results (fields_length ty base f.args) mine in
      let count : length (args_types ++ results) ≡ method_parts f = both_length file base f in
      let last_run = run_right d.types base (method_parts f) (args_types ++ results) last count run in
      let args = args_struct ty base f in
      let result = result_struct ty behind f in
      let more = methods_structs ty (base + method_parts f) fs in
      let second = run_rest d.structs n args (result ∷ more) stand in
      let two : n + 1 + 1 ≡ n + 2 = omega arith in
      let others = run_at d.structs more (n + 1 + 1) (n + 2) two (run_rest d.structs (n + 1) result more second) in (
        record {
          named = refl;
          args = (args, run_first d.structs n args (result ∷ more) stand, refl, are_fields file 0 base f.args returned.1 args_run);
          result = (result, run_first d.structs (n + 1) result more second, refl, are_results file behind f.returns f.throws returned.0 thrown.1 results_run);
          oneway = refl;
        },
        are_methods file (n + 2) (base + method_parts f) fs clear.1 last_run others,
      )

  structs_run : (spot : Spot) (x : DefinitionTree) (m : First) (zs : List StructDecl) (k : ℕ) → m.structs ≡ 1 + k → IsRun (all_shares files).structs k zs → IsRun d.structs m.structs zs
  structs_run spot x m zs k at run =
      subst (λ (w : List StructDecl). IsRun w m.structs zs) (sym all_structs)
      (run_at (failure_struct ∷ (all_shares files).structs) zs (1 + k) m.structs (sym at) (in_right (failure_struct ∷ []) (all_shares files).structs zs k run))

  pub struct_declared : (spot : Spot) (kin : Kin) (name : Name) (fields : List FieldTree) → definition_at files spot ≡ Some (struct_of kin name fields) → HasDeclared files d spot kin fields
  struct_declared spot kin name fields e =
      let x = struct_of kin name fields in
      let m = numbered files spot x e in
      let n = m.0 in
      let there = structs_stand files spot x n e m.1 in
      let decl : StructDecl = record { form = form_of kin; fields = fields_from (ty_in files spot.file) 0 n.types fields } in
      let run = structs_run spot x n (decl ∷ []) there.0 there.1 there.2 in
      let types = subst (λ (w : List Ty). IsRun w n.types (fields_types (ty_in files spot.file) n.types fields)) (sym all_types) (types_stand files spot x n e m.1) in (
        decl,
        subst (λ (k : ℕ). slice_get d.structs k ≡ Some decl) (struct_counts files spot n m.1) (run_first d.structs n.structs decl [] run),
        refl,
        are_fields spot.file 0 n.types fields (none_refused files told clean spot x e) types,
      )

  pub enum_declared : (spot : Spot) (name : Name) (members : List Member) → definition_at files spot ≡ Some (enum_of name members) → HasEnum files d spot members
  enum_declared spot name members e =
      let x = enum_of name members in
      let m = numbered files spot x e in
      let n = m.0 in
      let values = map (λ v. v.1) (member_values members) in
      let there = run_first (all_shares files).enums n.enums values [] (enums_stand files spot x n e m.1) in
      ap (λ w. slice_get w (enum_number files spot)) all_enums
      ∙ subst (λ (k : ℕ). slice_get (all_shares files).enums k ≡ Some values) (enum_counts files spot n m.1) there

  is_base : (file : ℕ) (base : Option Name) → base_refusals files file base ≡ [] → IsBase files d file base (base_of files file base)
  unfolding base_of
  is_base file None e = refl
  is_base file (Some name) e = by (meaning files file scopes.Services name.text) refl (none_when (not (is_some (meaning files file scopes.Services name.text))) name.at _ e)
    where
      by : (o : Option Spot) → meaning files file scopes.Services name.text ≡ o → not (is_some (meaning files file scopes.Services name.text)) ≡ false → IsBase files d file (Some name) (base_at files (meaning files file scopes.Services name.text))
      by None is h = let no : true ≡ false = ap (λ (o : Option Spot). not (is_some o)) (sym is) ∙ h in absurd (cc)
      by (Some spot) is h =
          let there = meaning_found files scopes.Services file name.text spot is in
          let m = numbered files spot there.0 there.1 in
          let n = m.0 in (
            spot,
            is,
            ap (base_at files) is ∙ ap service_at m.1 ∙ ap (λ (k : ℕ). Some (number k)) (service_counts files spot n m.1),
          )

  pub service_declared : (spot : Spot) (name : Name) (base : Option Name) (functions : List FunctionTree) → definition_at files spot ≡ Some (service_of name base functions) → HasService files d spot base functions
  service_declared spot name base functions e =
      let x = service_of name base functions in
      let m = numbered files spot x e in
      let n = m.0 in
      let clear = none_of_both (base_refusals files spot.file base ++ functions_refusals files told spot.file functions) (cycle_refusals told spot name rows.ServiceCycle) (none_refused files told clean spot x e) in
      let named = none_of_both (base_refusals files spot.file base) (functions_refusals files told spot.file functions) clear.0 in
      let there = structs_stand files spot x n e m.1 in
      let structs = structs_run spot x n (methods_structs (ty_in files spot.file) n.types functions) there.0 there.1 there.2 in
      let types = subst (λ (w : List Ty). IsRun w n.types (methods_types (ty_in files spot.file) n.types functions)) (sym all_types) (types_stand files spot x n e m.1) in
      let decl : ServiceDecl = record { base = base_of files spot.file base; methods = methods_from n.structs functions } in
      let at = run_first (all_shares files).services n.services decl [] (services_stand files spot x n e m.1) in
      record {
        service = decl;
        stands = ap (λ w. slice_get w (service_number files spot)) all_services ∙ subst (λ (k : ℕ). slice_get (all_shares files).services k ≡ Some decl) (service_counts files spot n m.1) at;
        extends = is_base spot.file base named.0;
        methods = are_methods spot.file n.structs n.types functions named.1 types structs;
      }

  pub definition_declared : (spot : Spot) (x : DefinitionTree) → definition_at files spot ≡ Some x → HasDefinition files d spot x
  definition_declared spot (const_of name ty value) e = tt
  definition_declared spot (typedef_of name ty) e = tt
  definition_declared spot (enum_of name members) e = enum_declared spot name members e
  definition_declared spot (struct_of kin name fields) e = struct_declared spot kin name fields e
  definition_declared spot (service_of name base functions) e = service_declared spot name base functions e

pub all_declared : (files : List FileTree) (schema : Declarations) → Resolved files schema → HasAll files schema
all_declared files schema r spot x e = definition_declared files r.lawful.0 r.lawful.1.0 r.lawful.1.1 schema r.means spot x e
