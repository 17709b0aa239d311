-- Of files in which nothing is refused each number in the tables is one of theirs.
use Rattle.std.proofs.Common.{◌≡◌, ◌∙◌, ap, sym, subst, refl, ℕ, zero, suc, ◌+◌, ◌<◌, List, [], ◌∷◌, ◌++◌, All, length, slice_get, Option, Some, None, true, arith}
use Rattle.idl_document.specs.declared.document.BaseWord.{BaseWord}
use Rattle.idl_document.specs.declared.document.BaseWord.TheVariants as words
use Rattle.idl_document.specs.declared.document.Name.{Name}
use Rattle.idl_document.specs.Trees.{DefinitionTree, const_of, typedef_of, enum_of, struct_of, service_of, FieldTree, FunctionTree, TypeTree}
use Rattle.idl_rules.specs.declared.row.IdlRow.TheVariants as rows
use Rattle.idl_rules.specs.declared.scopes.Scope.TheVariants as scopes
use Rattle.idl_rules.specs.Ids.{counted}
use Rattle.idl_names.specs.declared.cycles.Cycle.{Cycle}
use Rattle.idl_names.specs.declared.documents.Spot.{Spot}
use Rattle.idl_names.specs.Cycles.{TellsCycles}
use Rattle.idl_names.specs.Files.{FileTree}
use Rattle.idl_names.specs.Meaning.{declares, spot_at}
use Rattle.idl_names.specs.Refusals.{base_refusals, cycle_refusals, fields_refusals, function_refusals, functions_refusals, returned_refusals, throws_refusals}
use Rattle.idl_names.specs.Targets.{definition_at}
use Rattle.type_tables.specs.declared.declared.FieldInfo.{FieldInfo}
use Rattle.type_tables.specs.declared.declared.MethodInfo.{MethodInfo}
use Rattle.type_tables.specs.declared.declared.ServiceId.{ServiceId}
use Rattle.type_tables.specs.declared.declared.Ty.{Ty}
use Rattle.type_tables.specs.declared.services.ServiceDecl.{ServiceDecl}
use Rattle.type_tables.specs.declared.tables.StructDecl.{StructDecl}
use Rattle.type_tables.specs.Declarations.{Declarations}
use Rattle.type_tables.specs.Known.{failure_struct, IsClosed, IsKnown, IsKnownBase, IsKnownMethod, KnowsMethods}
use Rattle.idl_schema.specs.Fields.{fields_from, fields_types}
use Rattle.idl_schema.specs.Methods.{args_struct, methods_from, methods_structs, methods_types, result_struct, result_types}
use Rattle.idl_schema.specs.Numbers.{fields_parts, first_of, method_parts, numbers_of, start}
use Rattle.idl_schema.specs.Schema.{declarations_of}
use Rattle.idl_schema.specs.Shares.{base_of, share}
use Rattle.idl_schema.specs.Types.{base_ty, ty_in}
use Rattle.idl_schema.proofs.Counting.{fields_length}
use Rattle.idl_resolve.specs.Refused.{first_refusal}
use Rattle.idl_laws.specs.Counts.{enum_number, service_number, struct_number}
use Rattle.idl_laws.specs.Declared.{AreFields, AreMethods, AreResults, HasAll, HasService, IsBase}
use Rattle.idl_laws.specs.Denoted.{Denotes, IsTypeOf}
use Rattle.idl_laws.specs.TypeMeanings.{TypeMeaning, base_type, enum_at, struct_at, map_of, set_of, list_of, TypeOf, a_base, a_map, a_set, a_list, an_enum, a_struct, a_typedef}
use Rattle.idl_laws.proofs.Everywhere.{Each, each_none, each_more, files_each}
use Rattle.idl_laws.proofs.Firsts.{First}
use Rattle.idl_laws.proofs.Lawful.{none_refused}
use Rattle.idl_laws.proofs.Numbered.{service_counts}
use Rattle.idl_laws.proofs.PartsMeant.{types_meant}
use Rattle.idl_laws.proofs.Placed.{meaning_found}
use Rattle.idl_laws.proofs.Runs.{IsRun, none_of_both, run_first, run_left, run_right}
use Rattle.idl_laws.proofs.Standing.{all_shares, services_stand, types_stand}
use Rattle.idl_laws.proofs.Tables.{all_services, all_structs, all_types, are_fields, are_results, both_length, definition_declared}

within : {X : Type 0} (xs : List X) (k : ℕ) (x : X) → slice_get xs k ≡ Some x → k < length xs
within [] k x e = absurd (cc)
within (y ∷ xs) zero x e = omega arith
within (y ∷ xs) (suc k) x e = let rest = within xs k x e in omega (arith, rest)

-- by places
by_places : {X : Type 0} (P : X → Type 0) (xs : List X) → Each P xs → All P xs
by_places P [] all k d h = absurd (omega arith)
by_places P (x ∷ xs) all zero d h = all 0 x refl
by_places P (x ∷ xs) all (suc k) d h = by_places P xs (λ i y e. all (suc i) y e) k d (omega arith)

base_known : (d : Declarations) (word : BaseWord) → IsKnown d (base_ty word)
base_known d words.Bool = tt
base_known d words.I8 = tt
base_known d words.I16 = tt
base_known d words.I32 = tt
base_known d words.I64 = tt
base_known d words.Double = tt
base_known d words.Text = tt
base_known d words.Blob = tt
base_known d words.Uuid = tt

module _ (files : List FileTree) (d : Declarations) (all : HasAll files d) where
  -- what a type means is declared there
  abbrev IsThere : TypeMeaning → Type 0
  IsThere (base_type word) = Unit {0}
  IsThere (enum_at spot) = enum_number files spot < length d.enums
  IsThere (struct_at spot) = struct_number files spot < length d.structs
  IsThere (map_of k v) = Unit {0}
  IsThere (set_of e) = Unit {0}
  IsThere (list_of e) = Unit {0}

  there : (file : ℕ) (tree : TypeTree) (m : TypeMeaning) → TypeOf files file tree m → IsThere m
  there _ _ _ (a_base file at word) = tt
  there _ _ _ (a_map file at key value k v x y) = tt
  there _ _ _ (a_set file at element e x) = tt
  there _ _ _ (a_list file at element e x) = tt
  there _ _ _ (an_enum file at word spot name members n) = within d.enums (enum_number files spot) _ (all spot (enum_of name members) n.declared)
  there _ _ _ (a_struct file at word spot kin name fields n) = let has = all spot (struct_of kin name fields) n.declared in within d.structs (struct_number files spot) has.0 has.1
  there _ _ _ (a_typedef file at word spot name ty m n x) = there spot.file ty m x

  known : (ty : Ty) (m : TypeMeaning) → IsThere m → Denotes files d.types ty m → IsKnown d ty
  known ty (base_type word) h e = subst (IsKnown d) (sym e) (base_known d word)
  known ty (enum_at spot) h e = subst (IsKnown d) (sym e) h
  known ty (struct_at spot) h e = subst (IsKnown d) (sym e) h
  known ty (map_of k v) h e = subst (IsKnown d) (sym e.2) (within d.types (e.0).0 (e.3).0 (e.3).1, within d.types (e.1).0 (e.4).0 (e.4).1)
  known ty (set_of m) h e = subst (IsKnown d) (sym e.1) (within d.types (e.0).0 (e.2).0 (e.2).1)
  known ty (list_of m) h e = subst (IsKnown d) (sym e.1) (within d.types (e.0).0 (e.2).0 (e.2).1)

  type_known : (file : ℕ) (tree : TypeTree) (ty : Ty) → IsTypeOf files d.types file tree ty → IsKnown d ty
  type_known file tree ty t = known ty t.meaning (there file tree t.meaning t.means) t.denotes

  abbrev IsKnownField : FieldInfo → Type 0
  IsKnownField f = IsKnown d f.ty

  fields_known : (file before : ℕ) (fs : List FieldTree) (is : List FieldInfo) → AreFields files d.types file before fs is → Each IsKnownField is
  fields_known file before [] [] are = each_none IsKnownField
  fields_known file before [] (i ∷ is) are = absurd are
  fields_known file before (f ∷ fs) [] are = absurd are
  fields_known file before (f ∷ fs) (i ∷ is) are =
      each_more IsKnownField i is (type_known file f.ty i.ty (are.0).ty) (fields_known file (counted before f.id) fs is are.1)

  results_known : (file : ℕ) (returns : Option TypeTree) (throws : List FieldTree) (is : List FieldInfo) → AreResults files d.types file returns throws is → Each IsKnownField is
  results_known file None throws is are = fields_known file 0 throws is are
  results_known file (Some tree) throws [] are = absurd are
  results_known file (Some tree) throws (i ∷ is) are = each_more IsKnownField i is (type_known file tree i.ty (are.0).ty) (fields_known file 0 throws is are.1)

  abbrev IsKnownStruct : StructDecl → Type 0
  IsKnownStruct s = All IsKnownField s.fields

  methods_known : (file : ℕ) (fs : List FunctionTree) (ms : List (List ℕ × MethodInfo)) → AreMethods files d file fs ms → Each (λ (m : List ℕ × MethodInfo). IsKnownMethod d m.1) ms
  methods_known file [] [] are = each_none (λ (m : List ℕ × MethodInfo). IsKnownMethod d m.1)
  methods_known file [] (m ∷ ms) are = absurd are
  methods_known file (f ∷ fs) [] are = absurd are
  methods_known file (f ∷ fs) (m ∷ ms) are =
      let args = (are.0).args in
      let result = (are.0).result in
      each_more (λ (m : List ℕ × MethodInfo). IsKnownMethod d m.1) m ms (within d.structs (m.1).args.0 args.0 args.1, within d.structs (m.1).result.0 result.0 result.1)
      (methods_known file fs ms are.1)

  service_there : (spot : Spot) (o : DefinitionTree) (other : List ℕ) → definition_at files spot ≡ Some o → declares scopes.Services other o ≡ true → service_number files spot < length d.services
  service_there spot (const_of name ty value) other e is = absurd (cc)
  service_there spot (typedef_of name ty) other e is = absurd (cc)
  service_there spot (enum_of name members) other e is = absurd (cc)
  service_there spot (struct_of kin name fields) other e is = absurd (cc)
  service_there spot (service_of name base functions) other e is =
      let has : HasService files d spot base functions = all spot (service_of name base functions) e in
      within d.services (service_number files spot) has.service has.stands

  base_is_known : (file : ℕ) (name : Option Name) (base : Option ServiceId) → IsBase files d file name base → IsKnownBase d base
  base_is_known file None base is = subst (IsKnownBase d) (sym is) tt
  base_is_known file (Some name) base is =
      let found = meaning_found files scopes.Services file name.text is.0 is.1 in
      subst (IsKnownBase d) (sym is.2) (service_there is.0 found.0 found.2.0 found.1 found.2.1)

  abbrev IsKnownService : ServiceDecl → Type 0
  IsKnownService s = KnowsMethods d s.methods × IsKnownBase d s.base

  service_known : (spot : Spot) (base : Option Name) (functions : List FunctionTree) → (has : HasService files d spot base functions) → IsKnownService has.service
  service_known spot base functions has = (
    by_places (λ (m : List ℕ × MethodInfo). IsKnownMethod d m.1) (has.service).methods (methods_known spot.file functions (has.service).methods has.methods),
    base_is_known spot.file base (has.service).base has.extends,
  )

module _ (files : List FileTree) (told : List (List Cycle)) (cycles_are : TellsCycles files told) (clean : first_refusal files told ≡ None) (d : Declarations) (whole : d ≡ declarations_of files) where
  all_there : HasAll files d
  all_there spot x e = definition_declared files told cycles_are clean d whole spot x e

  types_known : Each (IsKnown d) d.types
  types_known place ty e =
      let meant = types_meant files told cycles_are clean d whole place ty e in
      type_known files d all_there meant.0 meant.1 ty meant.2

  abbrev IsStruct : StructDecl → Type 0
  IsStruct s = All (λ (f : FieldInfo). IsKnown d f.ty) s.fields

  fields_struct : (file before base : ℕ) (fs : List FieldTree) → fields_refusals files file fs ≡ [] → IsRun d.types base (fields_types (ty_in files file) base fs) →
      All (λ (f : FieldInfo). IsKnown d f.ty) (fields_from (ty_in files file) before base fs)
  fields_struct file before base fs named run =
      let fields = fields_from (ty_in files file) before base fs in
      by_places (λ (f : FieldInfo). IsKnown d f.ty) fields (fields_known files d all_there file before fs fields (are_fields files told cycles_are clean d whole file before base fs named run))

  methods_struct : (file base : ℕ) (fs : List FunctionTree) → functions_refusals files told file fs ≡ [] → IsRun d.types base (methods_types (ty_in files file) base fs) → Each IsStruct (methods_structs (ty_in files file) base fs)
  methods_struct file base [] named run = each_none IsStruct
  methods_struct file base (f ∷ fs) named run =
      let ty = ty_in files file in
      let clear = none_of_both (function_refusals files told file f) (functions_refusals files told file fs) named in
      let thrown = none_of_both (returned_refusals files file f.returns ++ fields_refusals files file f.args) (throws_refusals files told file f.throws) clear.0 in
      let returned = none_of_both (returned_refusals files file f.returns) (fields_refusals files file f.args) thrown.0 in
      let args = fields_types ty base f.args in
      let behind = base + fields_parts f.args in
      let results = result_types ty behind f in
      let last = methods_types ty (base + method_parts f) fs in
      let mine = run_left d.types base (args ++ results) last run in
      let args_run = run_left d.types base args results mine in
      let results_run = run_right d.types base (fields_parts f.args) args results (fields_length ty base f.args) mine in
      let last_run = run_right d.types base (method_parts f) (args ++ results) last (both_length files told cycles_are clean d whole file base f) run in
      let result = result_struct ty behind f in
      let result_is = are_results files told cycles_are clean d whole file behind f.returns f.throws returned.0 thrown.1 results_run in
      each_more IsStruct (args_struct ty base f) (result ∷ methods_structs ty (base + method_parts f) fs) (fields_struct file 0 base f.args returned.1 args_run)
      (each_more IsStruct result (methods_structs ty (base + method_parts f) fs)
      (by_places (λ (f : FieldInfo). IsKnown d f.ty) result.fields (results_known files d all_there file f.returns f.throws result.fields result_is))
      (methods_struct file (base + method_parts f) fs clear.1 last_run))

  definition_structs : (spot : Spot) (x : DefinitionTree) (m : First) → definition_at files spot ≡ Some x → first_of files spot ≡ Some m → Each IsStruct (share files spot.file m x).structs
  definition_structs spot x m e f = by x e (subst (λ (w : List Ty). IsRun w m.types (share files spot.file m x).types) (sym (all_types files told cycles_are clean d whole)) (types_stand files spot x m e f))
    where
      by : (x : DefinitionTree) → definition_at files spot ≡ Some x → IsRun d.types m.types (share files spot.file m x).types → Each IsStruct (share files spot.file m x).structs
      by (const_of name ty value) e run = each_none IsStruct
      by (typedef_of name ty) e run = each_none IsStruct
      by (enum_of name members) e run = each_none IsStruct
      by (struct_of kin name fields) e run =
          each_more IsStruct _ [] (fields_struct spot.file 0 m.types fields (none_refused files told clean spot (struct_of kin name fields) e) run) (each_none IsStruct)
      by (service_of name base functions) e run =
          let all = none_refused files told clean spot (service_of name base functions) e in
          let clear = none_of_both (base_refusals files spot.file base ++ functions_refusals files told spot.file functions) (cycle_refusals told spot name rows.ServiceCycle) all in
          methods_struct spot.file m.types functions (none_of_both (base_refusals files spot.file base) (functions_refusals files told spot.file functions) clear.0).1 run

  abbrev IsService : ServiceDecl → Type 0
  IsService s = KnowsMethods d s.methods × IsKnownBase d s.base

  definition_services : (spot : Spot) (x : DefinitionTree) (m : First) → definition_at files spot ≡ Some x → first_of files spot ≡ Some m → Each IsService (share files spot.file m x).services
  definition_services spot (const_of name ty value) m e f = each_none IsService
  definition_services spot (typedef_of name ty) m e f = each_none IsService
  definition_services spot (enum_of name members) m e f = each_none IsService
  definition_services spot (struct_of kin name fields) m e f = each_none IsService
  definition_services spot (service_of name base functions) m e f = each_more IsService decl [] (subst IsService same (service_known files d all_there spot base functions has)) (each_none IsService)
    where
      has : HasService files d spot base functions
      has = all_there spot (service_of name base functions) e

      decl : ServiceDecl
      decl = record { base = base_of files spot.file base; methods = methods_from m.structs functions }

      at : slice_get d.services m.services ≡ Some decl
      at =
          ap (λ (w : List ServiceDecl). slice_get w m.services) (all_services files told cycles_are clean d whole)
          ∙ run_first (all_shares files).services m.services decl [] (services_stand files spot (service_of name base functions) m e f)

      same : has.service ≡ decl
      same =
          let two : Some has.service ≡ Some decl = sym has.stands ∙ sym (ap (λ (k : ℕ). slice_get d.services k) (service_counts files spot m f)) ∙ at in
          cc

  here : (k : ℕ) → k ≡ 0 + k
  here k = omega arith

  structs_each : Each IsStruct (all_shares files).structs
  unfolding numbers_of
  structs_each = files_each (λ s. s.structs) (λ s t. refl) refl files IsStruct 0 start files (λ k j x m e f. subst (λ (p : ℕ). Each IsStruct (share files p m x).structs) (here k) (definition_structs (spot_at k j) x m e f))

  services_each : Each IsService (all_shares files).services
  unfolding numbers_of
  services_each = files_each (λ s. s.services) (λ s t. refl) refl files IsService 0 start files (λ k j x m e f. subst (λ (p : ℕ). Each IsService (share files p m x).services) (here k) (definition_services (spot_at k j) x m e f))

  failure_known : IsStruct failure_struct
  failure_known zero f h = tt
  failure_known (suc zero) f h = tt
  failure_known (suc (suc k)) f h = absurd (omega arith)

  pub closed : IsClosed d
  closed =
      let services = subst (Each IsService) (sym (all_services files told cycles_are clean d whole)) services_each in
      record {
        types = by_places (IsKnown d) d.types types_known;
        fields = by_places IsStruct d.structs (subst (Each IsStruct) (sym (all_structs files told cycles_are clean d whole)) (each_more IsStruct failure_struct (all_shares files).structs failure_known structs_each));
        methods = by_places (λ (s : ServiceDecl). KnowsMethods d s.methods) d.services (λ i s e. (services i s e).0);
        bases = by_places (λ (s : ServiceDecl). IsKnownBase d s.base) d.services (λ i s e. (services i s e).1);
      }
