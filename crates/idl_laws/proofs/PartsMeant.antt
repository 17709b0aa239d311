-- Each part of a type in the tables is what a type expression means.
use Rattle.std.proofs.Common.{◌≡◌, sym, subst, refl, ℕ, ◌+◌, List, [], ◌∷◌, ◌++◌, slice_get, Option, Some, None, arith}
use Rattle.idl_document.specs.Trees.{DefinitionTree, const_of, typedef_of, enum_of, struct_of, service_of, FieldTree, FunctionTree, TypeTree, base_at, named_at, map_at, set_at, list_at}
use Rattle.idl_rules.specs.declared.row.IdlRow.TheVariants as rows
use Rattle.idl_names.specs.declared.cycles.Cycle.{Cycle}
use Rattle.idl_names.specs.declared.documents.Spot.{Spot}
use Rattle.idl_names.specs.Cycles.{TellsCycles}
use Rattle.idl_names.specs.Files.{FileTree}
use Rattle.idl_names.specs.Meaning.{spot_at}
use Rattle.idl_names.specs.Refusals.{base_refusals, cycle_refusals, fields_refusals, function_refusals, functions_refusals, returned_refusals, throws_refusals, type_refusals}
use Rattle.idl_names.specs.Targets.{definition_at}
use Rattle.type_tables.specs.declared.declared.Ty.{Ty}
use Rattle.type_tables.specs.Declarations.{Declarations}
use Rattle.idl_schema.specs.Fields.{fields_types, returns_types}
use Rattle.idl_schema.specs.Methods.{methods_types, result_types}
use Rattle.idl_schema.specs.Numbers.{fields_parts, first_of, method_parts, numbers_of, parts, returns_parts, start}
use Rattle.idl_schema.specs.Schema.{declarations_of}
use Rattle.idl_schema.specs.Shares.{share}
use Rattle.idl_schema.specs.Types.{part_types, ty_in}
use Rattle.idl_schema.proofs.Counting.{fields_length, parts_length, returns_length}
use Rattle.idl_resolve.specs.Loads.{Resolved}
use Rattle.idl_resolve.specs.Refused.{first_refusal}
use Rattle.idl_laws.specs.Declared.{ArePartsMeant}
use Rattle.idl_laws.specs.Denoted.{IsTypeOf}
use Rattle.idl_laws.proofs.Everywhere.{Each, each_none, each_more, each_both, files_each}
use Rattle.idl_laws.proofs.Firsts.{First}
use Rattle.idl_laws.proofs.Lawful.{none_refused, typedef_ends}
use Rattle.idl_laws.proofs.Runs.{IsRun, none_of_both, run_at, run_left, run_rest, run_right}
use Rattle.idl_laws.proofs.Standing.{all_shares, types_stand}
use Rattle.idl_laws.proofs.Tables.{a_type, all_types, both_length, clear_throws}

module _ (files : List FileTree) (told : List (List Cycle)) (cycles_are : TellsCycles files told) (clean : first_refusal files told ≡ None) (d : Declarations) (whole : d ≡ declarations_of files) where
  abbrev IsMeant : Ty → Type 0
  IsMeant ty = (file : ℕ) × (tree : TypeTree) × IsTypeOf files d.types file tree ty

  one_type : (file base : ℕ) (tree : TypeTree) → type_refusals files file tree ≡ [] → IsRun d.types base (part_types (ty_in files file) base tree) → IsMeant (ty_in files file base tree)
  one_type file base tree named run = (file, tree, a_type files told cycles_are clean d whole file base tree named run)

  parts_meant : (file base : ℕ) (tree : TypeTree) → type_refusals files file tree ≡ [] → IsRun d.types base (part_types (ty_in files file) base tree) → Each IsMeant (part_types (ty_in files file) base tree)
  parts_meant file base (base_at at word) named run = each_none IsMeant
  parts_meant file base (named_at at word) named run = each_none IsMeant
  parts_meant file base (map_at at key value) named run =
      let ty = ty_in files file in
      let clear = none_of_both (type_refusals files file key) (type_refusals files file value) named in
      let key_ty = ty (base + 2) key in
      let value_ty = ty (base + 2 + parts key) value in
      let key_parts = part_types ty (base + 2) key in
      let value_parts = part_types ty (base + 2 + parts key) value in
      let second = run_rest d.types base key_ty (value_ty ∷ (key_parts ++ value_parts)) run in
      let two : base + 1 + 1 ≡ base + 2 = omega arith in
      let inner = run_at d.types (key_parts ++ value_parts) (base + 1 + 1) (base + 2) two (run_rest d.types (base + 1) value_ty (key_parts ++ value_parts) second) in
      let left = run_left d.types (base + 2) key_parts value_parts inner in
      let right = run_right d.types (base + 2) (parts key) key_parts value_parts (parts_length ty (base + 2) key) inner in
      each_more IsMeant key_ty (value_ty ∷ (key_parts ++ value_parts)) (one_type file (base + 2) key clear.0 left)
      (each_more IsMeant value_ty (key_parts ++ value_parts) (one_type file (base + 2 + parts key) value clear.1 right)
      (each_both IsMeant key_parts value_parts (parts_meant file (base + 2) key clear.0 left) (parts_meant file (base + 2 + parts key) value clear.1 right)))
  parts_meant file base (set_at at element) named run =
      let ty = ty_in files file in
      let inner = run_rest d.types base (ty (base + 1) element) (part_types ty (base + 1) element) run in
      each_more IsMeant (ty (base + 1) element) (part_types ty (base + 1) element) (one_type file (base + 1) element named inner) (parts_meant file (base + 1) element named inner)
  parts_meant file base (list_at at element) named run =
      let ty = ty_in files file in
      let inner = run_rest d.types base (ty (base + 1) element) (part_types ty (base + 1) element) run in
      each_more IsMeant (ty (base + 1) element) (part_types ty (base + 1) element) (one_type file (base + 1) element named inner) (parts_meant file (base + 1) element named inner)

  fields_meant : (file base : ℕ) (fs : List FieldTree) → fields_refusals files file fs ≡ [] → IsRun d.types base (fields_types (ty_in files file) base fs) → Each IsMeant (fields_types (ty_in files file) base fs)
  fields_meant file base [] named run = each_none IsMeant
  fields_meant file base (f ∷ fs) named run =
      let clear = none_of_both (type_refusals files file f.ty) (fields_refusals files file fs) named in
      let ty = ty_in files file in
      let here = part_types ty base f.ty in
      let rest = fields_types ty (base + parts f.ty) fs in
      each_both IsMeant here rest (parts_meant file base f.ty clear.0 (run_left d.types base here rest run))
      (fields_meant file (base + parts f.ty) fs clear.1 (run_right d.types base (parts f.ty) here rest (parts_length ty base f.ty) run))

  returns_meant : (file base : ℕ) (returns : Option TypeTree) → returned_refusals files file returns ≡ [] → IsRun d.types base (returns_types (ty_in files file) base returns) →
      Each IsMeant (returns_types (ty_in files file) base returns)
  returns_meant file base None named run = each_none IsMeant
  returns_meant file base (Some tree) named run = parts_meant file base tree named run

  methods_meant : (file base : ℕ) (fs : List FunctionTree) → functions_refusals files told file fs ≡ [] → IsRun d.types base (methods_types (ty_in files file) base fs) → Each IsMeant (methods_types (ty_in files file) base fs)
  methods_meant file base [] named run = each_none IsMeant
  methods_meant file base (f ∷ fs) named run =
      let ty = ty_in files file in
      let clear = none_of_both (function_refusals files told file f) (functions_refusals files told file fs) named in
      let thrown = none_of_both (returned_refusals files file f.returns ++ fields_refusals files file f.args) (throws_refusals files told file f.throws) clear.0 in
      let returned = none_of_both (returned_refusals files file f.returns) (fields_refusals files file f.args) thrown.0 in
      let args = fields_types ty base f.args in
      let behind = base + fields_parts f.args in
      let success = returns_types ty behind f.returns in
      let throws = fields_types ty (behind + returns_parts f.returns) f.throws in
      let results = result_types ty behind f in
      let last = methods_types ty (base + method_parts f) fs in
      let mine = run_left d.types base (args ++ results) last run in
      let args_run = run_left d.types base args results mine in
      let results_run = run_right d.types base (fields_parts f.args) args results (fields_length ty base f.args) mine in
      let last_run = run_right d.types base (method_parts f) (args ++ results) last (both_length files told cycles_are clean d whole file base f) run in
      let success_run = run_left d.types behind success throws results_run in
      let throws_run = run_right d.types behind (returns_parts f.returns) success throws (returns_length ty behind f.returns) results_run in
      each_both IsMeant (args ++ results) last
      (each_both IsMeant args results (fields_meant file base f.args returned.1 args_run)
      (each_both IsMeant success throws (returns_meant file behind f.returns returned.0 success_run)
      (fields_meant file (behind + returns_parts f.returns) f.throws (clear_throws files told cycles_are clean d whole file f.throws thrown.1) throws_run)))
      (methods_meant file (base + method_parts f) fs clear.1 last_run)

  definition_meant : (spot : Spot) (x : DefinitionTree) (m : First) → definition_at files spot ≡ Some x → first_of files spot ≡ Some m → Each IsMeant (share files spot.file m x).types
  definition_meant spot x m e f = by x e (subst (λ (w : List Ty). IsRun w m.types (share files spot.file m x).types) (sym (all_types files told cycles_are clean d whole)) (types_stand files spot x m e f))
    where
      by : (x : DefinitionTree) → definition_at files spot ≡ Some x → IsRun d.types m.types (share files spot.file m x).types → Each IsMeant (share files spot.file m x).types
      by (const_of name ty value) e run = each_none IsMeant
      by (typedef_of name ty) e run = parts_meant spot.file m.types ty (typedef_ends files told clean cycles_are spot name ty e).0 run
      by (enum_of name members) e run = each_none IsMeant
      by (struct_of kin name fields) e run = fields_meant spot.file m.types fields (none_refused files told clean spot (struct_of kin name fields) e) run
      by (service_of name base functions) e run =
          let all = none_refused files told clean spot (service_of name base functions) e in
          let clear = none_of_both (base_refusals files spot.file base ++ functions_refusals files told spot.file functions) (cycle_refusals told spot name rows.ServiceCycle) all in
          methods_meant spot.file m.types functions (none_of_both (base_refusals files spot.file base) (functions_refusals files told spot.file functions) clear.0).1 run

  all_meant : Each IsMeant (all_shares files).types
  unfolding numbers_of
  all_meant = files_each (λ s. s.types) (λ s t. refl) refl files IsMeant 0 start files (λ k j x m e f. subst (λ (p : ℕ). Each IsMeant (share files p m x).types) (here k) (definition_meant (spot_at k j) x m e f))
    where
      here : (k : ℕ) → k ≡ 0 + k
      here k = omega arith

  pub types_meant : Each IsMeant d.types
  types_meant place ty e = all_meant place ty (subst (λ (w : List Ty). slice_get w place ≡ Some ty) (all_types files told cycles_are clean d whole) e)

pub parts_are_meant : (files : List FileTree) (schema : Declarations) → Resolved files schema → ArePartsMeant files schema
parts_are_meant files schema r = types_meant files r.lawful.0 r.lawful.1.0 r.lawful.1.1 schema r.means
