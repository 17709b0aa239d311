-- Law: files have one first refusal at most, however it is told how their definitions stand to cycles.
use Rattle.std.specs.Prelude.{◌≡◌, ℕ, suc, List, [], ◌∷◌, ◌++◌, Option, Some, None, Bool, not, slice_get, refl}
use Rattle.std.proofs.Common.{ap, sym, ◌∙◌}
use Rattle.idl_document.specs.declared.document.Name.{Name}
use Rattle.idl_document.specs.Trees.{DefinitionTree, FunctionTree, const_of, typedef_of, enum_of, struct_of, service_of, FieldTree, TypeTree, base_at, named_at, map_at, set_at, list_at}
use Rattle.idl_rules.specs.declared.row.IdlFault.{IdlFault}
use Rattle.idl_rules.specs.declared.row.IdlRow.{IdlRow}
use Rattle.idl_rules.specs.declared.row.IdlRow.TheVariants as rows
use Rattle.idl_rules.specs.Doubles.{when}
use Rattle.idl_rules.specs.Order.{Refusal, least_of}
use Rattle.idl_rules.specs.Rules.{rule_refusals}
use Rattle.idl_names.specs.declared.cycles.Cycle.{Cycle}
use Rattle.idl_names.specs.declared.cycles.Cycle.TheVariants as cycles
use Rattle.idl_rules.specs.declared.scopes.Scope.TheVariants as scopes
use Rattle.idl_names.specs.declared.documents.Spot.{Spot}
use Rattle.idl_names.specs.Cycles.{IsTold, cycle_at, is_absent, is_on}
use Rattle.idl_names.specs.Files.{FileTree}
use Rattle.idl_names.specs.Meaning.{meaning, spot_at}
use Rattle.idl_names.specs.Refusals.{base_refusals, cycle_refusals, definition_refusals, definitions_refusals, fields_refusals, file_refusals as named_refusals, function_refusals, functions_refusals, is_other, is_refused, is_round, leads_round, name_refusals, offset_of, returned_refusals, throws_refusals, thrown_refusals, type_refusals}
use Rattle.idl_names.specs.Targets.{target_of}
use Rattle.idl_resolve.specs.Refused.{first_by, first_from, first_refusal, IsFirst}

-- a definition stands to cycles in one way
same_cycle : (files : List FileTree) (spot : Spot) (a b : Cycle) → IsTold files spot a → IsTold files spot b → a ≡ b
same_cycle files spot cycles.Absent cycles.Absent p q = refl
same_cycle files spot cycles.Absent cycles.Ahead p q = absurd (p q.0)
same_cycle files spot cycles.Absent cycles.On p q = absurd (p (spot, (q, q)))
same_cycle files spot cycles.Ahead cycles.Absent p q = absurd (q p.0)
same_cycle files spot cycles.Ahead cycles.Ahead p q = refl
same_cycle files spot cycles.Ahead cycles.On p q = absurd (p.1 q)
same_cycle files spot cycles.On cycles.Absent p q = absurd (q (spot, (p, p)))
same_cycle files spot cycles.On cycles.Ahead p q = absurd (q.1 p)
same_cycle files spot cycles.On cycles.On p q = refl

module _ (files : List FileTree) (a b : List (List Cycle)) (same : (spot : Spot) → cycle_at a spot ≡ cycle_at b spot) where
  leads : (o : Option Spot) → leads_round a o ≡ leads_round b o
  leads None = refl
  leads (Some spot) = ap (λ (c : Cycle). not (is_absent c)) (same spot)

  round : (file : ℕ) (ty : TypeTree) → is_round files a file ty ≡ is_round files b file ty
  round file (base_at at word) = refl
  round file (named_at at word) = leads (meaning files file scopes.Types word)
  round file (map_at at key value) = refl
  round file (set_at at element) = refl
  round file (list_at at element) = refl

  thrown : (file : ℕ) (ty : TypeTree) → thrown_refusals files a file ty ≡ thrown_refusals files b file ty
  thrown file ty = ap (λ (r : Bool). when (is_refused r (is_other (target_of files file ty))) (offset_of ty) rows.NotAnException) (round file ty)

  throws : (file : ℕ) (fields : List FieldTree) → throws_refusals files a file fields ≡ throws_refusals files b file fields
  throws file [] = refl
  throws file (f ∷ fs) =
      ap (λ (xs : List Refusal). type_refusals files file f.ty ++ xs ++ throws_refusals files a file fs) (thrown file f.ty)
      ∙ ap (λ (xs : List Refusal). type_refusals files file f.ty ++ thrown_refusals files b file f.ty ++ xs) (throws file fs)

  function : (file : ℕ) (f : FunctionTree) → function_refusals files a file f ≡ function_refusals files b file f
  function file f = ap (λ (xs : List Refusal). returned_refusals files file f.returns ++ fields_refusals files file f.args ++ xs) (throws file f.throws)

  functions : (file : ℕ) (fs : List FunctionTree) → functions_refusals files a file fs ≡ functions_refusals files b file fs
  functions file [] = refl
  functions file (f ∷ fs) =
      ap (λ (xs : List Refusal). xs ++ functions_refusals files a file fs) (function file f)
      ∙ ap (λ (xs : List Refusal). function_refusals files b file f ++ xs) (functions file fs)

  cycle : (spot : Spot) (name : Name) (row : IdlRow) → cycle_refusals a spot name row ≡ cycle_refusals b spot name row
  cycle spot name row = ap (λ (c : Cycle). when (is_on c) name.at row) (same spot)

  definition : (spot : Spot) (d : DefinitionTree) → definition_refusals files a spot d ≡ definition_refusals files b spot d
  definition spot (const_of name ty value) = refl
  definition spot (typedef_of name ty) = ap (λ (xs : List Refusal). type_refusals files spot.file ty ++ xs) (cycle spot name rows.TypedefCycle)
  definition spot (enum_of name members) = refl
  definition spot (struct_of kin name fields) = refl
  definition spot (service_of name base fs) =
      ap (λ (xs : List Refusal). base_refusals files spot.file base ++ xs ++ cycle_refusals a spot name rows.ServiceCycle) (functions spot.file fs)
      ∙ ap (λ (xs : List Refusal). base_refusals files spot.file base ++ functions_refusals files b spot.file fs ++ xs) (cycle spot name rows.ServiceCycle)

  definitions : (file place : ℕ) (ds : List DefinitionTree) → definitions_refusals files a file place ds ≡ definitions_refusals files b file place ds
  definitions file place [] = refl
  definitions file place (d ∷ ds) =
      ap (λ (xs : List Refusal). xs ++ definitions_refusals files a file (suc place) ds) (definition (spot_at file place) d)
      ∙ ap (λ (xs : List Refusal). definition_refusals files b (spot_at file place) d ++ xs) (definitions file (suc place) ds)

  named : (file : ℕ) (tree : Option FileTree) → named_refusals files a file tree ≡ named_refusals files b file tree
  named file None = refl
  named file (Some tree) = definitions file 0 tree.document.definitions

  names : (file : ℕ) → name_refusals files a file ≡ name_refusals files b file
  unfolding name_refusals
  names file = named file (slice_get files file)

  from : (place : ℕ) (fs : List FileTree) → first_from files a place fs ≡ first_from files b place fs
  from place [] = refl
  from place (f ∷ fs) =
      ap (λ (xs : List Refusal). first_by f.name (least_of (rule_refusals f.document ++ xs)) (first_from files a (suc place) fs)) (names place)
      ∙ ap (first_by f.name (least_of (rule_refusals f.document ++ name_refusals files b place))) (from (suc place) fs)

pub first_is_one : (files : List FileTree) (f g : Option IdlFault) → IsFirst files f → IsFirst files g → f ≡ g
unfolding first_refusal
first_is_one files f g p q =
    sym p.1.1
    ∙ from files p.0 q.0 (λ spot. same_cycle files spot (cycle_at p.0 spot) (cycle_at q.0 spot) (p.1.0 spot) (q.1.0 spot)) 0 files
    ∙ q.1.1
