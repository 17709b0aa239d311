-- What files are refused for, by how their definitions stand to cycles, whichever way that is written down.
use Rattle.std.proofs.Common.{◌≡◌, ℕ, suc, List, [], ◌∷◌, ◌++◌, Bool, not, Option, Some, None, slice_get, refl, ap, sym, ◌∙◌}
use Rattle.idl_document.specs.declared.document.Name.{Name}
use Rattle.idl_document.specs.Trees.{DefinitionTree, FunctionTree, const_of, typedef_of, enum_of, struct_of, service_of, FieldTree, TypeTree, base_at, named_at, map_at, set_at, list_at}
use Rattle.idl_names.specs.declared.cycles.Cycle.{Cycle}
use Rattle.idl_names.specs.declared.cycles.Cycle.TheVariants as cycles
use Rattle.idl_rules.specs.declared.scopes.Scope.TheVariants as scopes
use Rattle.idl_names.specs.declared.documents.Spot.{Spot}
use Rattle.idl_names.specs.Cycles.{IsTold, cycle_at, is_absent, is_on}
use Rattle.idl_names.specs.Files.{FileTree}
use Rattle.idl_names.specs.Meaning.{meaning, spot_at}
use Rattle.idl_names.specs.Refusals.{base_refusals, cycle_refusals, definition_refusals, definitions_refusals, fields_refusals, file_refusals as file_names, function_refusals, functions_refusals, is_other, is_refused, is_round, leads_round, name_refusals, offset_of, returned_refusals, throws_refusals, thrown_refusals, type_refusals}
use Rattle.idl_names.specs.Targets.{target_of}
use Rattle.idl_rules.specs.declared.row.IdlRow.{IdlRow}
use Rattle.idl_rules.specs.declared.row.IdlRow.TheVariants as rows
use Rattle.idl_rules.specs.declared.row.IdlFault.{IdlFault}
use Rattle.idl_rules.specs.Doubles.{when}
use Rattle.idl_rules.specs.Order.{Refusal, least_of}
use Rattle.idl_rules.specs.Rules.{rule_refusals}
use Rattle.idl_resolve.specs.Refused.{IsFirst, file_refusals, first_by, first_from, first_refusal}

-- a definition stands to cycles in one way
told_alike : (files : List FileTree) (spot : Spot) (a b : Cycle) → IsTold files spot a → IsTold files spot b → a ≡ b
told_alike files spot cycles.Absent cycles.Absent x y = refl
told_alike files spot cycles.Absent cycles.Ahead x y = absurd (x y.0)
told_alike files spot cycles.Absent cycles.On x y = absurd (x (spot, (y, y)))
told_alike files spot cycles.Ahead cycles.Absent x y = absurd (y x.0)
told_alike files spot cycles.Ahead cycles.Ahead x y = refl
told_alike files spot cycles.Ahead cycles.On x y = absurd (x.1 y)
told_alike files spot cycles.On cycles.Absent x y = absurd (y (spot, (x, x)))
told_alike files spot cycles.On cycles.Ahead x y = absurd (y.1 x)
told_alike files spot cycles.On cycles.On x y = refl

module _ (files : List FileTree) (a b : List (List Cycle)) (alike : (spot : Spot) → cycle_at a spot ≡ cycle_at b spot) where
  leads_alike : (o : Option Spot) → leads_round a o ≡ leads_round b o
  leads_alike None = refl
  leads_alike (Some spot) = ap (λ (c : Cycle). not (is_absent c)) (alike spot)

  round_alike : (file : ℕ) (ty : TypeTree) → is_round files a file ty ≡ is_round files b file ty
  round_alike file (base_at at word) = refl
  round_alike file (named_at at word) = leads_alike (meaning files file scopes.Types word)
  round_alike file (map_at at key value) = refl
  round_alike file (set_at at element) = refl
  round_alike file (list_at at element) = refl

  thrown_alike : (file : ℕ) (ty : TypeTree) → thrown_refusals files a file ty ≡ thrown_refusals files b file ty
  thrown_alike file ty = ap (λ (round : Bool). when (is_refused round (is_other (target_of files file ty))) (offset_of ty) rows.NotAnException) (round_alike file ty)

  throws_alike : (file : ℕ) (fs : List FieldTree) → throws_refusals files a file fs ≡ throws_refusals files b file fs
  throws_alike file [] = refl
  throws_alike file (f ∷ fs) =
      ap (λ (r : List Refusal). type_refusals files file f.ty ++ r ++ throws_refusals files a file fs) (thrown_alike file f.ty)
      ∙ ap (λ (r : List Refusal). type_refusals files file f.ty ++ thrown_refusals files b file f.ty ++ r) (throws_alike file fs)

  function_alike : (file : ℕ) (f : FunctionTree) → function_refusals files a file f ≡ function_refusals files b file f
  function_alike file f = ap (λ (r : List Refusal). returned_refusals files file f.returns ++ fields_refusals files file f.args ++ r) (throws_alike file f.throws)

  functions_alike : (file : ℕ) (fs : List FunctionTree) → functions_refusals files a file fs ≡ functions_refusals files b file fs
  functions_alike file [] = refl
  functions_alike file (f ∷ fs) =
      ap (λ (r : List Refusal). r ++ functions_refusals files a file fs) (function_alike file f) ∙ ap (λ (r : List Refusal). function_refusals files b file f ++ r) (functions_alike file fs)

  cycle_alike : (spot : Spot) (name : Name) (row : IdlRow) → cycle_refusals a spot name row ≡ cycle_refusals b spot name row
  cycle_alike spot name row = ap (λ (c : Cycle). when (is_on c) name.at row) (alike spot)

  definition_alike : (spot : Spot) (d : DefinitionTree) → definition_refusals files a spot d ≡ definition_refusals files b spot d
  definition_alike spot (const_of name ty value) = refl
  definition_alike spot (typedef_of name ty) = ap (λ (r : List Refusal). type_refusals files spot.file ty ++ r) (cycle_alike spot name rows.TypedefCycle)
  definition_alike spot (enum_of name members) = refl
  definition_alike spot (struct_of kin name fields) = refl
  definition_alike spot (service_of name base functions) =
      ap (λ (r : List Refusal). base_refusals files spot.file base ++ r ++ cycle_refusals a spot name rows.ServiceCycle) (functions_alike spot.file functions)
      ∙ ap (λ (r : List Refusal). base_refusals files spot.file base ++ functions_refusals files b spot.file functions ++ r) (cycle_alike spot name rows.ServiceCycle)

  definitions_alike : (file place : ℕ) (ds : List DefinitionTree) → definitions_refusals files a file place ds ≡ definitions_refusals files b file place ds
  definitions_alike file place [] = refl
  definitions_alike file place (d ∷ ds) =
      ap (λ (r : List Refusal). r ++ definitions_refusals files a file (suc place) ds) (definition_alike (spot_at file place) d)
      ∙ ap (λ (r : List Refusal). definition_refusals files b (spot_at file place) d ++ r) (definitions_alike file (suc place) ds)

  names_alike : (file : ℕ) (o : Option FileTree) → file_names files a file o ≡ file_names files b file o
  names_alike file None = refl
  names_alike file (Some tree) = definitions_alike file 0 tree.document.definitions

  name_alike : (file : ℕ) → name_refusals files a file ≡ name_refusals files b file
  unfolding name_refusals
  name_alike file = names_alike file (slice_get files file)

  first_from_alike : (place : ℕ) (fs : List FileTree) → first_from files a place fs ≡ first_from files b place fs
  first_from_alike place [] = refl
  first_from_alike place (f ∷ fs) =
      ap (λ (r : List Refusal). first_by f.name (least_of (rule_refusals f.document ++ r)) (first_from files a (suc place) fs)) (name_alike place)
      ∙ ap (λ (next : Option IdlFault). first_by f.name (least_of (file_refusals files b place f)) next) (first_from_alike (suc place) fs)

  first_alike : first_refusal files a ≡ first_refusal files b
  unfolding first_refusal
  first_alike = first_from_alike 0 files

-- files have one first refusal, or none
pub first_once : (files : List FileTree) (a b : Option IdlFault) → IsFirst files a → IsFirst files b → a ≡ b
first_once files a b x y =
    let alike : (spot : Spot) → cycle_at x.0 spot ≡ cycle_at y.0 spot = λ spot. told_alike files spot (cycle_at x.0 spot) (cycle_at y.0 spot) ((x.1).0 spot) ((y.1).0 spot) in
    sym (x.1).1 ∙ first_alike files x.0 y.0 alike ∙ (y.1).1
