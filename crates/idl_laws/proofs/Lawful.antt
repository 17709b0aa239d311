-- Where nothing is refused, each name of a type means one, and no typedef leads to itself.
use Rattle.std.proofs.Common.{◌≡◌, ◌∙◌, ap, sym, subst, refl, ℕ, zero, suc, ◌+◌, List, [], ◌∷◌, ◌++◌, slice_get, Option, Some, None, Bool, true, false, not, is_some, option_and_then, arith}
use Rattle.idl_document.specs.declared.document.Name.{Name}
use Rattle.idl_document.specs.Trees.{DefinitionTree, FunctionTree, service_of, typedef_of, TypeTree}
use Rattle.idl_rules.specs.declared.row.IdlRow.{IdlRow}
use Rattle.idl_rules.specs.declared.row.IdlRow.TheVariants as rows
use Rattle.idl_rules.specs.declared.scopes.Scope.TheVariants as scopes
use Rattle.idl_rules.specs.Doubles.{when}
use Rattle.idl_rules.specs.Order.{least_of}
use Rattle.idl_rules.specs.Rules.{rule_refusals}
use Rattle.idl_names.specs.declared.cycles.Cycle.{Cycle}
use Rattle.idl_names.specs.declared.cycles.Cycle.TheVariants as cycles
use Rattle.idl_names.specs.declared.documents.Spot.{Spot}
use Rattle.idl_names.specs.Cycles.{IsOnCycle, IsTold, TellsCycles, cycle_at, is_on}
use Rattle.idl_names.specs.Files.{FileTree}
use Rattle.idl_names.specs.Meaning.{meaning, spot_at}
use Rattle.idl_names.specs.Refusals.{base_refusals, functions_refusals, cycle_refusals, definition_refusals, definitions_refusals, file_refusals as named_refusals, name_refusals, type_refusals, word_refusals}
use Rattle.idl_names.specs.Targets.{definition_at}
use Rattle.idl_resolve.specs.Refused.{file_refusals, first_from, first_refusal}
use Rattle.idl_resolve.proofs.Kept.{none_first, none_least}
use Rattle.idl_laws.proofs.Runs.{none_of_both}

pub none_when : (t : Bool) (at : ℕ) (row : IdlRow) → when t at row ≡ [] → t ≡ false
none_when true at row e = absurd (cc)
none_when false at row e = refl

module _ (files : List FileTree) (told : List (List Cycle)) where
  none_from : (place : ℕ) (fs : List FileTree) (k : ℕ) (f : FileTree) → first_from files told place fs ≡ None → slice_get fs k ≡ Some f → file_refusals files told (place + k) f ≡ []
  none_from place [] k f e g = absurd (cc)
  none_from place (x ∷ fs) zero f e g =
      let same : x ≡ f = cc in
      let at : place ≡ place + 0 = omega arith in
      let first = none_first x.name (least_of (file_refusals files told place x)) (first_from files told (suc place) fs) e in
      let here : file_refusals files told place x ≡ [] = none_least (file_refusals files told place x) first.0 in
      subst (λ (n : ℕ). file_refusals files told n f ≡ []) at (subst (λ (y : FileTree). file_refusals files told place y ≡ []) same here)
  none_from place (x ∷ fs) (suc k) f e g =
      let next : suc place + k ≡ place + suc k = omega arith in
      let first = none_first x.name (least_of (file_refusals files told place x)) (first_from files told (suc place) fs) e in
      subst (λ (n : ℕ). file_refusals files told n f ≡ []) next (none_from (suc place) fs k f first.1 g)

  none_among : (file place : ℕ) (ds : List DefinitionTree) (j : ℕ) (d : DefinitionTree) → definitions_refusals files told file place ds ≡ [] → slice_get ds j ≡ Some d →
      definition_refusals files told (spot_at file (place + j)) d ≡ []
  none_among file place [] j d e g = absurd (cc)
  none_among file place (x ∷ ds) zero d e g =
      let same : x ≡ d = cc in
      let at : place ≡ place + 0 = omega arith in
      let here = (none_of_both (definition_refusals files told (spot_at file place) x) (definitions_refusals files told file (suc place) ds) e).0 in
      subst (λ (n : ℕ). definition_refusals files told (spot_at file n) d ≡ []) at
      (subst (λ (y : DefinitionTree). definition_refusals files told (spot_at file place) y ≡ []) same here)
  none_among file place (x ∷ ds) (suc j) d e g =
      let next : suc place + j ≡ place + suc j = omega arith in
      let rest = (none_of_both (definition_refusals files told (spot_at file place) x) (definitions_refusals files told file (suc place) ds) e).1 in
      subst (λ (n : ℕ). definition_refusals files told (spot_at file n) d ≡ []) next (none_among file (suc place) ds j d rest g)

  module _ (clean : first_refusal files told ≡ None) where
    -- no definition is refused for a name
    pub none_refused : (spot : Spot) (d : DefinitionTree) → definition_at files spot ≡ Some d → definition_refusals files told spot d ≡ []
    unfolding first_refusal name_refusals
    none_refused spot d g = by (slice_get files spot.file) refl
      where
        by : (o : Option FileTree) → slice_get files spot.file ≡ o → definition_refusals files told spot d ≡ []
        by None is =
            let no : None ≡ Some d = ap (λ (o : Option FileTree). option_and_then (λ tree. slice_get tree.document.definitions spot.definition) o) (sym is) ∙ g in
            absurd (cc)
        by (Some f) is =
            let at : 0 + spot.file ≡ spot.file = omega arith in
            let whole = subst (λ (n : ℕ). file_refusals files told n f ≡ []) at (none_from 0 files spot.file f clean is) in
            let names : name_refusals files told spot.file ≡ [] = (none_of_both (rule_refusals f.document) (name_refusals files told spot.file) whole).1 in
            let named : named_refusals files told spot.file (Some f) ≡ [] = ap (named_refusals files told spot.file) (sym is) ∙ names in
            let there : slice_get f.document.definitions spot.definition ≡ Some d =
            ap (λ (o : Option FileTree). option_and_then (λ tree. slice_get tree.document.definitions spot.definition) o) (sym is) ∙ g
            in
            let place : 0 + spot.definition ≡ spot.definition = omega arith in
            subst (λ (n : ℕ). definition_refusals files told (spot_at spot.file n) d ≡ []) place (none_among spot.file 0 f.document.definitions spot.definition d named there)

    module _ (cycles_are : TellsCycles files told) where
      not_on : (spot : Spot) (c : Cycle) → IsTold files spot c → is_on c ≡ false → IsOnCycle files spot → ⊥
      not_on spot cycles.Absent t e on = t (spot, (on, on))
      not_on spot cycles.Ahead t e on = t.1 on
      not_on spot cycles.On t e on = cc

      -- a typedef names what there is, and doesn't lead to itself
      pub typedef_ends : (spot : Spot) (name : Name) (ty : TypeTree) → definition_at files spot ≡ Some (typedef_of name ty) →
          (type_refusals files spot.file ty ≡ []) × (IsOnCycle files spot → ⊥)
      typedef_ends spot name ty e =
          let both = none_of_both (type_refusals files spot.file ty) (cycle_refusals told spot name rows.TypedefCycle) (none_refused spot (typedef_of name ty) e) in
          (both.0, not_on spot (cycle_at told spot) (cycles_are spot) (none_when (is_on (cycle_at told spot)) name.at rows.TypedefCycle both.1))

      -- no service extends itself in the end
      pub service_ends : (spot : Spot) (name : Name) (base : Option Name) (functions : List FunctionTree) → definition_at files spot ≡ Some (service_of name base functions) → IsOnCycle files spot → ⊥
      service_ends spot name base functions e =
          let others = base_refusals files spot.file base ++ functions_refusals files told spot.file functions in
          let both = none_of_both others (cycle_refusals told spot name rows.ServiceCycle) (none_refused spot (service_of name base functions) e) in
          not_on spot (cycle_at told spot) (cycles_are spot) (none_when (is_on (cycle_at told spot)) name.at rows.ServiceCycle both.1)

-- a name that isn't refused means a type
pub word_means : (files : List FileTree) (file at : ℕ) (word : List ℕ) → word_refusals files file scopes.Types rows.NotAType at word ≡ [] → (spot : Spot) × (meaning files file scopes.Types word ≡ Some spot)
word_means files file at word e = by (meaning files file scopes.Types word) refl (none_when (not (is_some (meaning files file scopes.Types word))) at _ e)
  where
    by : (o : Option Spot) → meaning files file scopes.Types word ≡ o → not (is_some (meaning files file scopes.Types word)) ≡ false → (spot : Spot) × (meaning files file scopes.Types word ≡ Some spot)
    by None is h = let no : true ≡ false = ap (λ (o : Option Spot). not (is_some o)) (sym is) ∙ h in absurd (cc)
    by (Some spot) is h = (spot, is)
