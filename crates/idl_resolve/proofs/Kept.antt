-- Files of which nothing is refused keep the rules that each keeps by itself.
use Rattle.std.proofs.Common.{◌≡◌, ◌∙◌, sym, refl, ℕ, suc, List, [], ◌∷◌, ◌++◌, Option, Some, None, Bool, true, false, cond}
use Rattle.idl_names.specs.declared.cycles.Cycle.{Cycle}
use Rattle.idl_names.specs.Files.{FileTree}
use Rattle.idl_names.specs.Refusals.{name_refusals}
use Rattle.idl_rules.specs.declared.row.IdlFault.{IdlFault}
use Rattle.idl_rules.specs.Order.{Refusal, is_before, least_of, lesser}
use Rattle.idl_rules.specs.Rules.{rule_refusals}
use Rattle.idl_schema.specs.Kept.{KeepRules}
use Rattle.idl_resolve.specs.Refused.{file_refusals, first_by, first_from, first_refusal}

some_lesser : (a : Refusal) (o : Option Refusal) → lesser (Some a) o ≡ None → ⊥
unfolding lesser
some_lesser a None e = cc
some_lesser a (Some b) e = by (is_before b a) e
  where
    by : (t : Bool) → cond {A = Option Refusal} t (Some b) (Some a) ≡ None → ⊥
    by true h = cc
    by false h = cc

pub none_least : (xs : List Refusal) → least_of xs ≡ None → xs ≡ []
none_least [] e = refl
none_least (x ∷ xs) e = absurd (some_lesser x (least_of xs) e)

pub none_first : (name : List ℕ) (o : Option Refusal) (next : Option IdlFault) → first_by name o next ≡ None → (o ≡ None) × (next ≡ None)
none_first name None next e = (refl, e)
none_first name (Some r) next e = absurd cc

left_none : (xs ys : List Refusal) → xs ++ ys ≡ [] → xs ≡ []
left_none [] ys e = refl
left_none (x ∷ xs) ys e = absurd cc

module _ (files : List FileTree) (told : List (List Cycle)) where
  rules_from : (place : ℕ) (fs : List FileTree) → first_from files told place fs ≡ None → KeepRules fs
  rules_from place [] e = tt
  rules_from place (f ∷ fs) e =
      let first = none_first f.name (least_of (file_refusals files told place f)) (first_from files told (suc place) fs) e in
      (left_none (rule_refusals f.document) (name_refusals files told place) (none_least (file_refusals files told place f) first.0), rules_from (suc place) fs first.1)

  pub rules_kept : (found : Option IdlFault) → found ≡ first_refusal files told → found ≡ None → KeepRules files
  unfolding first_refusal
  rules_kept found e n = rules_from 0 files (sym e ∙ n)
