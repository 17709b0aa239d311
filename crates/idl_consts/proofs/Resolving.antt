-- Over typedefs that are names alone.
use Rattle.std.proofs.Common.{◌≡◌, ◌∙◌, ℕ, zero, suc, ◌+◌, ◌≤◌, List, Option, Some, None, ap, sym, refl, arith}
use Rattle.std.specs.Prelude.{option_and_then}
use Rattle.idl_document.specs.Trees.{DefinitionTree, const_of, typedef_of, enum_of, struct_of, service_of, TypeTree, base_at, named_at, map_at, set_at, list_at}
use Rattle.idl_rules.specs.declared.scopes.Scope.TheVariants as scopes
use Rattle.idl_names.specs.declared.documents.Spot.{Spot}
use Rattle.idl_names.specs.Files.{FileTree}
use Rattle.idl_names.specs.Meaning.{meaning}
use Rattle.idl_typedefs.specs.AliasLinks.{ResolvesTo, alias_in, alias_of, next, reached}
use Rattle.idl_typedefs.specs.declared.typedefs.ResolvedAlias.{ResolvedAlias}
use Rattle.idl_consts.specs.Meant.{definition_of, defined_type, named_type, spot_type, left_below}
use Rattle.idl_consts.specs.declared.types.Step.{Step}
use Rattle.idl_consts.specs.declared.types.Step.TheVariants as steps

module _ (d : List FileTree) (m : ℕ) (s mid : Spot) where
  aliased : (name : _) (ty : TypeTree) → option_and_then (meaning d s.file scopes.Types) (alias_of ty) ≡ Some mid →
      defined_type (named_type d (suc m)) s (Some (typedef_of name ty)) ≡ spot_type d (named_type d m) (Some mid)
  aliased name (base_at at word) e = absurd (cc)
  aliased name (named_at at word) e = ap (spot_type d (named_type d m)) e
  aliased name (map_at at key value) e = absurd (cc)
  aliased name (set_at at element) e = absurd (cc)
  aliased name (list_at at element) e = absurd (cc)

  led : (o : Option DefinitionTree) → option_and_then (meaning d s.file scopes.Types) (alias_in o) ≡ Some mid →
      defined_type (named_type d (suc m)) s o ≡ spot_type d (named_type d m) (Some mid)
  led None e = absurd (cc)
  led (Some (const_of name ty value)) e = absurd (cc)
  led (Some (typedef_of name ty)) e = aliased name ty e
  led (Some (enum_of name members)) e = absurd (cc)
  led (Some (struct_of kin name fields)) e = absurd (cc)
  led (Some (service_of name base functions)) e = absurd (cc)

  one_name : next d s ≡ Some mid → defined_type (named_type d (suc m)) s (definition_of d s) ≡ spot_type d (named_type d m) (Some mid)
  unfolding next
  one_name e = led (definition_of d s) e

over_names : (d : List FileTree) (k n : ℕ) (s l : Spot) → reached d k s ≡ Some l →
    defined_type (named_type d (k + n)) s (definition_of d s) ≡ defined_type (named_type d n) l (definition_of d l)
over_names d zero n s l e =
    let same : s ≡ l = cc in
    let none : 0 + n ≡ n = omega arith in
    ap (λ (j : ℕ). defined_type (named_type d j) s (definition_of d s)) none ∙ ap (λ (x : Spot). defined_type (named_type d n) x (definition_of d x)) same
over_names d (suc k) n s l e = by (λ mid. over_names d k n mid l) (next d s) refl
  where
    more : suc k + n ≡ suc (k + n)
    more = omega arith

    by : ((mid : Spot) → reached d k mid ≡ Some l → defined_type (named_type d (k + n)) mid (definition_of d mid) ≡ defined_type (named_type d n) l (definition_of d l)) → (o : Option Spot) → next d s ≡ o → defined_type (named_type d (suc k + n)) s (definition_of d s) ≡ defined_type (named_type d n) l (definition_of d l)
    by further None is = let none : None ≡ Some l = ap (λ (x : Option Spot). option_and_then (reached d k) x) (sym is) ∙ e in absurd (cc)
    by further (Some mid) is =
        let inner : reached d k mid ≡ Some l = ap (λ (x : Option Spot). option_and_then (reached d k) x) (sym is) ∙ e in
        ap (λ (j : ℕ). defined_type (named_type d j) s (definition_of d s)) more ∙ one_name d (k + n) s mid is ∙ further mid inner

pub resolved : (d : List FileTree) (left : ℕ) (s : Spot) (l : ResolvedAlias) → ResolvesTo d s left l → defined_type (named_type d l.left) l.spot (definition_of d l.spot) ≡ defined_type (named_type d left) s (definition_of d s)
resolved d left s l lands = sym (over_names d lands.0 l.left s l.spot lands.1) ∙ ap (λ (j : ℕ). defined_type (named_type d j) s (definition_of d s)) lands.2

pub below_more : (a b : ℕ) (s : Step) → a ≤ b → left_below a s → left_below b s
below_more a b (steps.Done shape) few below = tt
below_more a b (steps.Next t) few below = omega (arith, few, below)
