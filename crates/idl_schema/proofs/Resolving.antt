-- Over typedefs that are names alone.
use Rattle.std.proofs.Common.{◌≡◌, ◌∙◌, ℕ, zero, suc, ◌+◌, List, Option, Some, None, ap, sym, refl, arith}
use Rattle.std.specs.Prelude.{option_and_then}
use Rattle.idl_document.specs.Trees.{DefinitionTree, const_of, typedef_of, enum_of, struct_of, service_of, TypeTree, base_at, named_at, map_at, set_at, list_at}
use Rattle.idl_rules.specs.declared.scopes.Scope.TheVariants as scopes
use Rattle.idl_names.specs.declared.documents.Spot.{Spot}
use Rattle.idl_names.specs.Files.{FileTree}
use Rattle.idl_names.specs.Meaning.{meaning}
use Rattle.idl_names.specs.Targets.{definition_at}
use Rattle.idl_typedefs.specs.AliasLinks.{ResolvesTo, alias_in, alias_of, next, reached}
use Rattle.idl_typedefs.specs.declared.typedefs.ResolvedAlias.{ResolvedAlias}
use Rattle.type_tables.specs.declared.declared.Ty.{Ty}
use Rattle.idl_schema.specs.declared.numbers.First.{First}
use Rattle.idl_schema.specs.Numbers.{first_of}
use Rattle.idl_schema.specs.Types.{target, target_at, target_by, ty_by, followed}
use Rattle.idl_schema.proofs.Meaning.{numbered}

-- what a definition means where so many typedefs are followed
abbrev means : List FileTree → ℕ → Spot → Ty
means files n spot = ty_by (target_at files (Some spot)) (followed n files)

module _ (files : List FileTree) (m : ℕ) (s mid : Spot) (n : First) where
  aliased : (name : _) (ty : TypeTree) → option_and_then (meaning files s.file scopes.Types) (alias_of ty) ≡ Some mid →
      ty_by (target_by s.file (Some (typedef_of name ty)) (Some n)) (followed (suc m) files) ≡ means files m mid
  unfolding target
  aliased name (base_at at word) e = absurd (cc)
  aliased name (named_at at word) e = ap (λ (o : Option Spot). ty_by (target_at files o) (followed m files)) e
  aliased name (map_at at key value) e = absurd (cc)
  aliased name (set_at at element) e = absurd (cc)
  aliased name (list_at at element) e = absurd (cc)

  led : (d : DefinitionTree) → option_and_then (meaning files s.file scopes.Types) (alias_in (Some d)) ≡ Some mid →
      ty_by (target_by s.file (Some d) (Some n)) (followed (suc m) files) ≡ means files m mid
  led (const_of name ty value) e = absurd (cc)
  led (typedef_of name ty) e = aliased name ty e
  led (enum_of name members) e = absurd (cc)
  led (struct_of kin name fields) e = absurd (cc)
  led (service_of name base functions) e = absurd (cc)

one_name : (files : List FileTree) (m : ℕ) (s mid : Spot) → next files s ≡ Some mid → means files (suc m) s ≡ means files m mid
unfolding next
one_name files m s mid e = by (definition_at files s) refl
  where
    by : (o : Option DefinitionTree) → definition_at files s ≡ o → means files (suc m) s ≡ means files m mid
    by None is =
        let none : None ≡ Some mid = ap (λ (x : Option DefinitionTree). option_and_then (meaning files s.file scopes.Types) (alias_in x)) (sym is) ∙ e in absurd (cc)
    by (Some d) is =
        let n = numbered files s d is in
        let here = ap (λ (x : Option DefinitionTree). option_and_then (meaning files s.file scopes.Types) (alias_in x)) (sym is) ∙ e in
        ap (λ (x : Option DefinitionTree). ty_by (target_by s.file x (first_of files s)) (followed (suc m) files)) is
        ∙ ap (λ (x : Option First). ty_by (target_by s.file (Some d) x) (followed (suc m) files)) n.1
        ∙ led files m s mid n.0 d here

over_names : (files : List FileTree) (k n : ℕ) (s l : Spot) → reached files k s ≡ Some l → means files (k + n) s ≡ means files n l
over_names files zero n s l e =
    let same : s ≡ l = cc in
    let none : 0 + n ≡ n = omega arith in
    ap (λ (j : ℕ). means files j s) none ∙ ap (λ (x : Spot). means files n x) same
over_names files (suc k) n s l e = by (λ mid. over_names files k n mid l) (next files s) refl
  where
    more : suc k + n ≡ suc (k + n)
    more = omega arith

    by : ((mid : Spot) → reached files k mid ≡ Some l → means files (k + n) mid ≡ means files n l) → (o : Option Spot) → next files s ≡ o → means files (suc k + n) s ≡ means files n l
    by further None is = let none : None ≡ Some l = ap (λ (x : Option Spot). option_and_then (reached files k) x) (sym is) ∙ e in absurd (cc)
    by further (Some mid) is =
        let inner : reached files k mid ≡ Some l = ap (λ (x : Option Spot). option_and_then (reached files k) x) (sym is) ∙ e in
        ap (λ (j : ℕ). means files j s) more ∙ one_name files (k + n) s mid is ∙ further mid inner

pub resolved : (files : List FileTree) (left : ℕ) (s : Spot) (l : ResolvedAlias) → ResolvesTo files s left l → means files l.left l.spot ≡ means files left s
resolved files left s l lands = sym (over_names files lands.0 l.left s l.spot lands.1) ∙ ap (λ (j : ℕ). means files j s) lands.2
