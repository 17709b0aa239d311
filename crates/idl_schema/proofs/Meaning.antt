-- Following typedefs with the numbers of their parts leads where following them alone does.
use Rattle.std.proofs.Common.{◌≡◌, ℕ, zero, suc, List, [], ◌∷◌, inl, inr, refl, ap, sym, ◌∙◌, subst, Option, Some, None}
use Rattle.std.specs.Prelude.{slice_get, option_and_then}
use Rattle.idl_document.specs.declared.document.Name.{Name}
use Rattle.idl_document.specs.Trees.{DefinitionTree, const_of, typedef_of, enum_of, struct_of, service_of, TypeTree, base_at, named_at, map_at, set_at, list_at}
use Rattle.idl_rules.specs.declared.scopes.Scope.TheVariants as scopes
use Rattle.idl_names.specs.declared.documents.Spot.{Spot}
use Rattle.idl_names.specs.Files.{FileTree}
use Rattle.idl_names.specs.Meaning.{meaning}
use Rattle.idl_names.specs.Targets.{TargetTree, written_in, enum_spot, struct_spot, definition_at, declared_step, spot_step, chased, chased_by, target_of, definition_count}
use Rattle.type_tables.specs.declared.declared.Ty.{Ty}
use Rattle.idl_schema.specs.declared.numbers.First.{First}
use Rattle.idl_schema.specs.Meant.{IsMeant, IsEnum, IsStruct}
use Rattle.idl_schema.specs.Numbers.{after, after_all, numbers_in, files_numbers, numbers_of, start, first_of}
use Rattle.idl_schema.specs.Types.{target, target_at, target_by, ty_by, followed, plain_ty, ty_in}

in_numbered : (n : First) (ds : List DefinitionTree) (j : ℕ) (d : DefinitionTree) → slice_get ds j ≡ Some d → (m : First) × (slice_get (numbers_in n ds) j ≡ Some m)
in_numbered n [] j d e = absurd cc
in_numbered n (x ∷ ds) zero d e = (n, refl)
in_numbered n (x ∷ ds) (suc j) d e = in_numbered (after n x) ds j d e

all_numbered : (n : First) (fs : List FileTree) (k j : ℕ) (d : DefinitionTree) → option_and_then (λ f. slice_get f.document.definitions j) (slice_get fs k) ≡ Some d →
    (m : First) × (option_and_then (λ ns. slice_get ns j) (slice_get (files_numbers n fs) k) ≡ Some m)
all_numbered n [] k j d e = absurd cc
all_numbered n (f ∷ fs) zero j d e = in_numbered n f.document.definitions j d e
all_numbered n (f ∷ fs) (suc k) j d e = all_numbered (after_all n f.document.definitions) fs k j d e

-- each definition has numbers
pub numbered : (files : List FileTree) (spot : Spot) (d : DefinitionTree) → definition_at files spot ≡ Some d → (m : First) × (first_of files spot ≡ Some m)
unfolding numbers_of
numbered files spot d e = all_numbered start files spot.file spot.definition d e

-- what a typedef stands for is what its name means, wherever the name stands
carried : (files : List FileTree) (spot : Spot) (name : Name) (m : First) (aliased : TypeTree) → definition_at files spot ≡ Some (typedef_of name aliased) → first_of files spot ≡ Some m →
    (file base : ℕ) (tree : TypeTree) (ty : Ty) (t : TargetTree) → IsMeant files spot.file m.types aliased ty t → IsMeant files file base tree ty t
carried files spot name m aliased d f file base tree ty (enum_spot s) x = x
carried files spot name m aliased d f file base tree ty (struct_spot kin s) x = x
carried files spot name m aliased d f file base tree ty (written_in place written) (inl x) = inr (record {
  spot = spot;
  name = name;
  first = m;
  there = sym x.0;
  declared = subst (λ (y : TypeTree). definition_at files spot ≡ Some (typedef_of name y)) (sym x.1) d;
  numbered = f;
  means = x.2 ∙ ap (plain_ty m.types) (sym x.1);
})
carried files spot name m aliased d f file base tree ty (written_in place written) (inr x) = inr x

module _ (files : List FileTree) (n : ℕ)
    (before : (file base : ℕ) (tree : TypeTree) (t : TargetTree) → chased files n file tree ≡ Some t → IsMeant files file base tree (followed n files file base tree) t)
    (file base : ℕ) (tree : TypeTree) where
  -- a definition that has these numbers
  by_definition : (spot : Spot) (d : DefinitionTree) (m : First) (t : TargetTree) → definition_at files spot ≡ Some d → first_of files spot ≡ Some m →
      chased_by (chased files n) (declared_step spot d) ≡ Some t → IsMeant files file base tree (ty_by (target_by spot.file (Some d) (Some m)) (followed n files)) t
  by_definition spot (const_of name ty value) m t g f e = absurd cc
  by_definition spot (typedef_of name ty) m t g f e = carried files spot name m ty g f file base tree _ t (before spot.file m.types ty t e)
  by_definition spot (enum_of name members) m t g f e =
      let same : enum_spot spot ≡ t = cc in
      let ty = ty_by (target_by spot.file (Some (enum_of name members)) (Some m)) (followed n files) in
      subst (IsMeant files file base tree ty) same (subst (IsEnum ty) (sym f) refl)
  by_definition spot (struct_of kin name fields) m t g f e =
      let same : struct_spot kin spot ≡ t = cc in
      let ty = ty_by (target_by spot.file (Some (struct_of kin name fields)) (Some m)) (followed n files) in
      subst (IsMeant files file base tree ty) same (subst (IsStruct ty) (sym f) refl)
  by_definition spot (service_of name bases functions) m t g f e = absurd cc

  by_found : (spot : Spot) (o : Option DefinitionTree) (t : TargetTree) → definition_at files spot ≡ o → chased_by (chased files n) (option_and_then (declared_step spot) o) ≡ Some t →
      IsMeant files file base tree (ty_by (target_by spot.file o (first_of files spot)) (followed n files)) t
  by_found spot None t g e = absurd cc
  by_found spot (Some d) t g e =
      let m = numbered files spot d g in
      subst (λ (o : Option First). IsMeant files file base tree (ty_by (target_by spot.file (Some d) o) (followed n files)) t) (sym m.1) (by_definition spot d m.0 t g m.1 e)

  by_spot : (o : Option Spot) (t : TargetTree) → chased_by (chased files n) (option_and_then (spot_step files) o) ≡ Some t → IsMeant files file base tree (ty_by (target_at files o) (followed n files)) t
  by_spot None t e = absurd cc
  by_spot (Some spot) t e = by_found spot (definition_at files spot) t refl e

module _ (files : List FileTree) where
  -- a type that is no name means itself
  itself : (file base : ℕ) (tree : TypeTree) (t : TargetTree) → written_in file tree ≡ t → IsMeant files file base tree (plain_ty base tree) t
  itself file base tree t same = subst (IsMeant files file base tree (plain_ty base tree)) same (inl (refl, refl, refl))

  pub meant_by : (n file base : ℕ) (tree : TypeTree) (t : TargetTree) → chased files n file tree ≡ Some t → IsMeant files file base tree (followed n files file base tree) t
  unfolding chased target
  meant_by zero file base tree t e = absurd cc
  meant_by (suc n) file base (base_at at word) t e = itself file base (base_at at word) t cc
  meant_by (suc n) file base (named_at at word) t e = by_spot files n (meant_by n) file base (named_at at word) (meaning files file scopes.Types word) t e
  meant_by (suc n) file base (map_at at key value) t e = itself file base (map_at at key value) t cc
  meant_by (suc n) file base (set_at at element) t e = itself file base (set_at at element) t cc
  meant_by (suc n) file base (list_at at element) t e = itself file base (list_at at element) t cc

  pub meant : (file base : ℕ) (tree : TypeTree) (t : TargetTree) → target_of files file tree ≡ Some t → IsMeant files file base tree (ty_in files file base tree) t
  unfolding target_of ty_in
  meant file base tree t e = meant_by (suc (definition_count files)) file base tree t e
