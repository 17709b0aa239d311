-- A type of files that nothing is refused in means something, and its type in the tables denotes that.
use Rattle.std.proofs.Common.{◌≡◌, ◌∙◌, ap, sym, subst, refl, ℕ, zero, suc, ◌+◌, ◌≤◌, inl, inr, List, [], ◌∷◌, ◌++◌, length, Option, Some, None, true, arith}
use Rattle.idl_document.specs.declared.document.BaseWord.{BaseWord}
use Rattle.idl_document.specs.declared.document.Name.{Name}
use Rattle.idl_document.specs.Trees.{DefinitionTree, const_of, typedef_of, enum_of, struct_of, service_of, TypeTree, base_at, named_at, map_at, set_at, list_at}
use Rattle.idl_rules.specs.declared.scopes.Scope.TheVariants as scopes
use Rattle.idl_names.specs.declared.cycles.Cycle.{Cycle}
use Rattle.idl_names.specs.declared.documents.Spot.{Spot}
use Rattle.idl_names.specs.Cycles.{LeadsTo, at_once, onward, IsOnCycle, TellsCycles, next_spots, spots_by, type_spots}
use Rattle.idl_names.specs.Files.{FileTree}
use Rattle.idl_names.specs.Meaning.{declares, meaning}
use Rattle.idl_names.specs.Refusals.{type_refusals}
use Rattle.idl_names.specs.Sets.{Has, listed_spot}
use Rattle.idl_names.specs.Targets.{definition_at, definition_count}
use Rattle.type_tables.specs.declared.declared.Ty.{Ty}
use Rattle.type_tables.specs.declared.declared.Ty.TheVariants as types
use Rattle.idl_schema.specs.Numbers.{first_of, parts}
use Rattle.idl_schema.specs.Types.{base_ty, followed, part, part_types, target, target_at, target_by, ty_by, ty_in}
use Rattle.idl_schema.proofs.Counting.{parts_length}
use Rattle.idl_schema.proofs.Meaning.{numbered}
use Rattle.idl_resolve.specs.Refused.{first_refusal}
use Rattle.idl_laws.specs.Denoted.{Denotes, IsTypeOf}
use Rattle.idl_laws.specs.TypeMeanings.{IsNameOf, MeansOneThing, TypeMeaning, base_type, enum_at, struct_at, map_of, set_of, list_of, TypeOf, a_base, a_map, a_set, a_list, an_enum, a_struct, a_typedef}
use Rattle.idl_laws.proofs.Firsts.{First}
use Rattle.idl_laws.proofs.Lawful.{typedef_ends, word_means}
use Rattle.idl_laws.proofs.Numbered.{enum_counts, struct_counts}
use Rattle.idl_laws.proofs.Placed.{counted, files_spots, has_left, has_right, is_listed, meaning_found}
use Rattle.idl_laws.proofs.Runs.{IsDistinct, IsRun, few, none_of_both, run_at, run_first, run_left, run_rest, run_right}
use Rattle.idl_laws.proofs.Standing.{all_shares, types_stand}

pub further : (files : List FileTree) (p s t : Spot) → LeadsTo files p s → Has (next_spots files s) t → LeadsTo files p t
further files p s t (at_once _ _ h) next = onward p s t h (at_once s t next)
further files p s t (onward _ mid _ h rest) next = onward p mid t h (further files mid s t rest next)

above : (n k : ℕ) → suc n ≤ k → (j : ℕ) × (k ≡ suc j) × (n ≤ j)
above n zero h = absurd (omega arith)
above n (suc j) h = (j, refl, omega arith)

-- the definitions through which one came, each once; each leads to all that the type names
record IsPath (files : List FileTree) (path targets : List Spot) : Type 0 where
  distinct : IsDistinct path
  declared : (s : Spot) → Has path s → Has (files_spots 0 files) s
  leads : (p t : Spot) → Has path p → Has targets t → LeadsTo files p t

module _ (files : List FileTree) (file base : ℕ) where
  base_followed : (k at : ℕ) (word : BaseWord) → followed k files file base (base_at at word) ≡ base_ty word
  base_followed zero at word = refl
  base_followed (suc k) at word = refl

  map_followed : (k at : ℕ) (key value : TypeTree) → followed k files file base (map_at at key value) ≡ types.Map (part base) (part (base + 1))
  map_followed zero at key value = refl
  map_followed (suc k) at key value = refl

  set_followed : (k at : ℕ) (element : TypeTree) → followed k files file base (set_at at element) ≡ types.Set (part base)
  set_followed zero at element = refl
  set_followed (suc k) at element = refl

  list_followed : (k at : ℕ) (element : TypeTree) → followed k files file base (list_at at element) ≡ types.List (part base)
  list_followed zero at element = refl
  list_followed (suc k) at element = refl

  name_followed : (k at : ℕ) (word : List ℕ) (spot : Spot) (d : DefinitionTree) (m : First) → meaning files file scopes.Types word ≡ Some spot → definition_at files spot ≡ Some d →
      first_of files spot ≡ Some m → followed (suc k) files file base (named_at at word) ≡ ty_by (target_by spot.file (Some d) (Some m)) (followed k files)
  unfolding target
  name_followed k at word spot d m means declared number =
      ap (λ (o : Option Spot). ty_by (target_at files o) (followed k files)) means
      ∙ ap (λ (o : Option DefinitionTree). ty_by (target_by spot.file o (first_of files spot)) (followed k files)) declared
      ∙ ap (λ (o : Option First). ty_by (target_by spot.file (Some d) o) (followed k files)) number

module _ (files : List FileTree) (told : List (List Cycle)) (cycles_are : TellsCycles files told) (clean : first_refusal files told ≡ None) (all : List Ty) (whole : all ≡ (all_shares files).types) where
  -- it means something, which its type denotes, however many typedefs more are followed
  abbrev IsMeant : ℕ → ℕ → ℕ → TypeTree → Type 0
  IsMeant n file base tree = (m : TypeMeaning) × TypeOf files file tree m × ((k : ℕ) → n ≤ k → Denotes files all (followed k files file base tree) m)

  -- so it is of each type behind a path that leaves so many definitions to come
  abbrev AllMeant : ℕ → Type 0
  AllMeant n =
      (path : List Spot) (file base : ℕ) (tree : TypeTree) → IsPath files path (type_spots files file tree) → length path + n ≡ suc (definition_count files) →
      type_refusals files file tree ≡ [] → IsRun all base (part_types (ty_in files file) base tree) → IsMeant n file base tree

  none_left : AllMeant zero
  none_left path file base tree is_path left named run =
      let fits = few path (files_spots 0 files) is_path.distinct is_path.declared in
      let count = counted 0 files in
      absurd (omega (arith, fits, count, left))

  path_left : (path xs ys : List Spot) → IsPath files path (xs ++ ys) → IsPath files path xs
  path_left path xs ys p = record { distinct = p.distinct; declared = p.declared; leads = λ s t h g. p.leads s t h (has_left xs ys t g) }

  path_right : (path xs ys : List Spot) → IsPath files path (xs ++ ys) → IsPath files path ys
  path_right path xs ys p = record { distinct = p.distinct; declared = p.declared; leads = λ s t h g. p.leads s t h (has_right xs ys t g) }

  -- the parts of a typedef's type
  aliased_run : (spot : Spot) (name : Name) (ty : TypeTree) (m : First) → definition_at files spot ≡ Some (typedef_of name ty) → first_of files spot ≡ Some m →
      IsRun all m.types (part_types (ty_in files spot.file) m.types ty)
  aliased_run spot name ty m d f = subst (λ (w : List Ty). IsRun w m.types (part_types (ty_in files spot.file) m.types ty)) (sym whole) (types_stand files spot (typedef_of name ty) m d f)

  in_next : (spot : Spot) (name : Name) (ty : TypeTree) (t : Spot) → definition_at files spot ≡ Some (typedef_of name ty) → Has (type_spots files spot.file ty) t → Has (next_spots files spot) t
  unfolding next_spots
  in_next spot name ty t d h = subst (λ (o : Option DefinitionTree). Has (spots_by files spot.file o) t) (sym d) h

  module _ (n : ℕ) (deeper : AllMeant n) (path : List Spot) (left : length path + suc n ≡ suc (definition_count files)) where
    -- one definition more, which isn't on the path, for it would lead to itself
    longer : (file at : ℕ) (word : List ℕ) (spot : Spot) (name : Name) (ty : TypeTree) → IsPath files path (type_spots files file (named_at at word)) →
        meaning files file scopes.Types word ≡ Some spot → definition_at files spot ≡ Some (typedef_of name ty) → IsPath files (spot ∷ path) (type_spots files spot.file ty)
    longer file at word spot name ty p means d = record {
      distinct = (not_there, p.distinct);
      declared = declared;
      leads = leads;
    }
      where
        ends : IsOnCycle files spot → ⊥
        ends = (typedef_ends files told clean cycles_are spot name ty d).1

        to : (s : Spot) → Has path s → LeadsTo files s spot
        to s h = p.leads s spot h (subst (λ (o : Option Spot). Has (listed_spot o) spot) (sym means) (inl refl))

        not_there : Has path spot → ⊥
        not_there h = ends (to spot h)

        declared : (s : Spot) → Has (spot ∷ path) s → Has (files_spots 0 files) s
        declared s (inl e) = subst (Has (files_spots 0 files)) (sym e) (is_listed files spot (typedef_of name ty) d)
        declared s (inr h) = p.declared s h

        leads : (s t : Spot) → Has (spot ∷ path) s → Has (type_spots files spot.file ty) t → LeadsTo files s t
        leads s t (inl e) h = subst (λ (q : Spot). LeadsTo files q t) (sym e) (at_once spot t (in_next spot name ty t d h))
        leads s t (inr g) h = further files s spot t (to s g) (in_next spot name ty t d h)

    name_meant : (file base at : ℕ) (word : List ℕ) (spot : Spot) (d : DefinitionTree) (m : First) → IsPath files path (type_spots files file (named_at at word)) →
        meaning files file scopes.Types word ≡ Some spot → definition_at files spot ≡ Some d → first_of files spot ≡ Some m → (other : List ℕ) → declares scopes.Types other d ≡ true →
        IsMeant (suc n) file base (named_at at word)
    name_meant file base at word spot (const_of name ty value) m p means d f other is = absurd (cc)
    name_meant file base at word spot (service_of name extended functions) m p means d f other is = absurd (cc)
    name_meant file base at word spot (enum_of name members) m p means d f other is =
        (enum_at spot, an_enum file at word spot name members (record { means = means; declared = d }), by)
      where
        by : (k : ℕ) → suc n ≤ k → Denotes files all (followed k files file base (named_at at word)) (enum_at spot)
        by k more =
            let step = above n k more in
            ap (λ (j : ℕ). followed j files file base (named_at at word)) step.1
            ∙ name_followed files file base step.0 at word spot (enum_of name members) m means d f
            ∙ ap (λ (j : ℕ). types.Enum (record { 0 = j })) (enum_counts files spot m f)
    name_meant file base at word spot (struct_of kin name fields) m p means d f other is =
        (struct_at spot, a_struct file at word spot kin name fields (record { means = means; declared = d }), by)
      where
        by : (k : ℕ) → suc n ≤ k → Denotes files all (followed k files file base (named_at at word)) (struct_at spot)
        by k more =
            let step = above n k more in
            ap (λ (j : ℕ). followed j files file base (named_at at word)) step.1
            ∙ name_followed files file base step.0 at word spot (struct_of kin name fields) m means d f
            ∙ ap (λ (j : ℕ). types.Struct (record { 0 = j })) (struct_counts files spot m f)
    name_meant file base at word spot (typedef_of name ty) m p means d f other is =
        (inner.0, a_typedef file at word spot name ty inner.0 (record { means = means; declared = d }) inner.1, by)
      where
        fewer : length (spot ∷ path) + n ≡ suc (definition_count files)
        fewer = omega (arith, left)

        inner : IsMeant n spot.file m.types ty
        inner =
            deeper (spot ∷ path) spot.file m.types ty (longer file at word spot name ty p means d) fewer
            (typedef_ends files told clean cycles_are spot name ty d).0 (aliased_run spot name ty m d f)

        by : (k : ℕ) → suc n ≤ k → Denotes files all (followed k files file base (named_at at word)) inner.0
        by k more =
            let step = above n k more in
            let same : followed k files file base (named_at at word) ≡ followed step.0 files spot.file m.types ty =
            ap (λ (j : ℕ). followed j files file base (named_at at word)) step.1
            ∙ name_followed files file base step.0 at word spot (typedef_of name ty) m means d f
            in
            subst (λ (t : Ty). Denotes files all t inner.0) (sym same) (inner.2 step.0 step.2)

    enough : suc n ≤ suc (definition_count files)
    enough = omega (arith, left)

    -- with all typedefs followed that there are
    in_full : (file base : ℕ) (tree : TypeTree) (m : TypeMeaning) → ((k : ℕ) → suc n ≤ k → Denotes files all (followed k files file base tree) m) → Denotes files all (ty_in files file base tree) m
    unfolding ty_in
    in_full file base tree m by = by (suc (definition_count files)) enough

    tree_meant : (file base : ℕ) (tree : TypeTree) → IsPath files path (type_spots files file tree) → type_refusals files file tree ≡ [] →
        IsRun all base (part_types (ty_in files file) base tree) → IsMeant (suc n) file base tree
    tree_meant file base (base_at at word) p named run = (base_type word, a_base file at word, λ k more. base_followed files file base k at word)
    tree_meant file base (named_at at word) p named run =
        let means = word_means files file at word named in
        let there = meaning_found files scopes.Types file word means.0 means.1 in
        let m = numbered files means.0 there.0 there.1 in
        name_meant file base at word means.0 there.0 m.0 p means.1 there.1 m.1 there.2.0 there.2.1
    tree_meant file base (map_at at key value) p named run =
        let ty = ty_in files file in
        let left_spots = type_spots files file key in
        let right_spots = type_spots files file value in
        let clear = none_of_both (type_refusals files file key) (type_refusals files file value) named in
        let key_ty = ty (base + 2) key in
        let value_ty = ty (base + 2 + parts key) value in
        let key_parts = part_types ty (base + 2) key in
        let value_parts = part_types ty (base + 2 + parts key) value in
        let second = run_rest all base key_ty (value_ty ∷ (key_parts ++ value_parts)) run in
        let behind = run_rest all (base + 1) value_ty (key_parts ++ value_parts) second in
        let two : base + 1 + 1 ≡ base + 2 = omega arith in
        let inner = run_at all (key_parts ++ value_parts) (base + 1 + 1) (base + 2) two behind in
        let k = tree_meant file (base + 2) key (path_left path left_spots right_spots p) clear.0 (run_left all (base + 2) key_parts value_parts inner) in
        let v = tree_meant file (base + 2 + parts key) value (path_right path left_spots right_spots p) clear.1
        (run_right all (base + 2) (parts key) key_parts value_parts (parts_length ty (base + 2) key) inner)
        in (
          map_of k.0 v.0,
          a_map file at key value k.0 v.0 k.1 v.1,
          λ j more. (
            part base,
            part (base + 1),
            map_followed files file base j at key value,
            (key_ty, run_first all base key_ty (value_ty ∷ (key_parts ++ value_parts)) run, in_full file (base + 2) key k.0 k.2),
            (value_ty, run_first all (base + 1) value_ty (key_parts ++ value_parts) second, in_full file (base + 2 + parts key) value v.0 v.2),
          ),
        )
    tree_meant file base (set_at at element) p named run =
        let ty = ty_in files file in
        let element_ty = ty (base + 1) element in
        let inner = run_rest all base element_ty (part_types ty (base + 1) element) run in
        let e = tree_meant file (base + 1) element p named inner in (
          set_of e.0,
          a_set file at element e.0 e.1,
          λ j more. (
            part base,
            set_followed files file base j at element,
            (element_ty, run_first all base element_ty (part_types ty (base + 1) element) run, in_full file (base + 1) element e.0 e.2),
          ),
        )
    tree_meant file base (list_at at element) p named run =
        let ty = ty_in files file in
        let element_ty = ty (base + 1) element in
        let inner = run_rest all base element_ty (part_types ty (base + 1) element) run in
        let e = tree_meant file (base + 1) element p named inner in (
          list_of e.0,
          a_list file at element e.0 e.1,
          λ j more. (
            part base,
            list_followed files file base j at element,
            (element_ty, run_first all base element_ty (part_types ty (base + 1) element) run, in_full file (base + 1) element e.0 e.2),
          ),
        )

  all_meant : (n : ℕ) → AllMeant n
  all_meant zero = none_left
  all_meant (suc n) = λ path file base tree p left named run. tree_meant n (all_meant n) path left file base tree p named run

  -- a type that names what there is, and whose parts stand in the table
  pub type_is : (file base : ℕ) (tree : TypeTree) → type_refusals files file tree ≡ [] → IsRun all base (part_types (ty_in files file) base tree) → IsTypeOf files all file tree (ty_in files file base tree)
  unfolding ty_in
  type_is file base tree named run =
      let start : IsPath files [] (type_spots files file tree) = record { distinct = tt; declared = λ s h. absurd h; leads = λ p t h g. absurd h } in
      let nothing : length {A = Spot} [] + suc (definition_count files) ≡ suc (definition_count files) = omega arith in
      let so = all_meant (suc (definition_count files)) [] file base tree start nothing named run in
      record { meaning = so.0; means = so.1; denotes = so.2 (suc (definition_count files)) (omega arith) }

module _ (files : List FileTree) (file : ℕ) (word : List ℕ) (s s' : Spot) (d d' : DefinitionTree) (n : IsNameOf files file word s d) (n' : IsNameOf files file word s' d') where
  same_spot : s ≡ s'
  same_spot = let both : Some s ≡ Some s' = sym n.means ∙ n'.means in cc

  same_definition : Some d ≡ Some d'
  same_definition = sym n.declared ∙ ap (definition_at files) same_spot ∙ n'.declared

-- a type means one thing
pub one_meaning : (files : List FileTree) → MeansOneThing files
one_meaning files file tree a b (a_base _ at word) (a_base _ _ _) = refl
one_meaning files file tree a b (a_map _ at key value k v x y) (a_map _ _ _ _ k' v' x' y') =
    let first = one_meaning files file key k k' x x' in
    let second = one_meaning files file value v v' y y' in
    ap (λ (m : TypeMeaning). map_of m v) first ∙ ap (map_of k') second
one_meaning files file tree a b (a_set _ at element e x) (a_set _ _ _ e' x') = ap set_of (one_meaning files file element e e' x x')
one_meaning files file tree a b (a_list _ at element e x) (a_list _ _ _ e' x') = ap list_of (one_meaning files file element e e' x x')
one_meaning files file tree a b (an_enum _ at word s name members n) (an_enum _ _ _ s' name' members' n') = ap enum_at (same_spot files file word s s' _ _ n n')
one_meaning files file tree a b (an_enum _ at word s name members n) (a_struct _ _ _ s' kin name' fields n') =
    let no = same_definition files file word s s' _ _ n n' in absurd (cc)
one_meaning files file tree a b (an_enum _ at word s name members n) (a_typedef _ _ _ s' name' ty m n' x') =
    let no = same_definition files file word s s' _ _ n n' in absurd (cc)
one_meaning files file tree a b (a_struct _ at word s kin name fields n) (an_enum _ _ _ s' name' members n') =
    let no = same_definition files file word s s' _ _ n n' in absurd (cc)
one_meaning files file tree a b (a_struct _ at word s kin name fields n) (a_struct _ _ _ s' kin' name' fields' n') = ap struct_at (same_spot files file word s s' _ _ n n')
one_meaning files file tree a b (a_struct _ at word s kin name fields n) (a_typedef _ _ _ s' name' ty m n' x') =
    let no = same_definition files file word s s' _ _ n n' in absurd (cc)
one_meaning files file tree a b (a_typedef _ at word s name ty m n x) (an_enum _ _ _ s' name' members n') =
    let no = same_definition files file word s s' _ _ n n' in absurd (cc)
one_meaning files file tree a b (a_typedef _ at word s name ty m n x) (a_struct _ _ _ s' kin name' fields n') =
    let no = same_definition files file word s s' _ _ n n' in absurd (cc)
one_meaning files file tree a b (a_typedef _ at word s name ty m n x) (a_typedef _ _ _ s' name' ty' m' n' x') =
    let spot = same_spot files file word s s' _ _ n n' in
    let d : Some (typedef_of name ty) ≡ Some (typedef_of name' ty') = same_definition files file word s s' _ _ n n' in
    let tree' : ty ≡ ty' = cc in
    let there = subst (λ (q : Spot). TypeOf files q.file ty' m') (sym spot) x' in
    one_meaning files s.file ty m m' x (subst (λ (t : TypeTree). TypeOf files s.file t m') (sym tree') there)
