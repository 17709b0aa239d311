-- A service is found under the names that mean it in the root file.
use Rattle.std.proofs.Common.{◌≡◌, ◌∙◌, ap, sym, subst, refl, ℕ, zero, suc, ◌+◌, ◌==◌, ◌⊎◌, inl, inr, List, [], ◌∷◌, ◌++◌, length, take, drop, slice_get, Option, Some, None, Bool, true, false, cond, nat_eq, position, option_map, option_and_then, arith}
use Rattle.std.proofs.lemmas.Bool.Decides.{nat_tests}
use Rattle.std.specs.Cmp.Lexicographic.{bytes_decides, pointwise, same_text}
use Rattle.idl_document.specs.declared.document.Name.{Name}
use Rattle.idl_document.specs.Trees.{DefinitionTree, const_of, typedef_of, enum_of, struct_of, service_of, FunctionTree}
use Rattle.idl_rules.specs.declared.scopes.Scope.TheVariants as scopes
use Rattle.idl_names.specs.declared.documents.Spot.{Spot}
use Rattle.idl_names.specs.Files.{FileTree}
use Rattle.idl_names.specs.Meaning.{declared_in, declares, included, meaning, meaning_by, spot_at}
use Rattle.idl_names.specs.Paths.{base_name, last_by, last_place}
use Rattle.idl_names.specs.Targets.{definition_at}
use Rattle.idl_names.proofs.First.{position-cons}
use Rattle.type_tables.specs.declared.declared.ServiceId.{ServiceId}
use Rattle.type_tables.specs.Declarations.{Declarations}
use Rattle.type_tables.specs.Names.{value_of}
use Rattle.type_tables.specs.Roots.{with_name}
use Rattle.type_tables.specs.Services.{number}
use Rattle.idl_schema.specs.Numbers.{after, after_all, files_numbers, first_of, numbers_in, numbers_of, start}
use Rattle.idl_schema.specs.Schema.{declarations_of}
use Rattle.idl_schema.specs.Shares.{files_shares, is_place, prefix_by, prefix_in, prefix_of, root_name, root_paths, shares}
use Rattle.idl_resolve.specs.Loads.{Resolved}
use Rattle.idl_laws.specs.LookUps.{AnswersServices, AreDotless, IsRootService}
use Rattle.idl_laws.proofs.Firsts.{First}
use Rattle.idl_laws.proofs.Numbered.{service_counts}

abbrev pub Names : Type 0
Names = List (List ℕ × ServiceId)

-- among two lists of names
split_by : (word : List ℕ) (e : List ℕ × ServiceId) (xs ys : Names) (id : ServiceId) → (value_of word (xs ++ ys) ≡ Some id → (value_of word xs ≡ Some id) ⊎ (value_of word ys ≡ Some id)) → (b : Bool) →
    cond b (Some e.1) (value_of word (xs ++ ys)) ≡ Some id → (cond b (Some e.1) (value_of word xs) ≡ Some id) ⊎ (value_of word ys ≡ Some id)
split_by word e xs ys id rest true h = inl h
split_by word e xs ys id rest false h = rest h

split : (word : List ℕ) (xs ys : Names) (id : ServiceId) → value_of word (xs ++ ys) ≡ Some id → (value_of word xs ≡ Some id) ⊎ (value_of word ys ≡ Some id)
split word [] ys id h = inr h
split word (e ∷ xs) ys id h = split_by word e xs ys id (split word xs ys id) (pointwise nat_eq word e.0) h

-- ---- in one file

module _ (files : List FileTree) (file : ℕ) (word p : List ℕ) (prefix : prefix_of files file ≡ Some p) (id : ServiceId) where
  pub record FoundIn (n : First) (ds : List DefinitionTree) : Type 0 where
    pub place : ℕ
    pub name : Name
    pub base : Option Name
    pub functions : List FunctionTree
    pub m : First
    pub stands : slice_get ds place ≡ Some (service_of name base functions)
    pub numbers : slice_get (numbers_in n ds) place ≡ Some m
    pub is : id ≡ number m.services
    pub spelled : word ≡ p ++ name.text
    pub first : position (declares scopes.Services name.text) ds ≡ Some place

  shifted : (n : First) (d : DefinitionTree) (ds : List DefinitionTree) (f : FoundIn (after n d) ds) → declares scopes.Services f.name.text d ≡ false → FoundIn n (d ∷ ds)
  shifted n d ds f other = record {
    place = suc f.place;
    name = f.name;
    base = f.base;
    functions = f.functions;
    m = f.m;
    stands = f.stands;
    numbers = f.numbers;
    is = f.is;
    spelled = f.spelled;
    first = position-cons (declares scopes.Services f.name.text) d ds ∙ ap (λ (b : Bool). cond b (Some 0) (option_map suc (position (declares scopes.Services f.name.text) ds))) other
        ∙ ap (λ (o : Option ℕ). option_map suc o) f.first;
  }

  pub names_are : (n : First) (name : Name) (base : Option Name) (functions : List FunctionTree) (ds : List DefinitionTree) →
      (shares files file n (service_of name base functions ∷ ds)).names ≡ (p ++ name.text, number n.services) ∷ (shares files file (after n (service_of name base functions)) ds).names
  names_are n name base functions ds =
      ap (λ (o : Option (List ℕ)). with_name [] (root_name o name.text) (number n.services) ++ (shares files file (after n (service_of name base functions)) ds).names) prefix

  here_by : (n : First) (name : Name) (base : Option Name) (functions : List FunctionTree) (ds : List DefinitionTree) → (rest : Option ServiceId) → (rest ≡ Some id → FoundIn (after n (service_of name base functions)) ds) →
      (b : Bool) → pointwise nat_eq word (p ++ name.text) ≡ b → cond b (Some (number n.services)) rest ≡ Some id → FoundIn n (service_of name base functions ∷ ds)
  here_by n name base functions ds rest deeper true t h =
      let same : pointwise nat_eq name.text name.text ≡ true = (bytes_decides name.text name.text).1 refl in
      record {
        place = 0;
        name = name;
        base = base;
        functions = functions;
        m = n;
        stands = refl;
        numbers = refl;
        is = cc;
        spelled = same_text word (p ++ name.text) (sym t);
        first = position-cons (declares scopes.Services name.text) (service_of name base functions) ds
            ∙ ap (λ (b : Bool). cond b (Some 0) (option_map suc (position (declares scopes.Services name.text) ds))) same;
      }
  here_by n name base functions ds rest deeper false t h = shifted n (service_of name base functions) ds (deeper h) (apart (deeper h))
    where
      differs : (f : FoundIn (after n (service_of name base functions)) ds) → (b : Bool) → pointwise nat_eq f.name.text name.text ≡ b → b ≡ false
      differs f false e = refl
      differs f true e =
          let text : f.name.text ≡ name.text = same_text f.name.text name.text (sym e) in
          let yes : pointwise nat_eq word (p ++ name.text) ≡ true = (bytes_decides word (p ++ name.text)).1 (f.spelled ∙ ap (λ (w : List ℕ). p ++ w) text) in
          sym yes ∙ t

      apart : (f : FoundIn (after n (service_of name base functions)) ds) → pointwise nat_eq f.name.text name.text ≡ false
      apart f = differs f (pointwise nat_eq f.name.text name.text) refl

  pub in_file : (n : First) (ds : List DefinitionTree) → value_of word (shares files file n ds).names ≡ Some id → FoundIn n ds
  in_file n [] h = absurd (cc)
  in_file n (const_of name ty value ∷ ds) h = shifted n (const_of name ty value) ds (in_file (after n (const_of name ty value)) ds h) refl
  in_file n (typedef_of name ty ∷ ds) h = shifted n (typedef_of name ty) ds (in_file (after n (typedef_of name ty)) ds h) refl
  in_file n (enum_of name members ∷ ds) h = shifted n (enum_of name members) ds (in_file (after n (enum_of name members)) ds h) refl
  in_file n (struct_of kin name fields ∷ ds) h = shifted n (struct_of kin name fields) ds (in_file (after n (struct_of kin name fields)) ds h) refl
  in_file n (service_of name base functions ∷ ds) h =
      here_by n name base functions ds (value_of word (shares files file (after n (service_of name base functions)) ds).names) (in_file (after n (service_of name base functions)) ds)
      (pointwise nat_eq word (p ++ name.text)) refl (sym (ap (value_of word) (names_are n name base functions ds)) ∙ h)

-- a file that the root doesn't name puts no name there
module _ (files : List FileTree) (file : ℕ) (none : prefix_of files file ≡ None) where
  pub no_names : (n : First) (ds : List DefinitionTree) → (shares files file n ds).names ≡ []
  no_names n [] = refl
  no_names n (const_of name ty value ∷ ds) = no_names (after n (const_of name ty value)) ds
  no_names n (typedef_of name ty ∷ ds) = no_names (after n (typedef_of name ty)) ds
  no_names n (enum_of name members ∷ ds) = no_names (after n (enum_of name members)) ds
  no_names n (struct_of kin name fields ∷ ds) = no_names (after n (struct_of kin name fields)) ds
  no_names n (service_of name base functions ∷ ds) =
      ap (λ (o : Option (List ℕ)). with_name [] (root_name o name.text) (number n.services) ++ (shares files file (after n (service_of name base functions)) ds).names) none
      ∙ no_names (after n (service_of name base functions)) ds

-- ---- in all files

module _ (files : List FileTree) (word : List ℕ) (id : ServiceId) where
  pub record FoundAt (file : ℕ) (n : First) (fs : List FileTree) : Type 0 where
    pub index : ℕ
    pub at : ℕ
    pub tree : FileTree
    pub p : List ℕ
    pub m : First
    pub is_at : at ≡ file + index
    pub stands : slice_get fs index ≡ Some tree
    pub prefix : prefix_of files at ≡ Some p
    pub numbers : slice_get (files_numbers n fs) index ≡ Some (numbers_in m tree.document.definitions)
    pub found : FoundIn files at word p prefix id m tree.document.definitions

  first_file : (file : ℕ) (n : First) (f : FileTree) (fs : List FileTree) (o : Option (List ℕ)) → prefix_of files file ≡ o → value_of word (shares files file n f.document.definitions).names ≡ Some id → FoundAt file n (f ∷ fs)
  first_file file n f fs None e h =
      let none : (let a : Option ServiceId = None in a) ≡ Some id = sym (ap (value_of word) (no_names files file e n f.document.definitions)) ∙ h in
      absurd (cc)
  first_file file n f fs (Some p) e h = record {
    index = 0;
    at = file;
    tree = f;
    p = p;
    m = n;
    is_at = omega arith;
    stands = refl;
    prefix = e;
    numbers = refl;
    found = in_file files file word p e id n f.document.definitions h;
  }

  pub in_files : (file : ℕ) (n : First) (fs : List FileTree) → value_of word (files_shares files file n fs).names ≡ Some id → FoundAt file n fs
  in_files file n [] h = absurd (cc)
  in_files file n (f ∷ fs) h = by (in_files (suc file) (after_all n f.document.definitions) fs) (split word (shares files file n f.document.definitions).names (files_shares files (suc file) (after_all n f.document.definitions) fs).names id h)
    where
      rest_names : Names
      rest_names = (files_shares files (suc file) (after_all n f.document.definitions) fs).names

      by : (value_of word rest_names ≡ Some id → FoundAt (suc file) (after_all n f.document.definitions) fs) →
          (value_of word (shares files file n f.document.definitions).names ≡ Some id) ⊎ (value_of word rest_names ≡ Some id) → FoundAt file n (f ∷ fs)
      by deeper (inl g) = first_file file n f fs (prefix_of files file) refl g
      by deeper (inr g) =
          let r = deeper g in
          let at : r.at ≡ suc file + r.index = r.is_at in
          record { index = suc r.index; at = r.at; tree = r.tree; p = r.p; m = r.m; is_at = omega (arith, at); stands = r.stands; prefix = r.prefix; numbers = r.numbers; found = r.found }

-- ---- what the name means

pub last_at : (base name : List ℕ) → last_place 46 name ≡ None → last_place 46 ((base ++ 46 ∷ []) ++ name) ≡ Some (length base)
last_at [] name e = ap (last_by true) e
last_at (b ∷ base) name e = ap (last_by (b == 46)) (last_at base name e)

pub front_of : (base name : List ℕ) → take (length base) ((base ++ 46 ∷ []) ++ name) ≡ base
front_of [] name = refl
front_of (b ∷ base) name = ap (λ (w : List ℕ). b ∷ w) (front_of base name)

behind_dot : (base name : List ℕ) (n : ℕ) → n ≡ length base + 1 → drop n ((base ++ 46 ∷ []) ++ name) ≡ name
behind_dot [] name n e = ap (λ (k : ℕ). drop k (46 ∷ name)) (one n e)
  where
    one : (n : ℕ) → n ≡ length (let w : List ℕ = [] in w) + 1 → n ≡ 1
    one n e = omega (arith, e)
behind_dot (b ∷ base) name zero e = absurd (omega (arith, e))
behind_dot (b ∷ base) name (suc n) e = behind_dot base name n (omega (arith, e))

-- an included file is meant by the base name that its prefix has
pub record Prefixed (files : List FileTree) (file : ℕ) (p : List ℕ) : Type 0 where
  pub base : List ℕ
  pub spelled : p ≡ base ++ 46 ∷ []
  pub leads : included files 0 base ≡ Some file

place_is : (file : ℕ) (o : Option ℕ) → is_place file o ≡ true → o ≡ Some file
place_is file None e = absurd (cc)
place_is file (Some k) e = let same : k ≡ file = grind (arith, nat_tests) in ap (λ (j : ℕ). Some j) same

prefix_is : (files : List FileTree) (file : ℕ) (p : List ℕ) (o other : Option (List ℕ)) → (other ≡ Some p → Prefixed files file p) → prefix_by files file o other ≡ Some p → Prefixed files file p
prefix_is files file p None other rest h = rest h
prefix_is files file p (Some base) other rest h = by (is_place file (included files 0 base)) refl h
  where
    by : (b : Bool) → is_place file (included files 0 base) ≡ b → cond b (Some (base ++ 46 ∷ [])) other ≡ Some p → Prefixed files file p
    by true t g = record { base = base; spelled = cc; leads = place_is file (included files 0 base) t }
    by false t g = rest g

in_paths : (files : List FileTree) (file : ℕ) (p : List ℕ) (paths : List Name) → prefix_in files file paths ≡ Some p → Prefixed files file p
in_paths files file p [] h = absurd (cc)
in_paths files file p (path ∷ paths) h = prefix_is files file p (base_name path.text) (prefix_in files file paths) (in_paths files file p paths) h

by_file : (files : List FileTree) (file : ℕ) (p : List ℕ) (b : Bool) → (file == 0) ≡ b → cond b (Some []) (prefix_in files file (root_paths (slice_get files 0))) ≡ Some p → ((file ≡ 0) × (p ≡ [])) ⊎ Prefixed files file p
by_file files file p true t h = let none : file ≡ 0 = grind (arith, nat_tests) in inl (none, cc)
by_file files file p false t h = inr (in_paths files file p (root_paths (slice_get files 0)) h)

pub prefixed_by : (files : List FileTree) (file : ℕ) (p : List ℕ) → prefix_of files file ≡ Some p → ((file ≡ 0) × (p ≡ [])) ⊎ Prefixed files file p
unfolding prefix_of
prefixed_by files file p h = by_file files file p (file == 0) refl h

module _ (files : List FileTree) (word : List ℕ) (id : ServiceId) (r : FoundAt files word id 0 start files) (dotless : AreDotless files) where
  spot : Spot
  spot = spot_at r.at r.found.place

  same_file : r.index ≡ r.at
  same_file = let at = r.is_at in omega (arith, at)

  file_stands : slice_get files r.at ≡ Some r.tree
  file_stands = subst (λ (k : ℕ). slice_get files k ≡ Some r.tree) same_file r.stands

  declared : definition_at files (spot_at r.at r.found.place) ≡ Some (service_of r.found.name r.found.base r.found.functions)
  declared = ap (λ (o : Option FileTree). option_and_then (λ tree. slice_get tree.document.definitions r.found.place) o) file_stands ∙ r.found.stands

  numbered : first_of files (spot_at r.at r.found.place) ≡ Some r.found.m
  unfolding numbers_of
  numbered =
      ap (λ (o : Option (List First)). option_and_then (λ ns. slice_get ns r.found.place) o) (subst (λ (k : ℕ). slice_get (files_numbers start files) k ≡ Some (numbers_in r.m r.tree.document.definitions)) same_file r.numbers)
      ∙ r.found.numbers

  flat : last_place 46 r.found.name.text ≡ None
  flat = dotless (spot_at r.at r.found.place) r.found.name r.found.base r.found.functions declared

  own_name : declared_in files r.at scopes.Services r.found.name.text ≡ Some (spot_at r.at r.found.place)
  unfolding declared_in
  own_name =
      ap (λ (o : Option FileTree). option_and_then (λ tree. option_map (spot_at r.at) (position (declares scopes.Services r.found.name.text) tree.document.definitions)) o) file_stands
      ∙ ap (λ (o : Option ℕ). option_map (spot_at r.at) o) r.found.first

  means : ((r.at ≡ 0) × (r.p ≡ [])) ⊎ Prefixed files r.at r.p → meaning files 0 scopes.Services word ≡ Some (spot_at r.at r.found.place)
  unfolding meaning
  means (inl e) =
      let plain : word ≡ r.found.name.text = r.found.spelled ∙ ap (λ (w : List ℕ). w ++ r.found.name.text) e.1 in
      ap (λ (w : List ℕ). meaning_by files 0 scopes.Services w (last_place 46 w)) plain ∙ ap (meaning_by files 0 scopes.Services r.found.name.text) flat
      ∙ ap (λ (k : ℕ). declared_in files k scopes.Services r.found.name.text) (sym e.0) ∙ own_name
  means (inr q) =
      let whole : word ≡ (q.base ++ 46 ∷ []) ++ r.found.name.text = r.found.spelled ∙ ap (λ (w : List ℕ). w ++ r.found.name.text) q.spelled in
      let long : List ℕ = (q.base ++ 46 ∷ []) ++ r.found.name.text in
      ap (λ (w : List ℕ). meaning_by files 0 scopes.Services w (last_place 46 w)) whole
      ∙ ap (meaning_by files 0 scopes.Services ((q.base ++ 46 ∷ []) ++ r.found.name.text)) (last_at q.base r.found.name.text flat)
      ∙ ap (λ (w : List ℕ). option_and_then (λ other. declared_in files other scopes.Services (drop (length q.base + 1) ((q.base ++ 46 ∷ []) ++ r.found.name.text))) (included files 0 w)) (front_of q.base r.found.name.text)
      ∙ ap (λ (o : Option ℕ). option_and_then (λ other. declared_in files other scopes.Services (drop (length q.base + 1) ((q.base ++ 46 ∷ []) ++ r.found.name.text))) o) q.leads
      ∙ ap (λ (w : List ℕ). declared_in files r.at scopes.Services w) (behind_dot q.base r.found.name.text (length q.base + 1) refl) ∙ own_name

  root_service : IsRootService files word id
  root_service = record {
    spot = spot_at r.at r.found.place;
    name = r.found.name;
    base = r.found.base;
    functions = r.found.functions;
    declared = declared;
    means = means (prefixed_by files r.at r.p r.prefix);
    is = r.found.is ∙ ap number (service_counts files (spot_at r.at r.found.place) r.found.m numbered);
  }

answers : (files : List FileTree) → AreDotless files → AnswersServices files (declarations_of files)
unfolding declarations_of
answers files dotless word id h = root_service files word id (in_files files word id 0 start files h) dotless

pub services_named : (files : List FileTree) (schema : Declarations) → Resolved files schema → AreDotless files → AnswersServices files schema
services_named files schema r dotless = subst (AnswersServices files) (sym r.means) (answers files dotless)
