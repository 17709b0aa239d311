-- The services of the root file and of its includes are found by name.
use Rattle.std.proofs.Common.{◌≡◌, ◌∙◌, ap, sym, subst, refl, ℕ, zero, suc, ◌+◌, ◌==◌, ◌⊎◌, inl, inr, List, [], ◌∷◌, ◌++◌, slice_get, Option, Some, None, Bool, true, false, cond, nat_eq, position, option_and_then, arith}
use Rattle.std.proofs.lemmas.Bool.Decides.{nat_tests}
use Rattle.std.specs.Cmp.Lexicographic.{bytes_decides, pointwise, same_text}
use Rattle.idl_document.specs.declared.document.Name.{Name}
use Rattle.idl_document.specs.Trees.{DefinitionTree, const_of, typedef_of, enum_of, struct_of, service_of, FunctionTree}
use Rattle.idl_names.specs.Files.{FileTree}
use Rattle.idl_names.specs.Meaning.{has_base, included, is_named}
use Rattle.idl_names.specs.Paths.{base_name}
use Rattle.type_tables.specs.declared.declared.ServiceId.{ServiceId}
use Rattle.type_tables.specs.Declarations.{Declarations}
use Rattle.type_tables.specs.Names.{value_of}
use Rattle.type_tables.specs.Services.{number}
use Rattle.idl_schema.specs.Numbers.{after, after_all, start}
use Rattle.idl_schema.specs.Schema.{declarations_of}
use Rattle.idl_schema.specs.Shares.{files_shares, is_place, prefix_by, prefix_in, prefix_of, root_paths, shares}
use Rattle.idl_resolve.specs.Loads.{Resolved}
use Rattle.idl_laws.specs.LookUps.{FindsServices, IsNearRoot, IsRootName, own, prefixed}
use Rattle.idl_laws.proofs.Firsts.{First}
use Rattle.idl_laws.proofs.Named.{Names, Prefixed, names_are, prefixed_by}
use Rattle.idl_laws.proofs.Placed.{position_found}

-- something is found
abbrev IsFound : List ℕ → Names → Type 0
IsFound word names = (id : ServiceId) × (value_of word names ≡ Some id)

left_by : (word : List ℕ) (e : List ℕ × ServiceId) (xs ys : Names) → (IsFound word xs → IsFound word (xs ++ ys)) → (b : Bool) → pointwise nat_eq word e.0 ≡ b → IsFound word (e ∷ xs) → IsFound word (e ∷ (xs ++ ys))
left_by word e xs ys rest true t f = (e.1, ap (λ (b : Bool). cond b (Some e.1) (value_of word (xs ++ ys))) t)
left_by word e xs ys rest false t f =
    let inner = rest (f.0, sym (ap (λ (b : Bool). cond b (Some e.1) (value_of word xs)) t) ∙ f.1) in
    (inner.0, ap (λ (b : Bool). cond b (Some e.1) (value_of word (xs ++ ys))) t ∙ inner.1)

found_left : (word : List ℕ) (xs ys : Names) → IsFound word xs → IsFound word (xs ++ ys)
found_left word [] ys f = absurd (no f.1)
  where
    no : (let o : Option ServiceId = None in o) ≡ Some f.0 → ⊥
    no e = cc
found_left word (e ∷ xs) ys f = left_by word e xs ys (found_left word xs ys) (pointwise nat_eq word e.0) refl f

right_by : (word : List ℕ) (e : List ℕ × ServiceId) (names : Names) → IsFound word names → (b : Bool) → pointwise nat_eq word e.0 ≡ b → IsFound word (e ∷ names)
right_by word e names f true t = (e.1, ap (λ (b : Bool). cond b (Some e.1) (value_of word names)) t)
right_by word e names f false t = (f.0, ap (λ (b : Bool). cond b (Some e.1) (value_of word names)) t ∙ f.1)

found_right : (word : List ℕ) (xs ys : Names) → IsFound word ys → IsFound word (xs ++ ys)
found_right word [] ys f = f
found_right word (e ∷ xs) ys f = right_by word e (xs ++ ys) (found_right word xs ys f) (pointwise nat_eq word e.0) refl

module _ (files : List FileTree) (name : Name) (base : Option Name) (functions : List FunctionTree) (p : List ℕ) where
  in_file : (file : ℕ) (n : First) (ds : List DefinitionTree) (j : ℕ) → prefix_of files file ≡ Some p → slice_get ds j ≡ Some (service_of name base functions) → IsFound (p ++ name.text) (shares files file n ds).names
  in_file file n [] j e s = absurd (cc)
  in_file file n (const_of a b c ∷ ds) zero e s = absurd (cc)
  in_file file n (typedef_of a b ∷ ds) zero e s = absurd (cc)
  in_file file n (enum_of a b ∷ ds) zero e s = absurd (cc)
  in_file file n (struct_of a b c ∷ ds) zero e s = absurd (cc)
  in_file file n (service_of a b c ∷ ds) zero e s =
      let same : a ≡ name = cc in
      let text : pointwise nat_eq (p ++ name.text) (p ++ a.text) ≡ true = (bytes_decides (p ++ name.text) (p ++ a.text)).1 (ap (λ (m : Name). p ++ m.text) (sym same)) in (
        number n.services,
        ap (value_of (p ++ name.text)) (names_are files file (p ++ name.text) p e (number n.services) n a b c ds)
            ∙ ap (λ (t : Bool). cond t (Some (number n.services)) (value_of (p ++ name.text) (shares files file (after n (service_of a b c)) ds).names)) text,
      )
  in_file file n (const_of a b c ∷ ds) (suc j) e s = in_file file (after n (const_of a b c)) ds j e s
  in_file file n (typedef_of a b ∷ ds) (suc j) e s = in_file file (after n (typedef_of a b)) ds j e s
  in_file file n (enum_of a b ∷ ds) (suc j) e s = in_file file (after n (enum_of a b)) ds j e s
  in_file file n (struct_of a b c ∷ ds) (suc j) e s = in_file file (after n (struct_of a b c)) ds j e s
  in_file file n (service_of a b c ∷ ds) (suc j) e s =
      let rest = in_file file (after n (service_of a b c)) ds j e s in
      let whole = names_are files file (p ++ name.text) p e (number n.services) n a b c ds in
      subst (IsFound (p ++ name.text)) (sym whole) (right_by (p ++ name.text) (p ++ a.text, number n.services) (shares files file (after n (service_of a b c)) ds).names rest (pointwise nat_eq (p ++ name.text) (p ++ a.text)) refl)

  in_files : (file : ℕ) (n : First) (fs : List FileTree) (k j : ℕ) → prefix_of files (file + k) ≡ Some p → option_and_then (λ tree. slice_get tree.document.definitions j) (slice_get fs k) ≡ Some (service_of name base functions) →
      IsFound (p ++ name.text) (files_shares files file n fs).names
  in_files file n [] k j e s = absurd (cc)
  in_files file n (f ∷ fs) zero j e s =
      let here : file + 0 ≡ file = omega arith in
      found_left (p ++ name.text) (shares files file n f.document.definitions).names (files_shares files (suc file) (after_all n f.document.definitions) fs).names
      (in_file file n f.document.definitions j (subst (λ (m : ℕ). prefix_of files m ≡ Some p) here e) s)
  in_files file n (f ∷ fs) (suc k) j e s =
      let next : file + suc k ≡ suc file + k = omega arith in
      found_right (p ++ name.text) (shares files file n f.document.definitions).names (files_shares files (suc file) (after_all n f.document.definitions) fs).names
      (in_files (suc file) (after_all n f.document.definitions) fs k j (subst (λ (m : ℕ). prefix_of files m ≡ Some p) next e) s)

-- ---- what a file is called in the root

abbrev HasPrefix : List FileTree → ℕ → Type 0
HasPrefix files file = (p : List ℕ) × (prefix_of files file ≡ Some p)

-- one that a path of these gives
abbrev IsGiven : List FileTree → ℕ → List Name → Type 0
IsGiven files file paths = (p : List ℕ) × (prefix_in files file paths ≡ Some p)

place_test : (file : ℕ) (o : Option ℕ) → o ≡ Some file → is_place file o ≡ true
place_test file o e = ap (is_place file) e ∙ itself file
  where
    itself : (k : ℕ) → (k == k) ≡ true
    itself k = grind (arith, nat_tests)

-- a path with this base name gives one, and so do those before and behind it
given_by : (files : List FileTree) (file : ℕ) (o other : Option (List ℕ)) → (p : List ℕ) × (other ≡ Some p) → (q : List ℕ) × (prefix_by files file o other ≡ Some q)
given_by files file None other r = r
given_by files file (Some base) other r = by (is_place file (included files 0 base)) refl
  where
    by : (b : Bool) → is_place file (included files 0 base) ≡ b → (q : List ℕ) × (prefix_by files file (Some base) other ≡ Some q)
    by true t = (base ++ 46 ∷ [], ap (λ (b : Bool). cond b (Some (base ++ 46 ∷ [])) other) t)
    by false t = (r.0, ap (λ (b : Bool). cond b (Some (base ++ 46 ∷ [])) other) t ∙ r.1)

base_of_path : (base : List ℕ) (o : Option (List ℕ)) → is_named base o ≡ true → o ≡ Some base
base_of_path base None e = absurd (cc)
base_of_path base (Some other) e = ap (λ (w : List ℕ). Some w) (sym (same_text base other (sym e)))

given_here : (files : List FileTree) (file : ℕ) (base : List ℕ) (path : Name) (other : Option (List ℕ)) → included files 0 base ≡ Some file → has_base base path ≡ true →
    (q : List ℕ) × (prefix_by files file (base_name path.text) other ≡ Some q)
given_here files file base path other leads named = (
  base ++ 46 ∷ [],
  ap (λ (o : Option (List ℕ)). prefix_by files file o other) (base_of_path base (base_name path.text) named)
      ∙ ap (λ (b : Bool). cond b (Some (base ++ 46 ∷ [])) other) (place_test file (included files 0 base) leads),
)

given : (files : List FileTree) (file : ℕ) (base : List ℕ) (paths : List Name) (j : ℕ) (path : Name) → included files 0 base ≡ Some file → slice_get paths j ≡ Some path → has_base base path ≡ true → IsGiven files file paths
given files file base [] j path leads s named = absurd (cc)
given files file base (x ∷ paths) zero path leads s named =
    let same : path ≡ x = cc in
    given_here files file base x (prefix_in files file paths) leads (subst (λ (y : Name). has_base base y ≡ true) same named)
given files file base (x ∷ paths) (suc j) path leads s named = given_by files file (base_name x.text) (prefix_in files file paths) (given files file base paths j path leads s named)

-- an include of the root has a path
in_root_by : (files : List FileTree) (file : ℕ) (base : List ℕ) (root : FileTree) (o : Option ℕ) → position (has_base base) root.document.includes ≡ o → option_and_then (slice_get root.includes) o ≡ Some file →
    included files 0 base ≡ Some file → IsGiven files file root.document.includes
in_root_by files file base root None is e leads = absurd (cc)
in_root_by files file base root (Some j) is e leads =
    let found = position_found (has_base base) root.document.includes j is in
    given files file base root.document.includes j found.0 leads found.1 found.2

in_root : (files : List FileTree) (file : ℕ) (base : List ℕ) (o : Option FileTree) → slice_get files 0 ≡ o →
    option_and_then (λ tree. option_and_then (slice_get tree.includes) (position (has_base base) tree.document.includes)) o ≡ Some file → included files 0 base ≡ Some file → IsGiven files file (root_paths o)
in_root files file base None is e leads = absurd (cc)
in_root files file base (Some root) is e leads = in_root_by files file base root (position (has_base base) root.document.includes) refl e leads

included_given : (files : List FileTree) (file : ℕ) (base : List ℕ) → included files 0 base ≡ Some file → IsGiven files file (root_paths (slice_get files 0))
unfolding included
included_given files file base leads = in_root files file base (slice_get files 0) refl leads leads

near : (files : List FileTree) (file : ℕ) → IsNearRoot files file → HasPrefix files file
unfolding prefix_of
near files file (inl e) = ([], ap (λ (b : Bool). cond b (Some []) (prefix_in files file (root_paths (slice_get files 0)))) (ap (λ (k : ℕ). k == 0) e))
near files file (inr b) = by (file == 0) refl (included_given files file b.0 b.1)
  where
    by : (t : Bool) → (file == 0) ≡ t → IsGiven files file (root_paths (slice_get files 0)) → (p : List ℕ) × (cond (file == 0) (Some []) (prefix_in files file (root_paths (slice_get files 0))) ≡ Some p)
    by true t g = ([], ap (λ (b : Bool). cond b (Some []) (prefix_in files file (root_paths (slice_get files 0)))) t)
    by false t g = (g.0, ap (λ (b : Bool). cond b (Some []) (prefix_in files file (root_paths (slice_get files 0)))) t ∙ g.1)

root_name_by : (files : List FileTree) (file : ℕ) (p name : List ℕ) → ((file ≡ 0) × (p ≡ [])) ⊎ Prefixed files file p → IsRootName files file name (p ++ name)
root_name_by files file p name (inl e) = subst (λ (w : List ℕ). IsRootName files file name (w ++ name)) (sym e.1) (own e.0)
root_name_by files file p name (inr q) = subst (λ (w : List ℕ). IsRootName files file name (w ++ name)) (sym q.spelled) (prefixed q.base q.leads)

all_found : (files : List FileTree) → FindsServices files (declarations_of files)
unfolding declarations_of
all_found files spot name base functions declared is_near =
    let p = near files spot.file is_near in
    let at : 0 + spot.file ≡ spot.file = omega arith in (
      p.0 ++ name.text,
      root_name_by files spot.file p.0 name.text (prefixed_by files spot.file p.0 p.1),
      in_files files name base functions p.0 0 start files spot.file spot.definition (subst (λ (k : ℕ). prefix_of files k ≡ Some p.0) (sym at) p.1) declared,
    )

pub services_found : (files : List FileTree) (schema : Declarations) → Resolved files schema → FindsServices files schema
services_found files schema r = subst (FindsServices files) (sym r.means) (all_found files)
