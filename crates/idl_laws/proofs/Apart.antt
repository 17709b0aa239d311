-- Of files in which nothing is refused no two services have one name in the root file.
use Rattle.std.proofs.Common.{◌≡◌, ◌∙◌, ap, sym, subst, refl, ℕ, suc, ◌+◌, ◌||◌, ◌⊎◌, inl, inr, List, [], ◌∷◌, ◌++◌, length, take, slice_get, Option, Some, None, Bool, true, false, cond, nat_eq, option_and_then, arith, true≢false}
use Rattle.std.specs.Cmp.Lexicographic.{bytes_decides, pointwise, same_text}
use Rattle.std.specs.List.{list_any}
use Rattle.idl_document.specs.declared.document.Name.{Name}
use Rattle.idl_document.specs.Trees.{DefinitionTree, const_of, typedef_of, enum_of, struct_of, service_of, FunctionTree}
use Rattle.idl_rules.specs.declared.row.IdlRow.TheVariants as rows
use Rattle.idl_rules.specs.declared.scopes.Scope.TheVariants as scopes
use Rattle.idl_rules.specs.Doubles.{is_among, repeated, when}
use Rattle.idl_rules.specs.Rules.{all_inner, names_in, scope_refusals}
use Rattle.idl_names.specs.Files.{FileTree}
use Rattle.idl_names.specs.Meaning.{included, spot_at}
use Rattle.idl_names.specs.Paths.{last_place}
use Rattle.type_tables.specs.declared.declared.ServiceId.{ServiceId}
use Rattle.type_tables.specs.Names.{value_of}
use Rattle.type_tables.specs.Services.{number}
use Rattle.idl_schema.specs.Kept.{KeepRules}
use Rattle.idl_schema.specs.Numbers.{after, after_all, start}
use Rattle.idl_schema.specs.Schema.{declarations_of}
use Rattle.idl_schema.specs.Shares.{files_shares, prefix_of, shares}
use Rattle.idl_schema.specs.Stands.{AreApart}
use Rattle.idl_laws.specs.LookUps.{AreDotless}
use Rattle.idl_laws.proofs.Firsts.{First}
use Rattle.idl_laws.proofs.Lawful.{none_when}
use Rattle.idl_laws.proofs.Named.{FoundAt, FoundIn, Names, Prefixed, front_of, in_file, in_files, last_at, names_are, no_names, prefixed_by}
use Rattle.idl_laws.proofs.Runs.{none_of_both}

-- ---- lists of names

value_both : (word : List ℕ) (xs ys : Names) → value_of word xs ≡ None → value_of word ys ≡ None → value_of word (xs ++ ys) ≡ None
value_both word [] ys e f = f
value_both word (x ∷ xs) ys e f = by (pointwise nat_eq word x.0) (λ h. value_both word xs ys h f) e
  where
    by : (t : Bool) → (value_of word xs ≡ None → value_of word (xs ++ ys) ≡ None) → cond t (Some x.1) (value_of word xs) ≡ None → cond t (Some x.1) (value_of word (xs ++ ys)) ≡ None
    by true rest h = absurd (cc)
    by false rest h = rest h

-- a word has a value
abbrev Has : List ℕ → Names → Type 0
Has word names = (id : ServiceId) × (value_of word names ≡ Some id)

has_first : (x : List ℕ × ServiceId) (xs : Names) → Has x.0 (x ∷ xs)
has_first x xs = (x.1, ap (λ (t : Bool). cond t (Some x.1) (value_of x.0 xs)) ((bytes_decides x.0 x.0).1 refl))

has_more : (word : List ℕ) (x : List ℕ × ServiceId) (xs : Names) → Has word xs → Has word (x ∷ xs)
has_more word x xs h = by (pointwise nat_eq word x.0) refl
  where
    by : (t : Bool) → pointwise nat_eq word x.0 ≡ t → Has word (x ∷ xs)
    by true e = (x.1, ap (λ (t : Bool). cond t (Some x.1) (value_of word xs)) e)
    by false e = (h.0, ap (λ (t : Bool). cond t (Some x.1) (value_of word xs)) e ∙ h.1)

both_apart : (xs ys : Names) → AreApart xs → AreApart ys → ((word : List ℕ) → Has word xs → value_of word ys ≡ None) → AreApart (xs ++ ys)
both_apart [] ys a b other = b
both_apart (x ∷ xs) ys a b other =
    (value_both x.0 xs ys a.0 (other x.0 (has_first x xs)), both_apart xs ys a.1 b (λ word h. other word (has_more word x xs h)))

-- ---- the services of one file

or_right : (a b : Bool) → b ≡ true → (a || b) ≡ true
or_right true b e = refl
or_right false b e = e

-- this text is none of the names
abbrev IsNone : List ℕ → List Name → Type 0
IsNone text names = list_any (λ (n : Name). pointwise nat_eq text n.text) names ≡ false

-- what stands before, none of those behind it is
later_differs : (earlier : List (List ℕ)) (names : List Name) (text : List ℕ) → repeated rows.DuplicateName earlier names ≡ [] → is_among text earlier ≡ true → IsNone text names
later_differs earlier [] text e among = refl
later_differs earlier (n ∷ ns) text e among =
    let parts = none_of_both (when (is_among n.text earlier) n.at rows.DuplicateName) (repeated rows.DuplicateName (n.text ∷ earlier) ns) e in
    let fresh = none_when (is_among n.text earlier) n.at rows.DuplicateName parts.0 in
    by fresh (later_differs (n.text ∷ earlier) ns text parts.1 (or_right (pointwise nat_eq text n.text) (is_among text earlier) among)) (pointwise nat_eq text n.text) refl
  where
    by : is_among n.text earlier ≡ false → IsNone text ns → (t : Bool) → pointwise nat_eq text n.text ≡ t → (t || list_any (λ (m : Name). pointwise nat_eq text m.text) ns) ≡ false
    by fresh rest true h = absurd (true≢false (sym among ∙ ap (λ (w : List ℕ). is_among w earlier) (same_text text n.text (sym h)) ∙ fresh))
    by fresh rest false h = rest

neither : (a b : Bool) → (a || b) ≡ false → (a ≡ false) × (b ≡ false)
neither true b e = absurd (cc)
neither false b e = (refl, e)

same_behind : (p a b : List ℕ) → p ++ a ≡ p ++ b → a ≡ b
same_behind [] a b e = e
same_behind (x ∷ p) a b e = same_behind p a b (cc)

abbrev services_in : List DefinitionTree → List Name
services_in ds = names_in scopes.Services ds

module _ (files : List FileTree) (file : ℕ) (p : List ℕ) (prefix : prefix_of files file ≡ Some p) where
  not_later : (n : First) (ds : List DefinitionTree) (text : List ℕ) → IsNone text (services_in ds) → value_of (p ++ text) (shares files file n ds).names ≡ None
  not_later n [] text e = refl
  not_later n (const_of name ty value ∷ ds) text e = not_later (after n (const_of name ty value)) ds text e
  not_later n (typedef_of name ty ∷ ds) text e = not_later (after n (typedef_of name ty)) ds text e
  not_later n (enum_of name members ∷ ds) text e = not_later (after n (enum_of name members)) ds text e
  not_later n (struct_of kin name fields ∷ ds) text e = not_later (after n (struct_of kin name fields)) ds text e
  not_later n (service_of name base functions ∷ ds) text e =
      let parts = neither (pointwise nat_eq text name.text) (list_any (λ (m : Name). pointwise nat_eq text m.text) (services_in ds)) e in
      ap (value_of (p ++ text)) (names_are files file [] p prefix (number 0) n name base functions ds)
      ∙ by parts.0 (not_later (after n (service_of name base functions)) ds text parts.1) (pointwise nat_eq (p ++ text) (p ++ name.text)) refl
    where
      rest : Names
      rest = (shares files file (after n (service_of name base functions)) ds).names

      by : pointwise nat_eq text name.text ≡ false → value_of (p ++ text) rest ≡ None → (t : Bool) → pointwise nat_eq (p ++ text) (p ++ name.text) ≡ t → cond t (Some (number n.services)) (value_of (p ++ text) rest) ≡ None
      by other deeper true h =
          let same : text ≡ name.text = same_behind p text name.text (same_text (p ++ text) (p ++ name.text) (sym h)) in
          absurd (true≢false (sym ((bytes_decides text name.text).1 same) ∙ other))
      by other deeper false h = deeper

  file_apart : (earlier : List (List ℕ)) (n : First) (ds : List DefinitionTree) → repeated rows.DuplicateName earlier (services_in ds) ≡ [] → AreApart (shares files file n ds).names
  file_apart earlier n [] e = tt
  file_apart earlier n (const_of name ty value ∷ ds) e = file_apart earlier (after n (const_of name ty value)) ds e
  file_apart earlier n (typedef_of name ty ∷ ds) e = file_apart earlier (after n (typedef_of name ty)) ds e
  file_apart earlier n (enum_of name members ∷ ds) e = file_apart earlier (after n (enum_of name members)) ds e
  file_apart earlier n (struct_of kin name fields ∷ ds) e = file_apart earlier (after n (struct_of kin name fields)) ds e
  file_apart earlier n (service_of name base functions ∷ ds) e =
      let next = after n (service_of name base functions) in
      let parts = none_of_both (when (is_among name.text earlier) name.at rows.DuplicateName) (repeated rows.DuplicateName (name.text ∷ earlier) (services_in ds)) e in
      let mine : is_among name.text (name.text ∷ earlier) ≡ true = ap (λ (t : Bool). t || is_among name.text earlier) ((bytes_decides name.text name.text).1 refl) in
      let none = later_differs (name.text ∷ earlier) (services_in ds) name.text parts.1 mine in
      subst AreApart (sym (names_are files file [] p prefix (number 0) n name base functions ds)) (not_later next ds name.text none, file_apart (name.text ∷ earlier) next ds parts.1)

-- ---- the services of several files

-- the text of what stands before a name in the root
root_or_include : (files : List FileTree) (file : ℕ) (p : List ℕ) → prefix_of files file ≡ Some p → ((file ≡ 0) × (p ≡ [])) ⊎ Prefixed files file p
root_or_include files file p e = prefixed_by files file p e

module _ (files : List FileTree) (j k : ℕ) (p q a b word : List ℕ) (flat_a : last_place 46 a ≡ None) (flat_b : last_place 46 b ≡ None) (spelled_a : word ≡ p ++ a) (spelled_b : word ≡ q ++ b) where
  -- a name of the root has no dot, others have
  root_differs : p ≡ [] → Prefixed files k q → ⊥
  root_differs none x =
      let plain : word ≡ a = spelled_a ∙ ap (λ (w : List ℕ). w ++ a) none in
      let dotted : word ≡ (x.base ++ 46 ∷ []) ++ b = spelled_b ∙ ap (λ (w : List ℕ). w ++ b) x.spelled in
      let no : None ≡ Some (length x.base) = sym flat_a ∙ ap (last_place 46) (sym plain ∙ dotted) ∙ last_at x.base b flat_b in
      cc

  -- includes with one base name lead to one file
  same_file : Prefixed files j p → Prefixed files k q → j ≡ k
  same_file x y =
      let left : word ≡ (x.base ++ 46 ∷ []) ++ a = spelled_a ∙ ap (λ (w : List ℕ). w ++ a) x.spelled in
      let right : word ≡ (y.base ++ 46 ∷ []) ++ b = spelled_b ∙ ap (λ (w : List ℕ). w ++ b) y.spelled in
      let dot : Some (length x.base) ≡ Some (length y.base) = sym (last_at x.base a flat_a) ∙ ap (last_place 46) (sym left ∙ right) ∙ last_at y.base b flat_b in
      let long : length x.base ≡ length y.base = cc in
      let base : x.base ≡ y.base =
      sym (front_of x.base a) ∙ ap (take (length x.base)) (sym left ∙ right) ∙ ap (λ (n : ℕ). take n ((y.base ++ 46 ∷ []) ++ b)) long ∙ front_of y.base b
      in
      let one : Some j ≡ Some k = sym x.leads ∙ ap (included files 0) base ∙ y.leads in
      cc

module _ (files : List FileTree) (dotless : AreDotless files) where
  -- these are the files from this place on
  abbrev AreRest : ℕ → List FileTree → Type 0
  AreRest file fs = (i : ℕ) → slice_get files (file + i) ≡ slice_get fs i

  flat : (file place : ℕ) (tree : FileTree) (name : Name) (base : Option Name) (functions : List FunctionTree) → slice_get files file ≡ Some tree → slice_get tree.document.definitions place ≡ Some (service_of name base functions) →
      last_place 46 name.text ≡ None
  flat file place tree name base functions is stands =
      dotless (spot_at file place) name base functions (ap (λ (o : Option FileTree). option_and_then (λ t. slice_get t.document.definitions place) o) is ∙ stands)

  -- what is found in one file is not found in a later one
  module _ (file : ℕ) (tree : FileTree) (fs : List FileTree) (is : slice_get files file ≡ Some tree) (rest : AreRest (suc file) fs) (n m : First) (word : List ℕ) (id : ServiceId) where
    apart_by : (p : List ℕ) (prefix : prefix_of files file ≡ Some p) → FoundIn files file word p prefix id n tree.document.definitions → (other : ServiceId) → FoundAt files word other (suc file) m fs → ⊥
    apart_by p prefix f other g =
        let at = g.is_at in
        let there : slice_get files g.at ≡ Some g.tree = subst (λ (k : ℕ). slice_get files k ≡ Some g.tree) (sym at) (rest g.index ∙ g.stands) in
        let mine = flat file f.place tree f.name f.base f.functions is f.stands in
        let others = flat g.at g.found.place g.tree g.found.name g.found.base g.found.functions there g.found.stands in
        by (root_or_include files file p prefix) (root_or_include files g.at g.p g.prefix) mine others
      where
        by : ((file ≡ 0) × (p ≡ [])) ⊎ Prefixed files file p → ((g.at ≡ 0) × (g.p ≡ [])) ⊎ Prefixed files g.at g.p → last_place 46 f.name.text ≡ None → last_place 46 g.found.name.text ≡ None → ⊥
        by x (inl z) mine others =
            let at = g.is_at in
            let zero = z.0 in
            omega (arith, at, zero)
        by (inl z) (inr y) mine others = root_differs files file g.at p g.p f.name.text g.found.name.text word mine others f.spelled g.found.spelled z.1 y
        by (inr x) (inr y) mine others =
            let at = g.is_at in
            let same = same_file files file g.at p g.p f.name.text g.found.name.text word mine others f.spelled g.found.spelled x y in
            omega (arith, at, same)

    not_in_later : (o : Option (List ℕ)) → prefix_of files file ≡ o → value_of word (shares files file n tree.document.definitions).names ≡ Some id → value_of word (files_shares files (suc file) m fs).names ≡ None
    not_in_later None e h =
        let none : (let a : Option ServiceId = None in a) ≡ Some id = sym (ap (value_of word) (no_names files file e n tree.document.definitions)) ∙ h in
        absurd (cc)
    not_in_later (Some p) e h = by (value_of word (files_shares files (suc file) m fs).names) refl
      where
        by : (o : Option ServiceId) → value_of word (files_shares files (suc file) m fs).names ≡ o → o ≡ None
        by None g = refl
        by (Some other) g = absurd (apart_by p e (in_file files file word p e id n tree.document.definitions h) other (in_files files word other (suc file) m fs g))

  one_file : (file : ℕ) (n : First) (ds : List DefinitionTree) → scope_refusals scopes.Services ds ≡ [] → (o : Option (List ℕ)) → prefix_of files file ≡ o → AreApart (shares files file n ds).names
  one_file file n ds e None f = subst AreApart (sym (no_names files file f n ds)) tt
  one_file file n ds e (Some p) f = file_apart files file p f [] n ds e

  all_apart : (file : ℕ) (n : First) (fs : List FileTree) → AreRest file fs → KeepRules fs → AreApart (files_shares files file n fs).names
  all_apart file n [] rest kept = tt
  all_apart file n (f ∷ fs) rest kept =
      let ds = f.document.definitions in
      let m = after_all n ds in
      let scoped = scope_refusals scopes.Types ds ++ scope_refusals scopes.Constants ds in
      let services = (none_of_both scoped (scope_refusals scopes.Services ds) (none_of_both (scoped ++ scope_refusals scopes.Services ds) (all_inner ds) kept.0).0).1 in
      let here : slice_get files file ≡ Some f = subst (λ (k : ℕ). slice_get files k ≡ Some f) (first file) (rest 0) in
      let behind : AreRest (suc file) fs = λ i. ap (slice_get files) (next file i) ∙ rest (suc i) in
      both_apart (shares files file n ds).names (files_shares files (suc file) m fs).names (one_file file n ds services (prefix_of files file) refl) (all_apart (suc file) m fs behind kept.1)
      (λ word h. not_in_later file f fs here behind n m word h.0 (prefix_of files file) refl h.1)
    where
      first : (file : ℕ) → file + 0 ≡ file
      first file = omega arith

      next : (file i : ℕ) → suc file + i ≡ file + suc i
      next file i = omega arith

  pub names_apart : KeepRules files → AreApart (declarations_of files).names
  unfolding declarations_of
  names_apart kept = all_apart 0 start files (λ i. ap (slice_get files) (zero_more i)) kept
    where
      zero_more : (i : ℕ) → 0 + i ≡ i
      zero_more i = omega arith
