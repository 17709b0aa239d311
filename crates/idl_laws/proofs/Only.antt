-- The service that is used where none is named is the only one that the root file declares.
use Rattle.std.proofs.Common.{◌≡◌, ◌∙◌, ap, sym, subst, refl, ℕ, zero, suc, ◌==◌, ◌||◌, not, ◌⊎◌, inl, inr, List, [], ◌∷◌, ◌++◌, slice_get, Option, Some, None, Bool, true, false, cond, option_and_then, arith}
use Rattle.std.specs.List.{list_any}
use Rattle.idl_document.specs.declared.document.Name.{Name}
use Rattle.idl_document.specs.Trees.{DefinitionTree, const_of, typedef_of, enum_of, struct_of, service_of, FunctionTree}
use Rattle.idl_names.specs.declared.documents.Spot.{Spot}
use Rattle.idl_names.specs.Files.{FileTree}
use Rattle.idl_names.specs.Meaning.{spot_at}
use Rattle.idl_names.specs.Paths.{last_by, last_place}
use Rattle.idl_names.specs.Targets.{definition_at}
use Rattle.type_tables.specs.declared.declared.ServiceId.{ServiceId}
use Rattle.type_tables.specs.Declarations.{Declarations}
use Rattle.type_tables.specs.Roots.{dotless, only, rooted}
use Rattle.type_tables.specs.Services.{number}
use Rattle.idl_schema.specs.Numbers.{after, after_all, first_of, numbers_in, numbers_of, start}
use Rattle.idl_schema.specs.Schema.{declarations_of}
use Rattle.idl_schema.specs.Shares.{files_shares, prefix_of, shares}
use Rattle.idl_resolve.specs.Loads.{Resolved}
use Rattle.idl_laws.specs.Counts.{service_number}
use Rattle.idl_laws.specs.LookUps.{AnswersOnly, AreDotless, IsOnlyService}
use Rattle.idl_laws.proofs.Firsts.{First}
use Rattle.idl_laws.proofs.Named.{Names, Prefixed, names_are, no_names, prefixed_by}
use Rattle.idl_laws.proofs.Numbered.{service_counts}

-- ---- dots

none_behind : (o : Option ℕ) (t : Bool) → last_by t o ≡ None → (o ≡ None) × (t ≡ false)
none_behind (Some k) t e = absurd (cc)
none_behind None true e = absurd (cc)
none_behind None false e = (refl, refl)

or_false : (a b : Bool) → a ≡ false → b ≡ false → (a || b) ≡ false
or_false true b e f = absurd (cc)
or_false false b e f = f

or_right : (a b : Bool) → b ≡ true → (a || b) ≡ true
or_right true b e = refl
or_right false b e = e

no_dot : (word : List ℕ) → last_place 46 word ≡ None → list_any (λ b. b == 46) word ≡ false
no_dot [] e = refl
no_dot (b ∷ bs) e =
    let both = none_behind (last_place 46 bs) (b == 46) e in
    or_false (b == 46) (list_any (λ c. c == 46) bs) both.1 (no_dot bs both.0)

has_dot : (base name : List ℕ) → list_any (λ b. b == 46) ((base ++ 46 ∷ []) ++ name) ≡ true
has_dot [] name = refl
has_dot (b ∷ base) name = or_right (b == 46) (list_any (λ c. c == 46) ((base ++ 46 ∷ []) ++ name)) (has_dot base name)

-- ---- the names without a dot

rooted_both : (xs ys : Names) → rooted (xs ++ ys) ≡ rooted xs ++ rooted ys
rooted_both [] ys = refl
rooted_both (e ∷ xs) ys = by (dotless e.0) (rooted_both xs ys)
  where
    by : (b : Bool) → rooted (xs ++ ys) ≡ rooted xs ++ rooted ys → cond b (e.1 ∷ rooted (xs ++ ys)) (rooted (xs ++ ys)) ≡ cond b (e.1 ∷ rooted xs) (rooted xs) ++ rooted ys
    by true r = ap (λ (s : List ServiceId). e.1 ∷ s) r
    by false r = r

append_none : (xs : List ServiceId) → xs ++ [] ≡ xs
append_none [] = refl
append_none (x ∷ xs) = ap (λ (s : List ServiceId). x ∷ s) (append_none xs)

module _ (files : List FileTree) (file : ℕ) (p : List ℕ) (prefix : prefix_of files file ≡ Some p) where
  step : (n : First) (name : Name) (base : Option Name) (functions : List FunctionTree) (ds : List DefinitionTree) →
      rooted (shares files file n (service_of name base functions ∷ ds)).names
      ≡ cond (dotless (p ++ name.text)) (number n.services ∷ rooted (shares files file (after n (service_of name base functions)) ds).names) (rooted (shares files file (after n (service_of name base functions)) ds).names)
  step n name base functions ds = ap rooted (names_are files file (p ++ name.text) p prefix (number n.services) n name base functions ds)

  -- behind a base name and a dot none is without
  module _ (base : List ℕ) (spelled : p ≡ base ++ 46 ∷ []) where
    no_root : (n : First) (ds : List DefinitionTree) → rooted (shares files file n ds).names ≡ []
    no_root n [] = refl
    no_root n (const_of a b c ∷ ds) = no_root (after n (const_of a b c)) ds
    no_root n (typedef_of a b ∷ ds) = no_root (after n (typedef_of a b)) ds
    no_root n (enum_of a b ∷ ds) = no_root (after n (enum_of a b)) ds
    no_root n (struct_of a b c ∷ ds) = no_root (after n (struct_of a b c)) ds
    no_root n (service_of a b c ∷ ds) =
        let dot : dotless (p ++ a.text) ≡ false = ap (λ (w : List ℕ). dotless (w ++ a.text)) spelled ∙ ap not (has_dot base a.text) in
        step n a b c ds ∙ ap (λ (t : Bool). cond t (number n.services ∷ rooted (shares files file (after n (service_of a b c)) ds).names) (rooted (shares files file (after n (service_of a b c)) ds).names)) dot
        ∙ no_root (after n (service_of a b c)) ds

-- a file that isn't the root has none
other_file : (files : List FileTree) (file : ℕ) (n : First) (ds : List DefinitionTree) → rooted (shares files (suc file) n ds).names ≡ []
other_file files file n ds = by (prefix_of files (suc file)) refl
  where
    by_prefix : (p : List ℕ) → prefix_of files (suc file) ≡ Some p → ((suc file ≡ 0) × (p ≡ [])) ⊎ Prefixed files (suc file) p → rooted (shares files (suc file) n ds).names ≡ []
    by_prefix p e (inl z) = let none = z.0 in absurd (omega (arith, none))
    by_prefix p e (inr q) = no_root files (suc file) p e q.base q.spelled n ds

    by : (o : Option (List ℕ)) → prefix_of files (suc file) ≡ o → rooted (shares files (suc file) n ds).names ≡ []
    by None e = ap rooted (no_names files (suc file) e n ds)
    by (Some p) e = by_prefix p e (prefixed_by files (suc file) p e)

other_files : (files : List FileTree) (file : ℕ) (n : First) (fs : List FileTree) → rooted (files_shares files (suc file) n fs).names ≡ []
other_files files file n [] = refl
other_files files file n (f ∷ fs) =
    rooted_both (shares files (suc file) n f.document.definitions).names (files_shares files (suc (suc file)) (after_all n f.document.definitions) fs).names
    ∙ ap (λ (s : List ServiceId). s ++ rooted (files_shares files (suc (suc file)) (after_all n f.document.definitions) fs).names) (other_file files file n f.document.definitions)
    ∙ other_files files (suc file) (after_all n f.document.definitions) fs

-- ---- those of the root file

abbrev AllFlat : List DefinitionTree → Type 0
AllFlat ds = (j : ℕ) (name : Name) (base : Option Name) (functions : List FunctionTree) → slice_get ds j ≡ Some (service_of name base functions) → last_place 46 name.text ≡ None

abbrev NoService : List DefinitionTree → Type 0
NoService ds = (j : ℕ) (name : Name) (base : Option Name) (functions : List FunctionTree) → slice_get ds j ≡ Some (service_of name base functions) → ⊥

nowhere : NoService []
nowhere j a b c s = absurd (cc)

cons_first : (x y : ServiceId) (xs ys : List ServiceId) → x ∷ xs ≡ y ∷ ys → x ≡ y
cons_first x y xs ys e = cc

cons_rest : (x y : ServiceId) (xs ys : List ServiceId) → x ∷ xs ≡ y ∷ ys → xs ≡ ys
cons_rest x y xs ys e = cc

not_none : (x : ServiceId) (xs : List ServiceId) → x ∷ xs ≡ [] → ⊥
not_none x xs e = cc

record OneService (n : First) (ds : List DefinitionTree) (id : ServiceId) : Type 0 where
  place : ℕ
  name : Name
  base : Option Name
  functions : List FunctionTree
  m : First
  stands : slice_get ds place ≡ Some (service_of name base functions)
  numbers : slice_get (numbers_in n ds) place ≡ Some m
  is : id ≡ number m.services
  alone : (j : ℕ) (a : Name) (b : Option Name) (c : List FunctionTree) → slice_get ds j ≡ Some (service_of a b c) → j ≡ place

-- another declaration before them
later_one : (n : First) (d : DefinitionTree) (ds : List DefinitionTree) (id : ServiceId) → ((a : Name) (b : Option Name) (c : List FunctionTree) → d ≡ service_of a b c → ⊥) → OneService (after n d) ds id → OneService n (d ∷ ds) id
later_one n d ds id other o = record { place = suc o.place; name = o.name; base = o.base; functions = o.functions; m = o.m; stands = o.stands; numbers = o.numbers; is = o.is; alone = alone }
  where
    alone : (j : ℕ) (a : Name) (b : Option Name) (c : List FunctionTree) → slice_get (d ∷ ds) j ≡ Some (service_of a b c) → j ≡ suc o.place
    alone zero a b c e = let same : d ≡ service_of a b c = cc in absurd (other a b c same)
    alone (suc j) a b c e = ap suc (o.alone j a b c e)

later_none : (d : DefinitionTree) (ds : List DefinitionTree) → ((a : Name) (b : Option Name) (c : List FunctionTree) → d ≡ service_of a b c → ⊥) → NoService ds → NoService (d ∷ ds)
later_none d ds other none zero a b c e = let same : d ≡ service_of a b c = cc in other a b c same
later_none d ds other none (suc j) a b c e = none j a b c e

abbrev Alone : List DefinitionTree → ℕ → Type 0
Alone ds place = (j : ℕ) (a : Name) (b : Option Name) (c : List FunctionTree) → slice_get ds j ≡ Some (service_of a b c) → j ≡ place

not_later : (j : ℕ) → suc j ≡ 0 → ⊥
not_later j e = cc

before : (j k : ℕ) → suc j ≡ suc k → j ≡ k
before j k e = cc

same_some : (n m : First) → Some n ≡ Some m → n ≡ m
same_some n m e = cc

alone_behind : (d : DefinitionTree) (ds : List DefinitionTree) (place : ℕ) → Alone (d ∷ ds) (suc place) → Alone ds place
alone_behind d ds place alone j a b c e = before j place (alone (suc j) a b c e)

number_there : (n : First) (ds : List DefinitionTree) (place : ℕ) (d : DefinitionTree) → slice_get ds place ≡ Some d → (m : First) × (slice_get (numbers_in n ds) place ≡ Some m)
number_there n [] place d e = absurd (cc)
number_there n (x ∷ ds) zero d e = (n, refl)
number_there n (x ∷ ds) (suc place) d e = number_there (after n x) ds place d e

module _ (files : List FileTree) (prefix : prefix_of files 0 ≡ Some []) where
  own_step : (n : First) (a : Name) (b : Option Name) (c : List FunctionTree) (ds : List DefinitionTree) → last_place 46 a.text ≡ None →
      rooted (shares files 0 n (service_of a b c ∷ ds)).names ≡ number n.services ∷ rooted (shares files 0 (after n (service_of a b c)) ds).names
  own_step n a b c ds flat =
      let plain : dotless a.text ≡ true = ap not (no_dot a.text flat) in
      step files 0 [] prefix n a b c ds
      ∙ ap (λ (t : Bool). cond t (number n.services ∷ rooted (shares files 0 (after n (service_of a b c)) ds).names) (rooted (shares files 0 (after n (service_of a b c)) ds).names)) plain

  none_there : (n : First) (ds : List DefinitionTree) → AllFlat ds → rooted (shares files 0 n ds).names ≡ [] → NoService ds
  none_there n [] flat e = nowhere
  none_there n (const_of x y z ∷ ds) flat e = later_none (const_of x y z) ds (λ a b c q. cc) (none_there (after n (const_of x y z)) ds (λ j. flat (suc j)) e)
  none_there n (typedef_of x y ∷ ds) flat e = later_none (typedef_of x y) ds (λ a b c q. cc) (none_there (after n (typedef_of x y)) ds (λ j. flat (suc j)) e)
  none_there n (enum_of x y ∷ ds) flat e = later_none (enum_of x y) ds (λ a b c q. cc) (none_there (after n (enum_of x y)) ds (λ j. flat (suc j)) e)
  none_there n (struct_of x y z ∷ ds) flat e = later_none (struct_of x y z) ds (λ a b c q. cc) (none_there (after n (struct_of x y z)) ds (λ j. flat (suc j)) e)
  none_there n (service_of x y z ∷ ds) flat e =
      absurd (not_none (number n.services) (rooted (shares files 0 (after n (service_of x y z)) ds).names) (sym (own_step n x y z ds (flat 0 x y z refl)) ∙ e))

  one_there : (n : First) (ds : List DefinitionTree) (id : ServiceId) → AllFlat ds → rooted (shares files 0 n ds).names ≡ id ∷ [] → OneService n ds id
  one_there n [] id flat e = absurd (cc)
  one_there n (const_of x y z ∷ ds) id flat e = later_one n (const_of x y z) ds id (λ a b c q. cc) (one_there (after n (const_of x y z)) ds id (λ j. flat (suc j)) e)
  one_there n (typedef_of x y ∷ ds) id flat e = later_one n (typedef_of x y) ds id (λ a b c q. cc) (one_there (after n (typedef_of x y)) ds id (λ j. flat (suc j)) e)
  one_there n (enum_of x y ∷ ds) id flat e = later_one n (enum_of x y) ds id (λ a b c q. cc) (one_there (after n (enum_of x y)) ds id (λ j. flat (suc j)) e)
  one_there n (struct_of x y z ∷ ds) id flat e = later_one n (struct_of x y z) ds id (λ a b c q. cc) (one_there (after n (struct_of x y z)) ds id (λ j. flat (suc j)) e)
  one_there n (service_of x y z ∷ ds) id flat e = record { place = 0; name = x; base = y; functions = z; m = n; stands = refl; numbers = refl; is = sym first; alone = alone }
    where
      both : number n.services ∷ rooted (shares files 0 (after n (service_of x y z)) ds).names ≡ id ∷ []
      both = sym (own_step n x y z ds (flat 0 x y z refl)) ∙ e

      first : number n.services ≡ id
      first = cons_first (number n.services) id (rooted (shares files 0 (after n (service_of x y z)) ds).names) [] both

      rest : rooted (shares files 0 (after n (service_of x y z)) ds).names ≡ []
      rest = cons_rest (number n.services) id (rooted (shares files 0 (after n (service_of x y z)) ds).names) [] both

      alone : (j : ℕ) (a : Name) (b : Option Name) (c : List FunctionTree) → slice_get (service_of x y z ∷ ds) j ≡ Some (service_of a b c) → j ≡ 0
      alone zero a b c s = refl
      alone (suc j) a b c s = absurd (none_there (after n (service_of x y z)) ds (λ k. flat (suc k)) rest j a b c s)

  -- and where the file has none, or one
  nothing_there : (n : First) (ds : List DefinitionTree) → AllFlat ds → NoService ds → rooted (shares files 0 n ds).names ≡ []
  nothing_there n [] flat none = refl
  nothing_there n (const_of x y z ∷ ds) flat none = nothing_there (after n (const_of x y z)) ds (λ j. flat (suc j)) (λ j. none (suc j))
  nothing_there n (typedef_of x y ∷ ds) flat none = nothing_there (after n (typedef_of x y)) ds (λ j. flat (suc j)) (λ j. none (suc j))
  nothing_there n (enum_of x y ∷ ds) flat none = nothing_there (after n (enum_of x y)) ds (λ j. flat (suc j)) (λ j. none (suc j))
  nothing_there n (struct_of x y z ∷ ds) flat none = nothing_there (after n (struct_of x y z)) ds (λ j. flat (suc j)) (λ j. none (suc j))
  nothing_there n (service_of x y z ∷ ds) flat none = absurd (none 0 x y z refl)

  only_there : (n : First) (ds : List DefinitionTree) (place : ℕ) (name : Name) (base : Option Name) (functions : List FunctionTree) (m : First) → AllFlat ds →
      slice_get ds place ≡ Some (service_of name base functions) → slice_get (numbers_in n ds) place ≡ Some m → Alone ds place → rooted (shares files 0 n ds).names ≡ number m.services ∷ []
  only_there n [] place name base functions m flat s t alone = absurd (cc)
  only_there n (const_of x y z ∷ ds) zero name base functions m flat s t alone = absurd (cc)
  only_there n (typedef_of x y ∷ ds) zero name base functions m flat s t alone = absurd (cc)
  only_there n (enum_of x y ∷ ds) zero name base functions m flat s t alone = absurd (cc)
  only_there n (struct_of x y z ∷ ds) zero name base functions m flat s t alone = absurd (cc)
  only_there n (service_of x y z ∷ ds) zero name base functions m flat s t alone =
      own_step n x y z ds (flat 0 x y z refl)
      ∙ ap (λ (xs : List ServiceId). number n.services ∷ xs) (nothing_there (after n (service_of x y z)) ds (λ j. flat (suc j)) (λ j a b c q. not_later j (alone (suc j) a b c q)))
      ∙ ap (λ (k : First). number k.services ∷ []) (same_some n m t)
  only_there n (const_of x y z ∷ ds) (suc place) name base functions m flat s t alone = only_there (after n (const_of x y z)) ds place name base functions m (λ j. flat (suc j)) s t (alone_behind (const_of x y z) ds place alone)
  only_there n (typedef_of x y ∷ ds) (suc place) name base functions m flat s t alone = only_there (after n (typedef_of x y)) ds place name base functions m (λ j. flat (suc j)) s t (alone_behind (typedef_of x y) ds place alone)
  only_there n (enum_of x y ∷ ds) (suc place) name base functions m flat s t alone = only_there (after n (enum_of x y)) ds place name base functions m (λ j. flat (suc j)) s t (alone_behind (enum_of x y) ds place alone)
  only_there n (struct_of x y z ∷ ds) (suc place) name base functions m flat s t alone = only_there (after n (struct_of x y z)) ds place name base functions m (λ j. flat (suc j)) s t (alone_behind (struct_of x y z) ds place alone)
  only_there n (service_of x y z ∷ ds) (suc place) name base functions m flat s t alone = absurd (not_later place (sym (alone 0 x y z refl)))

root_prefix : (files : List FileTree) → prefix_of files 0 ≡ Some []
unfolding prefix_of
root_prefix files = refl

one_of : (xs : List ServiceId) (id : ServiceId) → only xs ≡ Some id → xs ≡ id ∷ []
one_of [] id e = absurd (cc)
one_of (x ∷ []) id e = let same : x ≡ id = cc in ap (λ (y : ServiceId). y ∷ []) same
one_of (x ∷ y ∷ xs) id e = absurd (cc)

module _ (files : List FileTree) (id : ServiceId) (f : FileTree) (o : OneService start f.document.definitions id) (there : slice_get files 0 ≡ Some f) where
  declared : definition_at files (spot_at 0 o.place) ≡ Some (service_of o.name o.base o.functions)
  declared = ap (λ (q : Option FileTree). option_and_then (λ tree. slice_get tree.document.definitions o.place) q) there ∙ o.stands

  alone : (other : Spot) (n : Name) (b : Option Name) (fs : List FunctionTree) → other.file ≡ 0 → definition_at files other ≡ Some (service_of n b fs) → other ≡ spot_at 0 o.place
  alone other n b fs root e =
      let here : slice_get files other.file ≡ Some f = ap (slice_get files) root ∙ there in
      let stands : slice_get f.document.definitions other.definition ≡ Some (service_of n b fs) = sym (ap (λ (q : Option FileTree). option_and_then (λ tree. slice_get tree.document.definitions other.definition) q) here) ∙ e in
      ap (λ (k : ℕ). spot_at k other.definition) root ∙ ap (spot_at 0) (o.alone other.definition n b fs stands)

root_only : (files : List FileTree) (all : List FileTree) (id : ServiceId) → all ≡ files → AreDotless files → rooted (files_shares files 0 start all).names ≡ id ∷ [] → IsOnlyService files id
unfolding numbers_of
root_only files [] id same dotless e = absurd (cc)
root_only files (f ∷ fs) id same dotless e = record {
  spot = spot_at 0 o.place;
  name = o.name;
  base = o.base;
  functions = o.functions;
  root = refl;
  declared = declared files id f o there;
  is = o.is ∙ ap number (service_counts files (spot_at 0 o.place) o.m numbered);
  alone = alone files id f o there;
}
  where
    there : slice_get files 0 ≡ Some f
    there = ap (λ (xs : List FileTree). slice_get xs 0) (sym same)

    own : rooted (shares files 0 start f.document.definitions).names ≡ id ∷ []
    own =
        sym (rooted_both (shares files 0 start f.document.definitions).names (files_shares files 1 (after_all start f.document.definitions) fs).names
        ∙ ap (λ (s : List ServiceId). rooted (shares files 0 start f.document.definitions).names ++ s) (other_files files 0 (after_all start f.document.definitions) fs)
        ∙ append_none (rooted (shares files 0 start f.document.definitions).names)) ∙ e

    flat : AllFlat f.document.definitions
    flat j name base functions s = dotless (spot_at 0 j) name base functions (ap (λ (q : Option FileTree). option_and_then (λ tree. slice_get tree.document.definitions j) q) there ∙ s)

    o : OneService start f.document.definitions id
    o = one_there files (root_prefix files) start f.document.definitions id flat own

    numbered : first_of files (spot_at 0 o.place) ≡ Some o.m
    numbered = ap (λ (xs : List FileTree). first_of xs (spot_at 0 o.place)) (sym same) ∙ o.numbers

spot_of_root : (spot : Spot) → spot.file ≡ 0 → spot ≡ spot_at 0 spot.definition
spot_of_root spot e = ap (λ (k : ℕ). spot_at k spot.definition) e

place_of : (i j k l : ℕ) → spot_at i j ≡ spot_at k l → j ≡ l
place_of i j k l e = ap (λ (s : Spot). s.definition) e

only_root : (files : List FileTree) (all : List FileTree) (id : ServiceId) → all ≡ files → AreDotless files → IsOnlyService files id → rooted (files_shares files 0 start all).names ≡ id ∷ []
unfolding numbers_of
only_root files [] id same dotless o =
    let none : slice_get files o.spot.file ≡ None = ap (λ (xs : List FileTree). slice_get xs o.spot.file) (sym same) in
    absurd (nowhere_at (ap (λ (q : Option FileTree). option_and_then (λ tree. slice_get tree.document.definitions o.spot.definition) q) (sym none) ∙ o.declared))
  where
    nowhere_at : None ≡ Some (service_of o.name o.base o.functions) → ⊥
    nowhere_at e = cc
only_root files (f ∷ fs) id same dotless o =
    rooted_both (shares files 0 start f.document.definitions).names (files_shares files 1 (after_all start f.document.definitions) fs).names
    ∙ ap (λ (s : List ServiceId). rooted (shares files 0 start f.document.definitions).names ++ s) (other_files files 0 (after_all start f.document.definitions) fs)
    ∙ append_none (rooted (shares files 0 start f.document.definitions).names)
    ∙ only_there files (root_prefix files) start f.document.definitions place o.name o.base o.functions m.0 flat stands m.1 alone
    ∙ ap (λ (k : ℕ). number k ∷ []) (service_counts files (spot_at 0 place) m.0 numbered ∙ ap (service_number files) (sym at))
    ∙ ap (λ (i : ServiceId). i ∷ []) (sym o.is)
  where
    place : ℕ
    place = o.spot.definition

    at : o.spot ≡ spot_at 0 place
    at = spot_of_root o.spot o.root

    there : slice_get files 0 ≡ Some f
    there = ap (λ (xs : List FileTree). slice_get xs 0) (sym same)

    within : (j : ℕ) → definition_at files (spot_at 0 j) ≡ slice_get f.document.definitions j
    within j = ap (λ (q : Option FileTree). option_and_then (λ tree. slice_get tree.document.definitions j) q) there

    stands : slice_get f.document.definitions place ≡ Some (service_of o.name o.base o.functions)
    stands = sym (within place) ∙ ap (definition_at files) (sym at) ∙ o.declared

    flat : AllFlat f.document.definitions
    flat j name base functions s = dotless (spot_at 0 j) name base functions (within j ∙ s)

    alone : Alone f.document.definitions place
    alone j a b c s = place_of 0 j 0 place (o.alone (spot_at 0 j) a b c refl (within j ∙ s) ∙ at)

    m : (m : First) × (slice_get (numbers_in start f.document.definitions) place ≡ Some m)
    m = number_there start f.document.definitions place (service_of o.name o.base o.functions) stands

    numbered : first_of files (spot_at 0 place) ≡ Some m.0
    numbered = ap (λ (xs : List FileTree). first_of xs (spot_at 0 place)) (sym same) ∙ m.1

answers : (files : List FileTree) → AreDotless files → AnswersOnly files (declarations_of files)
unfolding declarations_of
answers files dotless id = (
  (λ h. root_only files files id refl dotless (one_of (rooted (files_shares files 0 start files).names) id h)),
  (λ o. ap only (only_root files files id refl dotless o)),
)

pub only_service : (files : List FileTree) (schema : Declarations) → Resolved files schema → AreDotless files → AnswersOnly files schema
only_service files schema r dotless = subst (AnswersOnly files) (sym r.means) (answers files dotless)
