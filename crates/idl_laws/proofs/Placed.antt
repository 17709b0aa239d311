-- Where definitions stand, and that a name's meaning is one of them.
use Rattle.std.proofs.Common.{◌≡◌, ◌∙◌, ap, sym, subst, refl, ℕ, zero, suc, ◌+◌, inl, inr, List, [], ◌∷◌, ◌++◌, length, length-append, slice_get, Option, Some, None, Bool, true, false, cond, position, option_map, option_and_then, arith}
use Rattle.idl_document.specs.Trees.{DefinitionTree}
use Rattle.idl_rules.specs.declared.scopes.Scope.{Scope}
use Rattle.idl_names.specs.declared.documents.Spot.{Spot}
use Rattle.idl_names.specs.Files.{FileTree}
use Rattle.idl_names.specs.Meaning.{declared_in, declares, meaning, meaning_by, spot_at}
use Rattle.idl_names.specs.Paths.{last_place}
use Rattle.idl_names.specs.Sets.{Has}
use Rattle.idl_names.specs.Targets.{definition_at, definition_count}
use Rattle.idl_names.proofs.First.{position-cons}

abbrev definitions_spots : ℕ → ℕ → List DefinitionTree → List Spot
definitions_spots file place [] = []
definitions_spots file place (d ∷ ds) = spot_at file place ∷ definitions_spots file (suc place) ds

-- each definition's
abbrev pub files_spots : ℕ → List FileTree → List Spot
files_spots file [] = []
files_spots file (f ∷ fs) = definitions_spots file 0 f.document.definitions ++ files_spots (suc file) fs

definitions_counted : (file place : ℕ) (ds : List DefinitionTree) → length (definitions_spots file place ds) ≡ length ds
definitions_counted file place [] = refl
definitions_counted file place (d ∷ ds) = ap suc (definitions_counted file (suc place) ds)

pub counted : (file : ℕ) (fs : List FileTree) → length (files_spots file fs) ≡ definition_count fs
counted file [] = refl
counted file (f ∷ fs) =
    let here = definitions_counted file 0 f.document.definitions in
    let rest = counted (suc file) fs in
    let both = length-append (definitions_spots file 0 f.document.definitions) (files_spots (suc file) fs) in
    omega (arith, here, rest, both)

pub has_left : (xs ys : List Spot) (t : Spot) → Has xs t → Has (xs ++ ys) t
has_left [] ys t h = absurd h
has_left (x ∷ xs) ys t (inl e) = inl e
has_left (x ∷ xs) ys t (inr h) = inr (has_left xs ys t h)

pub has_right : (xs ys : List Spot) (t : Spot) → Has ys t → Has (xs ++ ys) t
has_right [] ys t h = h
has_right (x ∷ xs) ys t h = inr (has_right xs ys t h)

in_definitions : (file place : ℕ) (ds : List DefinitionTree) (j : ℕ) (d : DefinitionTree) → slice_get ds j ≡ Some d → Has (definitions_spots file place ds) (spot_at file (place + j))
in_definitions file place [] j d e = absurd (cc)
in_definitions file place (x ∷ ds) zero d e = inl (ap (spot_at file) (omega arith))
in_definitions file place (x ∷ ds) (suc j) d e =
    let next : suc place + j ≡ place + suc j = omega arith in
    inr (subst (λ (n : ℕ). Has (definitions_spots file (suc place) ds) (spot_at file n)) next (in_definitions file (suc place) ds j d e))

in_files : (file : ℕ) (fs : List FileTree) (k j : ℕ) (d : DefinitionTree) → option_and_then (λ tree. slice_get tree.document.definitions j) (slice_get fs k) ≡ Some d →
    Has (files_spots file fs) (spot_at (file + k) j)
in_files file [] k j d e = absurd (cc)
in_files file (f ∷ fs) zero j d e =
    let here : file ≡ file + 0 = omega arith in
    let place : 0 + j ≡ j = omega arith in
    has_left (definitions_spots file 0 f.document.definitions) (files_spots (suc file) fs) (spot_at (file + 0) j)
    (subst (λ (n : ℕ). Has (definitions_spots file 0 f.document.definitions) (spot_at n j)) here
    (subst (λ (n : ℕ). Has (definitions_spots file 0 f.document.definitions) (spot_at file n)) place (in_definitions file 0 f.document.definitions j d e)))
in_files file (f ∷ fs) (suc k) j d e =
    let next : suc file + k ≡ file + suc k = omega arith in
    has_right (definitions_spots file 0 f.document.definitions) (files_spots (suc file) fs) (spot_at (file + suc k) j)
    (subst (λ (n : ℕ). Has (files_spots (suc file) fs) (spot_at n j)) next (in_files (suc file) fs k j d e))

pub is_listed : (files : List FileTree) (spot : Spot) (d : DefinitionTree) → definition_at files spot ≡ Some d → Has (files_spots 0 files) spot
is_listed files spot d e =
    let at : 0 + spot.file ≡ spot.file = omega arith in
    subst (λ (n : ℕ). Has (files_spots 0 files) (spot_at n spot.definition)) at (in_files 0 files spot.file spot.definition d e)

module _ {X : Type 0} (p : X → Bool) where
  abbrev Found : List X → ℕ → Type 0
  Found xs i = (x : X) × (slice_get xs i ≡ Some x) × (p x ≡ true)

  first_by : (x : X) (xs : List X) (i : ℕ) → ((k : ℕ) → position p xs ≡ Some k → Found xs k) → (t : Bool) → p x ≡ t → (o : Option ℕ) → position p xs ≡ o →
      cond t (Some 0) (option_map suc o) ≡ Some i → Found (x ∷ xs) i
  first_by x xs i deeper true t o is h =
      let here : 0 ≡ i = cc in
      (x, subst (λ (n : ℕ). slice_get (x ∷ xs) n ≡ Some x) here refl, t)
  first_by x xs i deeper false t None is h = absurd (cc)
  first_by x xs i deeper false t (Some k) is h =
      let there : suc k ≡ i = cc in
      let inner = deeper k is in
      (inner.0, subst (λ (n : ℕ). slice_get (x ∷ xs) n ≡ Some inner.0) there inner.1, inner.2)

  pub position_found : (xs : List X) (i : ℕ) → position p xs ≡ Some i → (x : X) × (slice_get xs i ≡ Some x) × (p x ≡ true)
  position_found [] i e = absurd (cc)
  position_found (x ∷ xs) i e = first_by x xs i (position_found xs) (p x) refl (position p xs) refl (sym (position-cons p x xs) ∙ e)

-- a definition that declares this name
abbrev pub IsDeclared : List FileTree → Scope → List ℕ → Spot → Type 0
IsDeclared files scope word spot = (d : DefinitionTree) × (definition_at files spot ≡ Some d) × ((other : List ℕ) × (declares scope other d ≡ true))

module _ (files : List FileTree) (scope : Scope) where
  placed_by : (file : ℕ) (word : List ℕ) (spot : Spot) (tree : FileTree) → slice_get files file ≡ Some tree → (o : Option ℕ) → position (declares scope word) tree.document.definitions ≡ o →
      option_map (spot_at file) o ≡ Some spot → IsDeclared files scope word spot
  placed_by file word spot tree is None at h = absurd (cc)
  placed_by file word spot tree is (Some i) at h =
      let same : spot_at file i ≡ spot = cc in
      let inner = position_found (declares scope word) tree.document.definitions i at in
      let here : definition_at files (spot_at file i) ≡ Some inner.0 =
      ap (λ (o : Option FileTree). option_and_then (λ t. slice_get t.document.definitions i) o) is ∙ inner.1
      in
      (inner.0, subst (λ (s : Spot). definition_at files s ≡ Some inner.0) same here, (word, inner.2))

  declared_by : (file : ℕ) (word : List ℕ) (spot : Spot) (o : Option FileTree) → slice_get files file ≡ o →
      option_and_then (λ tree. option_map (spot_at file) (position (declares scope word) tree.document.definitions)) o ≡ Some spot → IsDeclared files scope word spot
  declared_by file word spot None is h = absurd (cc)
  declared_by file word spot (Some tree) is h = placed_by file word spot tree is (position (declares scope word) tree.document.definitions) refl h

  declared_found : (file : ℕ) (word : List ℕ) (spot : Spot) → declared_in files file scope word ≡ Some spot → IsDeclared files scope word spot
  unfolding declared_in
  declared_found file word spot e = declared_by file word spot (slice_get files file) refl e

  other_file : (word other : List ℕ) (spot : Spot) (o : Option ℕ) → option_and_then (λ file. declared_in files file scope word) o ≡ Some spot → IsDeclared files scope word spot
  other_file word other spot None e = absurd (cc)
  other_file word other spot (Some file) e = declared_found file word spot e

  meant_by : (file : ℕ) (word : List ℕ) (spot : Spot) (dot : Option ℕ) → meaning_by files file scope word dot ≡ Some spot → IsDeclared files scope word spot
  meant_by file word spot None e = declared_found file word spot e
  meant_by file word spot (Some dot) e = other_file _ word spot _ e

  -- what a name means declares it
  pub meaning_found : (file : ℕ) (word : List ℕ) (spot : Spot) → meaning files file scope word ≡ Some spot → IsDeclared files scope word spot
  unfolding meaning
  meaning_found file word spot e = meant_by file word spot (last_place 46 word) e
