-- Look-ups in lists of trees.
use Rattle.std.proofs.Common.{◌≡◌, ℕ, zero, suc, ◌+◌, ◌<◌, ◌^◌, List, [], ◌∷◌, map, length, refl, ap, sym, ◌∙◌, arith, subst, Bool, true, false, cond, not, position, slice_get, slice_index_or, Option, Some, None, option_map, option_and_then, nat_lt}
use Rattle.std.specs.List.{position_or_len}
use Rattle.std.proofs.lemmas.Bool.Decides.{nat_tests}
use Rattle.std.proofs.lemmas.List.{length-map}
use Rattle.idl_document.specs.declared.document.Definition.{Definition}
use Rattle.idl_document.specs.Trees.{definition_tree}
use Rattle.idl_names.specs.declared.documents.FileDoc.{FileDoc}
use Rattle.idl_rules.specs.declared.scopes.Scope.{Scope}
use Rattle.idl_names.specs.Files.{FileTree, file_tree}
use Rattle.idl_names.specs.Meaning.{declares, declared_in, spot_at, HasFewDefinitions}

module _ {X Y : Type 0} (f : X → Y) where
  pub slice_get-map : (xs : List X) (i : ℕ) → slice_get (map f xs) i ≡ option_map f (slice_get xs i)
  slice_get-map [] i = refl
  slice_get-map (x ∷ xs) zero = refl
  slice_get-map (x ∷ xs) (suc i) = slice_get-map xs i

  position_or_len-map : (p : Y → Bool) (xs : List X) → position_or_len p (map f xs) ≡ position_or_len (λ x. p (f x)) xs
  position_or_len-map p [] = refl
  position_or_len-map p (x ∷ xs) = ap (λ (n : ℕ). cond (not (p (f x))) (1 + n) 0) (position_or_len-map p xs)

  pub position-map : (p : Y → Bool) (xs : List X) → position p (map f xs) ≡ position (λ x. p (f x)) xs
  position-map p xs =
      ap (λ (n : ℕ). cond (nat_lt n (length (map f xs))) (Some n) None) (position_or_len-map p xs)
      ∙ ap (λ (n : ℕ). cond (nat_lt (position_or_len (λ x. p (f x)) xs) n) (Some (position_or_len (λ x. p (f x)) xs)) None) (length-map xs f)

within_by : (n m place : ℕ) (t : Bool) → nat_lt n m ≡ t → cond t (Some n) None ≡ Some place → place < m
within_by n m place true e h =
    let same : n ≡ place = cc in
    let below : n < m = grind (arith, nat_tests) in
    omega arith
within_by n m place false e h = absurd (let no : ⊥ = cc in no)

pub position_within : {X : Type 0} (p : X → Bool) (xs : List X) (place : ℕ) → position p xs ≡ Some place → place < length xs
position_within p xs place e = within_by (position_or_len p xs) (length xs) place (nat_lt (position_or_len p xs) (length xs)) refl e

-- what holds of each element holds of the one that was looked up
pub all_at : {X : Type 0} (P : X → Type 0) (xs : List X) (k : ℕ) (x : X) → ((i : ℕ) (d : X) → i < length xs → P (slice_index_or xs i d)) → Some x ≡ slice_get xs k → P x
all_at P [] k x all e = cc
all_at P (y ∷ ys) zero x all e =
    let same : y ≡ x = cc in
    subst P same (all 0 x (omega arith))
all_at P (y ∷ ys) (suc k) x all e = all_at P ys k x (λ i d h. all (suc i) d (omega arith)) e

-- what a file that was looked up declares
pub declared_at : (files : List FileTree) (file : ℕ) (scope : Scope) (word : List ℕ) (f : FileDoc) (definitions : List Definition) (place : Option ℕ) → Some (file_tree f) ≡ slice_get files file →
    definitions ≡ f.document.definitions → place ≡ position (λ (d : Definition). declares scope word (definition_tree d)) definitions → option_map (spot_at file) place ≡ declared_in files file scope word
unfolding declared_in
declared_at files file scope word f definitions place e s p =
    ap (option_map (spot_at file)) (p ∙ ap (position (λ (d : Definition). declares scope word (definition_tree d))) s ∙ sym (position-map definition_tree (declares scope word) f.document.definitions))
    ∙ ap (λ (t : Option FileTree). option_and_then (λ tree. option_map (spot_at file) (position (declares scope word) tree.document.definitions)) t) e

few : FileTree → Type 0
few t = length t.document.definitions < 2 ^ 32

pub few_at : (files : List FileTree) (file place : ℕ) (f : FileDoc) (definitions : List Definition) → HasFewDefinitions files → Some (file_tree f) ≡ slice_get files file →
    definitions ≡ f.document.definitions → place < length definitions → place < 2 ^ 32
unfolding few
few_at files file place f definitions all e s h =
    let fits : length (map definition_tree f.document.definitions) < 2 ^ 32 = all_at few files file (file_tree f) all e in
    omega (arith, length-map f.document.definitions definition_tree, ap (λ (ds : List Definition). length ds) s)

-- an element that was read stands there in a list of what is made of each
pub made_at : {X Y : Type 0} (f : X → Y) (xs : List X) (i : ℕ) (x : X) → i < length xs → x ≡ slice_index_or xs i x → Some (f x) ≡ slice_get (map f xs) i
made_at f [] i x h e = absurd (omega arith)
made_at f (y ∷ ys) zero x h e = ap (λ z. Some (f z)) e
made_at f (y ∷ ys) (suc i) x h e = made_at f ys i x (omega arith) e
