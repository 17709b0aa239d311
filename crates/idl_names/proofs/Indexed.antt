-- What the index of names tells is what the files declare.
use Rattle.std.proofs.Common.{◌≡◌, ℕ, zero, suc, ◌+◌, ◌<◌, ◌^◌, List, [], ◌∷◌, ◌++◌, map, length, take, get_or, refl, ap, sym, ◌∙◌, arith, subst, position, slice_get, Option, Some, None, option_map, option_and_then}
use Rattle.std.proofs.lemmas.List.{take_more, map_push}
use Rattle.idl_names.specs.declared.documents.FileDoc.{FileDoc}
use Rattle.idl_rules.specs.declared.scopes.Scope.{Scope}
use Rattle.idl_rules.specs.declared.scopes.Scope.TheVariants as scopes
use Rattle.idl_names.specs.declared.names.FileNames.{FileNames}
use Rattle.idl_names.specs.Files.{FileTree, file_tree, file_trees}
use Rattle.idl_names.specs.Index.{IsIndex, AreIndexed, place_in, places_in, include_in, include_at}
use Rattle.idl_names.specs.Meaning.{declares, declared_in, has_base, included, is_named, spot_at, HasFewDefinitions}
use Rattle.idl_names.specs.Places.{TellsFirst, place_of}
use Rattle.idl_names.proofs.Looking.{position-map, position_within, all_at}

pub tells_trees : {X Y : Type 0} (f : X → Y) (name : Y → Option (List ℕ)) (xs ys : List X) (es : List (List ℕ × ℕ)) → xs ≡ ys → TellsFirst (λ x. name (f x)) xs es → TellsFirst name (map f ys) es
tells_trees {X} {Y} f name xs ys es e t word = t word ∙ sym (position-map f (λ y. is_named word (name y)) xs) ∙ ap (λ (zs : List X). position (λ (y : Y). is_named word (name y)) (map f zs)) e

pub tells_same : {X : Type 0} (name : X → Option (List ℕ)) (xs ys : List X) (es : List (List ℕ × ℕ)) → xs ≡ ys → TellsFirst name xs es → TellsFirst name ys es
tells_same {X} name xs ys es e t word = t word ∙ ap (λ (zs : List X). position (λ (y : X). is_named word (name y)) zs) e

indexed_push : (ts : List FileTree) (ns : List FileNames) (t : FileTree) (n : FileNames) → AreIndexed ts ns → IsIndex t n → AreIndexed (ts ++ t ∷ []) (ns ++ n ∷ [])
indexed_push [] [] t n a i = (i, tt)
indexed_push [] (m ∷ ns) t n a i = absurd a
indexed_push (u ∷ ts) [] t n a i = absurd a
indexed_push (u ∷ ts) (m ∷ ns) t n a i = (a.0, indexed_push ts ns t n a.1 i)

pub indexed_more : (files : List FileDoc) (old new : List FileNames) (x : FileDoc) (n : FileNames) (i : ℕ) → i < length files → x ≡ get_or files i x → new ≡ old ++ n ∷ [] →
    AreIndexed (file_trees (take i files)) old → IsIndex (file_tree x) n → AreIndexed (file_trees (take (i + 1) files)) new
indexed_more files old new x n i h r e a f =
    let grown : take (i + 1) files ≡ take i files ++ x ∷ [] = take_more files i x h ∙ ap (λ (y : FileDoc). take i files ++ y ∷ []) (sym r) in
    let trees : file_trees (take (i + 1) files) ≡ file_trees (take i files) ++ file_tree x ∷ [] = ap (map file_tree) grown ∙ map_push file_tree (take i files) x in
    let all = indexed_push (file_trees (take i files)) old (file_tree x) n a f in
    subst (λ (ts : List FileTree). AreIndexed ts new) (sym trees) (subst (λ (ns : List FileNames). AreIndexed (file_trees (take i files) ++ file_tree x ∷ []) ns) (sym e) all)

-- where a definition stands in its file
abbrev stands_at : List FileTree → ℕ → Scope → List ℕ → Option ℕ
stands_at files file scope word = option_and_then (λ (t : FileTree). position (declares scope word) t.document.definitions) (slice_get files file)

scope_tells : (scope : Scope) (word : List ℕ) (t : FileTree) (n : FileNames) → IsIndex t n → place_of word (places_in scope n) ≡ position (declares scope word) t.document.definitions
scope_tells scopes.Types word t n i = i.types word
scope_tells scopes.Constants word t n i = i.constants word
scope_tells scopes.Services word t n i = i.services word

place_same : (ts : List FileTree) (ns : List FileNames) (file : ℕ) (scope : Scope) (word : List ℕ) → AreIndexed ts ns → place_in ns file scope word ≡ stands_at ts file scope word
place_same [] [] file scope word a = refl
place_same [] (n ∷ ns) file scope word a = absurd a
place_same (t ∷ ts) [] file scope word a = absurd a
place_same (t ∷ ts) (n ∷ ns) zero scope word a = scope_tells scope word t n a.0
place_same (t ∷ ts) (n ∷ ns) (suc file) scope word a = place_same ts ns file scope word a.1

pub declared_by : (ts : List FileTree) (ns : List FileNames) (file : ℕ) (scope : Scope) (word : List ℕ) (index : List FileNames) → index ≡ ns → (place : Option ℕ) → AreIndexed ts ns →
    place ≡ place_in index file scope word → option_map (spot_at file) place ≡ declared_in ts file scope word
unfolding declared_in
declared_by ts ns file scope word index s place a e =
    ap (option_map (spot_at file)) (e ∙ ap (λ (all : List FileNames). place_in all file scope word) s ∙ place_same ts ns file scope word a) ∙ by (slice_get ts file)
  where
    by : (o : Option FileTree) → option_map (spot_at file) (option_and_then (λ (t : FileTree). position (declares scope word) t.document.definitions) o)
        ≡ option_and_then (λ (t : FileTree). option_map (spot_at file) (position (declares scope word) t.document.definitions)) o
    by None = refl
    by (Some t) = refl

few : FileTree → Type 0
few t = length t.document.definitions < 2 ^ 32

pub few_by : (ts : List FileTree) (ns : List FileNames) (file : ℕ) (scope : Scope) (word : List ℕ) (index : List FileNames) → index ≡ ns → (place : ℕ) → AreIndexed ts ns → HasFewDefinitions ts →
    Some place ≡ place_in index file scope word → place < 2 ^ 32
unfolding few
few_by ts ns file scope word index s place a f e =
    by (slice_get ts file) refl (sym (place_same ts ns file scope word a) ∙ sym (e ∙ ap (λ (all : List FileNames). place_in all file scope word) s))
  where
    by : (o : Option FileTree) → slice_get ts file ≡ o → option_and_then (λ (t : FileTree). position (declares scope word) t.document.definitions) o ≡ Some place → place < 2 ^ 32
    by None g p = cc
    by (Some t) g p =
        let within : place < length t.document.definitions = position_within (declares scope word) t.document.definitions place p in
        let fits : length t.document.definitions < 2 ^ 32 = all_at few ts file t f (sym g) in
        omega arith

base_same : (ts : List FileTree) (ns : List FileNames) (file : ℕ) (prefix : List ℕ) → AreIndexed ts ns →
    include_in ns file prefix ≡ option_and_then (λ (t : FileTree). position (has_base prefix) t.document.includes) (slice_get ts file)
base_same [] [] file prefix a = refl
base_same [] (n ∷ ns) file prefix a = absurd a
base_same (t ∷ ts) [] file prefix a = absurd a
base_same (t ∷ ts) (n ∷ ns) zero prefix a = (a.0).bases prefix
base_same (t ∷ ts) (n ∷ ns) (suc file) prefix a = base_same ts ns file prefix a.1

pub included_by : (ts : List FileTree) (ns : List FileNames) (file : ℕ) (prefix : List ℕ) (index : List FileNames) → index ≡ ns → (include : Option ℕ) → AreIndexed ts ns →
    include ≡ include_in index file prefix → option_and_then (include_at ts file) include ≡ included ts file prefix
unfolding included
included_by ts ns file prefix index s include a e =
    ap (option_and_then (include_at ts file)) (e ∙ ap (λ (all : List FileNames). include_in all file prefix) s ∙ base_same ts ns file prefix a) ∙ by (slice_get ts file) refl
  where
    by : (o : Option FileTree) → slice_get ts file ≡ o → option_and_then (include_at ts file) (option_and_then (λ (t : FileTree). position (has_base prefix) t.document.includes) o)
        ≡ option_and_then (λ (t : FileTree). option_and_then (slice_get t.includes) (position (has_base prefix) t.document.includes)) o
    by None g = refl
    by (Some t) g = inner (position (has_base prefix) t.document.includes)
      where
        inner : (p : Option ℕ) → option_and_then (include_at ts file) p ≡ option_and_then (slice_get t.includes) p
        inner None = refl
        inner (Some k) = ap (option_and_then (λ (u : FileTree). slice_get u.includes k)) g
