-- The number of all definitions.
use Rattle.std.proofs.Common.{◌≡◌, ℕ, ◌+◌, ◌<◌, ◌^◌, List, [], ◌∷◌, ◌++◌, map, length, take, get_or, ap, sym, ◌∙◌, arith, subst}
use Rattle.std.proofs.lemmas.List.{take_more, map_push, length-map, get_or-map}
use Rattle.idl_document.specs.declared.document.Definition.{Definition}
use Rattle.idl_document.specs.Trees.{definition_tree}
use Rattle.idl_names.specs.declared.documents.FileDoc.{FileDoc}
use Rattle.idl_names.specs.Files.{FileTree, file_tree, file_trees}
use Rattle.idl_names.specs.Meaning.{HasFewDefinitions}
use Rattle.idl_names.specs.Targets.{definition_count}

count_push : (ts : List FileTree) (t : FileTree) → definition_count (ts ++ t ∷ []) ≡ definition_count ts + length t.document.definitions
count_push [] t = omega arith
count_push (u ∷ ts) t = omega (arith, count_push ts t)

module _ (files : List FileDoc) (x : FileDoc) (definitions : List Definition) (i : ℕ) (h : i < length files) (is : x ≡ get_or files i x) (s : definitions ≡ x.document.definitions) where
  size : length (map definition_tree x.document.definitions) ≡ length definitions
  size = length-map x.document.definitions definition_tree ∙ ap (λ (ds : List Definition). length ds) (sym s)

  pub counted_more : (old : ℕ) → old ≡ definition_count (file_trees (take i files)) → old + length definitions ≡ definition_count (file_trees (take (i + 1) files))
  counted_more old e =
      let grown : take (i + 1) files ≡ take i files ++ x ∷ [] = take_more files i x h ∙ ap (λ (y : FileDoc). take i files ++ y ∷ []) (sym is) in
      let trees : file_trees (take (i + 1) files) ≡ file_trees (take i files) ++ file_tree x ∷ [] = ap (map file_tree) grown ∙ map_push file_tree (take i files) x in
      let more : definition_count (file_trees (take (i + 1) files)) ≡ definition_count (file_trees (take i files)) + length (map definition_tree x.document.definitions) = ap definition_count trees ∙ count_push (file_trees (take i files)) (file_tree x) in
      let same : length (map definition_tree x.document.definitions) ≡ length definitions = size in
      omega arith

  pub few_here : HasFewDefinitions (file_trees files) → length definitions < 2 ^ 32
  few_here all =
      let here : i < length (map file_tree files) = subst (λ (n : ℕ). i < n) (sym (length-map files file_tree)) h in
      let found : get_or (map file_tree files) i (file_tree x) ≡ file_tree x = get_or-map file_tree files i x (file_tree x) h ∙ ap file_tree (sym is) in
      let fits : length (map definition_tree x.document.definitions) < 2 ^ 32 = subst (λ (t : FileTree). length t.document.definitions < 2 ^ 32) found (all i (file_tree x) here) in
      let same : length (map definition_tree x.document.definitions) ≡ length definitions = size in
      omega arith
