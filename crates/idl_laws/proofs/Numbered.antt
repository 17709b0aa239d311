-- The numbers of definitions count what is declared before them.
use Rattle.std.proofs.Common.{◌≡◌, ap, refl, ℕ, zero, suc, ◌+◌, List, [], ◌∷◌, ◌++◌, slice_get, take, Some, option_and_then, arith}
use Rattle.idl_document.specs.Trees.{DefinitionTree, const_of, typedef_of, enum_of, struct_of, service_of}
use Rattle.idl_names.specs.declared.documents.Spot.{Spot}
use Rattle.idl_names.specs.Files.{FileTree}
use Rattle.idl_laws.proofs.Firsts.{First}
use Rattle.idl_schema.specs.Numbers.{after, after_all, files_numbers, first_of, numbers_in, numbers_of, start}
use Rattle.idl_laws.specs.Counts.{all_definitions, definitions_before, definitions_in, enum_number, enums_of, service_number, services_of, struct_number, structs_of, total}

pub total-append : (w : DefinitionTree → ℕ) (xs ys : List DefinitionTree) → total w (xs ++ ys) ≡ total w xs + total w ys
total-append w [] ys = omega arith
total-append w (x ∷ xs) ys = let rest = total-append w xs ys in omega (arith, rest)

-- a kind of things by the numbers that each definition takes
module _ (count : First → ℕ) (w : DefinitionTree → ℕ) (step : (n : First) (d : DefinitionTree) → count (after n d) ≡ count n + w d) where
  all_counted : (n : First) (ds : List DefinitionTree) → count (after_all n ds) ≡ count n + total w ds
  all_counted n [] = omega arith
  all_counted n (d ∷ ds) =
      let here = step n d in
      let rest = all_counted (after n d) ds in
      omega (arith, here, rest)

  in_file : (n : First) (ds : List DefinitionTree) (j : ℕ) (m : First) → slice_get (numbers_in n ds) j ≡ Some m → count m ≡ count n + total w (take j ds)
  in_file n [] j m e = absurd (cc)
  in_file n (d ∷ ds) zero m e =
      let same : n ≡ m = cc in
      let so : count n ≡ count m = ap count same in
      omega (arith, so)
  in_file n (d ∷ ds) (suc j) m e =
      let here = step n d in
      let rest = in_file (after n d) ds j m e in
      omega (arith, here, rest)

  in_files : (n : First) (fs : List FileTree) (k j : ℕ) (m : First) → option_and_then (λ ns. slice_get ns j) (slice_get (files_numbers n fs) k) ≡ Some m →
      count m ≡ count n + total w (all_definitions (take k fs) ++ take j (definitions_in (slice_get fs k)))
  in_files n [] k j m e = absurd (cc)
  in_files n (f ∷ fs) zero j m e = in_file n f.document.definitions j m e
  in_files n (f ∷ fs) (suc k) j m e =
      let here = all_counted n f.document.definitions in
      let rest = in_files (after_all n f.document.definitions) fs k j m e in
      let before = all_definitions (take k fs) in
      let last = take j (definitions_in (slice_get fs k)) in
      let one = total-append w before last in
      let two = total-append w (f.document.definitions ++ before) last in
      let three = total-append w f.document.definitions before in
      omega (arith, here, rest, one, two, three)

  number_counts : (files : List FileTree) (spot : Spot) (m : First) → first_of files spot ≡ Some m → count m ≡ count start + total w (definitions_before files spot)
  unfolding numbers_of
  number_counts files spot m e = in_files start files spot.file spot.definition m e

no_more : (n : ℕ) → n ≡ n + 0
no_more n = omega arith

enums_step : (n : First) (d : DefinitionTree) → (after n d).enums ≡ n.enums + enums_of d
enums_step n (const_of name ty value) = no_more n.enums
enums_step n (typedef_of name ty) = no_more n.enums
enums_step n (enum_of name members) = refl
enums_step n (struct_of kin name fields) = no_more n.enums
enums_step n (service_of name base functions) = no_more n.enums

services_step : (n : First) (d : DefinitionTree) → (after n d).services ≡ n.services + services_of d
services_step n (const_of name ty value) = no_more n.services
services_step n (typedef_of name ty) = no_more n.services
services_step n (enum_of name members) = no_more n.services
services_step n (struct_of kin name fields) = no_more n.services
services_step n (service_of name base functions) = refl

structs_step : (n : First) (d : DefinitionTree) → (after n d).structs ≡ n.structs + structs_of d
structs_step n (const_of name ty value) = no_more n.structs
structs_step n (typedef_of name ty) = no_more n.structs
structs_step n (enum_of name members) = no_more n.structs
structs_step n (struct_of kin name fields) = refl
structs_step n (service_of name base functions) = refl

module _ (files : List FileTree) (spot : Spot) (m : First) (e : first_of files spot ≡ Some m) where
  pub enum_counts : m.enums ≡ enum_number files spot
  enum_counts = let counted = number_counts (λ n. n.enums) enums_of enums_step files spot m e in omega (arith, counted)

  pub service_counts : m.services ≡ service_number files spot
  service_counts = let counted = number_counts (λ n. n.services) services_of services_step files spot m e in omega (arith, counted)

  pub struct_counts : m.structs ≡ struct_number files spot
  struct_counts = number_counts (λ n. n.structs) structs_of structs_step files spot m e
