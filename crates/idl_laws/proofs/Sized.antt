-- How many things of each kind the files add to the tables.
use Rattle.std.proofs.Common.{◌≡◌, ◌∙◌, ap, sym, refl, ℕ, suc, List, [], ◌∷◌, ◌++◌, length, length-append, arith, subst}
use Rattle.idl_document.specs.Trees.{DefinitionTree, const_of, typedef_of, enum_of, struct_of, service_of}
use Rattle.idl_names.specs.Files.{FileTree}
use Rattle.type_tables.specs.Declarations.{Declarations}
use Rattle.idl_schema.specs.Numbers.{after, after_all, start}
use Rattle.idl_schema.specs.Schema.{declarations_of}
use Rattle.idl_schema.specs.Shares.{Share, both, files_shares, none, share, shares}
use Rattle.idl_schema.specs.Types.{ty_in}
use Rattle.idl_schema.proofs.Counting.{structs_length}
use Rattle.idl_resolve.specs.Loads.{Resolved}
use Rattle.idl_laws.specs.Counts.{all_definitions, enums_of, services_of, structs_of, total}
use Rattle.idl_laws.specs.Sizes.{HasNoMore}
use Rattle.idl_laws.proofs.Firsts.{First}
use Rattle.idl_laws.proofs.Numbered.{total-append}

module _ {X : Type 0} (list : Share → List X) (count : DefinitionTree → ℕ) (joined : (s t : Share) → list (both s t) ≡ list s ++ list t) (empty : list none ≡ []) (files : List FileTree)
    (sized : (file : ℕ) (n : First) (d : DefinitionTree) → length (list (share files file n d)) ≡ count d) where
  in_file : (file : ℕ) (n : First) (ds : List DefinitionTree) → length (list (shares files file n ds)) ≡ total count ds
  in_file file n [] = ap (λ (xs : List X). length xs) empty
  in_file file n (d ∷ ds) =
      let here = sized file n d in
      let rest = in_file file (after n d) ds in
      let whole = ap (λ (xs : List X). length xs) (joined (share files file n d) (shares files file (after n d) ds)) ∙ length-append (list (share files file n d)) (list (shares files file (after n d) ds)) in
      omega (arith, here, rest, whole)

  in_files : (file : ℕ) (n : First) (fs : List FileTree) → length (list (files_shares files file n fs)) ≡ total count (all_definitions fs)
  in_files file n [] = ap (λ (xs : List X). length xs) empty
  in_files file n (f ∷ fs) =
      let here = in_file file n f.document.definitions in
      let rest = in_files (suc file) (after_all n f.document.definitions) fs in
      let first = shares files file n f.document.definitions in
      let others = files_shares files (suc file) (after_all n f.document.definitions) fs in
      let whole = ap (λ (xs : List X). length xs) (joined first others) ∙ length-append (list first) (list others) in
      let sum = total-append count f.document.definitions (all_definitions fs) in
      omega (arith, here, rest, whole, sum)

module _ (files : List FileTree) where
  enums_sized : (file : ℕ) (n : First) (d : DefinitionTree) → length (share files file n d).enums ≡ enums_of d
  enums_sized file n (const_of name ty value) = refl
  enums_sized file n (typedef_of name ty) = refl
  enums_sized file n (enum_of name members) = refl
  enums_sized file n (struct_of kin name fields) = refl
  enums_sized file n (service_of name base functions) = refl

  services_sized : (file : ℕ) (n : First) (d : DefinitionTree) → length (share files file n d).services ≡ services_of d
  services_sized file n (const_of name ty value) = refl
  services_sized file n (typedef_of name ty) = refl
  services_sized file n (enum_of name members) = refl
  services_sized file n (struct_of kin name fields) = refl
  services_sized file n (service_of name base functions) = refl

  structs_sized : (file : ℕ) (n : First) (d : DefinitionTree) → length (share files file n d).structs ≡ structs_of d
  structs_sized file n (const_of name ty value) = refl
  structs_sized file n (typedef_of name ty) = refl
  structs_sized file n (enum_of name members) = refl
  structs_sized file n (struct_of kin name fields) = refl
  structs_sized file n (service_of name base functions) = structs_length (ty_in files file) n.types functions

  declared_sized : HasNoMore files (declarations_of files)
  unfolding declarations_of
  declared_sized =
      let structs = in_files (λ s. s.structs) structs_of (λ s t. refl) refl files structs_sized 0 start files in record {
        enums = in_files (λ s. s.enums) enums_of (λ s t. refl) refl files enums_sized 0 start files;
        structs = omega (arith, structs);
        built_in = refl;
        services = in_files (λ s. s.services) services_of (λ s t. refl) refl files services_sized 0 start files;
        counted = refl;
      }

pub nothing_more : (files : List FileTree) (schema : Declarations) → Resolved files schema → HasNoMore files schema
nothing_more files schema r = subst (HasNoMore files) (sym r.means) (declared_sized files)
