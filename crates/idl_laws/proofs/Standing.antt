-- Where in the tables that stands which a definition adds.
use Rattle.std.proofs.Common.{◌≡◌, ◌∙◌, ap, sym, subst, refl, ℕ, zero, suc, ◌+◌, List, [], ◌∷◌, ◌++◌, length, length-append, slice_get, Some, option_and_then, arith}
use Rattle.idl_document.specs.Trees.{DefinitionTree, const_of, typedef_of, enum_of, struct_of, service_of}
use Rattle.idl_names.specs.declared.documents.Spot.{Spot}
use Rattle.idl_names.specs.Files.{FileTree}
use Rattle.idl_names.specs.Targets.{definition_at}
use Rattle.idl_laws.proofs.Firsts.{First}
use Rattle.idl_schema.specs.Numbers.{after, after_all, files_numbers, first_of, numbers_in, numbers_of, start}
use Rattle.idl_schema.specs.Shares.{Share, both, files_shares, none, share, shares}
use Rattle.idl_schema.specs.Types.{ty_in}
use Rattle.idl_schema.proofs.Counting.{parts_length, fields_length, methods_length, structs_length}
use Rattle.idl_laws.proofs.Runs.{IsRun, in_left, in_right, itself}

-- a kind of things, of which each definition adds as many as its numbers grow by
module _ {X : Type 0} (list : Share → List X) (count : First → ℕ) (joined : (s t : Share) → list (both s t) ≡ list s ++ list t) (empty : list none ≡ []) (files : List FileTree)
    (grows : (file : ℕ) (n : First) (d : DefinitionTree) → count (after n d) ≡ count n + length (list (share files file n d))) where
  grown : (file : ℕ) (n : First) (ds : List DefinitionTree) → count (after_all n ds) ≡ count n + length (list (shares files file n ds))
  grown file n [] =
      let nothing : length (list none) ≡ 0 = ap (λ (xs : List X). length xs) empty in
      omega (arith, nothing)
  grown file n (d ∷ ds) =
      let here = grows file n d in
      let rest = grown file (after n d) ds in
      let both = ap (λ (xs : List X). length xs) (joined (share files file n d) (shares files file (after n d) ds)) ∙ length-append (list (share files file n d)) (list (shares files file (after n d) ds)) in
      omega (arith, here, rest, both)

  -- what a definition adds stands there, so many behind
  abbrev StandsIn : ℕ → First → Share → ℕ → First → DefinitionTree → Type 0
  StandsIn file n whole at m d = (k : ℕ) × (count m ≡ count n + k) × IsRun (list whole) k (list (share files at m d))

  in_file : (file : ℕ) (n : First) (ds : List DefinitionTree) (j : ℕ) (d : DefinitionTree) (m : First) → slice_get ds j ≡ Some d → slice_get (numbers_in n ds) j ≡ Some m →
      StandsIn file n (shares files file n ds) file m d
  in_file file n [] j d m e f = absurd (cc)
  in_file file n (x ∷ ds) zero d m e f =
      let same : x ≡ d = cc in
      let number : n ≡ m = cc in
      let here = share files file n x in
      let rest = shares files file (after n x) ds in
      let runs : IsRun (list (both here rest)) 0 (list here) =
      subst (λ (w : List X). IsRun w 0 (list here)) (sym (joined here rest)) (in_left (list here) (list rest) (list here) 0 (itself (list here)))
      in
      let so : IsRun (list (both here rest)) 0 (list (share files file m d)) =
      subst (λ (y : DefinitionTree). IsRun (list (both here rest)) 0 (list (share files file m y))) same
      (subst (λ (k : First). IsRun (list (both here rest)) 0 (list (share files file k x))) number runs)
      in
      let same_count : count n ≡ count m = ap count number in
      (0, omega (arith, same_count), so)
  in_file file n (x ∷ ds) (suc j) d m e f =
      let inner = in_file file (after n x) ds j d m e f in
      let here = share files file n x in
      let rest = shares files file (after n x) ds in
      let more = grows file n x in
      let counted = inner.1 in (
        length (list here) + inner.0,
        omega (arith, more, counted),
        subst (λ (w : List X). IsRun w (length (list here) + inner.0) (list (share files file m d))) (sym (joined here rest))
            (in_right (list here) (list rest) (list (share files file m d)) inner.0 inner.2),
      )

  in_files : (file : ℕ) (n : First) (fs : List FileTree) (k j : ℕ) (d : DefinitionTree) (m : First) → option_and_then (λ tree. slice_get tree.document.definitions j) (slice_get fs k) ≡ Some d →
      option_and_then (λ ns. slice_get ns j) (slice_get (files_numbers n fs) k) ≡ Some m → StandsIn file n (files_shares files file n fs) (file + k) m d
  in_files file n [] k j d m e f = absurd (cc)
  in_files file n (x ∷ fs) zero j d m e f =
      let inner = in_file file n x.document.definitions j d m e f in
      let here = shares files file n x.document.definitions in
      let rest = files_shares files (suc file) (after_all n x.document.definitions) fs in
      let at : file ≡ file + 0 = omega arith in
      let runs : IsRun (list (both here rest)) inner.0 (list (share files file m d)) =
      subst (λ (w : List X). IsRun w inner.0 (list (share files file m d))) (sym (joined here rest)) (in_left (list here) (list rest) (list (share files file m d)) inner.0 inner.2)
      in
      (inner.0, inner.1, subst (λ (p : ℕ). IsRun (list (both here rest)) inner.0 (list (share files p m d))) at runs)
  in_files file n (x ∷ fs) (suc k) j d m e f =
      let inner = in_files (suc file) (after_all n x.document.definitions) fs k j d m e f in
      let here = shares files file n x.document.definitions in
      let rest = files_shares files (suc file) (after_all n x.document.definitions) fs in
      let more = grown file n x.document.definitions in
      let counted = inner.1 in
      let at : suc file + k ≡ file + suc k = omega arith in
      let runs : IsRun (list (both here rest)) (length (list here) + inner.0) (list (share files (suc file + k) m d)) =
      subst (λ (w : List X). IsRun w (length (list here) + inner.0) (list (share files (suc file + k) m d))) (sym (joined here rest))
      (in_right (list here) (list rest) (list (share files (suc file + k) m d)) inner.0 inner.2)
      in (
        length (list here) + inner.0,
        omega (arith, more, counted),
        subst (λ (p : ℕ). IsRun (list (both here rest)) (length (list here) + inner.0) (list (share files p m d))) at runs,
      )

  pub stands : (spot : Spot) (d : DefinitionTree) (m : First) → definition_at files spot ≡ Some d → first_of files spot ≡ Some m →
      (k : ℕ) × (count m ≡ count start + k) × IsRun (list (files_shares files 0 start files)) k (list (share files spot.file m d))
  unfolding numbers_of
  stands spot d m e f =
      let inner = in_files 0 start files spot.file spot.definition d m e f in
      let at : 0 + spot.file ≡ spot.file = omega arith in
      (inner.0, inner.1, subst (λ (p : ℕ). IsRun (list (files_shares files 0 start files)) inner.0 (list (share files p m d))) at inner.2)

no_more : (n : ℕ) → n ≡ n + 0
no_more n = omega arith

module _ (files : List FileTree) where
  types_grow : (file : ℕ) (n : First) (d : DefinitionTree) → (after n d).types ≡ n.types + length (share files file n d).types
  types_grow file n (const_of name ty value) = no_more n.types
  types_grow file n (typedef_of name ty) = ap (λ (k : ℕ). n.types + k) (sym (parts_length (ty_in files file) n.types ty))
  types_grow file n (enum_of name members) = no_more n.types
  types_grow file n (struct_of kin name fields) = ap (λ (k : ℕ). n.types + k) (sym (fields_length (ty_in files file) n.types fields))
  types_grow file n (service_of name base functions) = ap (λ (k : ℕ). n.types + k) (sym (methods_length (ty_in files file) n.types functions))

  structs_grow : (file : ℕ) (n : First) (d : DefinitionTree) → (after n d).structs ≡ n.structs + length (share files file n d).structs
  structs_grow file n (const_of name ty value) = no_more n.structs
  structs_grow file n (typedef_of name ty) = no_more n.structs
  structs_grow file n (enum_of name members) = no_more n.structs
  structs_grow file n (struct_of kin name fields) = refl
  structs_grow file n (service_of name base functions) = ap (λ (k : ℕ). n.structs + k) (sym (structs_length (ty_in files file) n.types functions))

  enums_grow : (file : ℕ) (n : First) (d : DefinitionTree) → (after n d).enums ≡ n.enums + length (share files file n d).enums
  enums_grow file n (const_of name ty value) = no_more n.enums
  enums_grow file n (typedef_of name ty) = no_more n.enums
  enums_grow file n (enum_of name members) = refl
  enums_grow file n (struct_of kin name fields) = no_more n.enums
  enums_grow file n (service_of name base functions) = no_more n.enums

  services_grow : (file : ℕ) (n : First) (d : DefinitionTree) → (after n d).services ≡ n.services + length (share files file n d).services
  services_grow file n (const_of name ty value) = no_more n.services
  services_grow file n (typedef_of name ty) = no_more n.services
  services_grow file n (enum_of name members) = no_more n.services
  services_grow file n (struct_of kin name fields) = no_more n.services
  services_grow file n (service_of name base functions) = refl

  abbrev pub all_shares : Share
  all_shares = files_shares files 0 start files

  module _ (spot : Spot) (d : DefinitionTree) (m : First) (e : definition_at files spot ≡ Some d) (f : first_of files spot ≡ Some m) where
    pub types_stand : IsRun all_shares.types m.types (share files spot.file m d).types
    types_stand =
        let there = stands (λ s. s.types) (λ n. n.types) (λ s t. refl) refl files types_grow spot d m e f in
        let counted = there.1 in
        let at : there.0 ≡ m.types = omega (arith, counted) in
        subst (λ (k : ℕ). IsRun all_shares.types k (share files spot.file m d).types) at there.2

    pub structs_stand : (k : ℕ) × (m.structs ≡ 1 + k) × IsRun all_shares.structs k (share files spot.file m d).structs
    structs_stand = stands (λ s. s.structs) (λ n. n.structs) (λ s t. refl) refl files structs_grow spot d m e f

    pub enums_stand : IsRun all_shares.enums m.enums (share files spot.file m d).enums
    enums_stand =
        let there = stands (λ s. s.enums) (λ n. n.enums) (λ s t. refl) refl files enums_grow spot d m e f in
        let counted = there.1 in
        let at : there.0 ≡ m.enums = omega (arith, counted) in
        subst (λ (k : ℕ). IsRun all_shares.enums k (share files spot.file m d).enums) at there.2

    pub services_stand : IsRun all_shares.services m.services (share files spot.file m d).services
    services_stand =
        let there = stands (λ s. s.services) (λ n. n.services) (λ s t. refl) refl files services_grow spot d m e f in
        let counted = there.1 in
        let at : there.0 ≡ m.services = omega (arith, counted) in
        subst (λ (k : ℕ). IsRun all_shares.services k (share files spot.file m d).services) at there.2
