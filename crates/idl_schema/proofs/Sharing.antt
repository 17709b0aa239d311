-- What definitions add, one after another.
use Rattle.std.proofs.Common.{◌≡◌, ℕ, suc, ◌+◌, List, [], ◌∷◌, ◌++◌, length, length-append, append_assoc, append-nil, refl, ap, sym, ◌∙◌, arith, Option, Some, None}
use Rattle.idl_document.specs.Trees.{DefinitionTree, const_of, typedef_of, enum_of, struct_of, service_of}
use Rattle.idl_names.specs.Files.{FileTree}
use Rattle.type_tables.specs.declared.declared.MethodInfo.{MethodInfo}
use Rattle.type_tables.specs.declared.declared.ServiceId.{ServiceId}
use Rattle.type_tables.specs.declared.declared.Ty.{Ty}
use Rattle.type_tables.specs.declared.services.ServiceDecl.{ServiceDecl}
use Rattle.type_tables.specs.declared.tables.StructDecl.{StructDecl}
use Rattle.type_tables.specs.Declarations.{Declarations, with_service}
use Rattle.type_tables.specs.Roots.{with_name}
use Rattle.type_tables.specs.Services.{number, services_with, methods_of}
use Rattle.idl_schema.specs.declared.numbers.First.{First}
use Rattle.idl_schema.specs.Adding.{with_structs, with_methods, firsts}
use Rattle.idl_schema.specs.Numbers.{after, after_all}
use Rattle.idl_schema.specs.Shares.{Share, none, both, with_share, share, shares, files_shares}
use Rattle.idl_schema.specs.Types.{ty_in}
use Rattle.idl_schema.proofs.Counting.{parts_length, fields_length, methods_length, structs_length}
use Rattle.idl_schema.proofs.Growing.{declared, same_declared}
use Rattle.idl_schema.proofs.Servicing.{last_methods}

pub share_on : (d : Declarations) (s t : Share) → with_share (with_share d s) t ≡ with_share d (both s t)
unfolding declared
share_on d s t =
    same_declared ((d.types ++ s.types) ++ t.types) (d.types ++ (s.types ++ t.types)) ((d.enums ++ s.enums) ++ t.enums) (d.enums ++ (s.enums ++ t.enums))
    ((d.structs ++ s.structs) ++ t.structs) (d.structs ++ (s.structs ++ t.structs)) ((d.services ++ s.services) ++ t.services) (d.services ++ (s.services ++ t.services))
    ((d.names ++ s.names) ++ t.names) (d.names ++ (s.names ++ t.names)) d.files
    (append_assoc d.types s.types t.types) (append_assoc d.enums s.enums t.enums) (append_assoc d.structs s.structs t.structs) (append_assoc d.services s.services t.services)
    (append_assoc d.names s.names t.names)

pub share_none : (d : Declarations) → with_share d none ≡ d
unfolding declared
share_none d =
    same_declared (d.types ++ []) d.types (d.enums ++ []) d.enums (d.structs ++ []) d.structs (d.services ++ []) d.services (d.names ++ []) d.names d.files
    (append-nil d.types) (append-nil d.enums) (append-nil d.structs) (append-nil d.services) (append-nil d.names)

first_is : ℕ → ℕ → ℕ → ℕ → First
first_is s e v t = record { structs = s; enums = e; services = v; types = t }

same_first : (s s' e e' v v' t t' : ℕ) → s ≡ s' → e ≡ e' → v ≡ v' → t ≡ t' → first_is s e v t ≡ first_is s' e' v' t'
same_first s s' e e' v v' t t' a b c d = cc

-- the numbers behind a share, by the lengths of its lists
firsts_by : (d : Declarations) (s : Share) (structs enums services types : ℕ) → length d.structs + length s.structs ≡ structs → length d.enums + length s.enums ≡ enums →
    length d.services + length s.services ≡ services → length d.types + length s.types ≡ types → firsts (with_share d s) ≡ first_is structs enums services types
unfolding first_is
firsts_by d s structs enums services types a b c e =
    same_first (length (d.structs ++ s.structs)) structs (length (d.enums ++ s.enums)) enums (length (d.services ++ s.services)) services (length (d.types ++ s.types)) types
    (length-append d.structs s.structs ∙ a) (length-append d.enums s.enums ∙ b) (length-append d.services s.services ∙ c) (length-append d.types s.types ∙ e)

none_more : (n : ℕ) → n + 0 ≡ n
none_more n = omega arith

module _ (files : List FileTree) (file : ℕ) where
  pub firsts_after : (d : Declarations) (x : DefinitionTree) → firsts (with_share d (share files file (firsts d) x)) ≡ after (firsts d) x
  unfolding first_is
  firsts_after d (const_of name ty value) =
      firsts_by d none (length d.structs) (length d.enums) (length d.services) (length d.types)
      (none_more (length d.structs)) (none_more (length d.enums)) (none_more (length d.services)) (none_more (length d.types))
  firsts_after d (typedef_of name ty) =
      let s = share files file (firsts d) (typedef_of name ty) in
      firsts_by d s (length d.structs) (length d.enums) (length d.services) _
      (none_more (length d.structs)) (none_more (length d.enums)) (none_more (length d.services))
      (ap (λ (n : ℕ). length d.types + n) (parts_length (ty_in files file) (length d.types) ty))
  firsts_after d (enum_of name members) =
      let s = share files file (firsts d) (enum_of name members) in
      firsts_by d s (length d.structs) _ (length d.services) (length d.types) (none_more (length d.structs)) refl (none_more (length d.services)) (none_more (length d.types))
  firsts_after d (struct_of kin name fields) =
      let s = share files file (firsts d) (struct_of kin name fields) in
      firsts_by d s _ (length d.enums) (length d.services) _ refl (none_more (length d.enums)) (none_more (length d.services))
      (ap (λ (n : ℕ). length d.types + n) (fields_length (ty_in files file) (length d.types) fields))
  firsts_after d (service_of name base functions) =
      let s = share files file (firsts d) (service_of name base functions) in
      firsts_by d s _ (length d.enums) _ _
      (ap (λ (n : ℕ). length d.structs + n) (structs_length (ty_in files file) (length d.types) functions)) (none_more (length d.enums)) refl
      (ap (λ (n : ℕ). length d.types + n) (methods_length (ty_in files file) (length d.types) functions))

  -- one definition more
  pub definition_added : (b c : Declarations) (x : DefinitionTree) (rest : List DefinitionTree) (whole : Declarations) → c ≡ with_share b (share files file (firsts b) x) →
      with_share b (shares files file (firsts b) (x ∷ rest)) ≡ whole → with_share c (shares files file (firsts c) rest) ≡ whole
  definition_added b c x rest whole e i =
      let s = share files file (firsts b) x in
      ap (λ (d : Declarations). with_share d (shares files file (firsts d) rest)) e
      ∙ ap (λ (n : First). with_share (with_share b s) (shares files file n rest)) (firsts_after b x)
      ∙ share_on b s (shares files file (after (firsts b) x) rest) ∙ i

  firsts_behind : (b : Declarations) (xs : List DefinitionTree) → firsts (with_share b (shares files file (firsts b) xs)) ≡ after_all (firsts b) xs
  firsts_behind b [] = ap firsts (share_none b)
  firsts_behind b (x ∷ xs) =
      let s = share files file (firsts b) x in
      let c = with_share b s in
      ap firsts (sym (share_on b s (shares files file (after (firsts b) x) xs)))
      ∙ ap (λ (n : First). firsts (with_share c (shares files file n xs))) (sym (firsts_after b x))
      ∙ firsts_behind c xs ∙ ap (λ (n : First). after_all n xs) (firsts_after b x)

-- one file more
pub file_added : (files : List FileTree) (file : ℕ) (b c : Declarations) (f : FileTree) (rest : List FileTree) (whole : Declarations) →
    c ≡ with_share b (shares files file (firsts b) f.document.definitions) → with_share b (files_shares files file (firsts b) (f ∷ rest)) ≡ whole →
    with_share c (files_shares files (file + 1) (firsts c) rest) ≡ whole
file_added files file b c f rest whole e i =
    let s = shares files file (firsts b) f.document.definitions in
    let one : file + 1 ≡ suc file = omega arith in
    ap (λ (n : ℕ). with_share c (files_shares files n (firsts c) rest)) one
    ∙ ap (λ (d : Declarations). with_share d (files_shares files (suc file) (firsts d) rest)) e
    ∙ ap (λ (n : First). with_share (with_share b s) (files_shares files (suc file) n rest)) (firsts_behind files file b f.document.definitions)
    ∙ share_on b s (files_shares files (suc file) (after_all (firsts b) f.document.definitions) rest) ∙ i

named_on : (ns : List (List ℕ × ServiceId)) (name : Option (List ℕ)) (s : ServiceId) → with_name ns name s ≡ ns ++ with_name [] name s
named_on ns None s = sym (append-nil ns)
named_on ns (Some name) s = refl

-- a service with its methods
pub service_added : (b b1 b2 b3 : Declarations) (name : Option (List ℕ)) (base given : Option ServiceId) (s n : ℕ) (types : ℕ → List Ty) (structs : ℕ → List StructDecl) (methods : ℕ → List (List ℕ × MethodInfo)) →
    given ≡ base → b1 ≡ with_service b name given → s ≡ length b.services → n ≡ length b.structs → b2 ≡ with_structs b1 (types (length b1.types)) (structs (length b1.types)) →
    b3 ≡ with_methods b2 s (methods n) →
    b3 ≡ with_share b (record {
      types = types (length b.types);
      enums = [];
      structs = structs (length b.types);
      services = record { base = base; methods = methods (length b.structs) } ∷ [];
      names = with_name [] name (number (length b.services));
    })
unfolding declared
service_added b b1 b2 b3 name base given s n types structs methods g e1 s_is n_is e2 e3 =
    let ts = types (length b.types) in
    let ss = structs (length b.types) in
    let ms = methods (length b.structs) in
    let t : ServiceDecl = record { base = base; methods = [] } in
    let first : b1 ≡ with_service b name base = e1 ∙ ap (with_service b name) g in
    let second : b2 ≡ with_structs (with_service b name base) ts ss = e2 ∙ ap (λ (d : Declarations). with_structs d (types (length d.types)) (structs (length d.types))) first in
    e3 ∙ ap (λ (m : ℕ). with_methods b2 s (methods m)) n_is ∙ ap (λ (m : ℕ). with_methods b2 m ms) s_is
    ∙ ap (λ (d : Declarations). with_methods d (length b.services) ms) second
    ∙ same_declared (b.types ++ ts) (b.types ++ ts) b.enums (b.enums ++ []) (b.structs ++ ss) (b.structs ++ ss)
    (services_with (b.services ++ t ∷ []) (length b.services) (methods_of (b.services ++ t ∷ []) (length b.services) ++ ms)) (b.services ++ record { base = base; methods = ms } ∷ [])
    (with_name b.names name (number (length b.services))) (b.names ++ with_name [] name (number (length b.services))) b.files
    refl (sym (append-nil b.enums)) refl (last_methods b.services t ms refl) (named_on b.names name (number (length b.services)))
