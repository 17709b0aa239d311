-- A schema that grows, list by list.
use Rattle.std.proofs.Common.{◌≡◌, ℕ, ℤ, ◌+◌, List, [], ◌∷◌, ◌++◌, length, length-append, append_assoc, refl, ap, ◌∙◌, arith}
use Rattle.idl_document.specs.Trees.{TypeTree}
use Rattle.type_tables.specs.declared.declared.ServiceId.{ServiceId}
use Rattle.type_tables.specs.declared.declared.Ty.{Ty}
use Rattle.type_tables.specs.declared.services.ServiceDecl.{ServiceDecl}
use Rattle.type_tables.specs.declared.tables.StructDecl.{StructDecl}
use Rattle.type_tables.specs.Declarations.{Declarations, with_type}
use Rattle.idl_schema.specs.Adding.{with_types, with_structs}
use Rattle.idl_schema.specs.Numbers.{parts}
use Rattle.idl_schema.specs.Types.{part_types, pair_types}
use Rattle.idl_schema.proofs.Counting.{parts_length}

unfoldable pub declared : List Ty → List (List ℤ) → List StructDecl → List ServiceDecl → List (List ℕ × ServiceId) → ℕ → Declarations
declared t e s v n f = record { types = t; enums = e; structs = s; services = v; names = n; files = f }

pub same_declared : (t t' : List Ty) (e e' : List (List ℤ)) (s s' : List StructDecl) (v v' : List ServiceDecl) (n n' : List (List ℕ × ServiceId)) (f : ℕ) →
    t ≡ t' → e ≡ e' → s ≡ s' → v ≡ v' → n ≡ n' → declared t e s v n f ≡ declared t' e' s' v' n' f
same_declared t t' e e' s s' v v' n n' f a b c d g = cc

-- types, and then more
pub types_on : (d : Declarations) (xs ys : List Ty) → with_types (with_types d xs) ys ≡ with_types d (xs ++ ys)
types_on d xs ys = ap (λ (l : List Ty). let r : Declarations = record d { types = l } in r) (append_assoc d.types xs ys)

pub structs_on : (d : Declarations) (xs ys : List Ty) (ss ts : List StructDecl) → with_structs (with_structs d xs ss) ys ts ≡ with_structs d (xs ++ ys) (ss ++ ts)
unfolding declared
structs_on d xs ys ss ts =
    same_declared ((d.types ++ xs) ++ ys) (d.types ++ (xs ++ ys)) d.enums d.enums ((d.structs ++ ss) ++ ts) (d.structs ++ (ss ++ ts)) d.services d.services d.names d.names d.files
    (append_assoc d.types xs ys) refl (append_assoc d.structs ss ts) refl refl

-- the parts of a map, one after another
pub map_added : (ty : ℕ → TypeTree → Ty) (b b1 b2 b3 b4 : Declarations) (key value : TypeTree) (at inner behind keys : ℕ) (tk tv : Ty) → at ≡ length b.types → inner ≡ at + 2 → keys ≡ parts key →
    behind ≡ inner + keys → tk ≡ ty inner key → tv ≡ ty behind value → b1 ≡ with_type b tk → b2 ≡ with_type b1 tv → b3 ≡ with_types b2 (part_types ty (length b2.types) key) →
    b4 ≡ with_types b3 (part_types ty (length b3.types) value) →
    b4 ≡ with_types b (pair_types ty (length b.types) key value)
map_added ty b b1 b2 b3 b4 key value at inner behind keys tk tv a i k h tk_is tv_is e1 e2 e3 e4 =
    let n = length b.types in
    let two : b2 ≡ with_types b (tk ∷ tv ∷ []) = e2 ∙ ap (λ (d : Declarations). with_type d tv) e1 ∙ types_on b (tk ∷ []) (tv ∷ []) in
    let long : length b2.types ≡ n + 2 = ap (λ (d : Declarations). length d.types) two ∙ length-append b.types (tk ∷ tv ∷ []) in
    let first : b3 ≡ with_types b ((tk ∷ tv ∷ []) ++ part_types ty (n + 2) key) =
    e3 ∙ ap (λ (m : ℕ). with_types b2 (part_types ty m key)) long ∙ ap (λ (d : Declarations). with_types d (part_types ty (n + 2) key)) two ∙ types_on b (tk ∷ tv ∷ []) (part_types ty (n + 2) key) in
    let longer : length b3.types ≡ n + 2 + parts key =
    let l = ap (λ (d : Declarations). length d.types) first ∙ length-append b.types ((tk ∷ tv ∷ []) ++ part_types ty (n + 2) key) in
    let m = parts_length ty (n + 2) key in
    omega arith in
    let second : b4 ≡ with_types b (((tk ∷ tv ∷ []) ++ part_types ty (n + 2) key) ++ part_types ty (n + 2 + parts key) value) =
    e4 ∙ ap (λ (m : ℕ). with_types b3 (part_types ty m value)) longer ∙ ap (λ (d : Declarations). with_types d (part_types ty (n + 2 + parts key) value)) first
    ∙ types_on b ((tk ∷ tv ∷ []) ++ part_types ty (n + 2) key) (part_types ty (n + 2 + parts key) value) in
    let inner_is : inner ≡ n + 2 = i ∙ ap (λ (m : ℕ). m + 2) a in
    let behind_is : behind ≡ n + 2 + parts key = omega arith in
    second
    ∙ ap (λ (t : Ty). with_types b (t ∷ tv ∷ (part_types ty (n + 2) key ++ part_types ty (n + 2 + parts key) value))) (tk_is ∙ ap (λ (m : ℕ). ty m key) inner_is)
    ∙ ap (λ (t : Ty). with_types b (ty (n + 2) key ∷ t ∷ (part_types ty (n + 2) key ++ part_types ty (n + 2 + parts key) value))) (tv_is ∙ ap (λ (m : ℕ). ty m value) behind_is)
