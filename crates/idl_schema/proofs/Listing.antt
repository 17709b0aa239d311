-- Fields and methods, one at a time.
use Rattle.std.proofs.Common.{◌≡◌, ℕ, suc, ◌+◌, ◌<◌, List, [], ◌∷◌, ◌++◌, length, length-append, append_assoc, append-nil, get_or, drop, ap, sym, ◌∙◌, arith, add-one, drop-cons}
use Rattle.idl_document.specs.Trees.{FunctionTree, FieldTree, TypeTree}
use Rattle.idl_rules.specs.Ids.{counted}
use Rattle.type_tables.specs.declared.declared.FieldInfo.{FieldInfo}
use Rattle.type_tables.specs.declared.declared.Form.{Form}
use Rattle.type_tables.specs.declared.declared.Ty.{Ty}
use Rattle.type_tables.specs.Declarations.{Declarations, with_fields}
use Rattle.idl_schema.specs.Adding.{with_types, with_structs}
use Rattle.idl_schema.specs.Fields.{field_info, fields_from, fields_types}
use Rattle.idl_schema.specs.Methods.{args_struct, result_struct, result_types, methods_structs, methods_types}
use Rattle.idl_schema.specs.Numbers.{parts, fields_parts, method_parts}
use Rattle.idl_schema.specs.Types.{part_types}
use Rattle.idl_schema.proofs.Counting.{parts_length, fields_length, result_length}
use Rattle.idl_schema.proofs.Growing.{types_on, structs_on}

-- the next item of a list, and those behind it
pub next : {X : Type 0} (xs : List X) (i : ℕ) (x : X) → i < length xs → x ≡ get_or xs i x → drop i xs ≡ x ∷ drop (i + 1) xs
next {X} xs i x below is = rw (add-one) (drop-cons xs i x below ∙ ap (λ (y : X). y ∷ drop (suc i) xs) (sym is))

longer : (b c : Declarations) (ts : List Ty) → c ≡ with_types b ts → length c.types ≡ length b.types + length ts
longer b c ts e = ap (λ (d : Declarations). length d.types) e ∙ length-append b.types ts

module _ (ty : ℕ → TypeTree → Ty) (b c : Declarations) (f : FieldTree) (rest : List FieldTree) (added : c ≡ with_types b (part_types ty (length b.types) f.ty)) where
  further : length c.types ≡ length b.types + parts f.ty
  further = longer b c (part_types ty (length b.types) f.ty) added ∙ ap (λ (n : ℕ). length b.types + n) (parts_length ty (length b.types) f.ty)

  -- one field more
  pub field_listed : (before after : ℕ) (list more whole : List FieldInfo) → after ≡ counted before f.id → more ≡ list ++ field_info ty before (length b.types) f ∷ [] →
      list ++ fields_from ty before (length b.types) (f ∷ rest) ≡ whole → more ++ fields_from ty after (length c.types) rest ≡ whole
  field_listed before after list more whole a m i =
      ap (λ (l : List FieldInfo). l ++ fields_from ty after (length c.types) rest) m
      ∙ append_assoc list (field_info ty before (length b.types) f ∷ []) (fields_from ty after (length c.types) rest)
      ∙ ap (λ (n : ℕ). list ++ (field_info ty before (length b.types) f ∷ fields_from ty n (length c.types) rest)) a
      ∙ ap (λ (n : ℕ). list ++ (field_info ty before (length b.types) f ∷ fields_from ty (counted before f.id) n rest)) further ∙ i

  -- and the parts of its type
  pub field_typed : (whole : Declarations) → with_types b (fields_types ty (length b.types) (f ∷ rest)) ≡ whole → with_types c (fields_types ty (length c.types) rest) ≡ whole
  field_typed whole i =
      ap (λ (n : ℕ). with_types c (fields_types ty n rest)) further
      ∙ ap (λ (d : Declarations). with_types d (fields_types ty (length b.types + parts f.ty) rest)) added
      ∙ types_on b (part_types ty (length b.types) f.ty) (fields_types ty (length b.types + parts f.ty) rest) ∙ i

-- nothing more
pub types_end : (b : Declarations) → with_types b [] ≡ b
types_end b = ap (λ (l : List Ty). let r : Declarations = record b { types = l } in r) (append-nil b.types)

-- a struct behind the parts of its types
pub struct_added : (b c d : Declarations) (ts : List Ty) (form : Form) (fields all : List FieldInfo) → c ≡ with_types b ts → fields ≡ all → d ≡ with_fields c form fields →
    d ≡ with_structs b ts (record { form = form; fields = all } ∷ [])
struct_added b c d ts form fields all t f s =
    s ∙ ap (λ (l : List FieldInfo). with_fields c form l) f ∙ ap (λ (e : Declarations). with_fields e form all) t

-- two lists of types, one after another
pub types_joined : (b c d : Declarations) (xs : List Ty) (ys : ℕ → List Ty) (n : ℕ) → c ≡ with_types b xs → length c.types ≡ n → d ≡ with_types c (ys (length c.types)) → d ≡ with_types b (xs ++ ys n)
types_joined b c d xs ys n e l f =
    f ∙ ap (λ (m : ℕ). with_types c (ys m)) l ∙ ap (λ (e : Declarations). with_types e (ys n)) e ∙ types_on b xs (ys n)

pub longer_by : (b c : Declarations) (ts : List Ty) (n : ℕ) → c ≡ with_types b ts → length ts ≡ n → length c.types ≡ length b.types + n
longer_by b c ts n e l = longer b c ts e ∙ ap (λ (m : ℕ). length b.types + m) l

-- the structs of one method, and those of the methods behind it
module _ (ty : ℕ → TypeTree → Ty) (b c d : Declarations) (f : FunctionTree) (rest : List FunctionTree)
    (args : c ≡ with_structs b (fields_types ty (length b.types) f.args) (args_struct ty (length b.types) f ∷ []))
    (result : d ≡ with_structs c (result_types ty (length c.types) f) (result_struct ty (length c.types) f ∷ [])) where
  args_end : length c.types ≡ length b.types + fields_parts f.args
  args_end =
      ap (λ (e : Declarations). length e.types) args ∙ length-append b.types (fields_types ty (length b.types) f.args)
      ∙ ap (λ (n : ℕ). length b.types + n) (fields_length ty (length b.types) f.args)

  result_end : length d.types ≡ length b.types + method_parts f
  result_end =
      let l = ap (λ (e : Declarations). length e.types) result ∙ length-append c.types (result_types ty (length c.types) f) in
      let m = result_length ty (length c.types) f in
      let a = args_end in
      omega arith

  both_added : d ≡ with_structs b (fields_types ty (length b.types) f.args ++ result_types ty (length b.types + fields_parts f.args) f)
      (args_struct ty (length b.types) f ∷ result_struct ty (length b.types + fields_parts f.args) f ∷ [])
  both_added =
      result ∙ ap (λ (n : ℕ). with_structs c (result_types ty n f) (result_struct ty n f ∷ [])) args_end
      ∙ ap (λ (e : Declarations). with_structs e (result_types ty (length b.types + fields_parts f.args) f) (result_struct ty (length b.types + fields_parts f.args) f ∷ [])) args
      ∙ structs_on b (fields_types ty (length b.types) f.args) (result_types ty (length b.types + fields_parts f.args) f) (args_struct ty (length b.types) f ∷ [])
      (result_struct ty (length b.types + fields_parts f.args) f ∷ [])

  pub method_added : (whole : Declarations) → with_structs b (methods_types ty (length b.types) (f ∷ rest)) (methods_structs ty (length b.types) (f ∷ rest)) ≡ whole →
      with_structs d (methods_types ty (length d.types) rest) (methods_structs ty (length d.types) rest) ≡ whole
  method_added whole i =
      ap (λ (n : ℕ). with_structs d (methods_types ty n rest) (methods_structs ty n rest)) result_end
      ∙ ap (λ (e : Declarations). with_structs e (methods_types ty (length b.types + method_parts f) rest) (methods_structs ty (length b.types + method_parts f) rest)) both_added
      ∙ structs_on b (fields_types ty (length b.types) f.args ++ result_types ty (length b.types + fields_parts f.args) f) (methods_types ty (length b.types + method_parts f) rest)
      (args_struct ty (length b.types) f ∷ result_struct ty (length b.types + fields_parts f.args) f ∷ []) (methods_structs ty (length b.types + method_parts f) rest)
      ∙ i
