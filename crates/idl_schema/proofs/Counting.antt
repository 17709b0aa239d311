-- How many types and structs a definition adds.
use Rattle.std.proofs.Common.{◌≡◌, ℕ, ◌+◌, ◌*◌, List, [], ◌∷◌, ◌++◌, length, length-append, refl, arith, Option, Some, None}
use Rattle.idl_document.specs.Trees.{FunctionTree, FieldTree, TypeTree, base_at, named_at, map_at, set_at, list_at}
use Rattle.type_tables.specs.declared.declared.Ty.{Ty}
use Rattle.idl_schema.specs.Fields.{fields_types, returns_types}
use Rattle.idl_schema.specs.Methods.{methods_types, methods_structs, result_types}
use Rattle.idl_schema.specs.Numbers.{parts, fields_parts, returns_parts, method_parts, methods_parts}
use Rattle.idl_schema.specs.Types.{part_types}

module _ (ty : ℕ → TypeTree → Ty) where
  pub parts_length : (base : ℕ) (t : TypeTree) → length (part_types ty base t) ≡ parts t
  parts_length base (base_at at word) = refl
  parts_length base (named_at at word) = refl
  parts_length base (map_at at key value) =
      let k = parts_length (base + 2) key in
      let v = parts_length (base + 2 + parts key) value in
      let a = length-append (part_types ty (base + 2) key) (part_types ty (base + 2 + parts key) value) in
      omega arith
  parts_length base (set_at at element) = let e = parts_length (base + 1) element in omega arith
  parts_length base (list_at at element) = let e = parts_length (base + 1) element in omega arith

  pub fields_length : (base : ℕ) (fs : List FieldTree) → length (fields_types ty base fs) ≡ fields_parts fs
  fields_length base [] = refl
  fields_length base (f ∷ fs) =
      let here = parts_length base f.ty in
      let rest = fields_length (base + parts f.ty) fs in
      let a = length-append (part_types ty base f.ty) (fields_types ty (base + parts f.ty) fs) in
      omega arith

  pub returns_length : (base : ℕ) (t : Option TypeTree) → length (returns_types ty base t) ≡ returns_parts t
  returns_length base None = refl
  returns_length base (Some t) = parts_length base t

  pub result_length : (base : ℕ) (f : FunctionTree) → length (result_types ty base f) ≡ returns_parts f.returns + fields_parts f.throws
  result_length base f =
      let here = returns_length base f.returns in
      let rest = fields_length (base + returns_parts f.returns) f.throws in
      let a = length-append (returns_types ty base f.returns) (fields_types ty (base + returns_parts f.returns) f.throws) in
      omega arith

  pub methods_length : (base : ℕ) (fs : List FunctionTree) → length (methods_types ty base fs) ≡ methods_parts fs
  methods_length base [] = refl
  methods_length base (f ∷ fs) =
      let args = fields_length base f.args in
      let result = result_length (base + fields_parts f.args) f in
      let rest = methods_length (base + method_parts f) fs in
      let a = length-append (fields_types ty base f.args) (result_types ty (base + fields_parts f.args) f) in
      let b = length-append (fields_types ty base f.args ++ result_types ty (base + fields_parts f.args) f) (methods_types ty (base + method_parts f) fs) in
      omega arith

  pub structs_length : (base : ℕ) (fs : List FunctionTree) → length (methods_structs ty base fs) ≡ 2 * length fs
  structs_length base [] = refl
  structs_length base (f ∷ fs) = let rest = structs_length (base + method_parts f) fs in omega arith
