-- What an adding call did to a part, said of the whole; and the fields of one struct among many.
use Rattle.std.proofs.Common.{◌≡◌, ℕ, zero, suc, ◌<◌, List, [], ◌∷◌, ◌++◌, length, get_or, refl, ap, sym, ◌∙◌, arith, subst, Option, Ok, Err, Result}
use Rattle.std.specs.Prelude.{slice_set}
use Rattle.type_tables.specs.declared.declared.AddFault.{AddFault}
use Rattle.type_tables.specs.declared.declared.AddFault.TheVariants as faults
use Rattle.type_tables.specs.declared.declared.FieldInfo.{FieldInfo}
use Rattle.type_tables.specs.declared.tables.StructDecl.{StructDecl}
use Rattle.type_tables.specs.Adding.{Adds}
use Rattle.type_tables.specs.Fields.{place_of}
use Rattle.type_tables.specs.Structs.{fields_of, structs_with}

pub lifted : {R X Y : Type 0} (f : X → Y) (there : Option ℕ) (old new : X) (added : R → X) (whole : R → Y) (result : Result R AddFault) → ((r : R) → f (added r) ≡ whole r) →
    Adds there old new added result → Adds there (f old) (f new) whole result
lifted f there old new added whole (Ok r) e a = (a.0, ap f a.1 ∙ e r)
lifted f there old new added whole (Err (faults.Duplicate first)) e a = (a.0, ap f a.1)
lifted f there old new added whole (Err faults.OutOfMemory) e a = (a.0, ap f a.1)

pub fields_at : (ts : List StructDecl) (s : ℕ) (d : StructDecl) → s < length ts → fields_of ts s ≡ (get_or ts s d).fields
fields_at [] s d h = absurd (omega arith)
fields_at (t ∷ ts) zero d h = refl
fields_at (t ∷ ts) (suc s) d h = fields_at ts s d (omega arith)

pub structs_set : (ts : List StructDecl) (s : ℕ) (d x : StructDecl) → s < length ts → x.form ≡ (get_or ts s d).form → slice_set ts s x ≡ structs_with ts s x.fields
structs_set [] s d x h e = absurd (omega arith)
structs_set (t ∷ ts) zero d x h e = ap (λ f. let r : StructDecl = record { form = f; fields = x.fields } in r ∷ ts) e
structs_set (t ∷ ts) (suc s) d x h e = ap (λ (rest : List StructDecl). t ∷ rest) (structs_set ts s d x (omega arith) e)

-- with the fields that it has
same_fields : (ts : List StructDecl) (s : ℕ) → structs_with ts s (fields_of ts s) ≡ ts
same_fields [] s = refl
same_fields (t ∷ ts) zero = refl
same_fields (t ∷ ts) (suc s) = ap (λ (rest : List StructDecl). t ∷ rest) (same_fields ts s)

-- one struct is d, and becomes x
module _ (ts : List StructDecl) (s : ℕ) (d x : StructDecl) (f : FieldInfo) (below : s < length ts) (is : d ≡ get_or ts s d) (form : x.form ≡ d.form) where
  pub field_added : (result : Result (Unit {0}) AddFault) → Adds (place_of f.id d.fields) d.fields x.fields (λ u. d.fields ++ f ∷ []) result →
      Adds (place_of f.id (fields_of ts s)) ts (slice_set ts s x) (λ u. structs_with ts s (fields_of ts s ++ f ∷ [])) result
  field_added result a =
      let set = structs_set ts s d x below (form ∙ ap (λ (t : StructDecl). t.form) is) in
      let fields : d.fields ≡ fields_of ts s = ap (λ (t : StructDecl). t.fields) is ∙ sym (fields_at ts s d below) in
      let all = lifted (structs_with ts s) (place_of f.id d.fields) d.fields x.fields (λ (u : Unit {0}). d.fields ++ f ∷ []) (λ u. structs_with ts s (d.fields ++ f ∷ [])) result (λ u. refl) a in
      let there = subst (λ (fs : List FieldInfo). Adds (place_of f.id fs) (structs_with ts s fs) (structs_with ts s x.fields) (λ (u : Unit {0}). structs_with ts s (fs ++ f ∷ [])) result) fields all in
      subst (λ (new : List StructDecl). Adds (place_of f.id (fields_of ts s)) ts new (λ (u : Unit {0}). structs_with ts s (fields_of ts s ++ f ∷ [])) result) (sym set)
      (subst (λ (old : List StructDecl). Adds (place_of f.id (fields_of ts s)) old (structs_with ts s x.fields) (λ (u : Unit {0}). structs_with ts s (fields_of ts s ++ f ∷ [])) result) (same_fields ts s) there)
