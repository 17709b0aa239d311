-- Names that stand once each, and what is closed but for the number of files.
use Rattle.std.proofs.Common.{◌≡◌, ◌∙◌, ap, sym, subst, refl, ℕ, List, [], ◌∷◌, ◌++◌, append_assoc, Option, Some, None, Bool, true, false, cond, nat_eq}
use Rattle.std.specs.Cmp.Lexicographic.{bytes_decides, pointwise, same_text}
use Rattle.type_tables.specs.declared.declared.ServiceId.{ServiceId}
use Rattle.type_tables.specs.declared.declared.Ty.{Ty}
use Rattle.type_tables.specs.declared.declared.Ty.TheVariants as types
use Rattle.type_tables.specs.Declarations.{Declarations, with_files}
use Rattle.type_tables.specs.Known.{IsClosed, IsKnown, IsKnownBase}
use Rattle.type_tables.specs.Names.{value_of}
use Rattle.type_tables.specs.Roots.{named_place, number_in, with_name}
use Rattle.idl_schema.specs.Shares.{Share, both}
use Rattle.idl_schema.specs.Stands.{AreApart}

abbrev Names : Type 0
Names = List (List ℕ × ServiceId)

value_left : (word : List ℕ) (xs ys : Names) → value_of word (xs ++ ys) ≡ None → value_of word xs ≡ None
value_left word [] ys e = refl
value_left word (x ∷ xs) ys e = by (pointwise nat_eq word x.0) (value_left word xs ys) e
  where
    by : (t : Bool) → (value_of word (xs ++ ys) ≡ None → value_of word xs ≡ None) → cond t (Some x.1) (value_of word (xs ++ ys)) ≡ None → cond t (Some x.1) (value_of word xs) ≡ None
    by true rest h = absurd cc
    by false rest h = rest h

pub apart_left : (xs ys : Names) → AreApart (xs ++ ys) → AreApart xs
apart_left [] ys a = tt
apart_left (x ∷ xs) ys a = (value_left x.0 xs ys a.0, apart_left xs ys a.1)

-- what comes first of what is added stands apart where all does
pub first_apart : (names : Names) (s t : Share) (whole : Names) → names ++ (both s t).names ≡ whole → AreApart whole → AreApart (names ++ s.names)
first_apart names s t whole e a = apart_left (names ++ s.names) t.names (subst AreApart (sym e ∙ sym (append_assoc names s.names t.names)) a)

there : (word : List ℕ) (xs : Names) (name : List ℕ) (id : ServiceId) → word ≡ name → value_of word (xs ++ (name, id) ∷ []) ≡ None → ⊥
there word [] name id e h =
    let yes = (bytes_decides word name).1 e in
    let no : Some id ≡ None = sym (ap (λ (t : Bool). cond t (Some id) None) yes) ∙ h in
    absurd cc
there word (x ∷ xs) name id e h = by (pointwise nat_eq word x.0) (there word xs name id e) h
  where
    by : (t : Bool) → (value_of word (xs ++ (name, id) ∷ []) ≡ None → ⊥) → cond t (Some x.1) (value_of word (xs ++ (name, id) ∷ [])) ≡ None → ⊥
    by true rest g = cc
    by false rest g = rest g

twice : (names : Names) (name : List ℕ) (id s : ServiceId) → value_of name names ≡ Some s → AreApart (names ++ (name, id) ∷ []) → ⊥
twice [] name id s e a = absurd cc
twice (x ∷ xs) name id s e a = by (pointwise nat_eq name x.0) refl (λ h. twice xs name id s h a.1) e
  where
    by : (t : Bool) → pointwise nat_eq name x.0 ≡ t → (value_of name xs ≡ Some s → ⊥) → cond t (Some x.1) (value_of name xs) ≡ Some s → ⊥
    by true f rest h = there x.0 xs name id (sym (same_text name x.0 (sym f))) a.0
    by false f rest h = rest h

-- a name that has a place would stand twice
pub duplicate : (name : Option (List ℕ)) (names : Names) (first : ℕ) (id : ServiceId) → named_place name names ≡ Some first → AreApart (names ++ with_name [] name id) → ⊥
duplicate None names first id e a = absurd cc
duplicate (Some name) names first id e a = by (value_of name names) refl e
  where
    by : (o : Option ServiceId) → value_of name names ≡ o → number_in o ≡ Some first → ⊥
    by None f h = cc
    by (Some s) f h = twice names name id s f a

known_back : (d : Declarations) (n : ℕ) (ty : Ty) → IsKnown (with_files d n) ty → IsKnown d ty
known_back d n types.Unknown k = tt
known_back d n types.Bool k = tt
known_back d n types.I8 k = tt
known_back d n types.I16 k = tt
known_back d n types.I32 k = tt
known_back d n types.I64 k = tt
known_back d n types.Double k = tt
known_back d n types.Text k = tt
known_back d n types.Blob k = tt
known_back d n (types.Enum e) k = k
known_back d n (types.Struct s) k = k
known_back d n (types.Map key value) k = k
known_back d n (types.Set element) k = k
known_back d n (types.List element) k = k
known_back d n types.Uuid k = tt

base_back : (d : Declarations) (n : ℕ) (base : Option ServiceId) → IsKnownBase (with_files d n) base → IsKnownBase d base
base_back d n None k = tt
base_back d n (Some base) k = k

-- the number of files is none of what is closed
pub closed_back : (d : Declarations) (n : ℕ) → IsClosed (with_files d n) → IsClosed d
closed_back d n c = record {
  types = λ i ty h. known_back d n _ (c.types i ty h);
  fields = λ i s h j f g. known_back d n _ (c.fields i s h j f g);
  methods = c.methods;
  bases = λ i s h. base_back d n _ (c.bases i s h);
}
