-- What is found in a schema is known in it.
use Rattle.std.proofs.Common.{◌≡◌, ℕ, ℤ, zero, suc, ◌<◌, List, [], ◌∷◌, length, get_or, take, refl, arith, subst, Bool, true, false, Option, Some, None, cond, nat_eq}
use Rattle.std.specs.Prelude.{slice_get, IfSome, All}
use Rattle.std.specs.Cmp.Lexicographic.{pointwise}
use Rattle.std.proofs.lemmas.List.Elements.{All-get_or, All-tail, All-cons}
use Rattle.std.proofs.lemmas.Option.{slice_get_within, get_or_from_slice_get}
use Rattle.type_tables.specs.declared.declared.MethodInfo.{MethodInfo}
use Rattle.type_tables.specs.declared.declared.ServiceId.{ServiceId}
use Rattle.type_tables.specs.declared.services.ServiceDecl.{ServiceDecl}
use Rattle.type_tables.specs.Names.{value_of}
use Rattle.type_tables.specs.Roots.{dotless, only, rooted}
use Rattle.type_tables.specs.Services.{found_up, methods_of, base_of, or_else}
use Rattle.type_tables.specs.Structs.{members_of}

pub members_at : (ms : List (List ℤ)) (e : ℕ) (d : List ℤ) → e < length ms → members_of ms e ≡ get_or ms e d
members_at [] e d h = absurd (omega arith)
members_at (m ∷ ms) zero d h = refl
members_at (m ∷ ms) (suc e) d h = members_at ms e d (omega arith)

-- a list that begins with a thing has it at place 0
module _ {X : Type 0} where
  pub first_is : (xs : List X) (x : X) → take 1 xs ≡ x ∷ [] → (0 < length xs) × (slice_get xs 0 ≡ Some x)
  first_is [] x e = cc
  first_is (y ∷ ys) x e = (omega arith, cc)

  head : (P : X → Type 0) (x : X) (xs : List X) → All P (x ∷ xs) → P x
  head P x xs a = All-get_or P (x ∷ xs) 0 x (omega arith) a

module _ {X : Type 0} (P : X → Type 0) where
  -- what holds of each thing holds of the one of a name
  pub named_is : (name : List ℕ) (es : List (List ℕ × X)) → All (λ e. P e.1) es → IfSome (value_of name es) P
  named_is name [] a = tt
  named_is name (e ∷ es) a = by (pointwise nat_eq name e.0) (named_is name es (All-tail (λ (f : List ℕ × X). P f.1) e es a))
    where
      by : (t : Bool) → IfSome (value_of name es) P → IfSome (cond t (Some e.1) (value_of name es)) P
      by true rest = head (λ (f : List ℕ × X). P f.1) e es a
      by false rest = rest

  pub only_is : (xs : List X) → All P xs → IfSome (only xs) P
  only_is [] a = tt
  only_is (x ∷ []) a = head P x [] a
  only_is (x ∷ y ∷ xs) a = tt

module _ (P : ServiceId → Type 0) where
  pub rooted_are : (es : List (List ℕ × ServiceId)) → All (λ e. P e.1) es → All P (rooted es)
  rooted_are [] a = a_none
    where
      a_none : All P []
      a_none k d h = absurd (omega arith)
  rooted_are (e ∷ es) a = by (dotless e.0) (rooted_are es (All-tail (λ (f : List ℕ × ServiceId). P f.1) e es a))
    where
      by : (t : Bool) → All P (rooted es) → All P (cond t (e.1 ∷ rooted es) (rooted es))
      by true rest = All-cons P e.1 (rooted es) (head (λ (f : List ℕ × ServiceId). P f.1) e es a) rest
      by false rest = rest

module _ (P : MethodInfo → Type 0) (ts : List ServiceDecl) (all : All (λ t. All (λ m. P m.1) t.methods) ts) where
  own_is : (s : ℕ) (name : List ℕ) → IfSome (value_of name (methods_of ts s)) P
  own_is s name = by (slice_get ts s) refl
    where
      by : (o : Option ServiceDecl) → slice_get ts s ≡ o → IfSome (value_of name (methods_of ts s)) P
      by None e = rw e tt
      by (Some t) e =
          let there = All-get_or (λ (u : ServiceDecl). All (λ m. P m.1) u.methods) ts s t (slice_get_within ts s t e) all in
          rw e (named_is P name t.methods (subst (λ (u : ServiceDecl). All (λ m. P m.1) u.methods) (get_or_from_slice_get ts s t t e) there))

  pub found_is : (n : ℕ) (name : List ℕ) (s : Option ServiceId) → IfSome (found_up n ts name s) P
  found_is n name None = tt
  found_is zero name (Some s) = tt
  found_is (suc n) name (Some s) = by (value_of name (methods_of ts s.0)) (own_is s.0 name) (found_is n name (base_of ts s.0))
    where
      by : (o : Option MethodInfo) → IfSome o P → IfSome (found_up n ts name (base_of ts s.0)) P → IfSome (or_else o (found_up n ts name (base_of ts s.0))) P
      by None own above = above
      by (Some m) own above = own
