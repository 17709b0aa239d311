-- The methods of one service among many, and those of its bases.
use Rattle.std.proofs.Common.{◌≡◌, ℕ, zero, suc, ◌+◌, ◌-◌, ◌<◌, ◌≤◌, List, [], ◌∷◌, ◌++◌, length, get_or, refl, ap, sym, ◌∙◌, arith, Option, Some, None}
use Rattle.std.specs.Prelude.{slice_set, slice_get}
use Rattle.type_tables.specs.declared.declared.MethodInfo.{MethodInfo}
use Rattle.type_tables.specs.declared.declared.ServiceId.{ServiceId}
use Rattle.type_tables.specs.declared.services.ServiceDecl.{ServiceDecl}
use Rattle.type_tables.specs.Names.{value_of}
use Rattle.type_tables.specs.Services.{ServiceLists, found_up, methods_of, services_with, with_method}

pub methods_at : (ts : List ServiceDecl) (s : ℕ) (d : ServiceDecl) → s < length ts → methods_of ts s ≡ (get_or ts s d).methods
methods_at [] s d h = absurd (omega arith)
methods_at (t ∷ ts) zero d h = refl
methods_at (t ∷ ts) (suc s) d h = methods_at ts s d (omega arith)

pub same_set : (ts : List ServiceDecl) (s : ℕ) (d : ServiceDecl) → s < length ts → slice_set ts s (get_or ts s d) ≡ ts
same_set [] s d h = absurd (omega arith)
same_set (t ∷ ts) zero d h = refl
same_set (t ∷ ts) (suc s) d h = ap (λ (rest : List ServiceDecl). t ∷ rest) (same_set ts s d (omega arith))

pub services_set : (ts : List ServiceDecl) (s : ℕ) (d x : ServiceDecl) → s < length ts → x.base ≡ (get_or ts s d).base → slice_set ts s x ≡ services_with ts s x.methods
services_set [] s d x h e = absurd (omega arith)
services_set (t ∷ ts) zero d x h e = ap (λ b. let r : ServiceDecl = record { base = b; methods = x.methods } in r ∷ ts) e
services_set (t ∷ ts) (suc s) d x h e = ap (λ (rest : List ServiceDecl). t ∷ rest) (services_set ts s d x (omega arith) e)

none_above : (n : ℕ) (ts : List ServiceDecl) (name : List ℕ) → found_up n ts name None ≡ None
none_above zero ts name = refl
none_above (suc n) ts name = refl

pub none_left : (ts : List ServiceDecl) (name : List ℕ) (c : ℕ) (s : Option ServiceId) (whole : Option MethodInfo) → length ts ≤ c → found_up (length ts - c) ts name s ≡ whole → None ≡ whole
none_left ts name c s whole h i =
    let zero_left : length ts - c ≡ 0 = omega arith in
    sym (none_down s) ∙ ap (λ (n : ℕ). found_up n ts name s) (sym zero_left) ∙ i
  where
    none_down : (s : Option ServiceId) → found_up 0 ts name s ≡ None
    none_down None = refl
    none_down (Some s) = refl

module _ (ts : List ServiceDecl) (name : List ℕ) (c : ℕ) (below : c < length ts) (s : ServiceId) (whole : Option MethodInfo) (i : found_up (length ts - c) ts name (Some s) ≡ whole) where
  one_less : length ts - c ≡ suc (length ts - (c + 1))
  one_less = omega arith

  asked : found_up (suc (length ts - (c + 1))) ts name (Some s) ≡ whole
  asked = ap (λ (n : ℕ). found_up n ts name (Some s)) (sym one_less) ∙ i

  -- the service has the method itself
  pub own : (t : ServiceDecl) (m : MethodInfo) → slice_get ts s.0 ≡ Some t → value_of name t.methods ≡ Some m → Some m ≡ whole
  own t m e f = sym (rw (e, f) refl) ∙ asked

  -- it has not, and its base is asked
  pub further : (t : ServiceDecl) → slice_get ts s.0 ≡ Some t → value_of name t.methods ≡ None → found_up (length ts - (c + 1)) ts name t.base ≡ whole
  further t e f = sym (rw (e, f) refl) ∙ asked

  -- there is no such service
  pub none_there : slice_get ts s.0 ≡ None → None ≡ whole
  none_there e = sym (rw e (none_above (length ts - (c + 1)) ts name)) ∙ asked

-- one service is d, of the lists that are seen as old
module _ (old : ServiceLists) (ts : List ServiceDecl) (names : List (List ℕ × ServiceId)) (at : ℕ) (d : ServiceDecl) (below : at < length ts) (is : d ≡ get_or ts at d)
    (view_is : record { list = ts; names = names } ≡ old) where
  pub methods_are : d.methods ≡ methods_of old.list at
  methods_are = ap (λ (t : ServiceDecl). t.methods) is ∙ sym (methods_at ts at d below) ∙ ap (λ (s : ServiceLists). methods_of s.list at) view_is

  pub kept : record { list = slice_set ts at d; names = names } ≡ old
  kept =
      ap (λ (t : ServiceDecl). let s : ServiceLists = record { list = slice_set ts at t; names = names } in s) is
      ∙ ap (λ (l : List ServiceDecl). let s : ServiceLists = record { list = l; names = names } in s) (same_set ts at d below) ∙ view_is

  pub added : (x : ServiceDecl) (name : List ℕ) (m : MethodInfo) → x.base ≡ d.base → x.methods ≡ d.methods ++ (name, m) ∷ [] →
      record { list = slice_set ts at x; names = names } ≡ with_method old at name m
  added x name m b e =
      let set = services_set ts at d x below (b ∙ ap (λ (t : ServiceDecl). t.base) is) in
      let methods = e ∙ ap (λ (ms : List (List ℕ × MethodInfo)). ms ++ (name, m) ∷ []) (ap (λ (t : ServiceDecl). t.methods) is ∙ sym (methods_at ts at d below)) in
      ap (λ (l : List ServiceDecl). let s : ServiceLists = record { list = l; names = names } in s) (set ∙ ap (services_with ts at) methods)
      ∙ ap (λ (s : ServiceLists). with_method s at name m) view_is
