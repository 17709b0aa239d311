-- The fields of a struct that are looked for.
use Rattle.std.proofs.Common.{◌≡◌, ℕ, ℤ, zero, suc, ◌+◌, ◌≤◌, List, [], ◌∷◌, Bool, true, false, ◌&&◌, Some, None, length, drop, refl, ap, ◌∙◌, arith}
use Rattle.std.specs.Prelude.{slice_get, not}
use Rattle.std.proofs.lemmas.Bool.Decides.{nat_tests}
use Rattle.type_tables.specs.declared.declared.FieldInfo.{FieldInfo}
use Rattle.type_tables.specs.declared.tables.StructDecl.{StructDecl}
use Rattle.type_tables.specs.Structs.{fields_of, greater, widest, widest_from}
use Rattle.conform_check.specs.Breaches.{is_missing, is_required, missing, stood}

greater_left : (m n : ℕ) → m ≤ greater m n
greater_left m n = grind (arith, nat_tests)

greater_right : (m n : ℕ) → n ≤ greater m n
greater_right m n = grind (arith, nat_tests)

least_wide : (most : ℕ) (structs : List StructDecl) → most ≤ widest_from most structs
least_wide most [] = omega arith
least_wide most (t ∷ ts) = omega (arith, greater_left most (length t.fields), least_wide (greater most (length t.fields)) ts)

wide_from : (most : ℕ) (structs : List StructDecl) (s : ℕ) → length (fields_of structs s) ≤ widest_from most structs
wide_from most [] s = omega arith
wide_from most (t ∷ ts) zero = omega (arith, greater_right most (length t.fields), least_wide (greater most (length t.fields)) ts)
wide_from most (t ∷ ts) (suc s) = wide_from (greater most (length t.fields)) ts s

-- no struct has more fields than the widest
pub within_widest : (structs : List StructDecl) (s : ℕ) → length (fields_of structs s) ≤ widest structs
within_widest structs s = wide_from 0 structs s

drop_at : (fs : List FieldInfo) (place : ℕ) (f : FieldInfo) → slice_get fs place ≡ Some f → drop place fs ≡ f ∷ drop (place + 1) fs
drop_at [] place f e = absurd (cc)
drop_at (g ∷ gs) zero f e = let same : g ≡ f = cc in rw same refl
drop_at (g ∷ gs) (suc place) f e = let more : suc place + 1 ≡ suc (place + 1) = omega arith in rw more (drop_at gs place f e)

past_end : (fs : List FieldInfo) (place : ℕ) → slice_get fs place ≡ None → drop place fs ≡ []
past_end [] zero e = refl
past_end [] (suc place) e = refl
past_end (g ∷ gs) zero e = absurd (cc)
past_end (g ∷ gs) (suc place) e = past_end gs place e

pub none_left : (fs : List FieldInfo) (place : ℕ) (seen : List ℤ) → slice_get fs place ≡ None → missing (drop place fs) seen ≡ None
none_left fs place seen e = ap (λ gs. missing gs seen) (past_end fs place e)

pub all_looked : (fs : List FieldInfo) (place : ℕ) (seen : List ℤ) → length fs ≤ place → missing (drop place fs) seen ≡ None
all_looked [] zero seen h = refl
all_looked [] (suc place) seen h = refl
all_looked (g ∷ gs) zero seen h = absurd (omega arith)
all_looked (g ∷ gs) (suc place) seen h = all_looked gs place seen (omega arith)

pub is_first : (fs : List FieldInfo) (place : ℕ) (f : FieldInfo) (seen : List ℤ) → slice_get fs place ≡ Some f → is_missing f seen ≡ true → missing (drop place fs) seen ≡ Some f.id
is_first fs place f seen e lacks = ap (λ gs. missing gs seen) (drop_at fs place f e) ∙ rw lacks refl

pub not_this : (fs : List FieldInfo) (place : ℕ) (f : FieldInfo) (seen : List ℤ) → slice_get fs place ≡ Some f → is_missing f seen ≡ false → missing (drop place fs) seen ≡ missing (drop (place + 1) fs) seen
not_this fs place f seen e there = ap (λ gs. missing gs seen) (drop_at fs place f e) ∙ rw there refl

-- a field that stood isn't missing
pub not_missing : (f : FieldInfo) (seen : List ℤ) → stood f.id seen ≡ true → is_missing f seen ≡ false
not_missing f seen e = by (is_required f.need) e
  where
    by : (required : Bool) → stood f.id seen ≡ true → (required && not (stood f.id seen)) ≡ false
    by true h = rw h refl
    by false h = refl
