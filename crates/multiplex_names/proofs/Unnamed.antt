-- Where no name means a service, and none is meant without one, no name means a method.
use Rattle.std.proofs.Common.{◌≡◌, ◌≤◌, arith, ℕ, List, [], ◌∷◌, length, false, Option, Some, None, refl}
use Rattle.std.specs.Prelude.{nat_lt}
use Rattle.std.proofs.lemmas.Bool.Decides.{nat_tests}
use Rattle.type_tables.specs.declared.declared.ServiceId.{ServiceId}
use Rattle.type_tables.specs.Declarations.{Declarations}
use Rattle.multiplex_names.specs.Names.{find_in, service_in, split_of}

no_names : {A : Type 0} (xs : List A) → nat_lt 0 (length xs) ≡ false → xs ≡ []
no_names [] none = refl
no_names (x ∷ xs) none =
    let few : length (x ∷ xs) ≤ 0 = grind (arith, nat_tests) in
    absurd (omega (arith, few))

no_service : (d : Declarations) (prefix : Option (List ℕ)) → d.names ≡ [] → service_in d None prefix ≡ None
no_service d None none = refl
no_service d (Some name) none = rw none refl

pub nothing_meant : (d : Declarations) (default : Option ServiceId) (name : List ℕ) → default ≡ None → nat_lt 0 (length d.names) ≡ false → find_in d default name ≡ None
unfolding find_in
nothing_meant d default name unset none =
    let service : service_in d default (split_of name).0 ≡ None = rw unset (no_service d (split_of name).0 (no_names d.names none)) in
    rw service refl
