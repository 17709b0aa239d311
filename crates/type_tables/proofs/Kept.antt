-- A service keeps its number when another method is added.
use Rattle.std.proofs.Common.{◌≡◌, ℕ, zero, suc, ◌<◌, List, [], ◌∷◌, ◌++◌, length, get_or, refl, ap, sym, subst, Option, Ok, Err, Result}
use Rattle.std.specs.Prelude.{All}
use Rattle.type_tables.specs.declared.declared.AddFault.{AddFault}
use Rattle.type_tables.specs.declared.declared.AddFault.TheVariants as faults
use Rattle.type_tables.specs.declared.declared.MethodInfo.{MethodInfo}
use Rattle.type_tables.specs.declared.services.ServiceDecl.{ServiceDecl}
use Rattle.type_tables.specs.Adding.{Adds}
use Rattle.type_tables.specs.Declarations.{Declarations, with_method}
use Rattle.type_tables.specs.Known.{IsBuilt}
use Rattle.type_tables.specs.Services.{services_with, methods_of}

length-services_with : (ts : List ServiceDecl) (s : ℕ) (methods : List (List ℕ × MethodInfo)) → length (services_with ts s methods) ≡ length ts
length-services_with [] s methods = refl
length-services_with (t ∷ ts) zero methods = refl
length-services_with (t ∷ ts) (suc s) methods = ap suc (length-services_with ts s methods)

-- an adding call keeps what holds before and after an addition
kept : {R X : Type 0} (P : X → Type 0) (there : Option ℕ) (old new : X) (added : R → X) (result : Result R AddFault) → P old → ((r : R) → P (added r)) → Adds there old new added result → P new
kept P there old new added (Ok r) p q a = subst P (sym a.1) (q r)
kept P there old new added (Err (faults.Duplicate first)) p q a = subst P (sym a.1) p
kept P there old new added (Err faults.OutOfMemory) p q a = subst P (sym a.1) p

pub method_kept : (there : Option ℕ) (old new : Declarations) (s : ℕ) (name : List ℕ) (m : MethodInfo) (result : Result (Unit {0}) AddFault) → IsBuilt old →
    Adds there old new (λ u. with_method old s name m) result → IsBuilt new
method_kept there old new s name m result b a = kept IsBuilt there old new (λ u. with_method old s name m) result b (λ u. record { failure = b.failure; names = names }) a
  where
    methods : List (List ℕ × MethodInfo)
    methods = methods_of old.services s ++ (name, m) ∷ []

    names : All (λ e. e.1.0 < length (services_with old.services s methods)) old.names
    names k d h = subst (λ (n : ℕ). (get_or old.names k d).1.0 < n) (sym (length-services_with old.services s methods)) (b.names k d h)
