-- Files that keep all rules have a schema.
use Rattle.std.proofs.Common.{subst, ℕ, List, Option, Err}
use Rattle.idl_files.specs.declared.fault.LoadError.TheVariants.{NoTables}
use Rattle.idl_laws.proofs.Standable.{can_stand}
use Rattle.idl_resolve.specs.Loads.{Loads}
use Rattle.check_laws.specs.Held.{IsWalked}
use Rattle.check_laws.proofs.Dotless.{dotless}
use Rattle.check_laws.proofs.Texts.{walk_is_held}

pub have_tables : (holds : List ℕ → Option (List ℕ)) (root : List ℕ) → Loads holds root (Err NoTables) → ⊥
have_tables holds root x =
    let held = subst (IsWalked holds) x.1.0 (walk_is_held holds root) in
    x.1.1.1 (can_stand x.0 x.1.1.0 (dotless holds x.0 held))
