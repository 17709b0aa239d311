-- From the parts of an IDL to the whole.
use Rattle.std.proofs.Common.{◌≡◌, ◌⊎◌, inl, inr, ℕ, List, Option, Some, Result, Ok, Err, sym, ◌∙◌, subst}
use Rattle.idl_names.specs.Files.{FileTree}
use Rattle.idl_files.specs.Walk.{walked}
use Rattle.idl_rules.specs.declared.row.IdlFault.{IdlFault}
use Rattle.idl_files.specs.Answers.{HasCause as load_cause}
use Rattle.idl_files.specs.declared.fault.LoadError.{LoadError}
use Rattle.idl_files.specs.declared.fault.LoadError.TheVariants as errors
use Rattle.idl_resolve.specs.declared.loading.Loaded.{Loaded}
use Rattle.idl_resolve.specs.Loads.{Resolved, Loads}
use Rattle.idl_resolve.specs.Refused.{IsFirst}
use Rattle.type_tables.specs.Declarations.{Declarations}
use Rattle.gate_idl.specs.declared.opening.Stop.{Stop}
use Rattle.gate_idl.specs.declared.opening.Stop.TheVariants.{Refused, FileFault, OutOfMemory}
use Rattle.gate_idl.specs.declared.refusal.Refusal.{Refusal}
use Rattle.gate_idl.specs.Opening.{IsOpened, Unloaded, Unlawful, Unfit, Good, Opens, Checks, HasCause, refused, stop_by}

-- files that were loaded, with their values checked
pub opens_loaded : (holds : List ℕ → Option (List ℕ)) (root : List ℕ) (files : List FileTree) (schema : Declarations) (r : Result Declarations Stop) →
    walked holds root ≡ Ok files → Resolved files schema → Checks files schema r → Opens (IsOpened holds root) r
opens_loaded holds root files schema (Ok d) w resolved h =
    subst (λ (d : Declarations). IsOpened holds root (Ok d)) (sym (h.0 ∙ resolved.means)) (Good files w resolved.lawful h.1)
opens_loaded holds root files schema (Err (Refused r)) w resolved h =
    subst (λ (r : Refusal). IsOpened holds root (Err r)) (sym h.2) (Unfit files h.0 w resolved.lawful h.1)
opens_loaded holds root files schema (Err FileFault) w resolved h = tt
opens_loaded holds root files schema (Err OutOfMemory) w resolved h = tt

refuses : (holds : List ℕ → Option (List ℕ)) (root : List ℕ) (fault : IdlFault) →
    (walked holds root ≡ Err fault) ⊎ ((files : List FileTree) × ((walked holds root ≡ Ok files) × IsFirst files (Some fault))) → IsOpened holds root (Err (refused fault))
refuses holds root fault (inl w) = Unloaded fault w
refuses holds root fault (inr h) = Unlawful h.0 fault h.1.0 h.1.1

-- files that were not loaded, or that declare what they may not
pub opens_stopped : (holds : List ℕ → Option (List ℕ)) (root : List ℕ) (error : LoadError) → Loads holds root (Err error) → Opens (IsOpened holds root) (Err (stop_by error))
opens_stopped holds root (errors.Idl fault) h = refuses holds root fault h
opens_stopped holds root errors.FileFault h = tt
opens_stopped holds root errors.OutOfMemory h = tt
opens_stopped holds root errors.NoTables h = tt

pub cause_of : (error : LoadError) (before now : ℕ) → load_cause {X = Loaded} (Err error) before now → HasCause {X = Declarations} (Err (stop_by error)) before now
cause_of (errors.Idl fault) before now h = h
cause_of errors.FileFault before now h = h
cause_of errors.OutOfMemory before now h = h
cause_of errors.NoTables before now h = h

-- values are checked without a look at the files
pub cause_behind : (files : List FileTree) (schema : Declarations) (r : Result Declarations Stop) (before now : ℕ) → now ≡ before → Checks files schema r → HasCause r before now
cause_behind files schema (Ok d) before now e h = e
cause_behind files schema (Err (Refused r)) before now e h = e
cause_behind files schema (Err FileFault) before now e h = absurd h
cause_behind files schema (Err OutOfMemory) before now e h = e
