-- What a call answers, and what is true of the files that it read.
use Rattle.std.specs.Prelude.{◌≡◌, ◌<◌, ℕ, List, [], ◌∷◌, ◌++◌, ◌^◌, length, Option, Some, Result, Ok, Err, ⊤}
use Rattle.gate_base.specs.Causes.{Rose}
use Rattle.idl_names.specs.declared.documents.FileDoc.{FileDoc}
use Rattle.idl_names.specs.Files.{FileTree, file_trees}
use Rattle.idl_rules.specs.declared.row.IdlFault.{IdlFault}
use Rattle.idl_files.specs.declared.fault.LoadError.{LoadError}
use Rattle.idl_files.specs.declared.fault.LoadError.TheVariants as errors

-- an answer is what the definition gives, a file fault and want of memory aside
abbrev pub Gives : {X Y : Type 0} → (X → Y) → Result X LoadError → Result Y IdlFault → Type 0
Gives view (Ok x) given = given ≡ Ok (view x)
Gives view (Err (errors.Idl fault)) given = given ≡ Err fault
Gives view (Err errors.FileFault) given = ⊤
Gives view (Err errors.OutOfMemory) given = ⊤
Gives view (Err errors.NoTables) given = ⊥

-- what files hold under each name
abbrev pub Contents : Type 0
Contents = List ℕ → Option (List ℕ)

-- what is true for what the files hold, where they tell it
abbrev pub WhereTold : Option Contents → (Contents → Type 0) → Type 0
WhereTold told means = (holds : Contents) → told ≡ Some holds → means holds

-- the answer of a call that leaves these files
abbrev pub LeavesFiles : {X : Type 0} → List FileDoc → Result X LoadError → Result (List FileTree) IdlFault → Type 0
LeavesFiles files result given = Gives (λ x. file_trees files) result given

-- likewise, beside what it returned
abbrev pub LeavesBeside : {X : Type 0} → List FileDoc → Result X LoadError → Result (List FileTree × X) IdlFault → Type 0
LeavesBeside files result given = Gives (λ x. (file_trees files, x)) result given

-- a call leaves these files, and answers what is meant for what the files hold, where they tell it
abbrev pub TellsFiles : {X : Type 0} → Option Contents → List FileDoc → Result X LoadError → (Contents → Result (List FileTree) IdlFault) → Type 0
TellsFiles told files result given = WhereTold told (λ holds. LeavesFiles files result (given holds))

abbrev pub TellsBeside : {X : Type 0} → Option Contents → List FileDoc → Result X LoadError → (Contents → Result (List FileTree × X) IdlFault) → Type 0
TellsBeside told files result given = WhereTold told (λ holds. LeavesBeside files result (given holds))

-- a refusal is the one that was meant, want of memory aside
abbrev pub Refuses : LoadError → IdlFault → Type 0
Refuses (errors.Idl fault) meant = fault ≡ meant
Refuses errors.FileFault meant = ⊥
Refuses errors.OutOfMemory meant = ⊤
Refuses errors.NoTables meant = ⊥

-- the count of faults rose where a fetch failed, and stands as it was where none did
abbrev pub HasCause : {X : Type 0} → Result X LoadError → ℕ → ℕ → Type 0
HasCause (Ok x) before now = now ≡ before
HasCause (Err (errors.Idl fault)) before now = now ≡ before
HasCause (Err errors.FileFault) before now = Rose before now
HasCause (Err errors.OutOfMemory) before now = now ≡ before
HasCause (Err errors.NoTables) before now = now ≡ before

abbrev pub IsNoFileFault : {X : Type 0} → Result X LoadError → Type 0
IsNoFileFault (Ok x) = ⊤
IsNoFileFault (Err (errors.Idl fault)) = ⊤
IsNoFileFault (Err errors.FileFault) = ⊥
IsNoFileFault (Err errors.OutOfMemory) = ⊤
IsNoFileFault (Err errors.NoTables) = ⊤

abbrev pub AllBelow : ℕ → List ℕ → Type 0
AllBelow bound [] = ⊤
AllBelow bound (n ∷ ns) = (n < bound) × AllBelow bound ns

-- each include has its place among so many files, and the places of definitions have 32 bits
abbrev pub IsWhole : ℕ → FileTree → Type 0
IsWhole bound f = (length f.includes ≡ length f.document.includes) × AllBelow bound f.includes × (length f.document.definitions < 2 ^ 32)

abbrev pub AllWhole : ℕ → List FileTree → Type 0
AllWhole bound [] = ⊤
AllWhole bound (f ∷ fs) = IsWhole bound f × AllWhole bound fs

-- whole files were put behind those that are there
pub record Extends (old new : List FileTree) : Type 0 where
  pub more : List FileTree
  pub is : new ≡ old ++ more
  pub whole : AllWhole (length new) more
