-- The first refusal of what files declare.
use Rattle.std.specs.Prelude.{◌≡◌, ℕ, suc, List, [], ◌∷◌, ◌++◌, Option, Some, None}
use Rattle.idl_names.specs.declared.cycles.Cycle.{Cycle}
use Rattle.idl_names.specs.Cycles.{TellsCycles}
use Rattle.idl_names.specs.Files.{FileTree}
use Rattle.idl_names.specs.Refusals.{name_refusals}
use Rattle.idl_rules.specs.declared.row.IdlFault.{IdlFault}
use Rattle.idl_rules.specs.Order.{Refusal, least_of}
use Rattle.idl_rules.specs.Rules.{rule_refusals}

-- what the file at this place is refused for, by itself and for its names; it is told of each definition how it stands to cycles
abbrev pub file_refusals : List FileTree → List (List Cycle) → ℕ → FileTree → List Refusal
file_refusals files told place f = rule_refusals f.document ++ name_refusals files told place

abbrev pub first_by : List ℕ → Option Refusal → Option IdlFault → Option IdlFault
first_by name None next = next
first_by name (Some refusal) next = Some (record { file = name; offset = refusal.0; row = refusal.1 })

-- of the first file with a refusal, from this place on, the one with the least offset, and at one offset the lower row
abbrev pub first_from : List FileTree → List (List Cycle) → ℕ → List FileTree → Option IdlFault
first_from files told place [] = None
first_from files told place (f ∷ fs) = first_by f.name (least_of (file_refusals files told place f)) (first_from files told (suc place) fs)

unfoldable pub first_refusal : List FileTree → List (List Cycle) → Option IdlFault
first_refusal files told = first_from files told 0 files

-- the files are refused so, or not at all
abbrev pub IsFirst : List FileTree → Option IdlFault → Type 0
IsFirst files fault = (told : List (List Cycle)) × (TellsCycles files told × (first_refusal files told ≡ fault))
