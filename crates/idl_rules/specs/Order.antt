-- Which of several refusals is told: the one with the least offset, and at one offset the lower row.
use Rattle.std.specs.Prelude.{ℕ, List, [], ◌∷◌, Option, Some, None, Bool, true, false, if◌then◌else◌, nat_lt}
use Rattle.idl_rules.specs.declared.row.IdlRow.{IdlRow}
use Rattle.idl_rules.specs.Rows.{rank_of}

-- an offset, and the row of what is refused there
abbrev pub Refusal : Type 0
Refusal = ℕ × IdlRow

abbrev pub is_before : Refusal → Refusal → Bool
is_before a b = if nat_lt a.0 b.0 then true else if nat_lt b.0 a.0 then false else nat_lt (rank_of a.1) (rank_of b.1)

-- the one that is told of two
unfoldable pub lesser : Option Refusal → Option Refusal → Option Refusal
lesser None b = b
lesser (Some a) None = Some a
lesser (Some a) (Some b) = if is_before b a then Some b else Some a

-- the one that is told of a list
abbrev pub least_of : List Refusal → Option Refusal
least_of [] = None
least_of (x ∷ xs) = lesser (Some x) (least_of xs)
