-- How the making of messages ends.
use Rattle.std.specs.Prelude.{⊤}
use Rattle.drill_messages.specs.declared.drilling.Drilled.{Drilled}
use Rattle.drill_messages.specs.declared.drilling.Drilled.TheVariants.{Done, WriteFault, OutOfMemory}
use Rattle.drill_messages.specs.declared.totals.Totals.{Totals}

-- this holds of the totals, where all was written
abbrev pub IfDone : Drilled → (Totals → Type 0) → Type 0
IfDone (Done totals) Holds = Holds totals
IfDone WriteFault Holds = ⊤
IfDone OutOfMemory Holds = ⊤
