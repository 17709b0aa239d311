-- The line of each session that has ended, or was left open.
use Rattle.std.specs.Prelude.{ℕ, List, ◌++◌, codes, decimal, Option, None, Some}
use Rattle.std.specs.Fmt.{signed_decimal}
use Rattle.translate_verdicts.specs.Texts.{reason_text}
use Rattle.session_core.specs.declared.outcome.Halt.{Halt}
use Rattle.session_core.specs.declared.outcome.Halt.TheVariants as halt
use Rattle.session_core.specs.declared.outcome.Outcome.{Outcome}
use Rattle.session_core.specs.declared.outcome.Outcome.TheVariants as outcome
use Rattle.gate_hub.specs.declared.hub.Side.{Side}
use Rattle.gate_hub.specs.declared.hub.Side.TheVariants as side

-- at PLACE: CAUSE, and its kin
unfoldable pub halt_text : Halt → List ℕ
halt_text (halt.Unread fault) = codes "at " ++ decimal fault.place ++ codes ": " ++ reason_text fault.reason
halt_text halt.WrongWay = codes "wrong way"
halt_text (halt.TooLarge n) = codes "length " ++ signed_decimal n
halt_text halt.Inside = codes "ended inside"

unfoldable pub side_text : Side → List ℕ
side_text side.Client = codes "client"
side_text side.Upstream = codes "upstream"

unfoldable pub open_calls_text : ℕ → List ℕ
open_calls_text n = codes "upstream ended: open calls " ++ decimal n

unfoldable pub unsolicited_text : ℕ → ℕ → List ℕ
unsolicited_text n calls = codes "unsolicited: answer " ++ decimal n ++ codes " to " ++ decimal calls ++ codes " calls"

unfoldable pub link_fault_text : Side → List ℕ
link_fault_text x = codes "link fault: " ++ side_text x

unfoldable pub outcome_text : Outcome → List ℕ
outcome_text outcome.Clean = codes "clean"
outcome_text (outcome.ClientFault n h) = codes "client fault: frame " ++ decimal n ++ codes ": " ++ halt_text h
outcome_text (outcome.UpstreamFault n h) = codes "upstream fault: frame " ++ decimal n ++ codes ": " ++ halt_text h
outcome_text (outcome.UpstreamEnded n) = open_calls_text n
outcome_text (outcome.Unsolicited n calls) = unsolicited_text n calls
outcome_text (outcome.LinkFault x) = link_fault_text x
outcome_text outcome.Full = codes "full"
outcome_text outcome.NoMemory = codes "no memory"

unfoldable pub ending_text : Option Outcome → List ℕ
ending_text None = codes "left open"
ending_text (Some o) = outcome_text o

-- session NUMBER: TEXT
unfoldable pub line_text : ℕ → Option Outcome → List ℕ
line_text number ending = codes "session " ++ decimal number ++ codes ": " ++ ending_text ending ++ codes "\n"
