-- The line of each session that has ended, or was left open.
use Rattle.std.specs.Prelude.{ℕ, List, ◌++◌, ◌==◌, if◌then◌else◌, codes, decimal, Option, None, Some}
use Rattle.std.specs.Fmt.{signed_decimal}
use Rattle.translate_verdicts.specs.Texts.{reason_text}
use Rattle.session_core.specs.declared.outcome.Halt.{Halt}
use Rattle.session_core.specs.declared.outcome.Halt.TheVariants as halt
use Rattle.service_router.specs.declared.outcome.RouteOutcome.{RouteOutcome}
use Rattle.service_router.specs.declared.outcome.RouteOutcome.TheVariants as outcome

-- at PLACE: CAUSE, and its kin
unfoldable pub halt_text : Halt → List ℕ
halt_text (halt.Unread fault) = codes "at " ++ decimal fault.place ++ codes ": " ++ reason_text fault.reason
halt_text halt.WrongWay = codes "wrong way"
halt_text (halt.TooLarge n) = codes "length " ++ signed_decimal n
halt_text halt.Inside = codes "ended inside"

-- which frame, and why
unfoldable pub fault_text : ℕ → Halt → List ℕ
fault_text n h = codes " fault: frame " ++ decimal n ++ codes ": " ++ halt_text h

-- the u-th target is at port u
unfoldable pub upstream_text : ℕ → List ℕ
upstream_text u = codes "upstream " ++ decimal u

unfoldable pub open_calls_text : ℕ → ℕ → List ℕ
open_calls_text u n = upstream_text u ++ codes " ended: open calls " ++ decimal n

unfoldable pub unsolicited_text : ℕ → ℕ → ℕ → List ℕ
unsolicited_text u n calls = codes "unsolicited: " ++ upstream_text u ++ codes ": answer " ++ decimal n ++ codes " to " ++ decimal calls ++ codes " calls"

-- and the client at port 0
unfoldable pub port_text : ℕ → List ℕ
port_text port = if port == 0 then codes "client" else upstream_text port

unfoldable pub link_fault_text : ℕ → List ℕ
link_fault_text port = codes "link fault: " ++ port_text port

unfoldable pub outcome_text : RouteOutcome → List ℕ
outcome_text outcome.Clean = codes "clean"
outcome_text (outcome.ClientFault n h) = codes "client" ++ fault_text n h
outcome_text (outcome.UpstreamFault u n h) = upstream_text u ++ fault_text n h
outcome_text (outcome.UpstreamEnded u n) = open_calls_text u n
outcome_text (outcome.Unsolicited u n calls) = unsolicited_text u n calls
outcome_text (outcome.LinkFault port) = link_fault_text port
outcome_text outcome.Full = codes "full"
outcome_text outcome.NoMemory = codes "no memory"

unfoldable pub ending_text : Option RouteOutcome → List ℕ
ending_text None = codes "left open"
ending_text (Some o) = outcome_text o

-- session NUMBER: TEXT
unfoldable pub line_text : ℕ → Option RouteOutcome → List ℕ
line_text number ending = codes "session " ++ decimal number ++ codes ": " ++ ending_text ending ++ codes "\n"
