-- What is so between two calls, and what is held.
use Rattle.std.specs.Prelude.{◌≡◌, ℕ, ◌+◌, ◌*◌, List, [], ◌∷◌, length, Bool, true, false, Option, Some, None, is_some}
use Rattle.service_router.specs.Rules.{RouteRules}
use Rattle.service_router.specs.Standing.{Standing, Inbox}
use Rattle.service_router.specs.Steps.{IsStill, outcome_of}
use Rattle.service_router.specs.declared.outcome.RouteOutcome.{RouteOutcome}
use Rattle.service_router.specs.declared.outcome.RouteOutcome.TheVariants as outcome

-- between two calls no frame can be taken, and the outcome is the one of the definition
pub record IsAtRest (rules : RouteRules) (limit max_calls : ℕ) (s : Standing) (o : Option RouteOutcome) : Type 0 where
  pub still : IsStill rules.judging limit max_calls s
  pub outcome_is : o ≡ outcome_of rules.judging limit max_calls s

-- why no more of a port was taken: its buffer is full, it had ended, or there is an outcome
pub data TakesNoMore (limit : ℕ) (held : List ℕ) (ended : Bool) (o : Option RouteOutcome) : Type 0 where
  IsFull : length held ≡ limit + 4 → TakesNoMore limit held ended o
  HadEnded : ended ≡ true → TakesNoMore limit held ended o
  IsOver : is_some o ≡ true → TakesNoMore limit held ended o

-- the outcomes that a router comes to by itself: the server tells the others
abbrev pub is_own : RouteOutcome → Bool
is_own outcome.Clean = true
is_own (outcome.ClientFault n halt) = true
is_own (outcome.UpstreamFault port n halt) = true
is_own (outcome.UpstreamEnded port n) = true
is_own (outcome.Unsolicited port n calls) = true
is_own (outcome.LinkFault port) = false
is_own outcome.Full = false
is_own outcome.NoMemory = false

-- the bytes held of all targets
abbrev pub held_of_all : List Inbox → ℕ
held_of_all [] = 0
held_of_all (u ∷ us) = length u.held + held_of_all us

-- how many bytes an open call is counted as, and for how many the rooms in which frames are judged and translated are counted, for each
-- byte of the greatest frame
abbrev pub call_size : ℕ
call_size = 32

abbrev pub rooms_for_byte : ℕ
rooms_for_byte = 26

-- The bytes that a router holds: those rooms, what is held of each port and due to each, and so much for each open call.
abbrev pub bytes_held : ℕ → Standing → Option RouteOutcome → ℕ
bytes_held limit s (Some o) = rooms_for_byte * limit
bytes_held limit s None =
    rooms_for_byte * limit + (length s.client.held + held_of_all s.upstreams) + (length s.to_client + length s.to_upstream) + call_size * length s.calls

-- what may be held for a port at the most: so much for each byte of the greatest frame, and besides
abbrev pub port_for_byte : ℕ
port_for_byte = 25

abbrev pub port_besides : ℕ
port_besides = 512

abbrev pub held_besides : ℕ
held_besides = 4096

-- the most that a router of so many targets may hold, where so many calls may be open
abbrev pub most_held : ℕ → ℕ → ℕ → ℕ
most_held limit max_calls targets =
    (targets + 1) * (port_for_byte * limit + port_besides) + rooms_for_byte * limit + call_size * max_calls + held_besides
