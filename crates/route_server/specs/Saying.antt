-- What a server says of its sessions, in order.
use Rattle.std.specs.Prelude.{◌≡◌, ℕ, ⊤, List, [], ◌∷◌, nat_eq, if◌then◌else◌, Some}
use Rattle.std.specs.List.{flat_map}
use Rattle.session_core.specs.Notes.{Note}
use Rattle.service_router.specs.declared.outcome.RouteOutcome.{RouteOutcome}
use Rattle.route_server.specs.Lines.{line_text}

-- a session's number, and how it ended
abbrev pub Closing : Type 0
Closing = ℕ × RouteOutcome

-- what is said of a session: a frame of it was refused, or it has ended
pub data Said : Type 0 where
  Refused : ℕ → Note → Said
  Ended : ℕ → RouteOutcome → Said

-- the sessions that have ended, in order
abbrev pub closings : List Said → List Closing
closings [] = []
closings (Refused k note ∷ said) = closings said
closings (Ended k o ∷ said) = (k, o) ∷ closings said

-- one more note where it is of the session
abbrev pub heard_if : ℕ → ℕ → Note → List Note → List Note
heard_if j k note notes = if nat_eq j k then note ∷ notes else notes

-- what is said of the refused frames of a session, in order
abbrev pub heard_in : List Said → ℕ → List Note
heard_in [] k = []
heard_in (Refused j note ∷ said) k = heard_if j k note (heard_in said k)
heard_in (Ended j o ∷ said) k = heard_in said k

-- of no session more is said behind its end
abbrev pub InOrder : List Said → Type 0
InOrder [] = ⊤
InOrder (Refused k note ∷ said) = InOrder said
InOrder (Ended k o ∷ said) = (heard_in said k ≡ []) × InOrder said

-- these frames of a session were refused
abbrev pub refusals : ℕ → List Note → List Said
refusals k [] = []
refusals k (note ∷ notes) = Refused k note ∷ refusals k notes

-- all of this is said of one session
abbrev pub AreOf : ℕ → List Said → Type 0
AreOf k [] = ⊤
AreOf k (Refused j note ∷ said) = (j ≡ k) × AreOf k said
AreOf k (Ended j o ∷ said) = (j ≡ k) × AreOf k said

-- ---- the lines

abbrev pub closing_line : Closing → List ℕ
closing_line c = line_text c.0 (Some c.1)

abbrev pub closing_lines : List Closing → List ℕ
closing_lines ended = flat_map closing_line ended

-- the line of what is said, by how a refused frame's is spelled
abbrev pub said_line : (ℕ → Note → List ℕ) → Said → List ℕ
said_line text (Refused k note) = text k note
said_line text (Ended k o) = closing_line (k, o)

abbrev pub said_lines : (ℕ → Note → List ℕ) → List Said → List ℕ
said_lines text said = flat_map (said_line text) said
