-- A router fits what came and went at its ports, and what was told of the frames that were refused.
use Rattle.std.specs.Prelude.{◌≡◌, ℕ, suc, ◌+◌, ◌==◌, List, [], ◌∷◌, ◌++◌, length, take, if◌then◌else◌}
use Rattle.session_core.specs.Fits.{told}
use Rattle.session_core.specs.Notes.{Note, call_notes, reply_notes}
use Rattle.service_router.specs.declared.call.OpenCall.{OpenCall}
use Rattle.service_router.specs.Rules.{RouteRules}
use Rattle.service_router.specs.Standing.{Standing, History}
use Rattle.service_router.specs.Fits.{Fits, calls_of}

-- a frame that was taken: one of the client, or the answer to a call, of the call's target
pub data Turn : Type 0 where
  Asked : List ℕ → Turn
  Answered : OpenCall → List ℕ → Turn

-- the frames of the client, in order
abbrev pub asked_in : List Turn → List (List ℕ)
asked_in [] = []
asked_in (Asked x ∷ course) = x ∷ asked_in course
asked_in (Answered call y ∷ course) = asked_in course

-- the answers
abbrev pub answered_in : List Turn → List (List ℕ)
answered_in [] = []
answered_in (Asked x ∷ course) = answered_in course
answered_in (Answered call y ∷ course) = y ∷ answered_in course

-- and the calls that they answer
abbrev pub calls_in : List Turn → List OpenCall
calls_in [] = []
calls_in (Asked x ∷ course) = calls_in course
calls_in (Answered call y ∷ course) = call ∷ calls_in course

-- the port that gave a frame
abbrev pub port_of : Turn → ℕ
port_of (Asked x) = 0
port_of (Answered call y) = suc call.target

-- how many of these frames a port gave
abbrev pub count_of : ℕ → List Turn → ℕ
count_of port [] = 0
count_of port (turn ∷ course) = (if port_of turn == port then 1 else 0) + count_of port course

-- what is told of a frame, which is its port's frame of this number
abbrev pub turn_notes : RouteRules → Turn → ℕ → List Note
turn_notes rules (Asked x) n = call_notes (rules.judging.judged x) n x
turn_notes rules (Answered call y) n = reply_notes (suc call.target) (rules.judging.replied call.call y) n y

-- what is told of it behind these
abbrev pub next_notes : RouteRules → List Turn → Turn → List Note
next_notes rules before turn = turn_notes rules turn (told (count_of (port_of turn) before + 1))

-- what is told on this course behind that one
abbrev pub notes_behind : RouteRules → List Turn → List Turn → List Note
notes_behind rules before [] = []
notes_behind rules before (turn ∷ course) = next_notes rules before turn ++ notes_behind rules (before ++ turn ∷ []) course

-- what the rules tell of the frames that were taken in this order, from the beginning
abbrev pub notes_of : RouteRules → List Turn → List Note
notes_of rules course = notes_behind rules [] course

-- the router fits what came and went, and exactly this was told of it: what the rules tell of the frames that were taken
pub record FitsTold (rules : RouteRules) (limit max_calls : ℕ) (h : History) (notes : List Note) (s : Standing) : Type 0 where
  pub fits : Fits rules limit max_calls h s
  -- these frames, in the order in which they were taken
  pub course : List Turn
  pub asked : asked_in course ≡ fits.xs
  pub answered : answered_in course ≡ fits.ys
  -- each answer is to the next of the calls that the client's frames open
  pub calls : calls_in course ≡ take (length fits.ys) (calls_of rules fits.xs)
  pub notes_are : notes ≡ notes_of rules course
