-- A session fits what came and went, and what was told of its refused frames.
use Rattle.std.specs.Prelude.{◌≡◌, ℕ, ◌+◌, List, [], ◌∷◌, ◌++◌, drop}
use Rattle.session_core.specs.Rules.{Rules}
use Rattle.session_core.specs.Standing.{Standing, History}
use Rattle.session_core.specs.Stands.{opened}
use Rattle.session_core.specs.Fits.{Fits, told}
use Rattle.session_core.specs.Notes.{Note, call_notes, reply_notes}
use Rattle.session_core.specs.Session.{Seen}
use Rattle.session_core.specs.declared.judge.Call.{Call}

-- a frame that was taken: one of the client, or one of the upstream, which answers the oldest open call
pub data Turn : Type 0 where
  Asked : List ℕ → Turn
  Answered : List ℕ → Turn

-- the frames of the client, in order
abbrev pub asked_in : List Turn → List (List ℕ)
asked_in [] = []
asked_in (Asked x ∷ course) = x ∷ asked_in course
asked_in (Answered y ∷ course) = asked_in course

-- and those of the upstream
abbrev pub answered_in : List Turn → List (List ℕ)
answered_in [] = []
answered_in (Asked x ∷ course) = answered_in course
answered_in (Answered y ∷ course) = y ∷ answered_in course

-- the calls that are open behind this course, where these were open before it, the oldest first
abbrev pub open_behind : Rules → List Call → List Turn → List Call
open_behind rules open_calls [] = open_calls
open_behind rules open_calls (Asked x ∷ course) = open_behind rules (open_calls ++ opened (rules.judged x)) course
open_behind rules open_calls (Answered y ∷ course) = open_behind rules (drop 1 open_calls) course

-- what is told of a frame of the upstream that answers the first of these calls
abbrev pub answer_notes : Rules → List Call → ℕ → List ℕ → List Note
answer_notes rules [] n y = []
answer_notes rules (call ∷ calls) n y = reply_notes 0 (rules.replied call y) n y

-- what is told on this course, where so many frames of each side were taken before it and these calls were open
abbrev pub notes_from : Rules → ℕ → ℕ → List Call → List Turn → List Note
notes_from rules i j open_calls [] = []
notes_from rules i j open_calls (Asked x ∷ course) =
    call_notes (rules.judged x) (told (i + 1)) x ++ notes_from rules (i + 1) j (open_calls ++ opened (rules.judged x)) course
notes_from rules i j open_calls (Answered y ∷ course) =
    answer_notes rules open_calls (told (j + 1)) y ++ notes_from rules i (j + 1) (drop 1 open_calls) course

-- what the rules tell of the frames that were taken in this order, from the session's beginning
abbrev pub notes_of : Rules → List Turn → List Note
notes_of rules course = notes_from rules 0 0 [] course

-- the session fits what came and went, and exactly this was told of it: what the rules tell of the frames that were taken
pub record FitsTold (rules : Rules) (limit max_calls : ℕ) (h : History) (notes : List Note) (s : Standing) : Type 0 where
  pub fits : Fits rules limit max_calls h s
  -- these frames, in the order in which they were taken
  pub course : List Turn
  pub asked : asked_in course ≡ fits.xs
  pub answered : answered_in course ≡ fits.ys
  pub open_calls : open_behind rules [] course ≡ s.calls
  pub notes_are : notes ≡ notes_of rules course

-- some notes were made, and the later session fits what was told before and these, with what was added on the way
abbrev pub FitsAndTells : {J : Type 0} → (J → Rules) → Seen J → Seen J → (List Note → Type 0) → (History → History) → Type 0
FitsAndTells rules old new tells on =
    (added : List Note) × tells added ×
    ((h : History) (past : List Note) → FitsTold (rules old.judge) old.limit old.max_calls h past old.standing →
    FitsTold (rules old.judge) old.limit old.max_calls (on h) (past ++ added) new.standing)
