-- What the laws of a session speak of.
use Rattle.std.specs.Prelude.{◌≡◌, ℕ, ◌^◌, ◌<◌, List, [], None}
use Rattle.session_core.specs.Rules.{Rules}
use Rattle.session_core.specs.Standing.{Standing, History}
use Rattle.session_core.specs.Fits.{Fits}
use Rattle.session_core.specs.Ends.{IsAtRest}
use Rattle.session_core.specs.Stands.{IsDue, IsAllOfClient, IsAllOfUpstream, IsFrontOf, calls_of, back, onward}

-- how frames are judged, the most bytes of one, and the most open calls
pub record Terms : Type 0 where
  pub rules : Rules
  pub limit : ℕ
  pub max_calls : ℕ
  pub small : limit < 2 ^ 31

-- the session fits what came and went
abbrev pub FitsBy : Terms → History → Standing → Type 0
FitsBy t h s = Fits t.rules t.limit t.max_calls h s

-- it is at rest with no outcome, and all that was due is sent
pub record IsPaid (t : Terms) (h : History) (s : Standing) : Type 0 where
  pub fits : FitsBy t h s
  pub rest : IsAtRest t.rules t.limit t.max_calls s None
  pub to_client : s.to_client ≡ []
  pub to_upstream : s.to_upstream ≡ []

-- what is due for what came
pub record Due (t : Terms) (h : History) : Type 0 where
  pub to_client : List ℕ
  pub to_upstream : List ℕ
  pub is : IsDue t.rules t.limit t.max_calls h.from_client h.from_upstream to_client to_upstream

-- each side was sent what is due for all that came
abbrev pub AllWasSent : Terms → History → Type 0
AllWasSent t h = IsDue t.rules t.limit t.max_calls h.from_client h.from_upstream h.to_client h.to_upstream

-- all frames of each side before the first that halts it
pub record AllFrames (t : Terms) (h : History) : Type 0 where
  pub of_client : List (List ℕ)
  pub of_upstream : List (List ℕ)
  pub client : IsAllOfClient t.rules t.limit h.from_client of_client
  pub upstream : IsAllOfUpstream t.rules t.limit (calls_of t.rules of_client) h.from_upstream of_upstream

-- each side was sent a front of what these frames give
abbrev pub FrontsWereSent : (t : Terms) (h : History) → AllFrames t h → Type 0
FrontsWereSent t h all =
    IsFrontOf h.to_client (back t.rules all.of_client all.of_upstream) × IsFrontOf h.to_upstream (onward t.rules all.of_client)
