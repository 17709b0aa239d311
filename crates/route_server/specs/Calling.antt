-- The calls of a fan: which sessions were closed and in which order, and where a call on a port failed.
use Rattle.std.specs.Prelude.{◌≡◌, ℕ, ⊤, ◌≤◌, List, [], ◌∷◌, ◌++◌}
use Rattle.std.specs.List.{flat_map}
use Rattle.gate_base.specs.Causes.{Rose}
use Rattle.gate_fan.specs.Fans.{Counts}
use Rattle.gate_fan.specs.Meaning.{FanCall, Asked, Read, Wrote, Closed}
use Rattle.gate_hub.specs.declared.hub.LinkGot.TheVariants as got
use Rattle.gate_hub.specs.declared.hub.LinkPut.TheVariants as put

-- the session that a call closes
abbrev pub closing_of : FanCall → List ℕ
closing_of (Asked event) = []
closing_of (Read k port most answer) = []
closing_of (Wrote k port most answer) = []
closing_of (Closed k) = k ∷ []

-- the sessions that were closed, in order
abbrev pub closings_of : List FanCall → List ℕ
closings_of calls = flat_map closing_of calls

-- at most so many bytes are read or written by a call of a turn
abbrev pub piece_length : ℕ
piece_length = 4096

-- a read or a write of session k of at most so many bytes
abbrev pub IsPiece : ℕ → FanCall → Type 0
IsPiece k (Asked event) = ⊥
IsPiece k (Read j port most answer) = (j ≡ k) × (most ≤ piece_length)
IsPiece k (Wrote j port most answer) = (j ≡ k) × (most ≤ piece_length)
IsPiece k (Closed j) = ⊥

abbrev pub ArePieces : ℕ → List FanCall → Type 0
ArePieces k [] = ⊤
ArePieces k (call ∷ calls) = IsPiece k call × ArePieces k calls

-- a read or a write of this port of session k that failed
abbrev pub Fails : ℕ → ℕ → FanCall → Type 0
Fails k x (Asked event) = ⊥
Fails k x (Read j port most answer) = (j ≡ k) × (port ≡ x) × (answer ≡ got.Failed)
Fails k x (Wrote j port most answer) = (j ≡ k) × (port ≡ x) × (answer ≡ put.Failed)
Fails k x (Closed j) = ⊥

-- the last of these calls is such a one
pub record EndsFailing (k x : ℕ) (calls : List FanCall) : Type 0 where
  pub early : List FanCall
  pub call : FanCall
  pub calls_are : calls ≡ early ++ call ∷ []
  pub fails : Fails k x call

-- such a call was made, and the very next closed the session: it was not read or written again
pub record FailsLast (k x : ℕ) (calls : List FanCall) : Type 0 where
  pub early : List FanCall
  pub call : FanCall
  pub late : List FanCall
  pub calls_are : calls ≡ early ++ call ∷ Closed k ∷ late
  pub fails : Fails k x call

-- the count of faults of a port of session k rose
abbrev pub LinkRose : Counts → Counts → ℕ → ℕ → Type 0
LinkRose before now k x = Rose (before.link_faults k x) (now.link_faults k x)

-- what a turn asks for first: so many bytes are to be written to a port, or as many to be read of it at most
pub data Wanted : Type 0 where
  ToWrite : ℕ → ℕ → Wanted
  ToRead : ℕ → ℕ → Wanted
