-- The calls of a hub: which sessions were closed and in which order, and where a call on a side failed.
use Rattle.std.specs.Prelude.{◌≡◌, ℕ, ⊤, ◌≤◌, List, [], ◌∷◌, ◌++◌}
use Rattle.std.specs.List.{flat_map}
use Rattle.gate_base.specs.Causes.{Rose}
use Rattle.gate_hub.specs.Hubs.{Counts}
use Rattle.gate_hub.specs.Meaning.{HubCall, Asked, Read, Wrote, Closed}
use Rattle.gate_hub.specs.declared.hub.Side.{Side}
use Rattle.gate_hub.specs.declared.hub.LinkGot.TheVariants as got
use Rattle.gate_hub.specs.declared.hub.LinkPut.TheVariants as put

-- the session that a call closes
abbrev pub closing_of : HubCall → List ℕ
closing_of (Asked event) = []
closing_of (Read k side most answer) = []
closing_of (Wrote k side most answer) = []
closing_of (Closed k) = k ∷ []

-- the sessions that were closed, in order
abbrev pub closings_of : List HubCall → List ℕ
closings_of calls = flat_map closing_of calls

-- at most so many bytes are read or written by a call of a turn
abbrev pub piece_length : ℕ
piece_length = 4096

-- at most so many are read of a side while something is due to the other
abbrev pub piece_behind : ℕ
piece_behind = 3072

-- a read or a write of session k of at most so many bytes
abbrev pub IsPiece : ℕ → HubCall → Type 0
IsPiece k (Asked event) = ⊥
IsPiece k (Read j side most answer) = (j ≡ k) × (most ≤ piece_length)
IsPiece k (Wrote j side most answer) = (j ≡ k) × (most ≤ piece_length)
IsPiece k (Closed j) = ⊥

abbrev pub ArePieces : ℕ → List HubCall → Type 0
ArePieces k [] = ⊤
ArePieces k (call ∷ calls) = IsPiece k call × ArePieces k calls

-- a read or a write of this side of session k that failed
abbrev pub Fails : ℕ → Side → HubCall → Type 0
Fails k x (Asked event) = ⊥
Fails k x (Read j side most answer) = (j ≡ k) × (side ≡ x) × (answer ≡ got.Failed)
Fails k x (Wrote j side most answer) = (j ≡ k) × (side ≡ x) × (answer ≡ put.Failed)
Fails k x (Closed j) = ⊥

-- the last of these calls is such a one
pub record EndsFailing (k : ℕ) (x : Side) (calls : List HubCall) : Type 0 where
  pub early : List HubCall
  pub call : HubCall
  pub calls_are : calls ≡ early ++ call ∷ []
  pub fails : Fails k x call

-- such a call was made, and the very next closed the session: it was not read or written again
pub record FailsLast (k : ℕ) (x : Side) (calls : List HubCall) : Type 0 where
  pub early : List HubCall
  pub call : HubCall
  pub late : List HubCall
  pub calls_are : calls ≡ early ++ call ∷ Closed k ∷ late
  pub fails : Fails k x call

-- the count of faults of a side of session k rose
abbrev pub LinkRose : Counts → Counts → ℕ → Side → Type 0
LinkRose before now k x = Rose (before.link_faults k x) (now.link_faults k x)

-- what a turn asks for first: so many bytes are to be written to a side, or as many to be read of it at most
pub data Wanted : Type 0 where
  ToWrite : Side → ℕ → Wanted
  ToRead : Side → ℕ → Wanted
