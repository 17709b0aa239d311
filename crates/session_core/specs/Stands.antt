-- What is due to each side for the frames that were taken.
use Rattle.std.specs.Prelude.{◌≡◌, ℕ, ◌+◌, ◌<◌, ◌≤◌, List, [], ◌∷◌, ◌++◌, length, slice_get, Some}
use Rattle.std.specs.List.{All, flat_map}
use Rattle.framed_transport.specs.Frames.{framed}
use Rattle.framed_transport.specs.Front.{Whole, front}
use Rattle.session_core.specs.Rules.{Rules}
use Rattle.session_core.specs.declared.judge.Call.{Call}
use Rattle.translate_verdicts.specs.declared.verdict.Cause.{Cause}
use Rattle.session_core.specs.declared.outcome.Halt.{Halt}
use Rattle.session_core.specs.declared.judge.ClientJudged.{ClientJudged}
use Rattle.session_core.specs.declared.judge.ClientJudged.TheVariants as client
use Rattle.session_core.specs.declared.judge.UpstreamJudged.TheVariants as upstream

-- the call that a frame of the client opens
abbrev pub opened : ClientJudged → List Call
opened (client.Halts halt) = []
opened (client.Opens call) = call ∷ []
opened client.Goes = []
opened (client.Refused cause) = []
opened (client.Dropped cause) = []

-- the calls that these frames open, in order
abbrev pub calls_of : Rules → List (List ℕ) → List Call
calls_of rules [] = []
calls_of rules (x ∷ xs) = opened (rules.judged x) ++ calls_of rules xs

-- what a frame of the client sends to the upstream
abbrev pub sent_on : ClientJudged → List ℕ → List ℕ
sent_on (client.Halts halt) output = []
sent_on (client.Opens call) output = framed output
sent_on client.Goes output = framed output
sent_on (client.Refused cause) output = []
sent_on (client.Dropped cause) output = []

-- what these frames of the client send to the upstream
abbrev pub onward : Rules → List (List ℕ) → List ℕ
onward rules [] = []
onward rules (x ∷ xs) = sent_on (rules.judged x) (rules.output x) ++ onward rules xs

-- what a frame of the client is answered, where these of the upstream are left, with what follows
abbrev pub back_by : Rules → ClientJudged → List ℕ → (List (List ℕ) → List ℕ) → List (List ℕ) → List ℕ
back_by rules (client.Halts halt) answer next ys = next ys
back_by rules (client.Opens call) answer next [] = []
back_by rules (client.Opens call) answer next (y ∷ ys) = framed (rules.reply call y) ++ next ys
back_by rules client.Goes answer next ys = next ys
back_by rules (client.Refused cause) answer next ys = framed answer ++ next ys
back_by rules (client.Dropped cause) answer next ys = next ys

-- what these frames of the client are answered, where these of the upstream came: each call in its place, up to the
-- first that has no reply yet
abbrev pub back : Rules → List (List ℕ) → List (List ℕ) → List ℕ
back rules [] ys = []
back rules (x ∷ xs) ys = back_by rules (rules.judged x) (rules.answer x) (λ zs. back rules xs zs) ys

-- these frames may have been taken, with at most so many calls open
pub record IsLawful (rules : Rules) (max_calls : ℕ) (xs ys : List (List ℕ)) : Type 0 where
  -- no frame of the client halts it
  pub passes : (early late : List (List ℕ)) (x : List ℕ) (halt : Halt) → xs ≡ early ++ x ∷ late → rules.judged x ≡ client.Halts halt → ⊥
  -- a call may open where fewer than the most are open
  pub few : (early late : List (List ℕ)) (x : List ℕ) → xs ≡ early ++ x ∷ late → length (calls_of rules early) < max_calls + length ys
  -- a refused call is answered once each call before it is
  pub in_turn : (early late : List (List ℕ)) (x : List ℕ) (cause : Cause) → xs ≡ early ++ x ∷ late → rules.judged x ≡ client.Refused cause → length (calls_of rules early) ≤ length ys
  -- each frame of the upstream answers a call
  pub paired : length ys ≤ length (calls_of rules xs)
  -- and does not halt it
  pub replies : (early late : List (List ℕ)) (y : List ℕ) (call : Call) (halt : Halt) → ys ≡ early ++ y ∷ late → slice_get (calls_of rules xs) (length early) ≡ Some call → rules.replied call y ≡ upstream.Halts halt → ⊥

-- the bytes begin with these frames, and the rest is behind them
pub record IsTaken (limit : ℕ) (bytes : List ℕ) (frames : List (List ℕ)) (rest : List ℕ) : Type 0 where
  pub each : All (λ frame. length frame ≤ limit) frames
  pub whole : bytes ≡ flat_map framed frames ++ rest

-- a stand over the bytes that came: frames of each side that may have been taken
pub record Stand (rules : Rules) (limit max_calls : ℕ) (from_client from_upstream : List ℕ) : Type 0 where
  pub xs : List (List ℕ)
  pub ys : List (List ℕ)
  pub client_rest : List ℕ
  pub upstream_rest : List ℕ
  pub lawful : IsLawful rules max_calls xs ys
  pub client : IsTaken limit from_client xs client_rest
  pub upstream : IsTaken limit from_upstream ys upstream_rest

-- what is due for the bytes that came: what the greatest stand gives
pub record IsDue (rules : Rules) (limit max_calls : ℕ) (from_client from_upstream to_client to_upstream : List ℕ) : Type 0 where
  pub at : Stand rules limit max_calls from_client from_upstream
  pub greatest : (other : Stand rules limit max_calls from_client from_upstream) → (length other.xs ≤ length at.xs) × (length other.ys ≤ length at.ys)
  pub answers : to_client ≡ back rules at.xs at.ys
  pub calls : to_upstream ≡ onward rules at.xs

-- these are all whole frames of the client before the first that halts it
pub record IsAllOfClient (rules : Rules) (limit : ℕ) (bytes : List ℕ) (frames : List (List ℕ)) : Type 0 where
  pub rest : List ℕ
  pub taken : IsTaken limit bytes frames rest
  pub passes : (early late : List (List ℕ)) (x : List ℕ) (halt : Halt) → frames ≡ early ++ x ∷ late → rules.judged x ≡ client.Halts halt → ⊥
  pub last : (frame behind : List ℕ) → front limit rest ≡ Whole frame behind → (halt : Halt) × (rules.judged frame ≡ client.Halts halt)

-- and all of the upstream before the first that halts it, each for the call in its place
pub record IsAllOfUpstream (rules : Rules) (limit : ℕ) (calls : List Call) (bytes : List ℕ) (frames : List (List ℕ)) : Type 0 where
  pub rest : List ℕ
  pub taken : IsTaken limit bytes frames rest
  pub passes : (early late : List (List ℕ)) (y : List ℕ) (call : Call) (halt : Halt) → frames ≡ early ++ y ∷ late → slice_get calls (length early) ≡ Some call → rules.replied call y ≡ upstream.Halts halt → ⊥
  pub last : (frame behind : List ℕ) (call : Call) → front limit rest ≡ Whole frame behind → slice_get calls (length frames) ≡ Some call → (halt : Halt) × (rules.replied call frame ≡ upstream.Halts halt)

abbrev pub IsFrontOf : List ℕ → List ℕ → Type 0
IsFrontOf bytes all = (more : List ℕ) × (all ≡ bytes ++ more)
