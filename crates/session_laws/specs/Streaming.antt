-- All frames of a side, up to the first that ends it.
use Rattle.std.specs.Prelude.{◌≡◌, ℕ, List, length, Some, slice_get}
use Rattle.std.specs.List.{All}
use Rattle.framed_transport.specs.Front.{Whole, front}
use Rattle.protocol_traits.specs.Heads.{Header}
use Rattle.session_core.specs.Stands.{IsTaken}
use Rattle.session_core.specs.declared.outcome.Halt.{Halt}
use Rattle.session_judge.specs.Setting.{Setting}
use Rattle.session_laws.specs.Saying.{Said, Says}
use Rattle.session_laws.specs.Exchange.{asking, replying, done, Ends, EndsUpstream, AllSay, AllReply}

-- a frame of the client ends it, for this reason
abbrev pub ClientHalts : Setting → List ℕ → Halt → Type 0
ClientHalts s frame h = (a : Said) × Says (asking s) frame a × (done s a ≡ Ends h)

-- a frame of the upstream ends it, where it stands in the place of the reply to this call
abbrev pub UpstreamHalts : Setting → Header → List ℕ → Halt → Type 0
UpstreamHalts s call frame h = (r : Said) × Says (replying s call) frame r × EndsUpstream r h

-- what all whole frames of the client say, before the first that ends it
pub record IsAsked (s : Setting) (limit : ℕ) (bytes : List ℕ) (asked : List Said) : Type 0 where
  pub frames : List (List ℕ)
  pub rest : List ℕ
  pub taken : IsTaken limit bytes frames rest
  pub say : AllSay (λ x a. Says (asking s) x a) frames asked
  pub going : All (λ a. (h : Halt) → done s a ≡ Ends h → ⊥) asked
  pub last : (frame behind : List ℕ) → front limit rest ≡ Whole frame behind → (h : Halt) × ClientHalts s frame h

-- and what all of the upstream say, each for the call in its place
pub record IsReplied (s : Setting) (limit : ℕ) (calls : List Header) (bytes : List ℕ) (replied : List Said) : Type 0 where
  pub frames : List (List ℕ)
  pub rest : List ℕ
  pub taken : IsTaken limit bytes frames rest
  pub say : AllReply (λ call y r. Says (replying s call) y r) calls frames replied
  pub going : All (λ r. (h : Halt) → EndsUpstream r h → ⊥) replied
  pub last : (frame behind : List ℕ) (call : Header) → front limit rest ≡ Whole frame behind → slice_get calls (length frames) ≡ Some call
      → (h : Halt) × UpstreamHalts s call frame h
