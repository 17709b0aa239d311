-- What a session has carried from each side to the other.
use Rattle.std.specs.Prelude.{◌≡◌, ℕ, ℤ, ◌+◌, ◌-◌, ◌^◌, ◌<◌, ◌≤◌, List, [], length, take, Bool, true, false, None, Some, slice_get}
use Rattle.std.specs.List.{flat_map}
use Rattle.gate_base.specs.Bytes.{AreBytes}
use Rattle.protocol_traits.specs.Heads.{Header}
use Rattle.framed_transport.specs.Frames.{framed}
use Rattle.framed_transport.specs.Front.{Whole, Large, front, is_part}
use Rattle.session_core.specs.Standing.{Standing, History}
use Rattle.session_core.specs.Ends.{IsAtRest}
use Rattle.session_core.specs.Steps.{outcome_of}
use Rattle.session_core.specs.Stands.{IsTaken, IsFrontOf}
use Rattle.session_core.specs.Fits.{Fits, told}
use Rattle.session_core.specs.declared.outcome.Halt.{Halt}
use Rattle.session_core.specs.declared.outcome.Halt.TheVariants as halt
use Rattle.session_core.specs.declared.outcome.Outcome.{Outcome}
use Rattle.session_core.specs.declared.outcome.Outcome.TheVariants as outcome
use Rattle.session_judge.specs.Setting.{Setting}
use Rattle.session_judge.specs.Rules.{rules_of}
use Rattle.session_laws.specs.Saying.{Said}
use Rattle.session_laws.specs.Exchange.{done, Tells, calls, onward, back}
use Rattle.session_laws.specs.Streaming.{ClientHalts, UpstreamHalts, IsAsked, IsReplied}

-- The laws cover sessions of this limit: a frame is shorter than 2^31 bytes.
abbrev pub IsCovered : ℕ → Type 0
IsCovered limit = limit < 2 ^ 31

-- what came of both sides consists of bytes
pub record IsOfBytes (h : History) : Type 0 where
  pub client : AreBytes h.from_client
  pub upstream : AreBytes h.from_upstream

-- Each side was sent a front of what the other's frames give: the upstream the client's messages, and the client the replies to its calls
-- and the exceptions that tell refusals, each in its place.
pub record Carries (s : Setting) (limit : ℕ) (h : History) : Type 0 where
  pub asked : List Said
  pub replied : List Said
  pub client : IsAsked s limit h.from_client asked
  pub upstream : IsReplied s limit (calls s asked) h.from_upstream replied
  pub to_upstream : IsFrontOf h.to_upstream (flat_map framed (onward s asked))
  pub to_client : IsFrontOf h.to_client (flat_map framed (back s asked replied))

-- So many frames of each side may have been taken. Before each of the client fewer than the most calls were open, and before one that is
-- refused and answered none was. Each of the upstream answers a call.
pub record IsStand (s : Setting) (max_calls : ℕ) (asked replied : List Said) (i j : ℕ) : Type 0 where
  pub some_asked : i ≤ length asked
  pub some_replied : j ≤ length replied
  pub few : (t : ℕ) → t < i → length (calls s (take t asked)) < max_calls + j
  pub in_turn : (t : ℕ) (a : Said) (answer : List ℕ) → t < i → slice_get asked t ≡ Some a → done s a ≡ Tells answer → length (calls s (take t asked)) ≤ j
  pub paired : j ≤ length (calls s (take i asked))

-- so many frames of each side were taken, and all that they give was sent
pub record IsSent (s : Setting) (max_calls : ℕ) (asked replied : List Said) (h : History) (i j : ℕ) : Type 0 where
  pub stand : IsStand s max_calls asked replied i j
  pub to_upstream : h.to_upstream ≡ flat_map framed (onward s (take i asked))
  pub to_client : h.to_client ≡ flat_map framed (back s (take i asked) (take j replied))

-- all was sent that the order of the calls and the most of them that may be open allow
pub record IsComplete (s : Setting) (max_calls : ℕ) (asked replied : List Said) (h : History) : Type 0 where
  pub i : ℕ
  pub j : ℕ
  pub sent : IsSent s max_calls asked replied h i j
  pub greatest : (k l : ℕ) → IsStand s max_calls asked replied k l → (k ≤ i) × (l ≤ j)

-- the session is at rest with no outcome, and all that was due was sent
pub record HasSent (s : Setting) (limit max_calls : ℕ) (t : Standing) : Type 0 where
  pub rests : IsAtRest (rules_of s) limit max_calls t None
  pub to_client : t.to_client ≡ []
  pub to_upstream : t.to_upstream ≡ []

-- what stands behind the frames of a side that were taken halts it: a frame, a length that is too large, or its end within a frame
pub data Halted (FrameHalts : List ℕ → Halt → Type 0) (limit : ℕ) (rest : List ℕ) (ended : Bool) : Halt → Type 0 where
  ByFrame : (frame behind : List ℕ) (x : Halt) → front limit rest ≡ Whole frame behind → FrameHalts frame x → Halted FrameHalts limit rest ended x
  ByLength : (n : ℤ) → front limit rest ≡ Large n → Halted FrameHalts limit rest ended (halt.TooLarge n)
  WithinAFrame : ended ≡ true → (rest ≡ [] → ⊥) → is_part (front limit rest) ≡ true → Halted FrameHalts limit rest ended halt.Inside

-- why the session ended, where these calls were opened, so many of them were answered, and this is left of both sides
pub data Why (s : Setting) (limit : ℕ) (h : History) (opened : List Header) (i j : ℕ) (client upstream : List ℕ) : Outcome → Type 0 where
  ByClient : (x : Halt) → length opened ≡ j → Halted (ClientHalts s) limit client h.client_ended x
      → Why s limit h opened i j client upstream (outcome.ClientFault (told (i + 1)) x)
  ByUpstream : (call : Header) (x : Halt) → slice_get opened j ≡ Some call → Halted (UpstreamHalts s call) limit upstream h.upstream_ended x
      → Why s limit h opened i j client upstream (outcome.UpstreamFault (told (j + 1)) x)
  WithoutUpstream : j < length opened → h.upstream_ended ≡ true → upstream ≡ []
      → Why s limit h opened i j client upstream (outcome.UpstreamEnded (length opened - j))
  AtTheEnd : length opened ≡ j → h.client_ended ≡ true → client ≡ [] → is_part (front limit upstream) ≡ true → Why s limit h opened i j client upstream outcome.Clean
  WithOneMore : length opened ≡ j → h.client_ended ≡ true → client ≡ [] → is_part (front limit upstream) ≡ false
      → Why s limit h opened i j client upstream (outcome.Unsolicited (told (j + 1)) (told j))

-- all was sent that was due before the session ended, and why it ended
pub record IsEnded (s : Setting) (limit max_calls : ℕ) (h : History) (c : Carries s limit h) (o : Outcome) : Type 0 where
  pub i : ℕ
  pub j : ℕ
  pub client_rest : List ℕ
  pub upstream_rest : List ℕ
  pub client : IsTaken limit h.from_client (take i c.client.frames) client_rest
  pub upstream : IsTaken limit h.from_upstream (take j c.upstream.frames) upstream_rest
  pub sent : IsSent s max_calls c.asked c.replied h i j
  pub why : Why s limit h (calls s (take i c.asked)) i j client_rest upstream_rest o

-- ---- a session of such a setting that fits what came and went, all of it bytes

pub record Session : Type 0 where
  pub setting : Setting
  pub limit : ℕ
  pub max_calls : ℕ
  pub history : History
  pub standing : Standing
  pub covered : IsCovered limit
  pub bytes : IsOfBytes history
  pub fits : Fits (rules_of setting) limit max_calls history standing

abbrev pub HasCarried : Session → Type 0
HasCarried x = Carries x.setting x.limit x.history

-- it is at rest with no outcome, and all that was due was sent
abbrev pub IsPaid : Session → Type 0
IsPaid x = HasSent x.setting x.limit x.max_calls x.standing

-- it has carried all that the order of the calls and the most of them that may be open allow
abbrev pub HasCarriedAll : Session → Type 0
HasCarriedAll x = (c : HasCarried x) × IsComplete x.setting x.max_calls c.asked c.replied x.history

-- it has this outcome
abbrev pub EndsWith : Session → Outcome → Type 0
EndsWith x o = outcome_of (rules_of x.setting) x.limit x.max_calls x.standing ≡ Some o

-- it has carried all that was due before it ended, and the outcome says why
abbrev pub HasEndedWith : Session → Outcome → Type 0
HasEndedWith x o = (c : HasCarried x) × IsEnded x.setting x.limit x.max_calls x.history c o
