-- The steps that a session can take, and its outcome.
use Rattle.std.specs.Prelude.{◌≡◌, ℕ, ◌+◌, List, [], ◌∷◌, ◌++◌, length, nat_lt, Option, Some, None, Bool, true, false, ◌&&◌, if◌then◌else◌}
use Rattle.framed_transport.specs.Frames.{framed}
use Rattle.framed_transport.specs.Front.{Front, Part, Whole, Large, front, is_part}
use Rattle.session_core.specs.Rules.{Rules}
use Rattle.session_core.specs.Standing.{Standing}
use Rattle.session_core.specs.Fits.{told}
use Rattle.session_core.specs.declared.judge.Call.{Call}
use Rattle.session_core.specs.declared.outcome.Halt.{Halt}
use Rattle.session_core.specs.declared.outcome.Halt.TheVariants as halt
use Rattle.session_core.specs.declared.judge.ClientJudged.{ClientJudged}
use Rattle.session_core.specs.declared.judge.ClientJudged.TheVariants as client
use Rattle.session_core.specs.declared.judge.UpstreamJudged.{UpstreamJudged}
use Rattle.session_core.specs.declared.judge.UpstreamJudged.TheVariants as upstream
use Rattle.session_core.specs.declared.outcome.Outcome.{Outcome}
use Rattle.session_core.specs.declared.outcome.Outcome.TheVariants as outcome

-- what the frame at the front of a side's bytes does: none is there, it halts the side, or it takes the session on
pub data Move : Type 0 where
  Waits : Move
  Halts : Halt → Move
  Takes : Standing → Move

abbrev pub is_none : {X : Type 0} → List X → Bool
is_none [] = true
is_none (x ∷ xs) = false

-- ---- the upstream

abbrev pub by_reply : UpstreamJudged → Standing → List Call → List ℕ → List ℕ → Move
by_reply (upstream.Halts h) s calls reply rest = Halts h
by_reply (upstream.Answers refused) s calls reply rest =
    Takes (record s { upstream = rest; to_client = framed reply; calls = calls; answered = told (s.answered + 1) })

-- the frame at the upstream's front, for the oldest open call
abbrev pub upstream_front : Rules → Standing → Call → List Call → Front → Move
upstream_front rules s call calls Part = if s.upstream_ended then Halts halt.Inside else Waits
upstream_front rules s call calls (Large n) = Halts (halt.TooLarge n)
upstream_front rules s call calls (Whole frame rest) = by_reply (rules.replied call frame) s calls (rules.reply call frame) rest

-- the same once nothing is due to the client; the upstream's end alone halts it before
abbrev pub upstream_move : Bool → Bool → Bool → Move → Move
upstream_move true part ended move = move
upstream_move false true true move = Halts halt.Inside
upstream_move false true false move = Waits
upstream_move false false ended move = Waits

abbrev pub upstream_by : Rules → ℕ → Standing → List Call → Move
upstream_by rules limit s [] = Waits
upstream_by rules limit s (call ∷ calls) =
    upstream_move (is_none s.to_client) (is_part (front limit s.upstream)) s.upstream_ended (upstream_front rules s call calls (front limit s.upstream))

unfoldable pub of_upstream : Rules → ℕ → Standing → Move
of_upstream rules limit s = upstream_by rules limit s s.calls

-- ---- the client

abbrev pub by_judged : ClientJudged → Standing → List ℕ → List ℕ → List ℕ → Move
by_judged (client.Halts h) s output answer rest = Halts h
by_judged (client.Opens call) s output answer rest =
    Takes (record s { client = rest; to_upstream = framed output; calls = s.calls ++ call ∷ []; taken = told (s.taken + 1) })
by_judged client.Goes s output answer rest =
    Takes (record s { client = rest; to_upstream = framed output; taken = told (s.taken + 1) })
by_judged (client.Refused cause) s output answer rest =
    if is_none s.calls && is_none s.to_client
    then Takes (record s { client = rest; to_client = framed answer; taken = told (s.taken + 1) })
    else Waits
by_judged (client.Dropped cause) s output answer rest =
    Takes (record s { client = rest; taken = told (s.taken + 1) })

-- the frame at the client's front
abbrev pub client_front : Rules → Standing → Front → Move
client_front rules s Part = Waits
client_front rules s (Large n) = Halts (halt.TooLarge n)
client_front rules s (Whole frame rest) = by_judged (rules.judged frame) s (rules.output frame) (rules.answer frame) rest

-- the client's frame is looked at while nothing is due to the upstream, a call may open and the upstream does not halt
unfoldable pub of_client : Rules → ℕ → ℕ → Standing → Move
of_client rules limit max_calls s =
    if is_none s.to_upstream && nat_lt (length s.calls) max_calls then client_front rules s (front limit s.client) else Waits

-- ---- what can be done

-- a step: a frame of the upstream, or one of the client where the upstream does not halt
pub data Steps (rules : Rules) (limit max_calls : ℕ) (s t : Standing) : Type 0 where
  ByUpstream : of_upstream rules limit s ≡ Takes t → Steps rules limit max_calls s t
  ByClient : ((h : Halt) → of_upstream rules limit s ≡ Halts h → ⊥) → of_client rules limit max_calls s ≡ Takes t → Steps rules limit max_calls s t

-- no frame can be taken
abbrev pub IsStill : Rules → ℕ → ℕ → Standing → Type 0
IsStill rules limit max_calls s = (t : Standing) → Steps rules limit max_calls s t → ⊥

-- ---- the outcome

abbrev pub by_upstream : Halt → Standing → Outcome
by_upstream h s =
    if s.upstream_ended && is_none s.upstream then outcome.UpstreamEnded (length s.calls)
    else outcome.UpstreamFault (told (s.answered + 1)) h

-- the client has ended at a frame's end
abbrev pub at_end : ℕ → Standing → Outcome
at_end limit s =
    if is_part (front limit s.upstream) then outcome.Clean
    else outcome.Unsolicited (told (s.answered + 1)) s.answered

-- with no call open: the client's frame halts it, or its end does
abbrev pub by_client : ℕ → Standing → Move → Option Outcome
by_client limit s (Halts h) = Some (outcome.ClientFault (told (s.taken + 1)) h)
by_client limit s (Takes t) = None
by_client limit s Waits =
    if s.client_ended
    then Some (if is_none s.client then at_end limit s else outcome.ClientFault (told (s.taken + 1)) halt.Inside)
    else None

abbrev pub by_both : ℕ → Standing → Move → Move → Option Outcome
by_both limit s (Halts h) move = Some (by_upstream h s)
by_both limit s Waits move = if is_none s.calls then by_client limit s move else None
by_both limit s (Takes t) move = if is_none s.calls then by_client limit s move else None

-- once all that was due is sent
unfoldable pub outcome_of : Rules → ℕ → ℕ → Standing → Option Outcome
outcome_of rules limit max_calls s =
    if is_none s.to_client && is_none s.to_upstream
    then by_both limit s (of_upstream rules limit s) (of_client rules limit max_calls s) else None
