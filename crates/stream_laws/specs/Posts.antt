-- What a server has carried whose clients send each message as the body of a POST.
use Rattle.std.specs.Prelude.{◌≡◌, ◌⊎◌, ℕ, List, Option, None, Some, true}
use Rattle.gate_hub.specs.Meaning.{Meaning}
use Rattle.gate_hub.specs.declared.hub.Served.{Served}
use Rattle.http_laws.specs.Served.{IsClientServed}
use Rattle.stream_messages.specs.declared.scan.Wire.{Wire}
use Rattle.unframed_laws.specs.Wrapped.{SideIs}
use Rattle.session_judge.specs.Setting.{Setting}
use Rattle.proxy_server.specs.Saying.{Closing}
use Rattle.proxy_server.specs.Serving.{Entry}
use Rattle.proxy_server.specs.Steps.{LinesEnd}
use Rattle.gate_words.specs.declared.peers.Front.TheVariants.{Http}
use Rattle.gate_words.specs.declared.peers.Sides.{Sides}
use Rattle.gate_words.specs.declared.serving.Serving.{Serving}
use Rattle.gate_start.specs.Streams.{Streams}
use Rattle.gate_serve.specs.Peers.{wrapping_by}
use Rattle.gate_serve.specs.Posts.{reading_by}
use Rattle.gate_serve.specs.Serving.{setting_by, telling_by}
use Rattle.refusal_lines.specs.Told.{told_text}
use Rattle.run_laws.specs.Undisturbed.{ServerRun}
use Rattle.gate_start.specs.declared.start.Start.{Start}
use Rattle.session_laws.specs.Serving.{HasCourse}
use Rattle.stream_laws.specs.Sessions.{HasCarriedBy, HasNotServedOver, IsServedBy}

-- the grammar that tells where the upstream's messages end, where those of these sides have no frames
abbrev pub upstream_wire : Option Sides → Serving → Option Wire
upstream_wire None s = None
upstream_wire (Some sides) s = (wrapping_by sides s).upstream

-- Over the session that the hub tells, this one. What was read of its client is a front of the frames of the bodies of the POSTs that the hub
-- received, at most one body ahead of the responses. What the hub sent to the client is the responses with the answers that were written, in
-- the order of the POSTs, and a front of the next one. The upstream is passed through, or is one without frames. It has a course that its line tells.
pub record IsCarriedByPosts (s : Serving) (start : Start) (result : Served) (lines : LinesEnd) (held : List (Entry Setting)) (ended : List Closing) (inner outer : Meaning) (k : ℕ) : Type 0 where
  pub client : IsClientServed (reading_by s start) (inner.session k) (outer.session k)
  pub upstream : SideIs (upstream_wire s.unframed s) s.limit (inner.session k).upstream (outer.session k).upstream
  pub course : HasCourse (setting_by s start) s.limit s.calls result lines held ended outer k

-- each session that was announced has a course over one of POSTs
abbrev pub HasCarriedPosts : (Meaning → Type 0) → (Meaning → Type 0) → Serving → Start → Streams → Streams → Type 0
HasCarriedPosts told told' s start a b =
    HasCarriedBy told told' (told_text (telling_by s)) a b (λ result lines held ended n. (outer : Meaning) × ((k : ℕ) → (n.session k).announced ≡ true → IsCarriedByPosts s start result lines held ended n outer k))

abbrev pub CarriesPosts : (Meaning → Type 0) → (Meaning → Type 0) → Serving → Start → Streams → Streams → Type 0
CarriesPosts told told' s start a b = HasCarriedPosts told told' s start a b ⊎ HasNotServedOver told told' a b

-- the clients send POSTs
abbrev pub IsOverPosts : Serving → Type 0
IsOverPosts s = s.front ≡ Http

-- from the command's words on
abbrev pub IsServedByPosts : {H : Type 0} → (H → Meaning → Type 0) → ServerRun H → Type 0
IsServedByPosts tells x = IsServedBy (λ start. CarriesPosts (tells x.hub) (tells x.hub_behind) x.serving start x.before.streams x.behind.streams) x
