-- The hub of a server as its words wrap it: a side may have messages without frames.
use Rattle.std.specs.Prelude.{◌≡◌, ℕ, Option, None, Some, Bool, true, false}
use Rattle.gate_hub.specs.Meaning.{Meaning}
use Rattle.gate_hub.specs.Hubs.{Counts}
use Rattle.gate_hub.specs.declared.hub.Hub.{Ghosts as Hub}
use Rattle.protocol_traits.specs.declared.proto.Proto.{Proto}
use Rattle.protocol_traits.specs.declared.proto.Proto.TheVariants as protocols
use Rattle.stream_messages.specs.Telling.{TellsOver, counts_over}
use Rattle.stream_messages.specs.declared.hub.UnframedHub.{UnframedHub}
use Rattle.stream_messages.specs.declared.lanes.Wrapping.{Wrapping}
use Rattle.stream_messages.specs.declared.scan.Wire.{Wire}
use Rattle.stream_messages.specs.declared.scan.Wire.TheVariants as wires
use Rattle.stream_messages.specs.declared.slots.Slots.{Slots}
use Rattle.gate_words.specs.Peers.{has_client, has_upstream}
use Rattle.gate_words.specs.declared.peers.Sides.{Sides}
use Rattle.gate_words.specs.declared.serving.Serving.{Serving}
use Rattle.gate_start.specs.Streams.{Streams}
use Rattle.gate_start.specs.declared.start.Start.{Start}
use Rattle.gate_start.specs.declared.status.Ending.{Ending}
use Rattle.gate_serve.specs.Serving.{ServesAll}

-- the grammar that tells where a message ends; JSON has messages only in frames
abbrev pub wire_of : Proto → Option Wire
wire_of protocols.Binary = Some wires.Binary
wire_of protocols.Compact = Some wires.Compact
wire_of protocols.Json = None

abbrev pub wire_if : Bool → Proto → Option Wire
wire_if true protocol = wire_of protocol
wire_if false protocol = None

-- the sides that have no frames, and the most bytes of a message
abbrev pub wrapping_by : Sides → Serving → Wrapping
wrapping_by sides s = record { client = wire_if (has_client sides) s.client; upstream = wire_if (has_upstream sides) s.upstream; limit = s.limit }

-- a hub over another one: which one, how it is wrapped, what it holds of open sessions, and how many calls found none
pub record Unframed (H : Type 0) : Type 0 where
  pub inner : H
  pub wrapping : Wrapping
  pub slots : Option Slots
  pub missing : ℕ

abbrev pub unframed_tells : {H : Type 0} → (H → Meaning → Type 0) → Unframed H → Meaning → Type 0
unframed_tells tells u = TellsOver (tells u.inner) u.wrapping u.slots

abbrev pub unframed_counts : {H : Type 0} → (H → Counts) → Unframed H → Counts
unframed_counts counts u = counts_over (counts u.inner) u.missing

-- what a hub that wraps another one is seen as
abbrev pub seen : {H : Type 0} → UnframedHub H → Unframed H
seen u = record { inner = u.inner.now; wrapping = u.wrapping; slots = u.slots; missing = u.missing }

-- a hub over this one, wrapped so, before it was started
abbrev pub unframed : {H : Type 0} → Wrapping → H → Unframed H
unframed w h = record { inner = h; wrapping = w; slots = None; missing = 0 }

-- the server goes over a hub that wraps these sides of this one, which is left as that hub leaves it
abbrev pub ServesUnframed : {H : Type 0} → Sides → (H → Meaning → Type 0) → (H → Counts) → Serving → Start → H → H → Streams → Streams → Ending → Type 0
ServesUnframed {H} sides tells counts s start h h' a b ending =
    (u : Unframed H) × (u.inner ≡ h') × (u.wrapping ≡ wrapping_by sides s)
    × ServesAll (unframed_tells tells) (unframed_counts counts) s start (unframed (wrapping_by sides s) h) u a b ending

abbrev pub ServesBySides : {H : Type 0} → Option Sides → (H → Meaning → Type 0) → (H → Counts) → Serving → Start → H → H → Streams → Streams → Ending → Type 0
ServesBySides None tells counts = ServesAll tells counts
ServesBySides (Some sides) tells counts = ServesUnframed sides tells counts

-- the server goes over the hub as its words wrap it
abbrev pub ServesPeers : {H : Type 0} → (H → Meaning → Type 0) → (H → Counts) → Serving → Start → H → H → Streams → Streams → Ending → Type 0
ServesPeers tells counts s = ServesBySides s.unframed tells counts s

-- ---- the same by what hubs tell of themselves

abbrev pub ServesSides : {H : Type 0} → Hub H → Sides → Serving → Start → H → H → Streams → Streams → Ending → Type 0
ServesSides hubs sides = ServesUnframed sides hubs.tells hubs.counts

abbrev pub ServesOver : {H : Type 0} → Hub H → Serving → Start → H → H → Streams → Streams → Ending → Type 0
ServesOver hubs = ServesPeers hubs.tells hubs.counts

-- over a hub that wraps one of these
abbrev pub ServesWrapped : {H : Type 0} → Hub H → Serving → Start → UnframedHub H → UnframedHub H → Streams → Streams → Ending → Type 0
ServesWrapped hubs s start hub hub' = ServesAll (unframed_tells hubs.tells) (unframed_counts hubs.counts) s start (seen hub) (seen hub')
