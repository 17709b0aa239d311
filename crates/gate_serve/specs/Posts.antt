-- The hub of a server as its words wrap it, where the clients may send each message as the body of a POST.
use Rattle.std.specs.Prelude.{◌≡◌, ℕ, Option, None, Bool, false}
use Rattle.gate_hub.specs.Meaning.{Meaning}
use Rattle.gate_hub.specs.Hubs.{Counts}
use Rattle.gate_hub.specs.declared.hub.Hub.{Ghosts as Hub}
use Rattle.http_front.specs.Counting.{with_own}
use Rattle.http_front.specs.Fronts.{Reading}
use Rattle.http_front.specs.Slots.{Open}
use Rattle.http_front.specs.Telling.{TellsOver}
use Rattle.http_front.specs.declared.hub.HttpHub.{HttpHub}
use Rattle.gate_words.specs.declared.peers.Front.{Front}
use Rattle.gate_words.specs.declared.peers.Front.TheVariants as fronts
use Rattle.gate_words.specs.declared.serving.Serving.{Serving}
use Rattle.gate_start.specs.Streams.{Streams}
use Rattle.gate_start.specs.declared.start.Start.{Start}
use Rattle.gate_start.specs.declared.status.Ending.{Ending}
use Rattle.gate_serve.specs.Peers.{ServesPeers}

-- how the bodies of the clients are read
abbrev pub reading_by : Serving → Start → Reading
reading_by s start = record { declared = start.schema; service = start.service; client = s.client; limit = s.limit }

-- a hub over another one whose clients send POSTs: which one, how their bodies are read, what it holds of open sessions, whether it
-- has stopped, and what it counted besides
pub record Posting (H : Type 0) : Type 0 where
  pub inner : H
  pub rules : Reading
  pub slots : Option Open
  pub stopped : Bool
  pub strays : ℕ
  pub waits : ℕ

abbrev pub posting_tells : {H : Type 0} → (H → Meaning → Type 0) → Posting H → Meaning → Type 0
posting_tells tells p = TellsOver (tells p.inner) p.rules p.slots p.stopped

abbrev pub posting_counts : {H : Type 0} → (H → Counts) → Posting H → Counts
posting_counts counts p = with_own (counts p.inner) p.strays p.waits

-- what a hub whose clients send POSTs is seen as
abbrev pub posted : {H : Type 0} → HttpHub H → Posting H
posted p = record { inner = p.inner.now; rules = p.rules; slots = p.slots; stopped = p.stopped; strays = p.strays; waits = p.waits }

-- a hub over this one, whose clients' bodies are read so, before it was started
abbrev pub posting : {H : Type 0} → Reading → H → Posting H
posting rules h = record { inner = h; rules = rules; slots = None; stopped = false; strays = 0; waits = 0 }

-- the server goes over a hub whose clients send POSTs to this one, which is left as that hub leaves it
abbrev pub ServesPosts : {H : Type 0} → (H → Meaning → Type 0) → (H → Counts) → Serving → Start → H → H → Streams → Streams → Ending → Type 0
ServesPosts {H} tells counts s start h h' a b ending =
    (p : Posting H) × (p.inner ≡ h') × (p.rules ≡ reading_by s start)
    × ServesPeers (posting_tells tells) (posting_counts counts) s start (posting (reading_by s start) h) p a b ending

abbrev pub ServesByFront : {H : Type 0} → Front → (H → Meaning → Type 0) → (H → Counts) → Serving → Start → H → H → Streams → Streams → Ending → Type 0
ServesByFront fronts.Framed tells counts = ServesPeers tells counts
ServesByFront fronts.Http tells counts = ServesPosts tells counts

-- the server goes over the hub as its words wrap it
abbrev pub ServesByWords : {H : Type 0} → Hub H → Serving → Start → H → H → Streams → Streams → Ending → Type 0
ServesByWords hubs s = ServesByFront s.front hubs.tells hubs.counts s

-- ---- the same of the parts, by what hubs tell of themselves

abbrev pub ServesByPosts : {H : Type 0} → Hub H → Serving → Start → H → H → Streams → Streams → Ending → Type 0
ServesByPosts hubs = ServesPosts hubs.tells hubs.counts

-- over a hub whose clients send POSTs to one of these
abbrev pub ServesPosted : {H : Type 0} → Hub H → Serving → Start → HttpHub H → HttpHub H → Streams → Streams → Ending → Type 0
ServesPosted hubs s start hub hub' = ServesPeers (posting_tells hubs.tells) (posting_counts hubs.counts) s start (posted hub) (posted hub')
