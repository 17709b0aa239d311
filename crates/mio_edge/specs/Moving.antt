-- What moves between a stream, the buffers of its port and a caller.
use Rattle.std.specs.Prelude.{◌≡◌, ◌≢◌, ℕ, ◌<◌, ◌≤◌, ◌⊎◌, ⊤, List, [], ◌++◌, length, take, drop, Bool, true, false, ◌||◌, if◌then◌else◌, Option, None, Some, IsSome}
use Rattle.gate_io.specs.Buffer.{Buffer}
use Rattle.gate_hub.specs.Meaning.{Link}
use Rattle.gate_hub.specs.declared.hub.LinkGot.{LinkGot}
use Rattle.gate_hub.specs.declared.hub.LinkGot.TheVariants as got
use Rattle.gate_hub.specs.declared.hub.LinkPut.{LinkPut}
use Rattle.gate_hub.specs.declared.hub.LinkPut.TheVariants as put
use Rattle.mio_edge.specs.Wire.{Wire}
use Rattle.mio_edge.specs.declared.network.Readiness.{Readiness}
use Rattle.mio_edge.specs.declared.port.Port.{Port}
use Rattle.mio_edge.specs.declared.port.Receiving.{Receiving}
use Rattle.mio_edge.specs.declared.port.Receiving.TheVariants as receiving
use Rattle.mio_edge.specs.declared.port.Sending.{Sending}
use Rattle.mio_edge.specs.declared.port.Sending.TheVariants as sending

-- of a read into a buffer that was empty
abbrev pub Receives : LinkGot → Buffer → Buffer → Type 0
Receives (got.Bytes n) a b = (0 < n) × (length b.bytes ≡ n) × (b.room ≡ a.room)
Receives got.NotReady a b = (b.bytes ≡ []) × (b.room ≡ a.room)
Receives got.End a b = (b.bytes ≡ []) × (b.room ≡ a.room)
Receives got.Failed a b = (b.bytes ≡ []) × (b.room ≡ a.room)

-- of a write: what was taken is gone from the front
abbrev pub Sends : LinkPut → Buffer → Buffer → Type 0
Sends (put.Took n) a b = b ≡ record a { bytes = drop n a.bytes }
Sends put.NotReady a b = b ≡ a
Sends put.Failed a b = b ≡ a

-- what is taken stands behind what is held
abbrev pub TakesIn : LinkPut → List ℕ → Buffer → Buffer → Type 0
TakesIn (put.Took n) from a b = b ≡ record a { bytes = a.bytes ++ take n from }
TakesIn put.NotReady from a b = b ≡ a
TakesIn put.Failed from a b = ⊥

-- The link of a port over a stream that tells this wire: it received what the stream did but for what is held, and was sent
-- what the stream was and what waits. It has ended only where the stream has, and all that came before that was handed out. A
-- call failed only where the stream did. The port is held to be not ready only where the stream isn't, and to have told its end only
-- where the stream did.
pub record Joins {S : Type 0} (wire : Wire) (port : Port S) (link : Link) : Type 0 where
  pub received : wire.received ≡ link.received ++ port.incoming.bytes
  pub sent : link.sent ≡ wire.sent ++ port.outgoing.bytes
  pub ended : link.ended ≡ true → port.receiving ≡ receiving.Ended
  pub over : port.receiving ≡ receiving.Ended → (wire.ended ≡ true) × (port.incoming.bytes ≡ [])
  pub unread : port.receiving ≡ receiving.Lost → wire.failed ≡ true
  pub unsent : port.sending ≡ sending.Lost → wire.failed ≡ true
  pub failed_read : link.last_read ≡ Some got.Failed → wire.failed ≡ true
  pub failed_write : link.last_write ≡ Some put.Failed → wire.failed ≡ true
  pub idle : port.receiving ≡ receiving.Idle → wire.readable ≡ false
  pub blocked : port.sending ≡ sending.Blocked → wire.writable ≡ false
  pub begun : port.sending ≢ sending.Deferred
  pub shut : port.sending ≡ sending.Shut → wire.shut ≡ true

-- over a port that has no stream nothing went
pub record IsUntouched {S : Type 0} (port : Port S) (link : Link) : Type 0 where
  pub received : link.received ≡ []
  pub sent : link.sent ≡ []
  pub ended : link.ended ≡ false
  pub incoming : port.incoming.bytes ≡ []
  pub outgoing : port.outgoing.bytes ≡ []

abbrev pub PortTellsBy : {S : Type 0} → (S → Wire → Type 0) → Option S → Port S → Link → Type 0
PortTellsBy tells None port link = IsUntouched port link
PortTellsBy tells (Some stream) port link = (wire : Wire) × tells stream wire × Joins wire port link

-- what a port tells of its link, where its stream tells
abbrev pub PortTells : {S : Type 0} → (S → Wire → Type 0) → Port S → Link → Type 0
PortTells tells port link = PortTellsBy tells port.stream port link

-- a port whose stream tells that it is readable, or writable, as far as that was reported
abbrev pub HearsBy : {S : Type 0} → (S → Wire → Type 0) → Option S → Bool → Bool → Port S → Link → Type 0
HearsBy tells None readable writable port link = IsUntouched port link
HearsBy tells (Some stream) readable writable port link =
    (wire : Wire) × tells stream wire × Joins wire port link × (readable ≡ true → wire.readable ≡ true) × (writable ≡ true → wire.writable ≡ true)

-- so a port tells after what was reported of it
abbrev pub PortHears : {S : Type 0} → (S → Wire → Type 0) → Readiness → Port S → Link → Type 0
PortHears tells news port link = HearsBy tells port.stream news.is_readable news.is_writable port link

-- the stream's end was read
abbrev pub IsOver : {S : Type 0} → Port S → Type 0
IsOver port = IsSome port.stream × (port.receiving ≡ receiving.Ended)

-- something may have come that wasn't read: bytes, the peer's end or a failure
abbrev pub may_have : Receiving → Bool
may_have receiving.Idle = false
may_have receiving.Ready = true
may_have receiving.Closing = true
may_have receiving.Ended = false
may_have receiving.Lost = false

-- a read may find something, as far as is known
abbrev pub CanRead : {S : Type 0} → Port S → Type 0
CanRead port = IsSome port.stream × (0 < port.incoming.room) × (may_have port.receiving ≡ true)

-- a write may be taken, as far as is known
abbrev pub CanWrite : {S : Type 0} → Port S → Type 0
CanWrite port = IsSome port.stream × (0 < port.outgoing.room) × (port.sending ≡ sending.Ready)

-- bytes that were written wait though the stream may take them
abbrev pub IsUnsent : {S : Type 0} → Port S → Type 0
IsUnsent port = IsSome port.stream × (0 < length port.outgoing.bytes) × (port.sending ≡ sending.Ready)

-- no more room is left for what is written
abbrev pub IsFull : {S : Type 0} → Port S → Type 0
IsFull port = port.outgoing.room ≤ length port.outgoing.bytes

-- nothing can be done at a port that couldn't before
pub record IsCalm {S : Type 0} (a b : Port S) : Type 0 where
  pub reads : CanRead b → CanRead a
  pub writes : CanWrite b → CanWrite a
  pub sends : IsUnsent b → IsUnsent a

-- there is no stream, or its read failed
abbrev pub HasFailed : {S : Type 0} → Port S → Type 0
HasFailed port = (port.stream ≡ None) ⊎ (port.receiving ≡ receiving.Lost)

-- what a read of a port's stream finds; all that came before stands in the buffer
abbrev pub Finds : {S : Type 0} → LinkGot → Port S → Type 0
Finds (got.Bytes n) port = 0 < length port.incoming.bytes
Finds got.NotReady port = (IsOver port → ⊥) × (CanRead port → ⊥)
Finds got.End port = IsOver port
Finds got.Failed port = (IsOver port → ⊥) × HasFailed port

-- the readiness to receive once something failed: an end that was read stays read
abbrev pub after_failure : Receiving → Receiving
after_failure receiving.Idle = receiving.Lost
after_failure receiving.Ready = receiving.Lost
after_failure receiving.Closing = receiving.Lost
after_failure receiving.Ended = receiving.Ended
after_failure receiving.Lost = receiving.Lost

-- what is noted of a read
abbrev pub Notes : {S : Type 0} → LinkGot → Port S → Port S → Type 0
Notes (got.Bytes n) a b =
    (b ≡ record a { receiving = b.receiving }) × (((b.receiving ≡ receiving.Idle) × (length a.incoming.bytes < a.incoming.room)) ⊎ (b.receiving ≡ a.receiving))
Notes got.NotReady a b = b ≡ record a { receiving = receiving.Idle }
Notes got.End a b = b ≡ record a { receiving = receiving.Ended }
Notes got.Failed a b = b ≡ record a { receiving = after_failure a.receiving; sending = sending.Lost }

-- nothing waits to be sent, or no stream takes it now
abbrev pub HasSent : {S : Type 0} → Port S → Type 0
HasSent port = (port.outgoing.bytes ≡ []) ⊎ ((port.stream ≡ None) ⊎ (port.sending ≢ sending.Ready))

-- a stream is begun, and may take bytes or doesn't so far
abbrev pub IsBegun : Sending → Type 0
IsBegun sending.Deferred = ⊥
IsBegun sending.Blocked = ⊤
IsBegun sending.Ready = ⊤
IsBegun sending.Shut = ⊥
IsBegun sending.Lost = ⊥

-- what is known of the bytes that come once this was reported; a failure shows at the next read
abbrev pub after_news : Readiness → Receiving → Receiving
after_news news receiving.Idle =
    if news.is_closing || news.has_failed then receiving.Closing else (if news.is_readable then receiving.Ready else receiving.Idle)
after_news news receiving.Ready = if news.is_closing || news.has_failed then receiving.Closing else receiving.Ready
after_news news receiving.Closing = receiving.Closing
after_news news receiving.Ended = receiving.Ended
after_news news receiving.Lost = receiving.Lost

-- what is known of the bytes that go once this was reported; a failure shows at the next write
abbrev pub then_sending : Readiness → Sending → Sending
then_sending news sending.Deferred = sending.Deferred
then_sending news sending.Blocked = if news.is_writable || news.has_failed then sending.Ready else sending.Blocked
then_sending news sending.Ready = sending.Ready
then_sending news sending.Shut = sending.Shut
then_sending news sending.Lost = sending.Lost

-- something may be read by now that couldn't be before
abbrev pub begins_receiving : Readiness → Receiving → Bool
begins_receiving news receiving.Idle = news.is_readable || (news.is_closing || news.has_failed)
begins_receiving news receiving.Ready = false
begins_receiving news receiving.Closing = false
begins_receiving news receiving.Ended = false
begins_receiving news receiving.Lost = false

-- something may be written by now that couldn't be before
abbrev pub begins_sending : Readiness → Sending → Bool
begins_sending news sending.Deferred = false
begins_sending news sending.Blocked = news.is_writable || news.has_failed
begins_sending news sending.Ready = false
begins_sending news sending.Shut = false
begins_sending news sending.Lost = false

-- whether a report is news to a caller that waits
abbrev pub is_news : {S : Type 0} → Readiness → Port S → Bool
is_news news port = news.has_failed || (begins_receiving news port.receiving || begins_sending news port.sending)

-- a port once this was reported of it
abbrev pub noted : {S : Type 0} → Readiness → Port S → Port S
noted news port = record port { receiving = after_news news port.receiving; sending = then_sending news port.sending }
