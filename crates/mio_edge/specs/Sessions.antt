-- What a session tells of its links, one a port.
use Rattle.std.specs.Prelude.{◌≡◌, ◌≢◌, ◌⊎◌, ⊤, ℕ, List, [], true, false, Option, None, Some}
use Rattle.std.specs.List.{slice_get}
use Rattle.gate_hub.specs.Meaning.{Link, new_link, unasked}
use Rattle.gate_hub.specs.declared.hub.LinkGot.{LinkGot}
use Rattle.gate_hub.specs.declared.hub.LinkGot.TheVariants as got
use Rattle.gate_hub.specs.declared.hub.LinkPut.{LinkPut}
use Rattle.gate_hub.specs.declared.hub.LinkPut.TheVariants as put
use Rattle.mio_edge.specs.Wire.{Wire, Stays}
use Rattle.mio_edge.specs.Moving.{PortTells, CanRead, CanWrite, IsUnsent, IsCalm}
use Rattle.mio_edge.specs.declared.port.Port.{Port}
use Rattle.mio_edge.specs.declared.port.Receiving.TheVariants as receiving
use Rattle.mio_edge.specs.declared.session.Session.{Session}

-- the links of a session, by their ports
abbrev pub Links : Type 0
Links = ℕ → Link

-- nothing goes over a port that there isn't
abbrev pub TellsAt : {S : Type 0} → (S → Wire → Type 0) → Option (Port S) → Link → Type 0
TellsAt tells None link = (link.received ≡ []) × (link.sent ≡ []) × (link.ended ≡ false)
TellsAt tells (Some port) link = PortTells tells port link

abbrev pub PortsTell : {S : Type 0} → (S → Wire → Type 0) → List (Port S) → Links → Type 0
PortsTell tells ports links = (p : ℕ) → TellsAt tells (slice_get ports p) (links p)

-- since its session was named a caller was answered that the port isn't ready, and it may be by now
abbrev pub IsAwaited : {S : Type 0} → Option (Port S) → Link → Type 0
IsAwaited None link = ⊥
IsAwaited (Some port) link = ((link.last_read ≡ Some got.NotReady) × CanRead port) ⊎ ((link.last_write ≡ Some put.NotReady) × CanWrite port)

abbrev pub IsUnsentAt : {S : Type 0} → Option (Port S) → Type 0
IsUnsentAt None = ⊥
IsUnsentAt (Some port) = IsUnsent port

-- a caller is named to where it waits for what is there by now
abbrev pub AreAwaited : {S : Type 0} → Session S → Links → Type 0
AreAwaited session links = (p : ℕ) → IsAwaited (slice_get session.ports.items p) (links p) → session.is_queued ≡ true

-- a session whose writes are to be sent
abbrev pub TellsUnsent : {S : Type 0} → (S → Wire → Type 0) → Session S → Links → Type 0
TellsUnsent tells session links = PortsTell tells session.ports.items links × AreAwaited session links

-- What a session tells: its links. It is to have a turn where a caller waits for what is there by now, and is to be sent, or
-- to have a turn, where bytes wait though their stream may take them.
pub record SessionTells {S : Type 0} (tells : S → Wire → Type 0) (session : Session S) (links : Links) : Type 0 where
  pub ports : PortsTell tells session.ports.items links
  pub awaited : AreAwaited session links
  pub unsent : (p : ℕ) → IsUnsentAt (slice_get session.ports.items p) → (session.is_queued ≡ true) ⊎ (session.is_written ≡ true)

-- over ports of which nothing was used
abbrev pub new_links : Links
new_links = λ p. new_link

-- the links of a session that was named: nothing was asked of them since
abbrev pub named_links : Links → Links
named_links links = λ p. unasked (links p)

-- the link of this port has changed so, and no other
pub record AtPort (port : ℕ) (Step : Link → Link → Type 0) (a b : Links) : Type 0 where
  pub there : Step (a port) (b port)
  pub others : (p : ℕ) → p ≢ port → b p ≡ a p

-- the same session, as open as before
pub record IsSame {S : Type 0} (a b : Session S) : Type 0 where
  pub number : b.number ≡ a.number
  pub is_open : b.is_open ≡ a.is_open

-- the same session, in the same queues
pub record IsStill {S : Type 0} (a b : Session S) : Type 0 where
  pub number : b.number ≡ a.number
  pub is_open : b.is_open ≡ a.is_open
  pub queued : b.is_queued ≡ a.is_queued
  pub written : b.is_written ≡ a.is_written

-- at each place the ports of two lists have this to do with each other
abbrev pub AtEach : {S : Type 0} → (Port S → Port S → Type 0) → Option (Port S) → Option (Port S) → Type 0
AtEach R None None = ⊤
AtEach R None (Some y) = ⊥
AtEach R (Some x) None = ⊥
AtEach R (Some x) (Some y) = R x y

abbrev pub PortsAre : {S : Type 0} → (Port S → Port S → Type 0) → List (Port S) → List (Port S) → Type 0
PortsAre R a b = (p : ℕ) → AtEach R (slice_get a p) (slice_get b p)

-- this holds of each port of a list
abbrev pub EachPort : {S : Type 0} → (Port S → Type 0) → List (Port S) → Type 0
EachPort {S} P ports = (p : ℕ) (port : Port S) → slice_get ports p ≡ Some port → P port

-- a port tells what it told, and nothing can be done there that couldn't before
pub record Calms {S : Type 0} (tells : S → Wire → Type 0) (a b : Port S) : Type 0 where
  pub keeps : Stays (PortTells tells a) (PortTells tells b)
  pub calm : IsCalm a b

-- the same, and nothing waits that its stream may take; where nothing did the port is the same
pub record Flushes {S : Type 0} (tells : S → Wire → Type 0) (a b : Port S) : Type 0 where
  pub keeps : Stays (PortTells tells a) (PortTells tells b)
  pub calm : IsCalm a b
  pub sent : IsUnsent b → ⊥
  pub still : (IsUnsent a → ⊥) → b ≡ a

-- where a session that moved all that it may is to have a turn, it may answer that it isn't ready
abbrev pub MayWait : {S : Type 0} → Session S → Type 0
MayWait session = session.allowance ≡ 0 → session.is_queued ≡ true

-- and where it is to be sent, it may take bytes
abbrev pub MayWrite : {S : Type 0} → Session S → Type 0
MayWrite session = MayWait session × ((session.is_queued ≡ true) ⊎ (session.is_written ≡ true))

-- a session that moved all that it may in its turn answers that it isn't ready, unless the port's end was read
abbrev pub WaitsToRead : {S : Type 0} → Session S → ℕ → LinkGot → Type 0
WaitsToRead {S} session port answer =
    (x : Port S) → session.allowance ≡ 0 → slice_get session.ports.items port ≡ Some x → x.receiving ≢ receiving.Ended → answer ≡ got.NotReady

abbrev pub WaitsToWrite : {S : Type 0} → Session S → ℕ → LinkPut → Type 0
WaitsToWrite {S} session port answer = (x : Port S) → session.allowance ≡ 0 → slice_get session.ports.items port ≡ Some x → answer ≡ put.NotReady

-- how many bytes a call moved
abbrev pub count_read : LinkGot → ℕ
count_read (got.Bytes n) = n
count_read got.NotReady = 0
count_read got.End = 0
count_read got.Failed = 0

abbrev pub count_written : LinkPut → ℕ
count_written (put.Took n) = n
count_written put.NotReady = 0
count_written put.Failed = 0
