-- What a table tells of the sessions that are open.
use Rattle.std.specs.Prelude.{◌≡◌, ◌≢◌, ⊤, ℕ, ◌+◌, ◌<◌, ◌≤◌, ◌/◌, ◌%◌, ◌==◌, List, [], ◌∷◌, length, true, false, Option, None, Some, IsSome, IfSome, if◌then◌else◌}
use Rattle.std.specs.List.{slice_get}
use Rattle.std.specs.Global.{Vec}
use Rattle.slab.specs.Slab.{Slab, get, slab_len}
use Rattle.gate_hub.specs.Meaning.{Link}
use Rattle.mio_edge.specs.Wire.{Wire, Stays}
use Rattle.mio_edge.specs.Moving.{noted, is_news}
use Rattle.mio_edge.specs.Sessions.{Links, SessionTells, PortsTell, AtPort, new_links, named_links}
use Rattle.mio_edge.specs.Turns.{IsIdleAt, IsQueuedAt, TableStands}
use Rattle.mio_edge.specs.declared.network.Readiness.{Readiness}
use Rattle.mio_edge.specs.declared.port.Port.{Port}
use Rattle.mio_edge.specs.declared.session.Session.{Session}
use Rattle.mio_edge.specs.declared.table.Entry.{Entry}
use Rattle.mio_edge.specs.declared.table.Table.{Table}

-- the links of each session that is open, by its number
abbrev pub World : Type 0
World = ℕ → Option Links

-- where no session is open
abbrev pub empty_world : World
empty_world = λ k. None

-- the same but for one number
abbrev pub with_links : ℕ → Option Links → World → World
with_links k links world = λ j. if j == k then links else world j

-- the place of the first entry of this number
abbrev pub place_of : List Entry → ℕ → Option ℕ
place_of [] k = None
place_of (entry ∷ entries) k = if entry.number == k then Some entry.place else place_of entries k

-- each number is at least this one, and above those before it
abbrev pub RisesFrom : ℕ → List Entry → Type 0
RisesFrom least [] = ⊤
RisesFrom least (entry ∷ entries) = (least ≤ entry.number) × RisesFrom (entry.number + 1) entries

-- these links are those of the session
abbrev pub TellsLinks : {S : Type 0} → (S → Wire → Type 0) → Session S → Option Links → Type 0
TellsLinks tells session None = ⊥
TellsLinks tells session (Some links) = SessionTells tells session links

-- the open session of this number stands at this place, and these are its links; there are none where no such session is open
abbrev pub TellsPlace : {S : Type 0} → (S → Wire → Type 0) → Slab (Session S) → ℕ → Option ℕ → Option Links → Type 0
TellsPlace tells sessions k None links = links ≡ None
TellsPlace {S} tells sessions k (Some place) links =
    (session : Session S) × (get sessions place ≡ Some session) × (session.number ≡ k) × (session.is_open ≡ true) × TellsLinks tells session links

-- the ports of a place that is free: nothing went over them
abbrev pub SpareTells : {S : Type 0} → (S → Wire → Type 0) → Option (Vec (Port S)) → Type 0
SpareTells tells None = ⊤
SpareTells tells (Some ports) = PortsTell tells ports.items new_links

-- this place holds a session that isn't open
abbrev pub IsClosedAt : {S : Type 0} → Slab (Session S) → ℕ → Type 0
IsClosedAt {S} sessions place = (session : Session S) × (get sessions place ≡ Some session) × (session.is_open ≡ false)

-- What these sessions tell, where `entries` has the numbers and places of the open ones and `places` those of the ones that
-- are closed: each open session is found by its number, at the one place where it stands, and nothing went over spare ports.
pub record Tells {S : Type 0} (tells : S → Wire → Type 0) (sessions : Slab (Session S)) (entries : List Entry) (places : List ℕ) (free : List (Vec (Port S))) (world : World) : Type 0 where
  pub told : (k : ℕ) → TellsPlace tells sessions k (place_of entries k) (world k)
  pub rising : RisesFrom 0 entries
  pub listed : (place : ℕ) (session : Session S) → get sessions place ≡ Some session → session.is_open ≡ true → place_of entries session.number ≡ Some place
  pub closed : (n place : ℕ) → slice_get places n ≡ Some place → IsClosedAt sessions place
  pub spare : (n : ℕ) → SpareTells tells (slice_get free n)

-- what a table tells: its open sessions. Its queues hold those that are to have a turn.
abbrev pub TableTells : {S : Type 0} → (S → Wire → Type 0) → Table S → World → Type 0
TableTells tells table world = Tells tells table.sessions table.entries.items table.closed.items table.spare.items world × TableStands table

-- a session that is at rest stays so, and what was told is told still
abbrev pub KeepsIdle : {S : Type 0} → (S → Wire → Type 0) → ℕ → Table S → Table S → Type 0
KeepsIdle tells place a b = IsIdleAt a.sessions place → IsIdleAt b.sessions place × Stays (TableTells tells a) (TableTells tells b)

-- the same where there is room for one session more
abbrev pub HasVacancy : {S : Type 0} → (S → Wire → Type 0) → Table S → World → Type 0
HasVacancy tells table world = TableTells tells table world × (slab_len table.sessions + (length table.spare.items + 1) ≤ table.sessions.capacity)

-- this entry stands there
abbrev pub IsEntry : {S : Type 0} → Table S → ℕ → Entry → Type 0
IsEntry table at entry = slice_get table.entries.items at ≡ Some entry

-- session k is prepared at this place: nothing went over it, and it is neither open nor closed
pub record IsPrepared {S : Type 0} (tells : S → Wire → Type 0) (table : Table S) (place k : ℕ) : Type 0 where
  pub session : Session S
  pub stands : get table.sessions place ≡ Some session
  pub number : session.number ≡ k
  pub shut : session.is_open ≡ false
  pub quiet : session.is_queued ≡ false
  pub links : SessionTells tells session new_links
  pub new : (n : ℕ) → slice_get table.closed.items n ≢ Some place

-- session k, which is open, has changed so at this port, and no other session
pub record AtSession (k port : ℕ) (Step : Link → Link → Type 0) (a b : World) : Type 0 where
  pub before : Links
  pub after : Links
  pub was : a k ≡ Some before
  pub now : b k ≡ Some after
  pub step : AtPort port Step before after
  pub others : (j : ℕ) → j ≢ k → b j ≡ a j

-- session k, which was open, is closed, and no other has changed
pub record Shuts (k : ℕ) (a b : World) : Type 0 where
  pub closed : b k ≡ None
  pub others : (j : ℕ) → j ≢ k → b j ≡ a j

-- session k is open, and nothing went over it
pub record Opens (k : ℕ) (a b : World) : Type 0 where
  pub here : b k ≡ Some new_links
  pub others : (j : ℕ) → j ≢ k → b j ≡ a j

-- session k, which is open, has its turn: nothing was asked of it since, and no other session has changed
pub record Names (k : ℕ) (a b : World) : Type 0 where
  pub links : Links
  pub was : a k ≡ Some links
  pub now : b k ≡ Some (named_links links)
  pub others : (j : ℕ) → j ≢ k → b j ≡ a j

-- the same where there may be no session that has a turn
abbrev pub NamesIfAny : Option ℕ → World → World → Type 0
NamesIfAny (Some k) a b = Names k a b
NamesIfAny None a b = b ≡ a

-- of a call at session k, which is open
abbrev pub MovesAt : ℕ → (World → Type 0) → (World → Type 0) → (World → World → Type 0) → Type 0
MovesAt k old new Step = (a : World) → old a → IsSome (a k) → ((b : World) × new b × Step a b)

-- session k is announced: its number is above those of all that are open
abbrev pub Announces : ℕ → (World → Type 0) → (World → Type 0) → Type 0
Announces k old new = (a : World) → old a → ((j : ℕ) → IsSome (a j) → j < k) → ((b : World) × new b × Opens k a b)

-- the table announces it
abbrev pub TableAnnounces : {S : Type 0} → (S → Wire → Type 0) → ℕ → Table S → Table S → Type 0
TableAnnounces tells k a b = Announces k (TableTells tells a) (TableTells tells b)

-- session k is prepared at the place, if there is one
abbrev pub IfPrepared : {S : Type 0} → (S → Wire → Type 0) → ℕ → Option ℕ → Table S → Type 0
IfPrepared tells k place table = IfSome place (λ p. IsPrepared tells table p k)

-- a session that isn't open, over whose ports nothing went
abbrev pub IsNew : {S : Type 0} → (S → Wire → Type 0) → Session S → Type 0
IsNew tells session = (session.is_open ≡ false) × SessionTells tells session new_links × (session.is_queued ≡ false) × (session.is_written ≡ false)

-- the port of the session has taken note of this
abbrev pub HasNoted : {S : Type 0} → Readiness → ℕ → Port S → Option (Session S) → Type 0
HasNoted news port x None = ⊥
HasNoted news port x (Some session) = slice_get session.ports.items port ≡ Some (noted news x)

-- What is reported of a port of the session at a place is noted there, and the session is to have a turn if that is news.
pub record NotesAt {S : Type 0} (tells : S → Wire → Type 0) (news : Readiness) (place port : ℕ) (a b : Table S) : Type 0 where
  pub notes : (s : Session S) (x : Port S) → get a.sessions place ≡ Some s → slice_get s.ports.items port ≡ Some x → HasNoted news port x (get b.sessions place)
  pub named : (s : Session S) (x : Port S) → get a.sessions place ≡ Some s → slice_get s.ports.items port ≡ Some x → is_news news x ≡ true → (world : World) → TableTells tells a world → IsQueuedAt b.sessions place

-- what is reported at a token: place and port are in it
abbrev pub NotesToken : {S : Type 0} → (S → Wire → Type 0) → ℕ → Readiness → Table S → Table S → Type 0
NotesToken tells token news a b = 0 < a.settings.width → NotesAt tells news (token / a.settings.width) (token % a.settings.width) a b
