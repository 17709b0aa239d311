-- The queues of a table: which sessions are to have a turn, and in which order.
use Rattle.std.specs.Prelude.{◌≡◌, ℕ, ◌+◌, ◌<◌, ◌≤◌, ◌⊎◌, ⊤, List, [], ◌∷◌, ◌++◌, length, true, false, Option, None, Some}
use Rattle.std.specs.VecDeque.{deque_len, deque_capacity}
use Rattle.slab.specs.Slab.{Slab, get, slab_len}
use Rattle.mio_edge.specs.declared.queue.Queue.{Queue}
use Rattle.mio_edge.specs.declared.session.Session.{Session}
use Rattle.mio_edge.specs.declared.table.Table.{Table}

-- one more place fits into a queue
abbrev pub HasRoom : Queue → Type 0
HasRoom queue = deque_len queue.places < deque_capacity queue.places

-- the place stands last in the queue
pub record Pushes (place : ℕ) (a b : Queue) : Type 0 where
  pub items : b.places.items ≡ a.places.items ++ place ∷ []
  pub room : deque_capacity b.places ≡ deque_capacity a.places

-- a number stands in a list
abbrev pub Has : List ℕ → ℕ → Type 0
Has [] x = ⊥
Has (y ∷ ys) x = (y ≡ x) ⊎ Has ys x

-- no number stands in it twice
abbrev pub AreApart : List ℕ → Type 0
AreApart [] = ⊤
AreApart (x ∷ xs) = (Has xs x → ⊥) × AreApart xs

-- the session at this place is to have a turn
abbrev pub IsQueuedAt : {S : Type 0} → Slab (Session S) → ℕ → Type 0
IsQueuedAt {S} sessions place = (session : Session S) × (get sessions place ≡ Some session) × (session.is_queued ≡ true)

-- the session at this place isn't open and is to have no turn
abbrev pub IsIdleAt : {S : Type 0} → Slab (Session S) → ℕ → Type 0
IsIdleAt {S} sessions place = (session : Session S) × (get sessions place ≡ Some session) × (session.is_open ≡ false) × (session.is_queued ≡ false)

-- The sessions that are to have a turn are those of the places in `turns`, each once; one that is to be sent stands in
-- `written`. No place is beyond the room.
pub record Stands {S : Type 0} (sessions : Slab (Session S)) (turns written : List ℕ) (room : ℕ) : Type 0 where
  pub queued : (place : ℕ) (session : Session S) → get sessions place ≡ Some session → session.is_queued ≡ true → Has turns place
  pub marked : (place : ℕ) → Has turns place → IsQueuedAt sessions place
  pub apart : AreApart turns
  pub noted : (place : ℕ) (session : Session S) → get sessions place ≡ Some session → session.is_written ≡ true → Has written place
  pub below : (place : ℕ) (session : Session S) → get sessions place ≡ Some session → place < room

-- the queues have room for all sessions, and the slab for so many more
pub record QueuesStand {S : Type 0} (sessions : Slab (Session S)) (ready behind written : Queue) (spare : ℕ) : Type 0 where
  pub stands : Stands sessions (ready.places.items ++ behind.places.items) written.places.items sessions.capacity
  pub ready_room : sessions.capacity ≤ deque_capacity ready.places
  pub behind_room : sessions.capacity ≤ deque_capacity behind.places
  pub fits : slab_len sessions + spare ≤ sessions.capacity

-- the queues of a table, in which its sessions stand; each session that there isn't has its ports
abbrev pub TableStands : {S : Type 0} → Table S → Type 0
TableStands table = QueuesStand table.sessions table.ready table.behind table.written (length table.spare.items)

-- the session at this place has this number
abbrev pub IsNumberAt : {S : Type 0} → Slab (Session S) → ℕ → ℕ → Type 0
IsNumberAt {S} sessions place k = (session : Session S) × (get sessions place ≡ Some session) × (session.number ≡ k)

-- The sessions that are to have a turn are what they were but for the first ones, which had it: the last of them is the one
-- that is named, if one is.
abbrev pub TakesFirst : {S : Type 0} → Option ℕ → Table S → Table S → Type 0
TakesFirst (Some k) a b =
    (front : List ℕ) × (place : ℕ) × (a.ready.places.items ≡ front ++ place ∷ b.ready.places.items) × IsNumberAt b.sessions place k
TakesFirst None a b = (front : List ℕ) × (a.ready.places.items ≡ front ++ b.ready.places.items)

-- the places of the sessions that are to have a turn, the first one first
abbrev pub turns_of : {S : Type 0} → Table S → List ℕ
turns_of table = table.ready.places.items ++ table.behind.places.items
