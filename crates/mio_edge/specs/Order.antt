-- In which order the sessions of a table have their turns.
use Rattle.std.specs.Prelude.{◌≡◌, ◌≢◌, ◌⊎◌, ℕ, List, [], ◌∷◌, ◌++◌, Option, None, Some}
use Rattle.std.specs.List.{slice_get}
use Rattle.mio_edge.specs.Wire.{Wire}
use Rattle.mio_edge.specs.Tables.{World, TableTells}
use Rattle.mio_edge.specs.Turns.{Has, IsNumberAt}
use Rattle.mio_edge.specs.declared.queue.Queue.{Queue}
use Rattle.mio_edge.specs.declared.table.Entry.{Entry}
use Rattle.mio_edge.specs.declared.table.Table.{Table}

-- some places have come last into a queue
pub record Grows (a b : Queue) : Type 0 where
  pub more : List ℕ
  pub items : b.places.items ≡ a.places.items ++ more

-- The places of those that are ready and of those that wait behind them have become others: those of `front` have had their
-- turns, the first ones. What is news stands behind those that were ready. Those that waited wait there still, and more of them.
pub record WaitsStill (front news more ready behind ready' behind' : List ℕ) : Type 0 where
  pub line : ready ++ news ≡ front ++ ready'
  pub waits : behind' ≡ behind ++ more

-- The same where those that waited have come back: they stand behind the news, and more behind them.
pub record HasComeBack (front news more ready behind ready' : List ℕ) : Type 0 where
  pub line : ready ++ (news ++ (behind ++ more)) ≡ front ++ ready'

abbrev pub LineMoves : (front ready behind ready' behind' : List ℕ) → Type 0
LineMoves front ready behind ready' behind' =
    (news : List ℕ) × (more : List ℕ) × (WaitsStill front news more ready behind ready' behind' ⊎ HasComeBack front news more ready behind ready')

-- the sessions that are to have a turn have moved up, and those of `front` had theirs: no one has overtaken another
abbrev pub MovesUp : {S : Type 0} → List ℕ → Table S → Table S → Type 0
MovesUp front a b = LineMoves front a.ready.places.items a.behind.places.items b.ready.places.items b.behind.places.items

-- no session of these entries, which are those of the open ones, stands at these places
pub record AreClosed (places : List ℕ) (entries : List Entry) : Type 0 where
  pub none : (place at : ℕ) (e : Entry) → Has places place → slice_get entries at ≡ Some e → e.place ≢ place

-- they have moved up, and those of `front`, which had theirs, aren't open; the same sessions are open
pub record MovesOn {S : Type 0} (front : List ℕ) (a b : Table S) : Type 0 where
  pub line : MovesUp front a b
  pub closed : AreClosed front a.entries.items
  pub entries : b.entries ≡ a.entries

-- the same, and then session k, which stands at this place, has its turn
pub record NamesNext {S : Type 0} (front : List ℕ) (place k : ℕ) (a b : Table S) : Type 0 where
  pub line : MovesUp (front ++ place ∷ []) a b
  pub closed : AreClosed front a.entries.items
  pub entries : b.entries ≡ a.entries
  pub number : IsNumberAt b.sessions place k

-- the first of those that are to have a turn and are open is the one that is named, if one is
abbrev pub InTurn : {S : Type 0} → Option ℕ → Table S → Table S → Type 0
InTurn None a b = (front : List ℕ) × MovesOn front a b
InTurn (Some k) a b = (front : List ℕ) × (place : ℕ) × NamesNext front place k a b

-- the same where the table tells its sessions
abbrev pub TurnsIfTold : {S : Type 0} → (S → Wire → Type 0) → Option ℕ → Table S → Table S → Type 0
TurnsIfTold tells named a b = (world : World) → TableTells tells a world → InTurn named a b

-- the same sessions are to have a turn, in the same order, and the same are open
pub record SameTurns {S : Type 0} (a b : Table S) : Type 0 where
  pub ready : b.ready ≡ a.ready
  pub behind : b.behind ≡ a.behind
  pub entries : b.entries ≡ a.entries

-- the same sessions are ready, in the same order, and some may have come last among those that wait behind them
pub record JoinsBehind {S : Type 0} (a b : Table S) : Type 0 where
  pub ready : b.ready ≡ a.ready
  pub behind : Grows a.behind b.behind
