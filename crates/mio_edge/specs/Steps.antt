-- Which sessions of a table have had their turns, and that each closed one has gone on with its end in its own.
use Rattle.std.specs.Prelude.{◌≡◌, ◌⊎◌, ℕ, List, ◌++◌, None}
use Rattle.slab.specs.Slab.{Slab, get}
use Rattle.mio_edge.specs.Tables.{IsClosedAt}
use Rattle.mio_edge.specs.Closing.{HoldsFlushed}
use Rattle.mio_edge.specs.Turns.{Has}
use Rattle.mio_edge.specs.declared.session.Session.{Session}
use Rattle.mio_edge.specs.declared.table.Table.{Table}

-- The sessions at the places of `front`, which were the first ones that are to have a turn, have had it. One that was closed holds no
-- bytes that its streams may take: it has sent them, or was let go. No other session has changed.
pub record HadTurns {S : Type 0} (front : List ℕ) (a b : Table S) : Type 0 where
  pub taken : a.ready.places.items ≡ front ++ b.ready.places.items
  pub sent : (place : ℕ) → Has front place → IsClosedAt a.sessions place → HoldsFlushed b.sessions place
  pub shut : (place : ℕ) → IsClosedAt a.sessions place → IsClosedAt b.sessions place ⊎ (get b.sessions place ≡ None)
  pub free : (place : ℕ) → get a.sessions place ≡ None → get b.sessions place ≡ None
  pub others : (place : ℕ) → (Has front place → ⊥) → get b.sessions place ≡ get a.sessions place

-- the first ones have
abbrev pub TakesTurns : {S : Type 0} → Table S → Table S → Type 0
TakesTurns a b = (front : List ℕ) × HadTurns front a b

-- the session at this place, if it was closed, is closed still or was let go; where none stood none stands
pub record StaysShut {S : Type 0} (place : ℕ) (a b : Slab (Session S)) : Type 0 where
  pub shut : IsClosedAt a place → IsClosedAt b place ⊎ (get b place ≡ None)
  pub free : get a place ≡ None → get b place ≡ None
