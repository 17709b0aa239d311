-- The numbers of all sessions that stand at the places of a table lie below the next number.
use Rattle.std.specs.Prelude.{◌≡◌, ◌≢◌, ℕ, ◌<◌, Option, None, Some, IfSome}
use Rattle.slab.specs.Slab.{Slab, get}
use Rattle.mio_edge.specs.declared.session.Session.{Session}
use Rattle.mio_edge.specs.declared.listening.Listening.{Listening}

-- the numbers of the sessions at all places lie below this one
abbrev pub AreBelow : {S : Type 0} → ℕ → Slab (Session S) → Type 0
AreBelow {S} next sessions = (place : ℕ) (session : Session S) → get sessions place ≡ Some session → session.number < next

-- they lie below each number below which they lay: no number has come that is greater than all
abbrev pub StayBelow : {S : Type 0} → Slab (Session S) → Slab (Session S) → Type 0
StayBelow a b = (next : ℕ) → AreBelow next a → AreBelow next b

-- the same where session k may have come
abbrev pub ComesBelow : {S : Type 0} → ℕ → Slab (Session S) → Slab (Session S) → Type 0
ComesBelow k a b = (next : ℕ) → k < next → AreBelow next a → AreBelow next b

-- the same of the sessions at all places but this one
abbrev pub OthersBelow : {S : Type 0} → ℕ → Slab (Session S) → Slab (Session S) → Type 0
OthersBelow {S} place a b = (next q : ℕ) (session : Session S) → q ≢ place → AreBelow next a → get b q ≡ Some session → session.number < next

-- session k has come to this place, if it has come
abbrev pub StayBelowBeside : {S : Type 0} → ℕ → Option ℕ → Slab (Session S) → Slab (Session S) → Type 0
StayBelowBeside k None a b = StayBelow a b
StayBelowBeside k (Some place) a b = ComesBelow k a b × OthersBelow place a b

-- this number, if any, lies below each number below which those of all sessions lay
abbrev pub IsOneOf : {S : Type 0} → Option ℕ → Slab (Session S) → Type 0
IsOneOf number sessions = (next : ℕ) → AreBelow next sessions → IfSome number (λ k. k < next)

-- the numbers of the sessions of a server that listens lie below this one; before it does there are none
abbrev pub AllBelow : {S : Type 0} → ℕ → Option (Listening S) → Type 0
AllBelow {S} next o = (listening : Listening S) → o ≡ Some listening → AreBelow next listening.table.sessions
