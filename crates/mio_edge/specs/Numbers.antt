-- The numbers of the sessions.
use Rattle.std.specs.Prelude.{◌≡◌, ℕ, ◌<◌, ◌≤◌, ◌+◌, ⊤, Option, None, Some}
use Rattle.gate_hub.specs.declared.hub.HubNext.{HubNext}
use Rattle.gate_hub.specs.declared.hub.HubNext.TheVariants as event
use Rattle.mio_edge.specs.declared.network.Accepted.{Accepted}
use Rattle.mio_edge.specs.declared.network.Accepted.TheVariants as accepted

-- From the next number a to the next number b, with no session opened here between them: a server that is alone at its address
-- leaves none out, one of several leaves out those of the others.
abbrev pub Passes : Type 0 → ℕ → ℕ → Type 0
Passes IsShared a b = (a ≤ b) × (a < b → IsShared)

-- Sessions are numbered from 0 in the order in which they are opened; a and b are the next numbers before and after an event. One
-- that is ready was opened.
abbrev pub Numbers : Type 0 → HubNext → ℕ → ℕ → Type 0
Numbers IsShared (event.Opened k) a b = Passes IsShared a k × (b ≡ k + 1)
Numbers IsShared (event.Ready k) a b = (k < b) × Passes IsShared a b
Numbers IsShared event.Stopped a b = Passes IsShared a b
Numbers IsShared event.Failed a b = Passes IsShared a b

-- the same where there may be no event yet
abbrev pub NumbersIfAny : Type 0 → Option HubNext → ℕ → ℕ → Type 0
NumbersIfAny IsShared (Some answer) a b = Numbers IsShared answer a b
NumbersIfAny IsShared None a b = Passes IsShared a b

-- as many connections as are to be accepted in all were announced
abbrev pub AllAnnounced : ℕ → ℕ → Type 0
AllAnnounced accept announced = (0 < accept) × (accept ≤ announced)

-- this holds of the number of the connection that came, if one did
abbrev pub IfNumbered : {S : Type 0} → Accepted S → (ℕ → Type 0) → Type 0
IfNumbered (accepted.Came stream number) P = P number
IfNumbered accepted.Handed P = ⊤
IfNumbered accepted.Nothing P = ⊤
IfNumbered accepted.Gone P = ⊤
IfNumbered accepted.Failed P = ⊤
