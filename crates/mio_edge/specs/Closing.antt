-- What becomes of what was written to a session once it is closed.
use Rattle.std.specs.Prelude.{◌≡◌, ◌≢◌, ◌⊎◌, ⊤, ℕ, List, [], false, Option, None, Some}
use Rattle.std.proofs.Common.{inl, inr, refl, ◌∙◌}
use Rattle.std.specs.List.{slice_get}
use Rattle.slab.specs.Slab.{Slab, get}
use Rattle.gate_hub.specs.Meaning.{Link}
use Rattle.mio_edge.specs.Wire.{Wire, Moves}
use Rattle.mio_edge.specs.Moving.{PortTells}
use Rattle.mio_edge.specs.Sessions.{Links, PortsTell, IsUnsentAt}
use Rattle.mio_edge.specs.Tables.{World, TableTells, IsEntry}
use Rattle.mio_edge.specs.declared.port.Port.{Port}
use Rattle.mio_edge.specs.declared.port.Sending.TheVariants as sending
use Rattle.mio_edge.specs.declared.session.Session.{Session}
use Rattle.mio_edge.specs.declared.table.Entry.{Entry}
use Rattle.mio_edge.specs.declared.table.Table.{Table}

-- nothing that was written to the port is held still, or no stream takes it: there is none, or it failed
abbrev pub IsSettled : {S : Type 0} → Port S → Type 0
IsSettled port = (port.outgoing.bytes ≡ []) ⊎ ((port.stream ≡ None) ⊎ (port.sending ≡ sending.Lost))

abbrev pub IsSettledAt : {S : Type 0} → Option (Port S) → Type 0
IsSettledAt None = ⊤
IsSettledAt (Some port) = IsSettled port

-- the same of all ports
abbrev pub AreSettled : {S : Type 0} → List (Port S) → Type 0
AreSettled ports = (p : ℕ) → IsSettledAt (slice_get ports p)

-- none of these ports holds bytes that its stream may take now
abbrev pub AreFlushed : {S : Type 0} → List (Port S) → Type 0
AreFlushed ports = (p : ℕ) → IsUnsentAt (slice_get ports p) → ⊥

-- what was written to the port is held still, or its peer is told that no more will come, or no stream takes it: there is none, or
-- it failed
abbrev pub TellsItsEnd : {S : Type 0} → Port S → Type 0
TellsItsEnd port = (port.outgoing.bytes ≢ []) ⊎ ((port.sending ≡ sending.Shut) ⊎ ((port.stream ≡ None) ⊎ (port.sending ≡ sending.Lost)))

-- all that was written to the link is told still
abbrev pub KeepsSent : Link → Link → Type 0
KeepsSent a b = b.sent ≡ a.sent

-- the same of all links
abbrev pub KeepAllSent : Links → Links → Type 0
KeepAllSent a b = (p : ℕ) → KeepsSent (a p) (b p)

-- A port goes on with its end: what was written to it is what its stream has taken and what is held still, in order, as before.
pub record WindsUp {S : Type 0} (tells : S → Wire → Type 0) (a b : Port S) : Type 0 where
  pub sends : Moves (PortTells tells a) (PortTells tells b) KeepsSent

-- session k, which is closed, stands at this place, and these are its links
abbrev pub WindsAt : {S : Type 0} → (S → Wire → Type 0) → Slab (Session S) → ℕ → ℕ → Links → Type 0
WindsAt {S} tells sessions place k links =
    (session : Session S) × (get sessions place ≡ Some session) × (session.number ≡ k) × (session.is_open ≡ false) × PortsTell tells session.ports.items links

-- session k, which was closed and had these links, was let go when nothing that was written to it was held, or no stream took it
abbrev pub WasLetGo : {S : Type 0} → (S → Wire → Type 0) → ℕ → Links → Type 0
WasLetGo {S} tells k links = (session : Session S) × (session.number ≡ k) × (session.is_open ≡ false) × PortsTell tells session.ports.items links × AreSettled session.ports.items

-- closed session k has gone on at its place or was let go, and all that was written to it is told still
abbrev pub WoundOn : {S : Type 0} → (S → Wire → Type 0) → Slab (Session S) → ℕ → ℕ → Links → Type 0
WoundOn tells sessions place k links = (after : Links) × KeepAllSent links after × (WindsAt tells sessions place k after ⊎ WasLetGo tells k after)

-- each session that is closed has gone on so
pub record Winds {S : Type 0} (tells : S → Wire → Type 0) (a b : Slab (Session S)) : Type 0 where
  pub on : (place k : ℕ) (links : Links) → WindsAt tells a place k links → WoundOn tells b place k links

-- the session at this place, if there is one, holds no bytes that a stream of it may take now
abbrev pub HoldsFlushed : {S : Type 0} → Slab (Session S) → ℕ → Type 0
HoldsFlushed {S} sessions place = (session : Session S) → get sessions place ≡ Some session → AreFlushed session.ports.items

-- session k, which had these links, was closed and goes on so; what its streams may take now was sent
abbrev pub HasClosed : {S : Type 0} → (S → Wire → Type 0) → Slab (Session S) → ℕ → Links → Type 0
HasClosed tells sessions k links = (place : ℕ) × HoldsFlushed sessions place × WoundOn tells sessions place k links

-- session k, which is open, is closed and goes on so
abbrev pub TableCloses : {S : Type 0} → (S → Wire → Type 0) → ℕ → Table S → Table S → Type 0
TableCloses tells k a b = (world : World) (links : Links) → TableTells tells a world → world k ≡ Some links → HasClosed tells b.sessions k links

-- the session of the entry that stood there is closed, and stands at this place
abbrev pub ClosesEntry : {S : Type 0} → (S → Wire → Type 0) → ℕ → ℕ → Table S → Table S → Type 0
ClosesEntry tells at place a b =
    (e : Entry) (world : World) (links : Links) → IsEntry a at e → TableTells tells a world → world e.number ≡ Some links → WindsAt tells b.sessions place e.number links

-- the session at this place, if there is one, holds nothing that a stream takes
abbrev pub HoldsSettled : {S : Type 0} → Slab (Session S) → ℕ → Type 0
HoldsSettled {S} sessions place = (session : Session S) → get sessions place ≡ Some session → AreSettled session.ports.items

-- the sessions at all places but this one are the same
pub record OthersStay {S : Type 0} (place : ℕ) (a b : Slab (Session S)) : Type 0 where
  pub at : (q : ℕ) → q ≢ place → get b q ≡ get a q

-- the closed sessions have gone on, and then one came to this place, where none stood
pub record WindsBeside {S : Type 0} (tells : S → Wire → Type 0) (place : ℕ) (a b : Slab (Session S)) : Type 0 where
  pub middle : Slab (Session S)
  pub winds : Winds tells a middle
  pub free : get middle place ≡ None
  pub others : OthersStay place middle b

-- the same where there may be no place for it
abbrev pub WindsBesideIfAny : {S : Type 0} → (S → Wire → Type 0) → Option ℕ → Slab (Session S) → Slab (Session S) → Type 0
WindsBesideIfAny tells None a b = Winds tells a b
WindsBesideIfAny tells (Some place) a b = WindsBeside tells place a b

-- one was put at this place, where none stood, if it was put anywhere
abbrev pub PutsAt : {S : Type 0} → Option ℕ → Slab (Session S) → Slab (Session S) → Type 0
PutsAt None a b = (q : ℕ) → get b q ≡ get a q
PutsAt (Some place) a b = (get a place ≡ None) × OthersStay place a b

-- ---- nothing below has to be believed

pub winds_nowhere : {S : Type 0} (tells : S → Wire → Type 0) (a : Slab (Session S)) → Winds tells a a
winds_nowhere tells a = record { on = λ place k links at. (links, (λ p. refl), inl at) }

pub wound_further : {S : Type 0} (tells : S → Wire → Type 0) (a b : Slab (Session S)) → Winds tells a b → (place k : ℕ) (links : Links) → WoundOn tells a place k links → WoundOn tells b place k links
wound_further {S} tells a b winds place k links (after, same, inl there) =
    let more = winds.on place k after there in (more.0, (λ p. more.1 p ∙ same p), more.2)
wound_further {S} tells a b winds place k links (after, same, inr gone) = (after, same, inr gone)

pub winds_on : {S : Type 0} (tells : S → Wire → Type 0) (a b c : Slab (Session S)) → Winds tells a b → Winds tells b c → Winds tells a c
winds_on tells a b c first second = record { on = λ place k links at. wound_further tells b c second place k links (first.on place k links at) }
