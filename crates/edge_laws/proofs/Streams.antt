-- An open session and its streams.
use Rattle.std.proofs.Common.{◌≡◌, ℕ, ◌<◌, ◌⊎◌, inl, inr, ◌++◌, Bool, true, false, Option, None, Some, IsSome, sym, ap, ◌∙◌, subst, refl}
use Rattle.std.specs.List.{slice_get}
use Rattle.gate_hub.specs.Meaning.{Link, Told, Meaning, IsOpen, link_of}
use Rattle.gate_hub.specs.declared.hub.Side.{Side}
use Rattle.gate_hub.specs.declared.hub.Side.TheVariants as side
use Rattle.mio_edge.specs.Wire.{Wire}
use Rattle.gate_hub.specs.declared.hub.LinkGot.TheVariants as got
use Rattle.gate_hub.specs.declared.hub.LinkPut.TheVariants as put
use Rattle.mio_edge.specs.Moving.{PortTellsBy, CanRead, CanWrite, may_have}
use Rattle.mio_edge.specs.Sessions.{Links, TellsAt, IsAwaited}
use Rattle.mio_edge.specs.Worlds.{ListeningTells}
use Rattle.mio_edge.specs.Turns.{Has, turns_of}
use Rattle.mio_edge.specs.Telling.{port_number, Alike, Agrees, HubTells}
use Rattle.mio_edge.specs.declared.hub.MioHub.{MioHub}
use Rattle.mio_edge.specs.declared.listening.Listening.{Listening}
use Rattle.mio_edge.specs.declared.port.Port.{Port}
use Rattle.mio_edge.specs.declared.port.Receiving.{Receiving}
use Rattle.mio_edge.specs.declared.port.Receiving.TheVariants as receiving
use Rattle.mio_edge.specs.declared.port.Sending.{Sending}
use Rattle.mio_edge.specs.declared.port.Sending.TheVariants as sending
use Rattle.mio_edge.specs.declared.session.Session.{Session}
use Rattle.mio_edge.proofs.Tables.{found}
use Rattle.mio_edge.proofs.Telling.{open_there}
use Rattle.edge_laws.specs.Streams.{StreamCarries, PortCarries, HasOwnStream, NothingToRead, NothingIsTaken, AtPortOf, IsNamedOr}

carries_by : {S : Type 0} (tells : S → Wire → Type 0) (o : Option S) (port : Port S) (x y : Link) → PortTellsBy tells o port x → Alike x y → StreamCarries tells o y
carries_by tells None port x y untouched alike = (alike.received ∙ untouched.received, alike.sent ∙ untouched.sent)
carries_by tells (Some s) port x y (wire, says, joins) alike = (
  wire,
  says,
  record {
    held = port.incoming.bytes;
    waits = port.outgoing.bytes;
    received = joins.received ∙ ap (λ xs. xs ++ port.incoming.bytes) (sym alike.received);
    sent = alike.sent ∙ joins.sent;
    ended = λ e. (joins.over (joins.ended (sym alike.ended ∙ e))).0;
    failed_read = λ e. joins.failed_read (sym alike.last_read ∙ e);
    failed_write = λ e. joins.failed_write (sym alike.last_write ∙ e);
  },
)

carries_at : {S : Type 0} (tells : S → Wire → Type 0) (o : Option (Port S)) (x y : Link) → TellsAt tells o x → Alike x y → PortCarries tells o y
carries_at tells None x y none alike = (alike.received ∙ none.0, alike.sent ∙ none.1)
carries_at tells (Some port) x y told alike = carries_by tells port.stream port x y told alike

pub alike_at : (s : Side) (told : Told) (links : Links) → Agrees told (Some links) → Alike (links (port_number s)) (link_of told s)
alike_at side.Client told links agrees = agrees.2
alike_at side.Upstream told links agrees = agrees.3

pub own_stream : {W S : Type 0} (Is : Type 0) (tells : S → Wire → Type 0) (hub : MioHub W S) (m : Meaning) → HubTells Is tells hub m → (k : ℕ) → IsOpen k m → (s : Side) → HasOwnStream tells hub m k s
own_stream {W} {S} Is tells hub m told k open_is s = by (told.world k) refl hub.sockets.serving.listening refl told.sockets.sessions
  where
    links_of : (o : Option Links) → told.world k ≡ o → IsSome o → (links : Links) × (told.world k ≡ Some links)
    links_of None e some = absurd (cc)
    links_of (Some links) e some = (links, e)

    none_there : (links : Links) → None ≡ Some links → ⊥
    none_there links e = absurd (cc)

    by : (o : Option Links) → told.world k ≡ o → (l : Option (Listening S)) → hub.sockets.serving.listening ≡ l → ListeningTells tells l told.world → HasOwnStream tells hub m k s
    by o e None is t =
        let links = links_of (told.world k) refl (open_there (m.session k) (told.world k) (told.sessions.sides k) open_is.0 open_is.1) in
        absurd (none_there links.0 (sym (t k) ∙ links.1))
    by o e (Some l) is t =
        let links = links_of (told.world k) refl (open_there (m.session k) (told.world k) (told.sessions.sides k) open_is.0 open_is.1) in
        let there = found tells l.table.sessions l.table.entries.items l.table.closed.items l.table.spare.items told.world k links.0 t.1.0 links.1 in
        let agrees : Agrees (m.session k) (Some links.0) = subst (λ (o : Option Links). Agrees (m.session k) o) links.1 (told.sessions.sides k) in
        (l, there.0, there.1, is, there.3, there.4, there.5, carries_at tells (slice_get there.1.ports.items (port_number s)) (links.0 (port_number s)) (link_of (m.session k) s) (there.6.ports (port_number s)) (alike_at s (m.session k) links.0 agrees))

-- ---- no session is forgotten

nothing_to_read : {S : Type 0} (tells : S → Wire → Type 0) (port : Port S) (link : Link) (o : Option S) → port.stream ≡ o → PortTellsBy tells o port link → (CanRead port → ⊥) → NothingToRead tells o port
nothing_to_read tells port link None is told never = tt
nothing_to_read {S} tells port link (Some s) is (wire, says, joins) never = (wire, says, at port.receiving refl port.room_in)
  where
    here : IsSome port.stream
    here = subst (λ (x : Option S). IsSome x) (sym is) refl

    at : (r : Receiving) → port.receiving ≡ r → 0 < port.incoming.room → (wire.readable ≡ false) ⊎ ((wire.ended ≡ true) ⊎ (wire.failed ≡ true))
    at receiving.Idle e room = inl (joins.idle e)
    at receiving.Ready e room = absurd (never (here, room, subst (λ (r : Receiving). may_have r ≡ true) (sym e) refl))
    at receiving.Closing e room = absurd (never (here, room, subst (λ (r : Receiving). may_have r ≡ true) (sym e) refl))
    at receiving.Ended e room = inr (inl (joins.over e).0)
    at receiving.Lost e room = inr (inr (joins.unread e))

nothing_is_taken : {S : Type 0} (tells : S → Wire → Type 0) (port : Port S) (link : Link) (o : Option S) → port.stream ≡ o → PortTellsBy tells o port link → (CanWrite port → ⊥) → NothingIsTaken tells o port
nothing_is_taken tells port link None is told never = tt
nothing_is_taken {S} tells port link (Some s) is (wire, says, joins) never = (wire, says, at port.sending refl port.room_out)
  where
    here : IsSome port.stream
    here = subst (λ (x : Option S). IsSome x) (sym is) refl

    at : (x : Sending) → port.sending ≡ x → 0 < port.outgoing.room → (wire.writable ≡ false) ⊎ ((port.sending ≡ sending.Shut) ⊎ (wire.failed ≡ true))
    at sending.Deferred e room = absurd (joins.begun e)
    at sending.Blocked e room = inl (joins.blocked e)
    at sending.Ready e room = absurd (never (here, room, e))
    at sending.Shut e room = inr (inl e)
    at sending.Lost e room = inr (inr (joins.unsent e))

-- a session that isn't to have a turn has no port of which a caller waits for what is there
named_or : {W S : Type 0} (Is : Type 0) (tells : S → Wire → Type 0) (P : Option S → Port S → Type 0) (hub : MioHub W S) (m : Meaning) → HubTells Is tells hub m → (k : ℕ) → IsOpen k m → (s : Side)
    → ((port : Port S) (link : Link) → Alike link (link_of (m.session k) s) → PortTellsBy tells port.stream port link → (IsAwaited (Some port) link → ⊥) → P port.stream port) → IsNamedOr P hub k s
named_or {W} {S} Is tells P hub m told k open_is s holds = by (told.world k) refl hub.sockets.serving.listening refl told.sockets.sessions
  where
    links_of : (o : Option Links) → told.world k ≡ o → IsSome o → (links : Links) × (told.world k ≡ Some links)
    links_of None e some = absurd (cc)
    links_of (Some links) e some = (links, e)

    none_there : (links : Links) → None ≡ Some links → ⊥
    none_there links e = absurd (cc)

    false_true : false ≡ true → ⊥
    false_true e = absurd (cc)

    by : (o : Option Links) → told.world k ≡ o → (l : Option (Listening S)) → hub.sockets.serving.listening ≡ l → ListeningTells tells l told.world → IsNamedOr P hub k s
    by o e None is t =
        let links = links_of (told.world k) refl (open_there (m.session k) (told.world k) (told.sessions.sides k) open_is.0 open_is.1) in
        absurd (none_there links.0 (sym (t k) ∙ links.1))
    by o e (Some l) is t =
        let links = links_of (told.world k) refl (open_there (m.session k) (told.world k) (told.sessions.sides k) open_is.0 open_is.1) in
        let there = found tells l.table.sessions l.table.entries.items l.table.closed.items l.table.spare.items told.world k links.0 t.1.0 links.1 in
        let agrees : Agrees (m.session k) (Some links.0) = subst (λ (o : Option Links). Agrees (m.session k) o) links.1 (told.sessions.sides k) in
        (l, there.0, there.1, is, there.3, there.4, turn there.0 there.1 links.0 there.1.is_queued refl (slice_get there.1.ports.items (port_number s)) refl (there.6.ports (port_number s)) (alike_at s (m.session k) links.0 agrees) (there.6.awaited (port_number s)) (t.1.1.stands.queued there.0 there.1 there.3))
      where
        turn : (place : ℕ) (session : Session S) (links : Links) (t : Bool) → session.is_queued ≡ t → (o : Option (Port S)) → slice_get session.ports.items (port_number s) ≡ o → TellsAt tells (slice_get session.ports.items (port_number s)) (links (port_number s)) → Alike (links (port_number s)) (link_of (m.session k) s)
            → (IsAwaited (slice_get session.ports.items (port_number s)) (links (port_number s)) → session.is_queued ≡ true) → (session.is_queued ≡ true → Has (turns_of l.table) place) → Has (turns_of l.table) place ⊎ AtPortOf P (slice_get session.ports.items (port_number s))
        turn place session links true is o at tells_at alike awaited stands = inl (stands is)
        turn place session links false is None at tells_at alike awaited stands = inr (subst (λ (x : Option (Port S)). AtPortOf P x) (sym at) tt)
        turn place session links false is (Some port) at tells_at alike awaited stands =
            inr (subst (λ (x : Option (Port S)). AtPortOf P x) (sym at) (holds port (links (port_number s)) alike (subst (λ (x : Option (Port S)). TellsAt tells x (links (port_number s))) at tells_at)
            (λ waits. false_true (sym is ∙ awaited (subst (λ (x : Option (Port S)). IsAwaited x (links (port_number s))) (sym at) waits)))))

pub reads_named : {W S : Type 0} (Is : Type 0) (tells : S → Wire → Type 0) (hub : MioHub W S) (m : Meaning) → HubTells Is tells hub m → (k : ℕ) → IsOpen k m → (s : Side) → (link_of (m.session k) s).last_read ≡ Some got.NotReady → IsNamedOr (NothingToRead tells) hub k s
reads_named Is tells hub m told k open_is s waits =
    named_or Is tells (NothingToRead tells) hub m told k open_is s (λ port link alike says never. nothing_to_read tells port link port.stream refl says (λ can. never (inl (sym alike.last_read ∙ waits, can))))

pub writes_named : {W S : Type 0} (Is : Type 0) (tells : S → Wire → Type 0) (hub : MioHub W S) (m : Meaning) → HubTells Is tells hub m → (k : ℕ) → IsOpen k m → (s : Side) → (link_of (m.session k) s).last_write ≡ Some put.NotReady → IsNamedOr (NothingIsTaken tells) hub k s
writes_named Is tells hub m told k open_is s waits =
    named_or Is tells (NothingIsTaken tells) hub m told k open_is s (λ port link alike says never. nothing_is_taken tells port link port.stream refl says (λ can. never (inr (sym alike.last_write ∙ waits, can))))
