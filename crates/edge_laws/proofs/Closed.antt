-- What was written to a session before it was closed.
use Rattle.std.proofs.Common.{◌≡◌, ℕ, ◌⊎◌, inl, inr, List, ◌++◌, true, Option, None, Some, IsSome, refl, sym, ap, ◌∙◌, subst}
use Rattle.std.specs.List.{slice_get}
use Rattle.std.proofs.lemmas.List.{append-nil}
use Rattle.gate_hub.specs.Meaning.{Link, Meaning, IsOpen, link_of}
use Rattle.mio_edge.specs.Wire.{Wire}
use Rattle.mio_edge.specs.Moving.{PortTellsBy}
use Rattle.mio_edge.specs.Sessions.{Links, TellsAt}
use Rattle.mio_edge.specs.Telling.{port_number, Agrees, HubTells}
use Rattle.mio_edge.specs.Closing.{IsSettled, IsSettledAt, WoundOn, wound_further}
use Rattle.mio_edge.specs.Winding.{ListeningWinds, SocketsWind, SocketsClose}
use Rattle.mio_edge.specs.declared.hub.MioHub.{MioHub}
use Rattle.mio_edge.specs.declared.listening.Listening.{Listening}
use Rattle.mio_edge.specs.declared.port.Port.{Port}
use Rattle.mio_edge.proofs.Telling.{open_there}
use Rattle.edge_laws.specs.Closed.{StreamSends, PortSends, StreamHasSent, PortHasSent, IsSent}
use Rattle.edge_laws.proofs.Streams.{alike_at}

sends_by : {S : Type 0} (tells : S → Wire → Type 0) (o : Option S) (port : Port S) (link : Link) (bytes : List ℕ) → PortTellsBy tells o port link → link.sent ≡ bytes → StreamSends tells o bytes
sends_by tells None port link bytes untouched same = sym same ∙ untouched.sent
sends_by tells (Some s) port link bytes (wire, says, joins) same = (wire, says, port.outgoing.bytes, sym same ∙ joins.sent)

sends_at : {S : Type 0} (tells : S → Wire → Type 0) (o : Option (Port S)) (link : Link) (bytes : List ℕ) → TellsAt tells o link → link.sent ≡ bytes → PortSends tells o bytes
sends_at tells None link bytes told same = sym same ∙ told.1
sends_at tells (Some port) link bytes told same = sends_by tells port.stream port link bytes told same

has_sent_by : {S : Type 0} (tells : S → Wire → Type 0) (o : Option S) (port : Port S) (link : Link) (bytes : List ℕ) → port.stream ≡ o → PortTellsBy tells o port link → IsSettled port → link.sent ≡ bytes → StreamHasSent tells o bytes
has_sent_by tells None port link bytes is untouched settled same = sym same ∙ untouched.sent
has_sent_by {S} tells (Some s) port link bytes is (wire, says, joins) settled same = (wire, says, by settled)
  where
    by : IsSettled port → (wire.sent ≡ bytes) ⊎ (wire.failed ≡ true)
    by (inl none) = inl (sym (append-nil wire.sent) ∙ (ap (λ xs. wire.sent ++ xs) (sym none) ∙ (sym joins.sent ∙ same)))
    by (inr (inl none)) = absurd (no_stream (sym none ∙ is))
      where
        no_stream : None ≡ Some s → ⊥
        no_stream e = absurd (cc)
    by (inr (inr lost)) = inr (joins.unsent lost)

has_sent_at : {S : Type 0} (tells : S → Wire → Type 0) (o : Option (Port S)) (link : Link) (bytes : List ℕ) → TellsAt tells o link → IsSettledAt o → link.sent ≡ bytes → PortHasSent tells o bytes
has_sent_at tells None link bytes told settled same = sym same ∙ told.1
has_sent_at tells (Some port) link bytes told settled same = has_sent_by tells port.stream port link bytes refl told settled same

pub closed_is_sent : {W S : Type 0} (Is : Type 0) (tells : S → Wire → Type 0) (a b c : MioHub W S) (m : Meaning) (k : ℕ) → HubTells Is tells a m → IsOpen k m → SocketsClose Is tells k a.sockets b.sockets → SocketsWind tells b.sockets c.sockets → IsSent tells c m k
closed_is_sent {W} {S} Is tells a b c m k told open_is closes winds =
    let links = links_of (told.world k) refl (open_there (m.session k) (told.world k) (told.sessions.sides k) open_is.0 open_is.1) in
    let closed = closes told.world links.0 told.sockets links.1 in
    by links.0 closed.0 closed.2.0 (subst (λ (o : Option Links). Agrees (m.session k) o) links.1 (told.sessions.sides k)) closed.2.2 c.sockets.serving.listening refl (subst (λ (o : Option (Listening S)). ListeningWinds tells o c.sockets.serving.listening) closed.1 winds.on)
  where
    links_of : (o : Option Links) → told.world k ≡ o → IsSome o → (links : Links) × (told.world k ≡ Some links)
    links_of None e some = absurd (cc)
    links_of (Some links) e some = (links, e)

    ends : (links : Links) (l : Listening S) (place : ℕ) → Agrees (m.session k) (Some links) → c.sockets.serving.listening ≡ Some l → WoundOn tells l.table.sessions place k links → IsSent tells c m k
    ends links l place agrees is (after, same, inl (s, stands, number, shut, tells_ports)) =
        inl (l, place, s, is, stands, number, shut, (λ side. sends_at tells (slice_get s.ports.items (port_number side)) (after (port_number side)) (link_of (m.session k) side).sent (tells_ports (port_number side)) (same (port_number side) ∙ sym (alike_at side (m.session k) links agrees).sent)))
    ends links l place agrees is (after, same, inr (s, number, shut, tells_ports, settled)) =
        inr (s, number, shut, (λ side. has_sent_at tells (slice_get s.ports.items (port_number side)) (after (port_number side)) (link_of (m.session k) side).sent (tells_ports (port_number side)) (settled (port_number side)) (same (port_number side) ∙ sym (alike_at side (m.session k) links agrees).sent)))

    by : (links : Links) (l : Listening S) (place : ℕ) → Agrees (m.session k) (Some links) → WoundOn tells l.table.sessions place k links → (o : Option (Listening S)) → c.sockets.serving.listening ≡ o → ListeningWinds tells (Some l) o → IsSent tells c m k
    by links l place agrees wound None is winds = absurd winds
    by links l place agrees wound (Some l') is winds = ends links l' place agrees is (wound_further tells l.table.sessions l'.table.sessions winds place k links wound)
