-- What a table tells that was received are bytes, as its streams tell.
use Rattle.std.proofs.Common.{◌≡◌, ℕ, List, [], ◌∷◌, ◌++◌, Option, None, Some, sym, subst}
use Rattle.std.specs.List.{slice_get}
use Rattle.std.specs.Global.{Vec}
use Rattle.slab.specs.Slab.{Slab}
use Rattle.gate_base.specs.Bytes.{AreBytes}
use Rattle.gate_hub.specs.Meaning.{Link}
use Rattle.mio_edge.specs.Wire.{Wire}
use Rattle.mio_edge.specs.Moving.{PortTellsBy}
use Rattle.mio_edge.specs.Sessions.{Links, TellsAt}
use Rattle.mio_edge.specs.Tables.{World, Tells}
use Rattle.mio_edge.specs.declared.port.Port.{Port}
use Rattle.mio_edge.specs.declared.session.Session.{Session}
use Rattle.mio_edge.specs.declared.table.Entry.{Entry}
use Rattle.mio_edge.proofs.Tables.{found}

front_bytes : (xs ys : List ℕ) → AreBytes (xs ++ ys) → AreBytes xs
front_bytes [] ys are = tt
front_bytes (x ∷ xs) ys are = (are.0, front_bytes xs ys are.1)

no_bytes : (xs : List ℕ) → xs ≡ [] → AreBytes xs
no_bytes xs none = subst AreBytes (sym none) tt

pub received_bytes : {S : Type 0} (tells : S → Wire → Type 0) → ((s : S) (wire : Wire) → tells s wire → AreBytes wire.received) → (sessions : Slab (Session S)) (entries : List Entry) (closed : List ℕ) (spare : List (Vec (Port S))) (world : World) → Tells tells sessions entries closed spare world → (k : ℕ) (links : Links) → world k ≡ Some links → (p : ℕ) → AreBytes (links p).received
received_bytes {S} tells are sessions entries closed spare world told k links is p =
    let there = found tells sessions entries closed spare world k links told is in
    at (slice_get there.1.ports.items p) (links p) (there.6.ports p)
  where
    by : (o : Option S) (port : Port S) (link : Link) → PortTellsBy tells o port link → AreBytes link.received
    by None port link untouched = no_bytes link.received untouched.received
    by (Some s) port link (wire, says, joins) = front_bytes link.received port.incoming.bytes (subst AreBytes joins.received (are s wire says))

    at : (o : Option (Port S)) (link : Link) → TellsAt tells o link → AreBytes link.received
    at None link none = no_bytes link.received none.0
    at (Some port) link told = by port.stream port link told
