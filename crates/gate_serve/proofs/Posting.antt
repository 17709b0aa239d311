-- A server over a hub as its words wrap it is one over whatever stands for that hub; and a hub whose clients send POSTs, before its start.
use Rattle.std.proofs.Common.{◌≡◌, false, Option, None, Some, ap, subst}
use Rattle.gate_hub.specs.Meaning.{Meaning}
use Rattle.gate_hub.specs.Hubs.{Counts}
use Rattle.http_front.specs.Fronts.{Reading}
use Rattle.http_front.specs.declared.hub.HttpHub.{HttpHub}
use Rattle.gate_words.specs.declared.peers.Front.{Front}
use Rattle.gate_words.specs.declared.peers.Sides.{Sides}
use Rattle.gate_words.specs.declared.serving.Serving.{Serving}
use Rattle.gate_start.specs.Streams.{Streams}
use Rattle.gate_start.specs.declared.start.Start.{Start}
use Rattle.gate_start.specs.declared.status.Ending.{Ending}
use Rattle.gate_serve.specs.Peers.{Unframed, unframed, unframed_tells, unframed_counts, wrapping_by, ServesBySides, ServesPeers}
use Rattle.gate_serve.specs.Posts.{posting, posted, ServesByFront}
use Rattle.gate_serve.proofs.Wrapped.{serves_as}

-- a hub over another one, over what stands for that one
abbrev over_what_stands : {X Y : Type 0} → (X → Y) → Unframed X → Unframed Y
over_what_stands f u = record { inner = f u.inner; wrapping = u.wrapping; slots = u.slots; missing = u.missing }

module _ {X Y : Type 0} (f : X → Y) (tells : Y → Meaning → Type 0) (counts : Y → Counts) (s : Serving) (start : Start) (x x' : X) (a b : Streams) (ending : Ending) where
  sides_as : (sides : Option Sides) → ServesBySides sides (λ z. tells (f z)) (λ z. counts (f z)) s start x x' a b ending → ServesBySides sides tells counts s start (f x) (f x') a b ending
  sides_as None serves = serves_as f tells counts s start x x' a b ending serves
  sides_as (Some sides) serves = (
    over_what_stands f serves.0,
    ap f serves.1,
    serves.2,
    serves_as (λ u. over_what_stands f u) (unframed_tells tells) (unframed_counts counts) s start (unframed (wrapping_by sides s) x) serves.0 a b ending serves.3,
  )

  pub peers_as : ServesPeers (λ z. tells (f z)) (λ z. counts (f z)) s start x x' a b ending → ServesPeers tells counts s start (f x) (f x') a b ending
  peers_as serves = sides_as s.unframed serves

pub begun : {H : Type 0} (p : HttpHub H) (h : H) (r : Reading) → p.inner.now ≡ h → p.rules ≡ r → p.slots ≡ None → p.stopped ≡ false → p.strays ≡ 0 → p.waits ≡ 0 → posted p ≡ posting r h
begun p h r a b c d e f = cc

pub from_the_same : {X : Type 0} (tells : X → Meaning → Type 0) (counts : X → Counts) (s : Serving) (start : Start) (x y z : X) (a b : Streams) (ending : Ending) → x ≡ y → ServesPeers tells counts s start x z a b ending → ServesPeers tells counts s start y z a b ending
from_the_same tells counts s start x y z a b ending e serves = subst (λ v. ServesPeers tells counts s start v z a b ending) e serves

-- a server does what it does by its words, where this is their front
pub by_front : {H : Type 0} (tells : H → Meaning → Type 0) (counts : H → Counts) (s : Serving) (start : Start) (h h' : H) (a b : Streams) (ending : Ending) (found : Front) → found ≡ s.front
    → ServesByFront found tells counts s start h h' a b ending → ServesByFront s.front tells counts s start h h' a b ending
by_front tells counts s start h h' a b ending found is serves = subst (λ (o : Front). ServesByFront o tells counts s start h h' a b ending) is serves
