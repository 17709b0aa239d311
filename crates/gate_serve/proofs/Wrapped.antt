-- A server over a hub is one over whatever stands for that hub; and a hub that wraps another one, before its start and when it has stopped.
use Rattle.std.proofs.Common.{◌≡◌, Option, None, Bool, subst}
use Rattle.gate_hub.specs.Meaning.{Meaning}
use Rattle.gate_hub.specs.Hubs.{Counts}
use Rattle.stream_messages.specs.declared.hub.UnframedHub.{UnframedHub}
use Rattle.stream_messages.specs.declared.lanes.Wrapping.{Wrapping}
use Rattle.stream_messages.specs.declared.scan.Wire.{Wire}
use Rattle.gate_words.specs.Peers.{has_client, has_upstream}
use Rattle.gate_words.specs.declared.peers.Sides.{Sides}
use Rattle.gate_words.specs.declared.serving.Serving.{Serving}
use Rattle.gate_start.specs.Streams.{Streams}
use Rattle.gate_start.specs.declared.start.Start.{Start}
use Rattle.gate_start.specs.declared.status.Ending.{Ending}
use Rattle.gate_serve.specs.Peers.{unframed, seen, wire_if, wrapping_by, ServesBySides, ServesPeers}
use Rattle.gate_serve.specs.Serving.{ServesAll, Began, NotBegun, Unfound, NoMemory}

pub serves_as : {X Y : Type 0} (f : X → Y) (tells : Y → Meaning → Type 0) (counts : Y → Counts) (s : Serving) (start : Start) (x x' : X) (a b : Streams) (ending : Ending) → ServesAll (λ z. tells (f z)) (λ z. counts (f z)) s start x x' a b ending → ServesAll tells counts s start (f x) (f x') a b ending
serves_as f tells counts s start x x' a b ending (Began mid result left later leads serves ends) = Began (f mid) result left later leads serves ends
serves_as f tells counts s start x x' a b ending (NotBegun leads rose says) = NotBegun leads rose says
serves_as f tells counts s start x x' a b ending (Unfound at leads rose says) = Unfound at leads rose says
serves_as f tells counts s start x x' a b ending (NoMemory leads says) = NoMemory leads says

-- ---- a hub that was wrapped just now

pub begun : {H : Type 0} (u : UnframedHub H) (h : H) (w : Wrapping) → u.inner.now ≡ h → u.wrapping ≡ w → u.slots ≡ None → u.missing ≡ 0 → seen u ≡ unframed w h
begun u h w a b c d = cc

pub wrapping_is : (sides : Sides) (s : Serving) (w : Wrapping) (a b : Option Wire) (x y : Bool) → w ≡ record { client = a; upstream = b; limit = s.limit } → a ≡ wire_if x s.client → b ≡ wire_if y s.upstream
    → x ≡ has_client sides → y ≡ has_upstream sides → w ≡ wrapping_by sides s
wrapping_is sides s w a b x y e f g p q = cc

pub from_the_same : {X : Type 0} (tells : X → Meaning → Type 0) (counts : X → Counts) (s : Serving) (start : Start) (x y z : X) (a b : Streams) (ending : Ending) → x ≡ y → ServesAll tells counts s start x z a b ending → ServesAll tells counts s start y z a b ending
from_the_same tells counts s start x y z a b ending e serves = subst (λ v. ServesAll tells counts s start v z a b ending) e serves

-- a server does what it does by its words, where these are its sides without frames
pub by_sides : {H : Type 0} (tells : H → Meaning → Type 0) (counts : H → Counts) (s : Serving) (start : Start) (h h' : H) (a b : Streams) (ending : Ending) (found : Option Sides) → found ≡ s.unframed
    → ServesBySides found tells counts s start h h' a b ending → ServesPeers tells counts s start h h' a b ending
by_sides tells counts s start h h' a b ending found is serves = subst (λ (o : Option Sides). ServesBySides o tells counts s start h h' a b ending) is serves
